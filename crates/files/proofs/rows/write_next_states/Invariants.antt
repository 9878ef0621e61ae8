use Rattle.std.proofs.Common.{◌≡◌, ◌+◌, ◌*◌}
use Rattle.systems.specs.Words.{rewritten, with_next_of, with_next_states}
use Rattle.codec.specs.Sequence.{skip, nth}
use Rattle.files.proofs.rows.write_next_states.Given as goal

abbrev pub invariant-loop-controller_move : goal.invariant-loop-controller_move
invariant-loop-controller_move l =
    let row = l.initial.row in
    let reader = l.initial.reader in record {
      reads : l.reader ≡ record reader { place = skip reader.bytes (l.controller_move * l.environment) reader.place };
      written : l.row ≡ rewritten row
          (with_next_states row.channels row.words.now l.controller_move l.environment (λ a b. nth reader.bytes (a * l.environment + b) reader.place));
    }

abbrev pub invariant-loop-environment_move : goal.invariant-loop-environment_move
invariant-loop-environment_move l =
    let row = l.initial.row in
    let reader = l.initial.reader in record {
      reads : l.reader ≡ record reader { place = skip reader.bytes l.environment_move reader.place };
      written : l.row ≡ rewritten row
          (with_next_of row.channels row.words.now l.controller_move l.environment_move (λ b. nth reader.bytes b reader.place));
    }
