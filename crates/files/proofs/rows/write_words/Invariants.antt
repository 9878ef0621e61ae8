use Rattle.std.proofs.Common.{◌≡◌}
use Rattle.systems.proofs.Written.{RowsHeld}
use Rattle.files.specs.SystemFile.{file_rows, row_start}
use Rattle.files.proofs.rows.write_words.Given as goal

abbrev pub invariant-loop-state : goal.invariant-loop-state
invariant-loop-state l =
    let reader = l.initial.reader in record {
      reads : l.reader ≡ record reader { place = row_start reader.bytes l.sizes.channels reader.place l.state };
      written : RowsHeld l.sizes.states l.sizes.channels (file_rows reader.bytes l.sizes.channels reader.place) l.state l.words;
    }
