use Rattle.std.proofs.Common.{◌≡◌}
use Rattle.codec.specs.Filing.{unfiled}
use Rattle.systems.specs.Words.{rewritten, with_readings}
use Rattle.codec.specs.Sequence.{skip, nth}
use Rattle.files.proofs.rows.write_readings.Given as goal

abbrev pub invariant-loop-channel : goal.invariant-loop-channel
invariant-loop-channel l =
    let row = l.initial.row in
    let reader = l.initial.reader in record {
      reads : l.reader ≡ record reader { place = skip reader.bytes l.channel reader.place };
      written : l.row ≡ rewritten row (with_readings row.channels row.words.now l.channel (λ k. unfiled (nth reader.bytes k reader.place)));
    }
