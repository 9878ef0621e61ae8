use Rattle.std.proofs.Common.{◌≡◌, None}
use Rattle.codec.specs.Sequence.{skip}
use Rattle.files.specs.SystemFile.{readings_fault}
use Rattle.files.proofs.check.check_readings.Given as goal

abbrev pub invariant-loop-channel : goal.invariant-loop-channel
invariant-loop-channel l = record {
  reads : l.reader ≡ record l.initial.reader { place = skip l.initial.reader.bytes l._channel l.initial.reader.place };
  no_fault : readings_fault l.initial.reader.bytes l.state l.initial.reader.place l._channel ≡ None;
}
