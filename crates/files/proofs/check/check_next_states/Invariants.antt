use Rattle.std.proofs.Common.{◌≡◌, None}
use Rattle.codec.specs.Sequence.{skip}
use Rattle.files.specs.SystemFile.{next_fault}
use Rattle.files.proofs.check.check_next_states.Given as goal

abbrev pub invariant-loop-pair : goal.invariant-loop-pair
invariant-loop-pair l = record {
  reads : l.reader ≡ record l.initial.reader { place = skip l.initial.reader.bytes l._pair l.initial.reader.place };
  no_fault : next_fault l.initial.reader.bytes l.states l.state l.initial.reader.place l._pair ≡ None;
}
