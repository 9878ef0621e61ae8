use Rattle.std.proofs.Common.{◌≡◌, None}
use Rattle.files.specs.SystemFile.{row_start, row_fault}
use Rattle.systems.specs.Bounded.{first_below}
use Rattle.files.proofs.check.check_rows.Given as goal

abbrev pub invariant-loop-state : goal.invariant-loop-state
invariant-loop-state l = record {
  reads : l.reader ≡ record l.initial.reader { place = row_start l.initial.reader.bytes l.sizes.channels l.initial.reader.place l.state };
  no_fault : first_below l.state (λ w. row_fault l.initial.reader.bytes l.sizes.states l.sizes.channels w (row_start l.initial.reader.bytes l.sizes.channels l.initial.reader.place w)) ≡ None;
}
