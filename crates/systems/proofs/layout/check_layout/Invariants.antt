use Rattle.std.proofs.Common.{◌≡◌, None}
use Rattle.systems.specs.Bounded.{first_below}
use Rattle.systems.specs.Layout.{row_fault}
use Rattle.systems.proofs.layout.check_layout.Given as goal

abbrev pub invariant-loop-state : goal.invariant-loop-state
invariant-loop-state l = first_below l.state (row_fault l.words) ≡ None
