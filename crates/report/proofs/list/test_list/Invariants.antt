use Rattle.std.specs.Prelude.{◌≡◌, ◌-◌, length}
use Rattle.report.specs.Input.{Listed, listed}
use Rattle.report.proofs.Listed.{HoldsFrom}
use Rattle.report.proofs.list.test_list.Given as goal

-- the first fault of the list is still to come
abbrev pub invariant-loop-item : goal.invariant-loop-item
invariant-loop-item l = record {
  left : Listed;
  holds : HoldsFrom l.input l.next left;
  fault : left.fault ≡ (listed l.input l.place).fault;
}

abbrev pub decreases-loop-item : goal.decreases-loop-item
decreases-loop-item l = length l.input - l.next
