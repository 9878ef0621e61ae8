use Rattle.std.specs.Prelude.{◌≡◌, ◌≤◌, ◌-◌, ◌++◌, length, vec_capacity, vec_len}
use Rattle.std.specs.List.{filter_map}
use Rattle.report.specs.Input.{Listed, proposed, strike_of}
use Rattle.report.proofs.Listed.{HoldsFrom}
use Rattle.report.proofs.list.read_strikes.Given as goal

-- the strikes found so far and those of the records that are left are all, and there are no more than bytes were read
abbrev pub invariant-loop-item : goal.invariant-loop-item
invariant-loop-item l = record {
  left : Listed;
  holds : HoldsFrom l.input l.next left;
  strikes : l.strikes.items ++ filter_map strike_of left.records ≡ proposed l.input l.place;
  few : vec_len l.strikes ≤ l.next;
  inside : vec_len l.strikes ≤ length l.input;
  room : vec_capacity l.strikes ≡ vec_capacity l.initial.strikes;
}

abbrev pub decreases-loop-item : goal.decreases-loop-item
decreases-loop-item l = length l.input - l.next
