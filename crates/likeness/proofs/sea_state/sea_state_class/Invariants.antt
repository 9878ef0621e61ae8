use Rattle.std.proofs.Common.{◌≡◌, ℕ, ◌+◌, ◌<◌, ◌≤◌, cond, drop}
use lib.Signed.{lt_z}
use Rattle.likeness.specs.SeaState.{class_end, class_ends, class_of, ends_below}
use Rattle.likeness.proofs.sea_state.sea_state_class.Given as goal

-- The ends that were passed are counted, and those to come are counted from the table.
-- The last part is how that count takes one end off the front: it stays as it is, and the search has it at hand.
abbrev pub invariant-loop-end : goal.invariant-loop-end
invariant-loop-end l =
    (l.class ≤ l.end-index)
    × (l.class + ends_below l.height (drop l.end-index class_ends) ≡ class_of l.height)
    × ((n : ℕ) → n < 9 → ends_below l.height (drop n class_ends) ≡ cond (lt_z (class_end n) l.height) 1 0 + ends_below l.height (drop (n + 1) class_ends))
