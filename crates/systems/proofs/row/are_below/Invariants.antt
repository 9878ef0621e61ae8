use Rattle.std.proofs.Common.{ℕ, ◌<◌, slice_index}
use Rattle.systems.proofs.row.are_below.Given as goal

-- the numbers that were seen are below the bound
abbrev pub invariant-loop-number : goal.invariant-loop-number
invariant-loop-number l = (k : ℕ) → k < l.number-index → slice_index l.numbers k < l.bound
