-- More tests over the numbers below a bound.
use Rattle.std.specs.Prelude.{ℕ, zero, suc, ◌+◌, Bool, false, cond, ◌||◌}

-- whether some number below the bound passes
abbrev pub any_below : ℕ → (ℕ → Bool) → Bool
any_below zero passes = false
any_below (suc k) passes = passes k || any_below k passes

-- how many numbers below the bound pass
abbrev pub count_below : ℕ → (ℕ → Bool) → ℕ
count_below zero passes = 0
count_below (suc k) passes = cond (passes k) 1 0 + count_below k passes
