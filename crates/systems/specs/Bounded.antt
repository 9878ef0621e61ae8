-- Tests and searches over the numbers below a bound.
use Rattle.std.specs.Prelude.{ℕ, zero, suc, Bool, true, ◌&&◌, List, [], ◌∷◌, ◌++◌, Some, None, Option, nat_le}

-- whether x is one of least to most
abbrev pub between : ℕ → ℕ → ℕ → Bool
between least most x = nat_le least x && nat_le x most

-- whether every number below the bound passes
abbrev pub all_below : ℕ → (ℕ → Bool) → Bool
all_below zero passes = true
all_below (suc k) passes = passes k && all_below k passes

-- the first of two answers that there is
abbrev pub or_else : {X : Type 0} → Option X → Option X → Option X
or_else (Some x) later = Some x
or_else None later = later

-- what the least number below the bound that finds something finds
abbrev pub first_below : {X : Type 0} → ℕ → (ℕ → Option X) → Option X
first_below zero finds = None
first_below (suc k) finds = or_else (first_below k finds) (finds k)

-- the lists of the numbers below the bound, one behind the other
abbrev pub joined_below : {X : Type 0} → ℕ → (ℕ → List X) → List X
joined_below zero lists = []
joined_below (suc k) lists = joined_below k lists ++ lists k

-- the list of what the numbers below the bound give
abbrev pub listed_below : {X : Type 0} → ℕ → (ℕ → X) → List X
listed_below bound gives = joined_below bound λ k. gives k ∷ []
