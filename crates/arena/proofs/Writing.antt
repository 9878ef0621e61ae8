-- Writing into a table that may be shorter than there are pairs.
use Rattle.std.proofs.Common.{◌≡◌, ℕ, zero, suc, min, List, [], ◌∷◌, length, drop, refl}
use native.Mathlib.Numerals.{unary_clauses}

-- what lies behind the first so many entries, or behind all
pub drop_most : (xs : List ℕ) (n : ℕ) → drop (min n (length xs)) xs ≡ drop n xs
drop_most [] zero = refl
drop_most [] (suc n) = simp unary_clauses
drop_most (y ∷ ys) zero = simp unary_clauses
drop_most (y ∷ ys) (suc n) = simp unary_clauses (drop_most ys n)
