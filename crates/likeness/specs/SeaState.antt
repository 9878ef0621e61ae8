-- Heights with the same sea state class, after WMO code table 3700.
use Rattle.std.specs.Prelude.{ℕ, ◌+◌, ◌-◌, ◌<◌, ◌≤◌, Bool, cond, List, [], ◌∷◌, pos, ◌≤ℤ◌, ◌<ℤ◌, ◌==◌, int_lt, slice_index_or}
use Rattle.systems.specs.Meaning.{Reading}
use Rattle.likeness.specs.Exact.{exact}

-- where the classes 0 to 8 end, in centimetres
abbrev pub class_ends : List Reading
class_ends = pos 0 ∷ pos 10 ∷ pos 50 ∷ pos 125 ∷ pos 250 ∷ pos 400 ∷ pos 600 ∷ pos 900 ∷ pos 1400 ∷ []

-- where class k ends
abbrev pub class_end : ℕ → Reading
class_end k = slice_index_or class_ends k (pos 0)

-- how many of the ends lie below the height
abbrev pub ends_below : Reading → List Reading → ℕ
ends_below height [] = 0
ends_below height (end ∷ ends) = cond (int_lt end height) 1 0 + ends_below height ends

-- the class of a height: how many class ends lie below it
unfoldable pub class_of : Reading → ℕ
class_of height = ends_below height class_ends

-- The height lies in class k.
pub record InClass (height : Reading) (k : ℕ) : Type 0 where
  -- classes are 0 to 9
  pub a_class : k ≤ 9
  -- at most its end, if it has one
  pub up_to : k < 9 → height ≤ℤ class_end k
  -- above the end of the class before, if there is one
  pub above : 0 < k → class_end (k - 1) <ℤ height

-- whether two readings on channel k are alike, where heights are on channel c
abbrev pub same_sea_state : ℕ → ℕ → Reading → Reading → Bool
same_sea_state c k x y = cond (k == c) (class_of x == class_of y) (exact x y)
