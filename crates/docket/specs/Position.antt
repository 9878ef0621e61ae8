-- What the calls of a docket start from and lead to.
use Rattle.std.specs.Prelude.{ℕ, ◌+◌, ◌*◌, ◌≤◌, Bool, true, false, List}
use Rattle.systems.specs.Limits.{max_states}
use Rattle.arena.specs.Arena.{Arena}
use Rattle.arena.specs.Written.{cleared, with_struck}

-- A docket: whether it is open, for which sizes, and how many strikes it has granted since.
pub record View : Type 0 where
  pub is_open : Bool
  pub old_states : ℕ
  pub new_states : ℕ
  pub count : ℕ

-- the bounds of every docket that exists: no more states than a docket takes, and no more strikes than pairs
abbrev pub WithinBounds : View → Type 0
WithinBounds docket =
    (docket.old_states ≤ max_states)
    × (docket.new_states ≤ max_states)
    × (docket.count ≤ docket.old_states * docket.new_states)

-- a new docket
abbrev pub closed : View
closed = record { is_open = false; old_states = 0; new_states = 0; count = 0 }

-- A docket with the table that its calls are lent.
pub record Position : Type 0 where
  pub docket : View
  pub table : List ℕ

-- a docket and its table
abbrev pub position : View → List ℕ → Position
position docket table = record { docket = docket; table = table }

-- a docket that was just opened for the arena
abbrev pub fresh : Arena → View
fresh A = record { is_open = true; old_states = A.old_states; new_states = A.new_states; count = 0 }

-- a granted opening: every pair stands
abbrev pub opened : Arena → Position → Position
opened A x = position (fresh A) (cleared A x.table)

-- the docket with one more strike
abbrev pub one_more : View → View
one_more docket = record { is_open = docket.is_open; old_states = docket.old_states; new_states = docket.new_states; count = docket.count + 1 }

-- a granted strike: the count goes up by one, and is the number as which the pair is struck
abbrev pub marked : Arena → Position → ℕ → ℕ → Position
marked A x w v = position (one_more x.docket) (with_struck A x.table w v (x.docket.count + 1))
