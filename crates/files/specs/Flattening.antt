-- A system as the sequence of numbers that its file holds.
use Rattle.std.specs.Prelude.{ℕ, List, ◌∷◌, ◌++◌, drop}
use Rattle.codec.specs.Filing.{filed}
use Rattle.systems.specs.Bounded.{joined_below, listed_below}
use Rattle.systems.specs.Layout.{LaidOut, stored}
use Rattle.systems.specs.Meaning.{Meaning}
use Rattle.codec.specs.Sequence.{Spells}

-- the readings of a state, as filed
abbrev pub readings_flattened : Meaning → ℕ → List ℕ
readings_flattened m w = listed_below m.channels λ k. filed (m.reading w k)

-- the next states of a controller move at a state
abbrev pub move_flattened : Meaning → ℕ → ℕ → List ℕ
move_flattened m w a = listed_below (m.environment_moves w) (m.next w a)

-- the next states of a state, the environment's move fastest
abbrev pub next_flattened : Meaning → ℕ → List ℕ
next_flattened m w = joined_below (m.controller_moves w) (move_flattened m w)

-- the numbers of a state: its readings, p, q and its next states
abbrev pub row_flattened : Meaning → ℕ → List ℕ
row_flattened m w = readings_flattened m w ++ (m.controller_moves w ∷ m.environment_moves w ∷ next_flattened m w)

-- the numbers of so many states
abbrev pub rows_flattened : Meaning → ℕ → List ℕ
rows_flattened m n = joined_below n (row_flattened m)

-- the numbers of a system: n, c, and then state by state
abbrev pub flattened : Meaning → List ℕ
flattened m = m.states ∷ m.channels ∷ rows_flattened m m.states

-- the words hold a system, and the bytes from place to end are just the numbers of that system
abbrev pub ReadsAsFiled : List ℕ → ℕ → ℕ → List ℕ → Type 0
ReadsAsFiled bytes place end words = LaidOut words × Spells (flattened (stored words)) (drop place bytes) (drop end bytes)
