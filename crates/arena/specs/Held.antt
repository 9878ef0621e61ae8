-- What a reference to a table holds.
use Rattle.std.specs.Prelude.{ℕ, List}
use Rattle.std.specs.Borrow.{MutBor}

-- the reference, with another table behind it
abbrev pub holding : MutBor (List ℕ) → List ℕ → MutBor (List ℕ)
holding reference table = record reference { now = table }
