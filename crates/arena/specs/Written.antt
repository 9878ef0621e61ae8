-- What is written into tables of strikes.
use Rattle.std.specs.Prelude.{ℕ, min, List, ◌++◌, drop, length, replicate, slice_set}
use Rattle.arena.specs.Arena.{Arena}
use Rattle.arena.specs.Entry.{standing_entry, struck_entry}
use Rattle.arena.specs.Table.{pairs, place}

-- so many entries of pairs that stand
abbrev pub all_standing : ℕ → List ℕ
all_standing entries = replicate entries standing_entry

-- the table with every pair standing, as far as it reaches; what lies behind the entries of the pairs stays
abbrev pub cleared : Arena → List ℕ → List ℕ
cleared A table = all_standing (min (pairs A) (length table)) ++ drop (pairs A) table

-- the table with another entry for a pair, or as it is where the pair's place is past its end
abbrev pub with_entry : Arena → List ℕ → ℕ → ℕ → ℕ → List ℕ
with_entry A table w v entry = slice_set table (place A w v) entry

-- the table with a pair struck as a number
abbrev pub with_struck : Arena → List ℕ → ℕ → ℕ → ℕ → List ℕ
with_struck A table w v number = with_entry A table w v (struck_entry number)

-- the table with a pair that stands
abbrev pub with_standing : Arena → List ℕ → ℕ → ℕ → List ℕ
with_standing A table w v = with_entry A table w v standing_entry
