-- Tables of strikes: what their entries say of the pairs.
use Rattle.std.specs.Prelude.{ℕ, zero, suc, ◌+◌, ◌*◌, max, Bool, cond, not, ◌&&◌, ◌||◌, List, Some, None, Decides, Option, nat_le, nat_lt, slice_index}
use Rattle.systems.specs.Bounded.{first_below}
use Rattle.arena.specs.Arena.{Arena}
use Rattle.arena.specs.Bounds.{count_below}
use Rattle.arena.specs.Entry.{counts, number_in, says_standing}
use Rattle.arena.specs.Pairs.{Largest, Relation, Replaces, refuted, refutes}
use Rattle.arena.specs.declared.cause.Cause.{Cause}
use Rattle.arena.specs.declared.cause.Cause.TheVariants.{Sight, Move}

-- how many pairs there are
abbrev pub pairs : Arena → ℕ
pairs A = A.old_states * A.new_states

-- the place of a pair's entry in a table: a row for each old state
abbrev pub place : Arena → ℕ → ℕ → ℕ
place A w v = w * A.new_states + v

-- the entry at a place, past the end of the table that of a pair that stands
abbrev pub entry_at : List ℕ → ℕ → ℕ
entry_at table i = slice_index table i

-- the entry of a pair
abbrev pub entry : Arena → List ℕ → ℕ → ℕ → ℕ
entry A table w v = entry_at table (place A w v)

-- the number as which a pair was struck, 0 where it stands
abbrev pub number_of : Arena → List ℕ → ℕ → ℕ → ℕ
number_of A table w v = number_in (entry A table w v)

-- the pairs that count as struck
abbrev pub struck : Arena → List ℕ → Option ℕ → Relation
struck A table before w v = counts before (entry A table w v)

-- whether a pair stands
abbrev pub stands : Arena → List ℕ → ℕ → ℕ → Bool
stands A table w v = says_standing (entry A table w v)

-- the pairs in range that stand
abbrev pub standing : Arena → List ℕ → Relation
standing A table w v = nat_lt w A.old_states && (nat_lt v A.new_states && stands A table w v)

-- whether the pair of start states stands
abbrev pub start_stands : Arena → List ℕ → Bool
start_stands A table = standing A table 0 0

-- the standing pairs are the largest simulation, and the new system replaces the old or does not, as is told
abbrev pub Shows : Arena → List ℕ → Bool → Type 0
Shows A table replaces = Largest A (standing A table) × Decides replaces (Replaces A)

-- how many pairs stand
abbrev pub number_standing : Arena → List ℕ → ℕ
number_standing A table = count_below (pairs A) λ i. says_standing (entry_at table i)

-- the highest of the numbers at the first so many places, 0 where there is none
abbrev pub highest_below : ℕ → List ℕ → ℕ
highest_below zero table = 0
highest_below (suc i) table = max (highest_below i table) (number_in (entry_at table i))

-- the highest number as which a pair was struck
abbrev pub highest : Arena → List ℕ → ℕ
highest A table = highest_below (pairs A) table

-- whether a pair is unlike, or refuted where the pairs that are gone count as struck
abbrev pub faulty : Arena → Relation → ℕ → ℕ → Bool
faulty A gone w v = not (A.alike w v) || refuted A gone w v

-- whether a pair is loose: it stands, and is unlike or refuted
abbrev pub loose : Arena → List ℕ → ℕ → ℕ → Bool
loose A table w v = stands A table w v && faulty A (struck A table None) w v

-- the least controller move from the first on and below the end that refutes the pair
abbrev pub least_refuting : Arena → Relation → ℕ → ℕ → ℕ → ℕ → Option ℕ
least_refuting A gone w v first end = first_below end λ a. cond (nat_le first a && refutes A gone w v a) (Some a) None

-- the move as a cause
abbrev pub by_move : Option ℕ → Option Cause
by_move None = None
by_move (Some a) = Some (Move a)

-- what there is to strike a pair for: sight if it is unlike, else its least refuting move
abbrev pub cause_of : Arena → List ℕ → ℕ → ℕ → Option Cause
cause_of A table w v = cond (A.alike w v) (by_move (least_refuting A (struck A table None) w v 0 (A.old_controller_moves w))) (Some Sight)

-- whether a pair is in order: a struck one is unlike, or refuted when only the pairs with smaller numbers are taken for struck; a standing one is not loose
abbrev pub in_order : Arena → List ℕ → ℕ → ℕ → Bool
in_order A table w v =
    cond (stands A table w v)
    (not (loose A table w v))
    (faulty A (struck A table (Some (number_of A table w v))) w v)
