-- Which calls are refused, and why.
use Rattle.std.specs.Prelude.{ℕ, Bool, cond, not, ◌&&◌, ◌||◌, List, length, Some, None, Option, ◌==◌, nat_le, nat_lt}
use Rattle.systems.specs.Bounded.{all_below, or_else}
use Rattle.systems.specs.Limits.{max_moves, max_states}
use Rattle.arena.specs.Arena.{Arena}
use Rattle.arena.specs.Pairs.{refutes}
use Rattle.arena.specs.Table.{pairs, stands, struck}
use Rattle.arena.specs.declared.cause.Cause.{Cause}
use Rattle.arena.specs.declared.cause.Cause.TheVariants.{Sight, Move}
use Rattle.docket.specs.Position.{Position}
use Rattle.docket.specs.declared.refusal.Refusal.{Refusal}
use Rattle.docket.specs.declared.refusal.Refusal.TheVariants.{TooManyStates, NotComparable, TooManyMoves, TableTooShort, Closed, OtherSizes, NoSuchState, AlreadyStruck, NoSuchMove, Alike, NotRefuted, Full}
use Rattle.docket.specs.declared.strike.Strike.{Strike}

-- the number of each refusal
abbrev pub refusal_number : Refusal → ℕ
refusal_number TooManyStates = 1
refusal_number NotComparable = 2
refusal_number TooManyMoves = 3
refusal_number TableTooShort = 4
refusal_number Closed = 5
refusal_number OtherSizes = 6
refusal_number NoSuchState = 7
refusal_number AlreadyStruck = 8
refusal_number NoSuchMove = 9
refusal_number Alike = 10
refusal_number NotRefuted = 11
refusal_number Full = 12

-- whether either system has more states than a docket holds
abbrev pub too_many_states : Arena → Bool
too_many_states A = nat_lt max_states A.old_states || nat_lt max_states A.new_states

-- whether neither side has too many moves at any state
abbrev pub few_moves : ℕ → (ℕ → ℕ) → (ℕ → ℕ) → Bool
few_moves states controller_moves environment_moves =
    all_below states λ w. nat_le (controller_moves w) max_moves && nat_le (environment_moves w) max_moves

-- whether that holds of both systems
abbrev pub few_moves_in_both : Arena → Bool
few_moves_in_both A = few_moves A.old_states A.old_controller_moves A.old_environment_moves && few_moves A.new_states A.new_controller_moves A.new_environment_moves

-- why systems and a table of so many entries do not serve, if so
abbrev pub misfit : Arena → ℕ → Option Refusal
misfit A entries =
    cond (not A.comparable) (Some NotComparable)
    (cond (not (few_moves_in_both A)) (Some TooManyMoves)
    (cond (nat_lt entries (pairs A)) (Some TableTooShort) None))

-- why an opening is refused, if it is
abbrev pub opening_refusal : Arena → ℕ → Option Refusal
opening_refusal A entries = cond (too_many_states A) (Some TooManyStates) (misfit A entries)

-- why any other call of a docket is refused before it looks further, if it is
abbrev pub use_refusal : Arena → Position → Option Refusal
use_refusal A x =
    cond (not x.docket.is_open) (Some Closed)
    (cond (not (x.docket.old_states == A.old_states && x.docket.new_states == A.new_states)) (Some OtherSizes)
    (misfit A (length x.table)))

-- why a pair is not struck for the cause, if so
abbrev pub cause_refusal : Arena → List ℕ → ℕ → ℕ → Cause → Option Refusal
cause_refusal A table w v Sight = cond (A.alike w v) (Some Alike) None
cause_refusal A table w v (Move a) =
    cond (nat_le (A.old_controller_moves w) a) (Some NoSuchMove)
    (cond (refutes A (struck A table None) w v a) None (Some NotRefuted))

-- why a docket in use refuses the strike, if it does
abbrev pub pair_refusal : Arena → Position → ℕ → ℕ → Cause → Option Refusal
pair_refusal A x w v cause =
    cond (not (nat_lt w A.old_states && nat_lt v A.new_states)) (Some NoSuchState)
    (cond (not (stands A x.table w v)) (Some AlreadyStruck)
    (or_else (cause_refusal A x.table w v cause)
    (cond (nat_le (pairs A) x.docket.count) (Some Full) None)))

-- why a strike is refused, if it is
abbrev pub strike_refusal : Arena → Position → Strike → Option Refusal
strike_refusal A x s = or_else (use_refusal A x) (pair_refusal A x s.pair.0 s.pair.1 s.cause)
