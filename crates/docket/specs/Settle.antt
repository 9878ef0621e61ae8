-- Settle checks.
use Rattle.std.specs.Prelude.{ℕ, cond, List, Some, None, Option, Result}
use Rattle.systems.specs.Bounded.{first_below}
use Rattle.systems.specs.Refused.{unless}
use Rattle.arena.specs.Arena.{Arena}
use Rattle.arena.specs.Table.{cause_of, number_standing, stands}
use Rattle.arena.specs.declared.cause.Cause.{Cause}
use Rattle.docket.specs.Position.{Position}
use Rattle.docket.specs.Refusals.{use_refusal}
use Rattle.docket.specs.declared.refusal.Refusal.{Refusal}
use Rattle.docket.specs.declared.strike.Settlement.{Settlement}
use Rattle.docket.specs.declared.strike.Settlement.TheVariants.{Settled, Loose}
use Rattle.docket.specs.declared.strike.Strike.{Strike}

-- the strike of a pair for a cause, if there is one
abbrev pub strike_for : ℕ → ℕ → Option Cause → Option Strike
strike_for w v None = None
strike_for w v (Some cause) = Some (record { pair = (w, v); cause = cause })

-- the strike that a loose pair can get
abbrev pub loose_strike : Arena → List ℕ → ℕ → ℕ → Option Strike
loose_strike A table w v = cond (stands A table w v) (strike_for w v (cause_of A table w v)) None

-- the strike that the first loose pair of an old state's row can get
abbrev pub first_loose_in : Arena → List ℕ → ℕ → ℕ → Option Strike
first_loose_in A table w columns = first_below columns λ v. loose_strike A table w v

-- the strike that the first loose pair by place can get
abbrev pub first_loose : Arena → List ℕ → Option Strike
first_loose A table = first_below A.old_states λ w. first_loose_in A table w A.new_states

-- settled with so many standing, unless a pair is loose
abbrev pub settled_unless : Option Strike → ℕ → Settlement
settled_unless (Some strike) standing = Loose strike
settled_unless None standing = Settled standing

-- what a settle check finds in a table
abbrev pub settlement : Arena → List ℕ → Settlement
settlement A table = settled_unless (first_loose A table) (number_standing A table)

-- what a settle check answers
abbrev pub settle_says : Arena → Position → Result Settlement Refusal
settle_says A x = unless (use_refusal A x) (settlement A x.table)
