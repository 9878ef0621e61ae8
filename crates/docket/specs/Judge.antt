-- Judgements: decisions without proposals, which are lent no list.
use Rattle.std.specs.Prelude.{◌≡◌, ℕ, Bool, List, [], length, Ok, Err, Result}
use Rattle.systems.specs.Refused.{if_granted, unless}
use Rattle.arena.specs.Arena.{Arena}
use Rattle.arena.specs.Table.{Shows, number_standing, start_stands}
use Rattle.docket.specs.Certificate.{certificate, certificate_says}
use Rattle.docket.specs.Decide.{decision}
use Rattle.docket.specs.Position.{Position}
use Rattle.docket.specs.Refusals.{opening_refusal}
use Rattle.docket.specs.Sweep.{Swept}
use Rattle.docket.specs.declared.outcome.Outcome.{Outcome}
use Rattle.docket.specs.declared.refusal.Refusal.{Refusal}

-- the outcome of sweeps that have ended
abbrev pub outcome_of : Arena → Swept → Outcome
outcome_of A y = record { swept = y.made; standing = number_standing A y.position.table; replaces = start_stands A y.position.table }

-- what a judgement answers
abbrev pub judge_says : Arena → Position → Result Outcome Refusal
judge_says A x = unless (opening_refusal A (length x.table)) (outcome_of A (decision A x []))

-- what a judgement leaves
abbrev pub judge_does : Arena → Position → Position
judge_does A x = if_granted (opening_refusal A (length x.table)) (decision A x []).position x

-- what a verdict tells of the table that it leaves: its standing pairs are the largest simulation, the new system replaces the old or does not, as is told, and the certificate check accepts the table
abbrev pub Judged : Arena → List ℕ → Bool → Type 0
Judged A table replaces = Shows A table replaces × (certificate_says A table ≡ Ok (certificate A table))

-- what an answer tells of the table
abbrev pub Judges : Arena → List ℕ → Result Outcome Refusal → Type 0
Judges A table (Ok o) = Judged A table o.replaces
Judges A table (Err refusal) = Unit {0}
