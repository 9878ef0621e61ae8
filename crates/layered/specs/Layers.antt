-- What the calls on two systems answer, and what they leave in the table.
use Rattle.std.specs.Prelude.{ℕ, List, Some, None, Ok, Err, Option, Result}
use Rattle.systems.specs.Meaning.{Meaning}
use Rattle.systems.specs.Refused.{if_granted}
use Rattle.likeness.specs.Within.{first_too_wide, within}
use Rattle.arena.specs.Arena.{Arena}
use Rattle.arena.specs.Exchange.{exchange}
use Rattle.docket.specs.Certificate.{certificate_says}
use Rattle.docket.specs.Judge.{judge_does, judge_says}
use Rattle.docket.specs.Position.{closed, position}
use Rattle.docket.specs.declared.certificate.Certificate.{Certificate}
use Rattle.docket.specs.declared.outcome.Outcome.{Outcome}
use Rattle.docket.specs.declared.refusal.Refusal.{Refusal}
use Rattle.ranking.specs.Rank.{rank_does as ranking_does, rank_says as ranking_says}
use Rattle.hosting.specs.Calls.{of_table}
use Rattle.hosting.specs.declared.fault.CheckFault.{CheckFault}
use Rattle.hosting.specs.declared.fault.CheckFault.TheVariants.{Words}
use Rattle.hosting.specs.declared.fault.WordsFault.{WordsFault}
use Rattle.hosting.specs.declared.fault.WordsFault.TheVariants.{Tolerance, Exchange}

-- the exchange of two systems under the tolerances
abbrev pub layers : List ℕ → Meaning → Meaning → Arena
layers tolerances old new = exchange old new (within tolerances)

-- an answer, its refusal as a fault
abbrev pub with_fault : {X : Type 0} → Result X Refusal → Result X WordsFault
with_fault (Ok answer) = Ok answer
with_fault (Err refusal) = Err (Exchange refusal)

-- an answer, unless a tolerance is too wide
abbrev pub unless_too_wide : {X F : Type 0} → Option ℕ → (WordsFault → F) → Result X F → Result X F
unless_too_wide (Some channel) as_fault answer = Err (as_fault (Tolerance channel))
unless_too_wide None as_fault answer = answer

-- what a decision answers
abbrev pub decide_says : List ℕ → Meaning → Meaning → List ℕ → Result Outcome WordsFault
decide_says tolerances old new table =
    unless_too_wide (first_too_wide tolerances) (λ fault. fault) (with_fault (judge_says (layers tolerances old new) (position closed table)))

-- the table that it leaves
abbrev pub decide_does : List ℕ → Meaning → Meaning → List ℕ → List ℕ
decide_does tolerances old new table = if_granted (first_too_wide tolerances) (judge_does (layers tolerances old new) (position closed table)).table table

-- what a certificate check answers
abbrev pub check_says : List ℕ → Meaning → Meaning → List ℕ → Result Certificate CheckFault
check_says tolerances old new table = unless_too_wide (first_too_wide tolerances) (λ fault. Words fault) (of_table (certificate_says (layers tolerances old new) table))

-- what a ranking answers
abbrev pub rank_says : List ℕ → Meaning → Meaning → List ℕ → Result ℕ WordsFault
rank_says tolerances old new table = unless_too_wide (first_too_wide tolerances) (λ fault. fault) (with_fault (ranking_says (layers tolerances old new) table))

-- the table that it leaves
abbrev pub rank_does : List ℕ → Meaning → Meaning → List ℕ → List ℕ
rank_does tolerances old new table = if_granted (first_too_wide tolerances) (ranking_does (layers tolerances old new) table) table
