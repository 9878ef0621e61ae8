-- Decisions: an opening, the strikes that are proposed, sweeps until one makes none, and the verdict.
use Rattle.std.specs.Prelude.{◌≡◌, ℕ, zero, suc, ◌+◌, cond, List, [], ◌∷◌, ◌++◌, All, map, replicate, length, sum, Some, None, Ok, Err, Decides, Result, ◌==◌, ◌≢◌}
use Rattle.arena.specs.Arena.{Arena}
use Rattle.arena.specs.Pairs.{Largest, Replaces}
use Rattle.arena.specs.Table.{number_standing, pairs, standing, start_stands}
use Rattle.docket.specs.Certificate.{certificate, certificate_says}
use Rattle.docket.specs.Law.{RunLaw}
use Rattle.docket.specs.Position.{Position, opened}
use Rattle.docket.specs.Refusals.{opening_refusal}
use Rattle.docket.specs.Run.{after, answers}
use Rattle.docket.specs.Sweep.{Swept, swept}
use Rattle.docket.specs.declared.call.Call.{Call}
use Rattle.docket.specs.declared.call.Call.TheVariants.{Open, Strike, Sweep, Settle}
use Rattle.docket.specs.declared.call.Grant.{Grant}
use Rattle.docket.specs.declared.call.Grant.TheVariants.{Opened, Swept as SweptGrant, Checked}
use Rattle.docket.specs.declared.decision.DecideError.{DecideError}
use Rattle.docket.specs.declared.decision.DecideError.TheVariants.{NoMemory, Refused}
use Rattle.docket.specs.declared.outcome.Outcome.{Outcome}
use Rattle.docket.specs.declared.refusal.Refusal.{Refusal}
use Rattle.docket.specs.declared.strike.Settlement.TheVariants.{Settled}
use Rattle.docket.specs.declared.strike.Strike.{Strike as Proposal}

-- the budget of each sweep of a decision
abbrev pub full_budget : ℕ
full_budget = 65535

-- strikes that were made before, and a sweep's
abbrev pub with_earlier : ℕ → Swept → Swept
with_earlier earlier y = record { position = y.position; made = earlier + y.made }

-- full sweeps until one makes no strike, at most so many
abbrev pub swept_out : Arena → ℕ → Position → Swept
swept_out A zero x = record { position = x; made = 0 }
swept_out A (suc most) x =
    cond ((swept A x full_budget).made == 0)
    (record { position = x; made = 0 })
    (with_earlier (swept A x full_budget).made (swept_out A most (swept A x full_budget).position))

-- the strikes that are proposed, as calls
abbrev pub proposals : List Proposal → List Call
proposals strikes = map (λ s. Strike s) strikes

-- where a decision whose opening is granted leads, and the strikes that its sweeps make: each sweep but the last strikes a pair, so that there are no more of them than pairs
abbrev pub decision : Arena → Position → List Proposal → Swept
decision A x strikes = swept_out A (pairs A) (after A (opened A x) (proposals strikes))

-- the calls of a decision that takes so many sweeps
abbrev pub decision_calls : List Proposal → ℕ → List Call
decision_calls strikes sweeps = Open ∷ proposals strikes ++ replicate sweeps (Sweep full_budget) ++ Settle ∷ []

-- what they answer, with how many strikes each sweep made before the last, which made none
abbrev pub decision_answers : Arena → Position → List Proposal → Outcome → List ℕ → List (Result Grant Refusal)
decision_answers A x strikes o made =
    Ok (Opened (pairs A)) ∷ answers A (opened A x) (proposals strikes)
    ++ map (λ n. Ok (SweptGrant n)) (made ++ 0 ∷ [])
    ++ Ok (Checked (Settled o.standing)) ∷ []

-- That a decision is the run of its calls from x to y, with sweeps until one makes no strike.
pub record IsRun (A : Arena) (x : Position) (strikes : List Proposal) (o : Outcome) (y : Position) : Type 0 where
  -- how many strikes each sweep made before the last
  pub made : List ℕ
  pub each_strikes : All (λ n. n ≢ 0) made
  pub total : o.swept ≡ sum made
  pub answered : answers A x (decision_calls strikes (suc (length made))) ≡ decision_answers A x strikes o made
  pub ended : y ≡ after A x (decision_calls strikes (suc (length made)))
  -- and so what holds behind each of its calls
  pub law : RunLaw A x (decision_calls strikes (suc (length made)))

-- What a decision tells that began at x and ended at y.
pub record Told (A : Arena) (x : Position) (strikes : List Proposal) (o : Outcome) (y : Position) : Type 0 where
  pub granted : opening_refusal A (length x.table) ≡ None
  pub ended : y ≡ (decision A x strikes).position
  pub swept : o.swept ≡ (decision A x strikes).made
  pub counted : o.standing ≡ number_standing A y.table
  pub verdict : o.replaces ≡ start_stands A y.table
  pub run : IsRun A x strikes o y
  -- and what that means, whatever was proposed
  pub largest : Largest A (standing A y.table)
  pub decides : Decides o.replaces (Replaces A)
  pub accepted : certificate_says A y.table ≡ Ok (certificate A y.table)

-- what holds of each answer; a refused opening is told whether there is memory or not, and where it is refused or memory is wanting, nothing has changed
abbrev pub Decided : Arena → Position → List Proposal → Result Outcome DecideError → Position → Type 0
Decided A x strikes (Ok o) y = Told A x strikes o y
Decided A x strikes (Err (Refused refusal)) y = (opening_refusal A (length x.table) ≡ Some refusal) × (y ≡ x)
Decided A x strikes (Err NoMemory) y = (opening_refusal A (length x.table) ≡ None) × (y ≡ x)

-- what the list of answers gains: where it is decided what the proposals are answered, else nothing
abbrev pub proposals_answered : Arena → Position → List Proposal → Result Outcome DecideError → List (Result Grant Refusal)
proposals_answered A x strikes (Ok o) = answers A (opened A x) (proposals strikes)
proposals_answered A x strikes (Err error) = []
