-- What the decision of an input tells.
use Rattle.std.proofs.Common.{rules, ◌≡◌, ℕ, List, length, replicate, Some, None, Err, Result, refl, sym, ap, ◌∙◌}
use Rattle.std.specs.Prelude.{option_map}
use Rattle.systems.specs.Meaning.{Meaning}
use Rattle.likeness.specs.Within.{tolerance_channels, within}
use Rattle.arena.specs.Arena.{Arena}
use Rattle.arena.specs.Exchange.{exchange}
use Rattle.arena.specs.Written.{all_standing}
use Rattle.docket.specs.Decide.{Decided, Told, proposals_answered}
use Rattle.docket.specs.Position.{Position, View, closed, position}
use Rattle.docket.specs.Refusals.{opening_refusal}
use Rattle.docket.specs.declared.call.Grant.{Grant}
use Rattle.docket.specs.declared.decision.DecideError.{DecideError}
use Rattle.docket.specs.declared.decision.DecideError.TheVariants.{Refused}
use Rattle.docket.specs.declared.outcome.Outcome.{Outcome}
use Rattle.docket.specs.declared.refusal.Refusal.{Refusal}
use Rattle.docket.specs.declared.strike.Strike.{Strike}
use Rattle.report.specs.Fault.{fault_at}
use Rattle.report.specs.Input.{list_place, new_system, old_system, strikes, tolerance}
use Rattle.report.specs.Output.{Tells, begun, exchange_of, opening_fault}
use Rattle.report.specs.Room.{table_room}
use Rattle.report.specs.declared.fault.InputReason.TheVariants.{Opening}

-- what was read of an input is its exchange
pub exchange_is : (input : List ℕ) (old new : Meaning) (tolerances : List ℕ) → old ≡ old_system input → new ≡ new_system input → tolerances ≡ replicate tolerance_channels (tolerance input) → exchange old new (within tolerances) ≡ exchange_of input
exchange_is input old new tolerances o n t = rw (o, n, t) refl

-- a decision of what was read is that of the input
pub decided_of : (input : List ℕ) (A : Arena) (docket : View) (table : List ℕ) (proposed : List Strike) (r : Result Outcome DecideError) (y : Position) → A ≡ exchange_of input → docket ≡ closed → table ≡ begun.table → proposed ≡ strikes input → Decided A (position docket table) proposed r y → Decided (exchange_of input) begun (strikes input) r y
unfolding begun
decided_of input A docket table proposed r y a d t p decided = rw (a, d, t, p) at decided

-- and so are the answers to its proposals
pub answered_of : (input : List ℕ) (A : Arena) (docket : View) (table : List ℕ) (proposed : List Strike) (r : Result Outcome DecideError) (answers : List (Result Grant Refusal)) → A ≡ exchange_of input → docket ≡ closed → table ≡ begun.table → proposed ≡ strikes input → answers ≡ proposals_answered A (position docket table) proposed r → answers ≡ proposals_answered (exchange_of input) begun (strikes input) r
unfolding begun
answered_of input A docket table proposed r answers a d t p answered = rw (a, d, t, p) at answered

-- a table of so many pairs that stand is one in which nothing is struck
pub begun_from : (table : List ℕ) (n : ℕ) → table ≡ all_standing n → n ≡ table_room → table ≡ begun.table
unfolding begun
begun_from table n t room = rw room at t

entries_of_begun : length begun.table ≡ table_room
unfolding begun
entries_of_begun = search rules

-- a granted decision tells what the input's does
pub tells : (input : List ℕ) (o : Outcome) (y : Position) → Told (exchange_of input) begun (strikes input) o y → (opening_fault input ≡ None) × Tells input o
tells input o y told = (
  ap (option_map (λ refusal. fault_at (Opening refusal) (list_place input))) (ap (opening_refusal (exchange_of input)) (sym entries_of_begun) ∙ told.granted),
  rw told.ended at told,
)

-- a refused opening is the fault at the list's place
pub refused : (input : List ℕ) (y : Position) (refusal : Refusal) → Decided (exchange_of input) begun (strikes input) (Err (Refused refusal)) y → opening_fault input ≡ Some (fault_at (Opening refusal) (list_place input))
refused input y refusal decided = ap (option_map (λ refusal. fault_at (Opening refusal) (list_place input))) (ap (opening_refusal (exchange_of input)) (sym entries_of_begun) ∙ decided.0)
