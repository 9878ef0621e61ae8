-- The output for every input.
use Rattle.std.specs.Prelude.{ℕ, List, replicate, Some, None, Option, Result, option_map}
use Rattle.systems.specs.Bounded.{or_else}
use Rattle.likeness.specs.Within.{tolerance_channels, within}
use Rattle.arena.specs.Arena.{Arena}
use Rattle.arena.specs.Exchange.{exchange}
use Rattle.arena.specs.Written.{all_standing}
use Rattle.docket.specs.Decide.{Told, decision, proposals}
use Rattle.docket.specs.Judge.{outcome_of}
use Rattle.docket.specs.Position.{Position, closed, opened, position}
use Rattle.docket.specs.Refusals.{opening_refusal}
use Rattle.docket.specs.Run.{answers}
use Rattle.docket.specs.Sweep.{Swept}
use Rattle.docket.specs.declared.call.Grant.{Grant}
use Rattle.docket.specs.declared.outcome.Outcome.{Outcome}
use Rattle.docket.specs.declared.refusal.Refusal.{Refusal}
use Rattle.report.specs.Fault.{fault_at}
use Rattle.report.specs.Input.{input_fault, list_place, new_system, old_system, strikes, tolerance}
use Rattle.report.specs.Lines.{fault_line, outcome_lines}
use Rattle.report.specs.Room.{table_room}
use Rattle.report.specs.declared.fault.InputFault.{InputFault}
use Rattle.report.specs.declared.fault.InputReason.TheVariants.{Opening}

-- the exchange of an input's two systems, whose readings may differ by the tolerance on every channel
abbrev pub exchange_of : List ℕ → Arena
exchange_of input = exchange (old_system input) (new_system input) (within (replicate tolerance_channels (tolerance input)))

-- a closed docket and a table in which nothing is struck
unfoldable pub begun : Position
begun = position closed (all_standing table_room)

-- the fault of the opening, which is refused at the place of the list
abbrev pub opening_fault : List ℕ → Option InputFault
opening_fault input = option_map (λ refusal. fault_at (Opening refusal) (list_place input)) (opening_refusal (exchange_of input) table_room)

-- the first fault of an input, that of the opening included
abbrev pub fault_of : List ℕ → Option InputFault
fault_of input = or_else (input_fault input) (opening_fault input)

-- where the decision of an input leads, and the strikes that its sweeps make, if the input has no fault
abbrev pub decided : List ℕ → Swept
decided input = decision (exchange_of input) begun (strikes input)

-- what the strikes are answered that the input proposes
abbrev pub answered : List ℕ → List (Result Grant Refusal)
answered input = answers (exchange_of input) (opened (exchange_of input) begun) (proposals (strikes input))

-- the lines of that decision
abbrev pub decided_lines : List ℕ → List ℕ
decided_lines input = outcome_lines (strikes input) (answered input) (outcome_of (exchange_of input) (decided input))

-- the line of a fault, else other lines
abbrev pub lines_unless : Option InputFault → List ℕ → List ℕ
lines_unless (Some fault) lines = fault_line fault
lines_unless None lines = lines

-- every byte that is printed for an input
abbrev pub output : List ℕ → List ℕ
output input = lines_unless (fault_of input) (decided_lines input)

-- what a decision of the input tells: all that one tells of the exchange that begins with a closed docket and a table in which nothing is struck
abbrev pub Tells : List ℕ → Outcome → Type 0
Tells input o = Told (exchange_of input) begun (strikes input) o (decided input).position
