-- The lines that are printed, each with the end of the line.
use Rattle.std.specs.Prelude.{ℕ, Bool, cond, List, [], ◌++◌, Ok, Err, Result, codes, decimal}
use Rattle.std.specs.List.{flat_map, zip}
use Rattle.docket.specs.Refusals.{refusal_number}
use Rattle.docket.specs.declared.call.Grant.{Grant}
use Rattle.docket.specs.declared.call.Grant.TheVariants.{Opened, Struck, Swept, Checked}
use Rattle.docket.specs.declared.outcome.Outcome.{Outcome}
use Rattle.docket.specs.declared.refusal.Refusal.{Refusal}
use Rattle.docket.specs.declared.strike.Strike.{Strike}
use Rattle.report.specs.Fault.{input_refusal}
use Rattle.report.specs.declared.fault.InputFault.{InputFault}

-- `fault N at P`
abbrev pub fault_line : InputFault → List ℕ
fault_line fault = codes "fault " ++ decimal (input_refusal fault.reason) ++ codes " at " ++ decimal fault.place ++ codes "\n"

-- `NAME N W V`, of a pair; the name brings its space
abbrev pub pair_line : List ℕ → ℕ → ℕ × ℕ → List ℕ
pair_line name number pair =
    name ++ decimal number ++ codes " " ++ decimal pair.0 ++ codes " " ++ decimal pair.1 ++ codes "\n"

-- the line for the answer to a strike; nothing else than its number or a refusal is ever the answer
abbrev pub answer_line : ℕ × ℕ → Result Grant Refusal → List ℕ
answer_line pair (Ok (Struck number)) = pair_line (codes "strike ") number pair
answer_line pair (Ok (Opened n)) = []
answer_line pair (Ok (Swept n)) = []
answer_line pair (Ok (Checked s)) = []
answer_line pair (Err refusal) = pair_line (codes "refused ") (refusal_number refusal) pair

-- a line for each strike that is proposed
abbrev pub proposal_lines : List Strike → List (Result Grant Refusal) → List ℕ
proposal_lines strikes answers = flat_map (λ p. answer_line p.0.pair p.1) (zip strikes answers)

-- `NAME N`; the name brings its space
abbrev pub count_line : List ℕ → ℕ → List ℕ
count_line name n = name ++ decimal n ++ codes "\n"

-- how many strikes the sweeps made
abbrev pub swept_line : ℕ → List ℕ
swept_line n = count_line (codes "swept ") n

-- how many pairs stand
abbrev pub standing_line : ℕ → List ℕ
standing_line n = count_line (codes "standing ") n

-- the verdict
abbrev pub verdict_line : Bool → List ℕ
verdict_line replaces = cond replaces (codes "replaces\n") (codes "differs\n")

-- the lines of what was decided: a line for each proposal, how many strikes the sweeps made, how many pairs stand, and the verdict
abbrev pub outcome_lines : List Strike → List (Result Grant Refusal) → Outcome → List ℕ
outcome_lines strikes answers o =
    proposal_lines strikes answers ++ swept_line o.swept ++ standing_line o.standing ++ verdict_line o.replaces

-- the line in place of all others where there is no memory
abbrev pub no_memory_line : List ℕ
no_memory_line = codes "no memory\n"
