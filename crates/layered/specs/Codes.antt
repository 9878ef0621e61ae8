-- Code lists by their entries, and what crosses to C of the calls on them.
use Rattle.std.specs.Prelude.{ℕ, cond, false, List, length, map, nat_lt, Some, None, Option, Result}
use Rattle.systems.specs.CodeList.{code_list, code_refusal, listed}
use Rattle.systems.specs.Layout.{stored}
use Rattle.systems.specs.Limits.{most_codes}
use Rattle.systems.specs.Meaning.{Meaning, Reading}
use Rattle.systems.specs.declared.code_list.CodeList.{CodeList}
use Rattle.systems.specs.declared.stored.Stored.{Stored}
use Rattle.systems.specs.declared.code_list.CodeFault.{CodeFault}
use Rattle.systems.specs.declared.code_list.CodeFault.TheVariants.{Full}
use Rattle.systems.specs.declared.codes.CodeEntry.{CodeEntry}
use Rattle.docket.specs.declared.certificate.Certificate.{Certificate as Shown}
use Rattle.docket.specs.declared.outcome.Outcome.{Outcome}
use Rattle.hosting.specs.Answers.{certificate_of, decision_of, ranks_of, words_refusal}
use Rattle.hosting.specs.Held.{held}
use Rattle.hosting.specs.declared.answer.Certificate.{Certificate}
use Rattle.hosting.specs.declared.answer.Decision.{Decision}
use Rattle.hosting.specs.declared.answer.Ranks.{Ranks}
use Rattle.hosting.specs.declared.fault.CheckFault.{CheckFault}
use Rattle.hosting.specs.declared.fault.WordsFault.{WordsFault}
use Rattle.hosting.specs.declared.refusal.Refusal.{Refusal}
use Rattle.layered.specs.declared.coded.Code.{Code}

-- an entry
abbrev pub entry : Code → CodeEntry
entry code = record { from = code.from; to = code.to }

-- what a code list over a stored system means
abbrev pub meant : CodeList Stored → Meaning
meant list = code_list (stored list.system.words.now) list.channel (listed list.codes) list.codes.cut

-- the fault of codes: a list has no room for so many
abbrev pub codes_fault : List Code → Option CodeFault
codes_fault codes = cond (nat_lt most_codes (length codes)) (Some Full) None

-- the system that words hold, with the codes on a channel
abbrev pub coded : List ℕ → List Code → ℕ → Reading → Meaning
coded words codes channel cut = code_list (held words) channel (map entry codes) cut

-- the number that stands for codes in C, behind those that `hosting` gives
abbrev pub codes_item : ℕ
codes_item = 10

-- the refusal of codes
abbrev pub codes_refusal : CodeFault → Refusal
codes_refusal fault = record { number = code_refusal fault; item = codes_item; state = 0; new_state = 0; place = 0 }

-- what crosses of a decision, unless the codes are refused
abbrev pub coded_decision : Option CodeFault → Result Outcome WordsFault → Decision
coded_decision (Some fault) decided = record { refusal = codes_refusal fault; swept = 0; standing = 0; replaces = false }
coded_decision None decided = decision_of words_refusal decided

-- of a certificate check
abbrev pub coded_certificate : Option CodeFault → Result Shown CheckFault → Certificate
coded_certificate (Some fault) checked = record { refusal = codes_refusal fault; standing = 0; replaces = false }
coded_certificate None checked = certificate_of checked

-- of a ranking
abbrev pub coded_ranks : Option CodeFault → Result ℕ WordsFault → Ranks
coded_ranks (Some fault) ranked = record { refusal = codes_refusal fault; highest = 0 }
coded_ranks None ranked = ranks_of words_refusal ranked
