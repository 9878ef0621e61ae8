-- Why an input is refused, and the numbers.
use Rattle.std.specs.Prelude.{ℕ}
use Rattle.docket.specs.Refusals.{refusal_number}
use Rattle.codec.specs.Number.{number_refusal}
use Rattle.files.specs.Refusal.{refusal}
use Rattle.files.specs.StrikeList.{list_refusal}
use Rattle.likeness.specs.Within.{tolerance_refusal}
use Rattle.likeness.specs.declared.within.ToleranceFault.TheVariants.{TooWide as WiderThanAny}
use Rattle.files.specs.declared.fault.ReadFault.{ReadFault}
use Rattle.files.specs.declared.list_fault.ListFault.{ListFault}
use Rattle.report.specs.declared.fault.InputFault.{InputFault}
use Rattle.report.specs.declared.fault.InputReason.{InputReason}
use Rattle.report.specs.declared.fault.InputReason.TheVariants.{TooLong, Tolerance, TooWide, System, List as OfList, Opening}

-- the number of the refusal
abbrev pub input_refusal : InputReason → ℕ
input_refusal TooLong = 28
input_refusal (Tolerance fault) = number_refusal fault
input_refusal TooWide = tolerance_refusal WiderThanAny
input_refusal (System reason) = refusal reason
input_refusal (OfList reason) = list_refusal reason
input_refusal (Opening reason) = refusal_number reason

-- an item that is refused, by why and where it begins
abbrev pub fault_at : InputReason → ℕ → InputFault
fault_at reason place = record { reason = reason; place = place }

-- the fault of a system file
abbrev pub of_system : ReadFault → InputFault
of_system fault = fault_at (System fault.reason) fault.place

-- the fault of a strike list
abbrev pub of_list : ListFault → InputFault
of_list fault = fault_at (OfList fault.reason) fault.place
