-- The numbers of faults.
use Rattle.std.specs.Prelude.{ℕ}
use Rattle.systems.specs.Layout.{layout_refusal}
use Rattle.likeness.specs.Within.{tolerance_refusal}
use Rattle.likeness.specs.declared.within.ToleranceFault.TheVariants.{TooWide}
use Rattle.docket.specs.Certificate.{fault_number}
use Rattle.docket.specs.Refusals.{refusal_number}
use Rattle.files.specs.Refusal.{refusal}
use Rattle.hosting.specs.declared.fault.CheckFault.{CheckFault}
use Rattle.hosting.specs.declared.fault.CheckFault.TheVariants.{Words, Table}
use Rattle.hosting.specs.declared.fault.FilesFault.{FilesFault}
use Rattle.hosting.specs.declared.fault.FilesFault.TheVariants.{Tolerance, OldFile, NewFile, Exchange}
use Rattle.hosting.specs.declared.fault.WordsFault.{WordsFault}
use Rattle.hosting.specs.declared.fault.WordsFault.TheVariants.{Tolerance as WideTolerance, OldWords, NewWords, Exchange as Misfit}

-- the number of each refusal of files and what is lent with them
abbrev pub files_fault_number : FilesFault → ℕ
files_fault_number (Tolerance channel) = tolerance_refusal TooWide
files_fault_number (OldFile fault) = refusal fault.reason
files_fault_number (NewFile fault) = refusal fault.reason
files_fault_number (Exchange why) = refusal_number why

-- the number of each refusal of words and what is lent with them
abbrev pub words_fault_number : WordsFault → ℕ
words_fault_number (WideTolerance channel) = tolerance_refusal TooWide
words_fault_number (OldWords fault) = layout_refusal fault
words_fault_number (NewWords fault) = layout_refusal fault
words_fault_number (Misfit why) = refusal_number why

-- the number of each fault of a check
abbrev pub check_fault_number : CheckFault → ℕ
check_fault_number (Words fault) = words_fault_number fault
check_fault_number (Table fault) = fault_number fault
