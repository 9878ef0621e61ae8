-- The answers that cross to C.
use Rattle.std.specs.Prelude.{ℕ, false, Ok, Err, Result}
use Rattle.systems.specs.Layout.{layout_refusal}
use Rattle.likeness.specs.Within.{tolerance_refusal}
use Rattle.likeness.specs.declared.within.ToleranceFault.TheVariants.{TooWide}
use Rattle.docket.specs.Certificate.{fault_number}
use Rattle.docket.specs.Refusals.{refusal_number}
use Rattle.docket.specs.declared.certificate.Certificate.{Certificate as Shown}
use Rattle.docket.specs.declared.certificate.CertificateFault.{CertificateFault}
use Rattle.docket.specs.declared.certificate.CertificateFault.TheVariants.{Refused, Unfounded, Loose}
use Rattle.docket.specs.declared.outcome.Outcome.{Outcome}
use Rattle.files.specs.Refusal.{refusal}
use Rattle.files.specs.SystemWrite.{system_write_refusal}
use Rattle.files.specs.declared.fault.ReadFault.{ReadFault}
use Rattle.files.specs.declared.system_read.SystemRead.{SystemRead}
use Rattle.files.specs.declared.system_write.SystemWriteFault.{SystemWriteFault}
use Rattle.hosting.specs.declared.fault.CheckFault.{CheckFault}
use Rattle.hosting.specs.declared.fault.CheckFault.TheVariants.{Words, Table}
use Rattle.hosting.specs.declared.fault.FilesFault.{FilesFault}
use Rattle.hosting.specs.declared.fault.FilesFault.TheVariants.{Tolerance, OldFile, NewFile, Exchange}
use Rattle.hosting.specs.declared.fault.WordsFault.{WordsFault}
use Rattle.hosting.specs.declared.fault.WordsFault.TheVariants.{Tolerance as WideTolerance, OldWords, NewWords, Exchange as Misfit}
use Rattle.hosting.specs.declared.answer.Certificate.{Certificate}
use Rattle.hosting.specs.declared.answer.Decision.{Decision}
use Rattle.hosting.specs.declared.answer.Ranks.{Ranks}
use Rattle.hosting.specs.declared.answer.Read.{Read}
use Rattle.hosting.specs.declared.refusal.Refusal.{Refusal}
use Rattle.hosting.specs.declared.answer.Written.{Written}
use Rattle.hosting.specs.declared.item.Item.{Item}
use Rattle.hosting.specs.declared.item.Item.TheVariants.{Nothing, Tolerances, OldFile as OldItem, NewFile as NewItem, Exchange as Together, Pair, File, System, OldWords as OldWordsItem, NewWords as NewWordsItem}

-- the number that stands for an item in C
abbrev pub item_number : Item → ℕ
item_number Nothing = 0
item_number Tolerances = 1
item_number OldItem = 2
item_number NewItem = 3
item_number Together = 4
item_number Pair = 5
item_number File = 6
item_number System = 7
item_number OldWordsItem = 8
item_number NewWordsItem = 9

-- a refusal that is about an item
abbrev pub about : Item → ℕ → Refusal
about item number = record { number = number; item = item_number item; state = 0; new_state = 0; place = 0 }

-- no refusal
abbrev pub granted : Refusal
granted = about Nothing 0

-- the fault of a file: which number of which state's row, and why
abbrev pub file_refusal : Item → ReadFault → Refusal
file_refusal item fault = record { number = refusal fault.reason; item = item_number item; state = fault.state; new_state = 0; place = fault.place }

-- the refusal of a tolerance that is too wide, placed at its channel
abbrev pub wide_tolerance : ℕ → Refusal
wide_tolerance channel = record { number = tolerance_refusal TooWide; item = item_number Tolerances; state = 0; new_state = 0; place = channel }

-- the refusal of two files and what is lent with them
abbrev pub files_refusal : FilesFault → Refusal
files_refusal (Tolerance channel) = wide_tolerance channel
files_refusal (OldFile fault) = file_refusal OldItem fault
files_refusal (NewFile fault) = file_refusal NewItem fault
files_refusal (Exchange why) = about Together (refusal_number why)

-- the refusal of the words of two systems and what is lent with them
abbrev pub words_refusal : WordsFault → Refusal
words_refusal (WideTolerance channel) = wide_tolerance channel
words_refusal (OldWords fault) = about OldWordsItem (layout_refusal fault)
words_refusal (NewWords fault) = about NewWordsItem (layout_refusal fault)
words_refusal (Misfit why) = about Together (refusal_number why)

-- a pair out of order
abbrev pub pair_refusal : ℕ → ℕ × ℕ → Refusal
pair_refusal number pair = record { number = number; item = item_number Pair; state = pair.0; new_state = pair.1; place = 0 }

-- the fault of a table
abbrev pub table_refusal : CertificateFault → Refusal
table_refusal (Refused why) = about Together (refusal_number why)
table_refusal (Unfounded pair) = pair_refusal (fault_number (Unfounded pair)) pair
table_refusal (Loose pair) = pair_refusal (fault_number (Loose pair)) pair

-- the refusal of a certificate check
abbrev pub check_refusal : CheckFault → Refusal
check_refusal (Words fault) = words_refusal fault
check_refusal (Table fault) = table_refusal fault

-- what crosses to C of a read
abbrev pub read_of : Result SystemRead ReadFault → Read
read_of (Ok read) = record { refusal = granted; words = read.words; end = read.end }
read_of (Err fault) = record { refusal = file_refusal File fault; words = 0; end = 0 }

-- of a write
abbrev pub written_of : Result ℕ SystemWriteFault → Written
written_of (Ok count) = record { refusal = granted; bytes = count }
written_of (Err fault) = record { refusal = about System (system_write_refusal fault); bytes = 0 }

-- of a decision, whose faults are refused as is told
abbrev pub decision_of : {F : Type 0} → (F → Refusal) → Result Outcome F → Decision
decision_of as_refusal (Ok o) = record { refusal = granted; swept = o.swept; standing = o.standing; replaces = o.replaces }
decision_of as_refusal (Err fault) = record { refusal = as_refusal fault; swept = 0; standing = 0; replaces = false }

-- of a certificate check
abbrev pub certificate_of : Result Shown CheckFault → Certificate
certificate_of (Ok c) = record { refusal = granted; standing = c.standing; replaces = c.replaces }
certificate_of (Err fault) = record { refusal = check_refusal fault; standing = 0; replaces = false }

-- of a ranking, whose faults are refused as is told
abbrev pub ranks_of : {F : Type 0} → (F → Refusal) → Result ℕ F → Ranks
ranks_of as_refusal (Ok highest) = record { refusal = granted; highest = highest }
ranks_of as_refusal (Err fault) = record { refusal = as_refusal fault; highest = 0 }
