-- Answers of calls that may find a fault.
use Rattle.std.specs.Prelude.{◌≡◌, Some, None, Ok, Err, Option, Result}
use Rattle.report.specs.declared.fault.InputFault.{InputFault}

-- where there is no fault the answer is as said, and else it is the fault
abbrev pub UnlessFault : {X : Type 0} → Option InputFault → (X → Type 0) → Result X InputFault → Type 0
UnlessFault fault Is (Ok found) = (fault ≡ None) × Is found
UnlessFault fault Is (Err why) = fault ≡ Some why
