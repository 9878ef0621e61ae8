-- Answers of calls that may find a fault.
use Rattle.std.specs.Prelude.{◌≡◌, Some, None, Ok, Err, Option, Result}

-- the answer is the fault if there is one, else the value; said case by case
abbrev pub Unless : {X F : Type 0} → Option F → X → Result X F → Type 0
Unless fault value (Ok found) = (fault ≡ None) × (found ≡ value)
Unless fault value (Err why) = fault ≡ Some why
