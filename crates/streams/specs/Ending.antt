-- How a program ends.
use Rattle.std.specs.Prelude.{ℕ, Ok, Err, Result}
use Rattle.streams.specs.declared.ending.Ending.{Ending}
use Rattle.streams.specs.declared.ending.Ending.TheVariants.{Told, Refused, NoMemory}
use Rattle.streams.specs.declared.failure.Failure.{Failure}

-- the status that the process ends with
abbrev pub status : Ending → ℕ
status Told = 0
status Refused = 1
status NoMemory = 1

-- the same, also where reading or writing fails
abbrev pub ended_status : Result Ending Failure → ℕ
ended_status (Ok ending) = status ending
ended_status (Err failure) = 1
