-- What is written where there is no memory, and writing fails.
use Rattle.std.proofs.Common.{ℕ, List, Some, None, Option, refl}
use Rattle.std.specs.Prelude.{IfErr, IfSome, Ok, Err, Result}
use Rattle.streams.proofs.Part.{part_of}
use Rattle.streams.specs.Written.{AppendsFront, ToldInPart}
use Rattle.streams.specs.declared.ending.Ending.{Ending}
use Rattle.streams.specs.declared.ending.Ending.TheVariants.{NoMemory}
use Rattle.streams.specs.declared.failure.Failure.{Failure}
use Rattle.report.specs.Lines.{no_memory_line}
use Rattle.report.specs.Program.{MayTell}

module _ (known before after : Option (List ℕ)) where
  line_part : (known : Option (List ℕ)) (failure : Failure) → AppendsFront before after no_memory_line → IfSome known (λ input. ToldInPart (MayTell input) before after failure)
  line_part None failure front = tt
  line_part (Some input) failure front = part_of before after (MayTell input) no_memory_line failure (NoMemory, refl) front

  -- a front of the line that there is no memory is a front of what may be told
  pub line_in_part : (answer : Result Ending Failure) → IfErr answer (λ _. AppendsFront before after no_memory_line) → IfErr answer (λ failure. IfSome known (λ input. ToldInPart (MayTell input) before after failure))
  line_in_part (Ok ending) front = tt
  line_in_part (Err failure) front = line_part known failure front
