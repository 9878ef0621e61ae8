-- What is written in part.
use Rattle.std.proofs.Common.{ℕ, List, Option}
use Rattle.std.specs.Prelude.{IfErr, Ok, Err, Result}
use Rattle.streams.specs.Written.{AppendsFront, ToldInPart}
use Rattle.streams.specs.declared.ending.Ending.{Ending}
use Rattle.streams.specs.declared.failure.Failure.{Failure}
use Rattle.streams.specs.declared.failure.Failure.TheVariants.{Input, Output}

module _ (before after : Option (List ℕ)) where
  -- of a text that may be told a front is written
  pub part_of : (IsTold : List ℕ → Type 0) (text : List ℕ) (failure : Failure) → IsTold text → AppendsFront before after text → ToldInPart IsTold before after failure
  part_of IsTold text (Input error) is front = tt
  part_of IsTold text (Output error) is front = (text, is, front)

  pub part_told : (IsTold : List ℕ → Type 0) (text : List ℕ) (answer : Result Ending Failure) → IsTold text → IfErr answer (λ _. AppendsFront before after text) → IfErr answer (ToldInPart IsTold before after)
  part_told IsTold text (Ok ending) is front = tt
  part_told IsTold text (Err failure) is front = part_of IsTold text failure is front

  -- what may be told of one may be told of another
  pub part_alike : (IsTold IsToo : List ℕ → Type 0) (failure : Failure) → ((told : List ℕ) → IsTold told → IsToo told) → ToldInPart IsTold before after failure → ToldInPart IsToo before after failure
  part_alike IsTold IsToo (Input error) alike part = tt
  part_alike IsTold IsToo (Output error) alike part = (part.0, alike part.0 part.1, part.2)
