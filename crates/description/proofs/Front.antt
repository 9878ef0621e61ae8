-- The front of an input, of which as much is told as of all of it.
use Rattle.std.proofs.Common.{◌≡◌, ℕ, ◌<◌, List, length, take, Some, None, Option, inl, inr, refl, sym, ◌∙◌, arith}
use Rattle.std.proofs.lemmas.Bool.{cases_lt, lt-ltb}
use Rattle.std.proofs.lemmas.List.{length-take-le, take_all}
use Rattle.std.specs.Prelude.{IfErr, IfOk, IfSome, Ok, Err, Result}
use Rattle.streams.specs.declared.ending.Ending.{Ending}
use Rattle.streams.specs.declared.ending.Ending.TheVariants.{Told, Refused, NoMemory}
use Rattle.report.specs.Fault.{fault_at}
use Rattle.report.specs.Input.{input_fault, most_bytes}
use Rattle.report.specs.Room.{most_read}
use Rattle.report.specs.declared.fault.InputReason.TheVariants.{TooLong}
use Rattle.streams.proofs.Part.{part_alike}
use Rattle.streams.specs.Written.{ToldInPart}
use Rattle.streams.specs.declared.failure.Failure.{Failure}
use Rattle.description.specs.Program.{FilePrinted, InputPrinted, TellsInput, ToldOfFile, ToldOfInput}

-- an input that is too long has that fault
too_long : (input : List ℕ) → most_bytes < length input → input_fault input ≡ Some (fault_at TooLong most_bytes)
too_long input long = rw (lt-ltb most_bytes (length input) long) refl

-- of inputs that are too long the same is told
of_long : (front input told : List ℕ) (ending : Ending) → most_bytes < length front → most_bytes < length input → TellsInput front told ending → TellsInput input told ending
of_long front input told Told f i tells = let one = too_long front f in absurd cc
of_long front input told Refused f i tells = (tells.0, too_long input i ∙ sym (too_long front f) ∙ tells.1, tells.2)
of_long front input told NoMemory f i tells = let one = too_long front f in absurd cc

-- what is told of the bytes that the program reads of an input
told_of_all : (front input told : List ℕ) (ending : Ending) (most : ℕ) → most ≡ most_read → front ≡ take most input → TellsInput front told ending → TellsInput input told ending
told_of_all front input told ending most room came tells =
    let is : front ≡ take most_read input = rw room at came in
    elim (cases_lt most_bytes (length input)) [
      | inl long ↦
          let longer : length (take most_read input) ≡ most_read = length-take-le most_read input (omega arith) in
          of_long front input told ending (rw is (omega (arith, longer))) long tells
      | inr short ↦
          let same : front ≡ input = is ∙ take_all most_read input (omega arith) in
          rw same at tells
    ]

-- of bytes that are all that was left as much is printed as of these
file_left : (known before after : Option (List ℕ)) (ending : Ending) (bytes : List ℕ) → IfSome known (λ left. bytes ≡ left) → FilePrinted bytes before after ending → IfSome known (λ left. FilePrinted left before after ending)
file_left None before after ending bytes all printed = tt
file_left (Some left) before after ending bytes all printed = rw all at printed

-- of a front that was read as much is printed as of all that was left
input_left : (known before after : Option (List ℕ)) (ending : Ending) (front : List ℕ) (most : ℕ) → most ≡ most_read → IfSome known (λ left. front ≡ take most left) → InputPrinted front before after ending → IfSome known (λ input. InputPrinted input before after ending)
input_left None before after ending front most room came printed = tt
input_left (Some input) before after ending front most room came printed =
    (printed.0, printed.1, told_of_all front input printed.0 ending most room came printed.2)

module _ {E : Type 0} (known before after : Option (List ℕ)) where
  -- what is printed of the front of an input is printed of all of it
  pub input_of_left : (answer : Result Ending E) (front : List ℕ) (most : ℕ) → most ≡ most_read → IfSome known (λ left. front ≡ take most left) → IfOk answer (InputPrinted front before after) → IfOk answer (λ ending. IfSome known (λ input. InputPrinted input before after ending))
  input_of_left (Ok ending) front most room came printed = input_left known before after ending front most room came printed
  input_of_left (Err error) front most room came printed = tt

module _ (before after : Option (List ℕ)) where
  file_part : (known : Option (List ℕ)) (failure : Failure) (bytes : List ℕ) → IfSome known (λ left. bytes ≡ left) → ToldInPart (ToldOfFile bytes) before after failure → IfSome known (λ left. ToldInPart (ToldOfFile left) before after failure)
  file_part None failure bytes all part = tt
  file_part (Some left) failure bytes all part = rw all at part

  input_part : (known : Option (List ℕ)) (failure : Failure) (front : List ℕ) (most : ℕ) → most ≡ most_read → IfSome known (λ left. front ≡ take most left) → ToldInPart (ToldOfInput front) before after failure → IfSome known (λ input. ToldInPart (ToldOfInput input) before after failure)
  input_part None failure front most room came part = tt
  input_part (Some input) failure front most room came part =
      part_alike before after (ToldOfInput front) (ToldOfInput input) failure (λ told is. (is.0, told_of_all front input told is.0 most room came is.1)) part

  module _ (known : Option (List ℕ)) where
    -- what is printed of bytes that were read to the end is printed of those that were left
    pub file_of_left : (answer : Result Ending Failure) (bytes : List ℕ) → IfSome known (λ left. bytes ≡ left) → IfOk answer (FilePrinted bytes before after) → IfOk answer (λ ending. IfSome known (λ left. FilePrinted left before after ending))
    file_of_left (Ok ending) bytes all printed = file_left known before after ending bytes all printed
    file_of_left (Err error) bytes all printed = tt

    -- what is written of bytes that were read to the end, where writing fails
    pub file_part_of_left : (answer : Result Ending Failure) (bytes : List ℕ) → IfSome known (λ left. bytes ≡ left) → IfErr answer (ToldInPart (ToldOfFile bytes) before after) → IfErr answer (λ failure. IfSome known (λ left. ToldInPart (ToldOfFile left) before after failure))
    file_part_of_left (Ok ending) bytes all part = tt
    file_part_of_left (Err failure) bytes all part = file_part known failure bytes all part

    -- and of the front of an input
    pub input_part_of_left : (answer : Result Ending Failure) (front : List ℕ) (most : ℕ) → most ≡ most_read → IfSome known (λ left. front ≡ take most left) → IfErr answer (ToldInPart (ToldOfInput front) before after) → IfErr answer (λ failure. IfSome known (λ input. ToldInPart (ToldOfInput input) before after failure))
    input_part_of_left (Ok ending) front most room came part = tt
    input_part_of_left (Err failure) front most room came part = input_part known failure front most room came part
