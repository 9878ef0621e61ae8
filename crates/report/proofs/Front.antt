-- The front of an input, which tells as much as all of it.
use Rattle.std.proofs.Common.{◌≡◌, ℕ, ◌<◌, List, length, take, Some, None, Option, inl, inr, refl, sym, ap, ◌∙◌, arith}
use Rattle.std.proofs.lemmas.Bool.{cases_lt, lt-ltb}
use Rattle.std.proofs.lemmas.List.{length-take-le, take_all}
use Rattle.report.specs.Fault.{fault_at}
use Rattle.report.specs.Input.{most_bytes}
use Rattle.report.specs.Output.{decided_lines, fault_of, lines_unless, output}
use Rattle.std.specs.Prelude.{IfSome}
use Rattle.streams.specs.declared.ending.Ending.TheVariants.{Told, Refused}
use Rattle.report.specs.Program.{Ends}
use Rattle.report.specs.Room.{most_read}
use Rattle.report.specs.declared.fault.InputFault.{InputFault}
use Rattle.report.specs.declared.fault.InputReason.TheVariants.{TooLong}

-- an input that is too long has that fault
too_long : (input : List ℕ) → most_bytes < length input → fault_of input ≡ Some (fault_at TooLong most_bytes)
too_long input long = rw (lt-ltb most_bytes (length input) long) refl

-- What the front of an input has in common with all of it.
pub record SameAs (front input : List ℕ) : Type 0 where
  pub fault : fault_of front ≡ fault_of input
  pub output : output front ≡ output input

of_long : (front input : List ℕ) → most_bytes < length front → most_bytes < length input → SameAs front input
of_long front input f i =
    let one = too_long front f in
    let other = too_long input i in
    record {
      fault = one ∙ sym other;
      output = ap (λ fault. lines_unless fault (decided_lines front)) one ∙ sym (ap (λ fault. lines_unless fault (decided_lines input)) other);
    }

-- the bytes that the program reads of an input
pub front_same : (front input : List ℕ) → front ≡ take most_read input → SameAs front input
front_same front input is = elim (cases_lt most_bytes (length input)) [
  | inl long ↦
      let longer : length (take most_read input) ≡ most_read = length-take-le most_read input (omega arith) in
      of_long front input (rw is (omega (arith, longer))) long
  | inr short ↦
      let same : front ≡ input = is ∙ take_all most_read input (omega arith) in
      rw same (record { fault = refl; output = refl })
]

module _ (front : List ℕ) (most : ℕ) (room : most ≡ most_read) where
  -- the lines of what was read are those of the whole input
  pub output_told : (known : Option (List ℕ)) → IfSome known (λ left. front ≡ take most left) → IfSome known (λ input. output front ≡ output input)
  output_told None came = tt
  output_told (Some input) came = (front_same front input (rw room at came)).output

  -- and so is how the program ends, where what was read has no fault
  pub ends_told : (known : Option (List ℕ)) → IfSome known (λ left. front ≡ take most left) → fault_of front ≡ None → IfSome known (λ input. Ends input Told)
  ends_told None came none = tt
  ends_told (Some input) came none = sym (front_same front input (rw room at came)).fault ∙ none

  -- and where it has one
  pub ends_refused : (known : Option (List ℕ)) (why : InputFault) → IfSome known (λ left. front ≡ take most left) → fault_of front ≡ Some why → IfSome known (λ input. Ends input Refused)
  ends_refused None why came some = tt
  ends_refused (Some input) why came some = rw (sym (front_same front input (rw room at came)).fault ∙ some) refl
