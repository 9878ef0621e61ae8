-- What was written where a program fails.
use Rattle.std.specs.Prelude.{ℕ, List, Option, take}
use Rattle.std.specs.Io.KnownBytes.{Appends, Keeps}
use Rattle.streams.specs.declared.failure.Failure.{Failure}
use Rattle.streams.specs.declared.failure.Failure.TheVariants.{Input, Output}

-- known bytes grow by a front of others
abbrev pub AppendsFront : Option (List ℕ) → Option (List ℕ) → List ℕ → Type 0
AppendsFront before after bytes = (count : ℕ) × Appends before after (take count bytes)

-- nothing is written where reading fails
abbrev pub Spared : Option (List ℕ) → Option (List ℕ) → Failure → Type 0
Spared before after (Input error) = Keeps before after
Spared before after (Output error) = Unit {0}

-- where writing fails, a front of what was to be told is written
abbrev pub ToldInPart : (List ℕ → Type 0) → Option (List ℕ) → Option (List ℕ) → Failure → Type 0
ToldInPart IsTold before after (Input error) = Unit {0}
ToldInPart IsTold before after (Output error) = (told : List ℕ) × IsTold told × AppendsFront before after told

-- it is writing that fails
abbrev pub IsOutput : Failure → Type 0
IsOutput (Input error) = ⊥
IsOutput (Output error) = Unit {0}
