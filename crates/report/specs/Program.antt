-- What the program does that reads an input and prints what comes of it.
use Rattle.std.specs.Prelude.{◌≡◌, ℕ, ◌≤◌, List, length, None, Option, IfSome, IsSome}
use Rattle.std.specs.Io.KnownBytes.{Appends, Consumes, Keeps}
use Rattle.streams.specs.declared.ending.Ending.{Ending}
use Rattle.streams.specs.declared.ending.Ending.TheVariants.{Told, Refused, NoMemory}
use Rattle.report.specs.Lines.{no_memory_line}
use Rattle.report.specs.Output.{fault_of, output}

-- how the program ends for an input, where it has its memory
abbrev pub Ends : List ℕ → Ending → Type 0
Ends input Told = fault_of input ≡ None
Ends input Refused = IsSome (fault_of input)
Ends input NoMemory = ⊥

-- what is read is a front of known bytes, and no more of them than that many
abbrev pub ConsumesAtMost : ℕ → Option (List ℕ) → Option (List ℕ) → Type 0
ConsumesAtMost most before after = (front : List ℕ) × (length front ≤ most) × Consumes before after front

-- what is told of an input where the program ends so
abbrev pub TellsOf : List ℕ → List ℕ → Ending → Type 0
TellsOf input told Told = told ≡ output input
TellsOf input told Refused = told ≡ output input
TellsOf input told NoMemory = told ≡ no_memory_line

-- what is printed for an input is its output, and the program ends as it should
abbrev pub Printed : Option (List ℕ) → Option (List ℕ) → Ending → List ℕ → Type 0
Printed before after ending input = Appends before after (output input) × Ends input ending

-- a text that a program that asks for its memory first may tell of an input
abbrev pub MayTell : List ℕ → List ℕ → Type 0
MayTell input told = (ending : Ending) × TellsOf input told ending

-- what the program tells that asks for its memory first: where there is none it tells that, and has read nothing
abbrev pub Exchanged : Option (List ℕ) → Option (List ℕ) → Option (List ℕ) → Option (List ℕ) → Ending → Type 0
Exchanged unread left before after Told = IfSome unread (Printed before after Told)
Exchanged unread left before after Refused = IfSome unread (Printed before after Refused)
Exchanged unread left before after NoMemory = Keeps unread left × Appends before after no_memory_line
