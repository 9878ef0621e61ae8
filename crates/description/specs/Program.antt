-- What is printed of what a file describes, or an input holds.
use Rattle.std.specs.Prelude.{◌≡◌, ℕ, List, Some, None, Option}
use Rattle.std.specs.Io.KnownBytes.{Appends}
use Rattle.streams.specs.declared.ending.Ending.{Ending}
use Rattle.streams.specs.declared.ending.Ending.TheVariants.{Told, Refused, NoMemory}
use Rattle.files.specs.SystemFile.{file_fault}
use Rattle.report.specs.Input.{input_fault}
use Rattle.report.specs.Lines.{fault_line, no_memory_line}
use Rattle.description.specs.File.{description, most_words}
use Rattle.description.specs.Input.{input_text}
use Rattle.description.specs.Refusal.{file_fault_line}

-- what is told, and how the program ends with it: a text where there is no fault, else the line of the fault; want of memory only where there is none
abbrev pub Tells : {F : Type 0} → Option F → List ℕ → (F → List ℕ) → List ℕ → Ending → Type 0
Tells fault text line told Told = (fault ≡ None) × (told ≡ text)
Tells {F} fault text line told Refused = (why : F) × (fault ≡ Some why) × (told ≡ line why)
Tells fault text line told NoMemory = (fault ≡ None) × (told ≡ no_memory_line)

-- what is told of a file
abbrev pub TellsFile : List ℕ → List ℕ → Ending → Type 0
TellsFile bytes told ending = Tells (file_fault bytes 0 most_words) (description bytes) file_fault_line told ending

-- what is told of an input
abbrev pub TellsInput : List ℕ → List ℕ → Ending → Type 0
TellsInput input told ending = Tells (input_fault input) (input_text input) fault_line told ending

-- what is written of a file
abbrev pub FilePrinted : List ℕ → Option (List ℕ) → Option (List ℕ) → Ending → Type 0
FilePrinted bytes before after ending = (told : List ℕ) × Appends before after told × TellsFile bytes told ending

-- what is written of an input
abbrev pub InputPrinted : List ℕ → Option (List ℕ) → Option (List ℕ) → Ending → Type 0
InputPrinted input before after ending = (told : List ℕ) × Appends before after told × TellsInput input told ending

-- a text that may be told of a file
abbrev pub ToldOfFile : List ℕ → List ℕ → Type 0
ToldOfFile bytes told = (ending : Ending) × TellsFile bytes told ending

-- a text that may be told of an input
abbrev pub ToldOfInput : List ℕ → List ℕ → Type 0
ToldOfInput input told = (ending : Ending) × TellsInput input told ending
