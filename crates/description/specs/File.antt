-- What a system file describes, as text.
use Rattle.std.specs.Prelude.{◌≡◌, ℕ, List, ◌++◌, length, Some, None, Ok, Err, string_bytes, codes, decimal, Result, String}
use Rattle.std.specs.declared.alloc.Global.{Global}
use Rattle.systems.specs.Layout.{words_taken}
use Rattle.systems.specs.Limits.{max_channels, max_states}
use Rattle.systems.specs.Meaning.{Meaning}
use Rattle.files.specs.SystemFile.{described, file_fault, file_read}
use Rattle.description.specs.Text.{system_text}
use Rattle.description.specs.declared.file.DescribeError.{DescribeError}
use Rattle.description.specs.declared.file.DescribeError.TheVariants.{Refused, NoMemory}

-- `read E of N bytes`, and then the system
abbrev pub file_text : ℕ → ℕ → Meaning → List ℕ
file_text end given m =
    codes "read " ++ (decimal end ++ (codes " of " ++ (decimal given ++ (codes " bytes\n" ++ system_text m))))

-- the description of the system file at the front of the bytes
abbrev pub description : List ℕ → List ℕ
description bytes = file_text (file_read bytes 0).end (length bytes) (described bytes 0)

-- how many words the largest stored system takes
abbrev pub most_words : ℕ
most_words = words_taken max_states max_channels

-- the answer: the description where the file has no fault, else its first fault
abbrev pub Describes : List ℕ → Result (String Global) DescribeError → Type 0
Describes bytes (Ok text) = (file_fault bytes 0 most_words ≡ None) × (string_bytes text ≡ description bytes)
Describes bytes (Err (Refused fault)) = file_fault bytes 0 most_words ≡ Some fault
Describes bytes (Err NoMemory) = Unit {0}
