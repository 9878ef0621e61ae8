-- What an input of an exchange holds, as text for a person.
use Prim.Native.Char.{code}
use Rattle.std.specs.Prelude.{◌≡◌, ℕ, ◌/◌, ◌%◌, Bool, false, not, ◌&&◌, ◌==◌, cond, List, [], ◌∷◌, ◌++◌, Some, None, Ok, Err, Result, String, codes, decimal, nat_le, string_bytes}
use Rattle.std.specs.Fmt.{digit_glyph}
use Rattle.std.specs.List.{flat_map}
use Rattle.std.specs.declared.alloc.Global.{Global}
use Rattle.systems.specs.Meaning.{Meaning}
use Rattle.files.specs.declared.record.Text.{Text}
use Rattle.files.specs.declared.record.Record.{Record}
use Rattle.files.specs.declared.record.Record.TheVariants.{Sight, Move, Maker, Remark}
use Rattle.report.specs.Input.{input_fault, list_place, listed, new_system, old_system, tolerance}
use Rattle.description.specs.Text.{count_line, system_text}
use Rattle.description.specs.declared.input.DescribeInputError.{DescribeInputError}
use Rattle.description.specs.declared.input.DescribeInputError.TheVariants.{Refused, NoMemory}

-- whether a byte of a text is printed as it is: a printable ASCII character other than `\`
abbrev pub is_plain : ℕ → Bool
is_plain byte = (nat_le (code " ") byte && nat_le byte (code "~")) && not (byte == code "\\")

-- `\x` and two hexadecimal digits
abbrev pub hexadecimal : ℕ → List ℕ
hexadecimal byte = codes "\\x" ++ (digit_glyph false (byte / 16) ∷ digit_glyph false (byte % 16) ∷ [])

-- a byte of a text
abbrev pub byte_text : ℕ → List ℕ
byte_text byte = cond (is_plain byte) (byte ∷ []) (hexadecimal byte)

-- the bytes of a text
abbrev pub readable : List ℕ → List ℕ
readable bytes = flat_map byte_text bytes

-- ` at W V`, a pair of states, and the end of the line
abbrev pub pair_text : ℕ × ℕ → List ℕ
pair_text pair = codes " at " ++ (decimal pair.0 ++ (codes " " ++ (decimal pair.1 ++ codes "\n")))

-- `NAME at byte P: TEXT`
abbrev pub text_line : List ℕ → Text → List ℕ
text_line name text = name ++ (codes " at byte " ++ (decimal text.place ++ (codes ": " ++ (readable text.bytes ++ codes "\n"))))

-- the line of a record: `sight at W V`, `move A at W V`, or that of a text
abbrev pub record_line : Record → List ℕ
record_line (Sight pair) = codes "sight" ++ pair_text pair
record_line (Move pair a) = codes "move " ++ (decimal a ++ pair_text pair)
record_line (Maker text) = text_line (codes "maker") text
record_line (Remark text) = text_line (codes "remark") text

-- a line for each record of the list that begins at a place, up to the first that is refused
abbrev pub records_text : List ℕ → ℕ → List ℕ
records_text input place = flat_map record_line (listed input place).records

-- the text of a tolerance, two systems and lines of records
unfoldable pub parts_text : ℕ → Meaning → Meaning → List ℕ → List ℕ
parts_text tolerance old new records =
    count_line (codes "tolerance") tolerance
    ++ ((codes "old system\n" ++ system_text old)
    ++ ((codes "new system\n" ++ system_text new)
    ++ (codes "list\n" ++ records)))

-- the text of a whole input
abbrev pub input_text : List ℕ → List ℕ
input_text input = parts_text (tolerance input) (old_system input) (new_system input) (records_text input (list_place input))

-- the answer: the text where the input has no fault, else its first fault
abbrev pub DescribesInput : List ℕ → Result (String Global) DescribeInputError → Type 0
DescribesInput input (Ok text) = (input_fault input ≡ None) × (string_bytes text ≡ input_text input)
DescribesInput input (Err (Refused fault)) = input_fault input ≡ Some fault
DescribesInput input (Err NoMemory) = Unit {0}
