-- A strike list: records, one behind the other. A record is a letter and its numbers, or a letter, a length and a text of so many bytes.
use Prim.Native.Char.{code}
use Rattle.std.specs.Prelude.{ℕ, ◌+◌, cond, ◌==◌, List, length, take, drop, Some, None, Ok, Err, Option, Result, nat_lt, slice_index, option_map}
use Rattle.std.specs.Result.{result_err}
use Rattle.codec.specs.Number.{number_refusal}
use Rattle.codec.specs.declared.number.NumberFault.TheVariants.{Ends}
use Rattle.systems.specs.Bounded.{or_else, first_below}
use Rattle.systems.specs.Refused.{unless}
use Rattle.codec.specs.Sequence.{number_at, value_at, after, skip, nth}
use Rattle.files.specs.declared.list_fault.ListReason.{ListReason}
use Rattle.files.specs.declared.list_fault.ListReason.TheVariants.{Letter, Number, TextTooLong}
use Rattle.files.specs.declared.list_fault.ListFault.{ListFault}
use Rattle.files.specs.declared.record.Text.{Text}
use Rattle.files.specs.declared.record.Record.{Record}
use Rattle.files.specs.declared.record.Record.TheVariants.{Sight, Move, Maker, Remark}

-- the number of the refusal
abbrev pub list_refusal : ListReason → ℕ
list_refusal Letter = 24
list_refusal (Number fault) = number_refusal fault
list_refusal TextTooLong = 25

-- what is refused, by why and where it begins
abbrev pub list_fault : ListReason → ℕ → ListFault
list_fault reason place = record { reason = reason; place = place }

-- the fault of the number at a place, if it cannot be read
abbrev pub unread : List ℕ → ℕ → Option ListFault
unread list place = option_map (λ why. list_fault (Number why) place) (result_err (number_at list place))

-- the first fault of so many numbers
abbrev pub numbers_fault : List ℕ → ℕ → ℕ → Option ListFault
numbers_fault list place count = first_below count λ k. unread list (skip list k place)

-- the pair at a place
abbrev pub pair_at : List ℕ → ℕ → ℕ × ℕ
pair_at list place = (value_at list place, nth list 1 place)

-- the text whose length stands at a place
abbrev pub text_at : List ℕ → ℕ → Text
text_at list place = record { place = after list place; bytes = take (value_at list place) (drop (after list place) list) }

-- the place behind the text
abbrev pub text_end : List ℕ → ℕ → ℕ
text_end list place = after list place + value_at list place

-- how many bytes a text may have
abbrev pub longest_text : ℕ
longest_text = 64

-- the fault of the text
abbrev pub text_fault : List ℕ → ℕ → Option ListFault
text_fault list place =
    or_else (unread list place)
    (or_else (cond (nat_lt longest_text (value_at list place)) (Some (list_fault TextTooLong place)) None)
    (cond (nat_lt (length list) (text_end list place)) (Some (list_fault (Number Ends) place)) None))

-- the record with the place behind it, none where the list has ended, or its fault
abbrev pub Answer : Type 0
Answer = Result (Option (Record × ℕ)) ListFault

-- a record of so many numbers that stand at a place
abbrev pub of_numbers : List ℕ → ℕ → ℕ → Record → Answer
of_numbers list place count read = unless (numbers_fault list place count) (Some (read, skip list count place))

-- a record of the text at a place
abbrev pub of_text : List ℕ → ℕ → (Text → Record) → Answer
of_text list place made = unless (text_fault list place) (Some (made (text_at list place), text_end list place))

-- the record with the letter at a place
abbrev pub of_letter : ℕ → List ℕ → ℕ → Answer
of_letter letter list place =
    let behind = place + 1 in
    cond (letter == code "S") (of_numbers list behind 2 (Sight (pair_at list behind)))
    (cond (letter == code "V") (of_numbers list behind 3 (Move (pair_at list behind) (nth list 2 behind)))
    (cond (letter == code "M") (of_text list behind Maker)
    (cond (letter == code "R") (of_text list behind Remark)
    (Err (list_fault Letter place)))))

-- the record at a place
abbrev pub record_at : List ℕ → ℕ → Answer
record_at list place = cond (nat_lt place (length list)) (of_letter (slice_index list place) list place) (Ok None)
