-- What an input holds: a tolerance, the file of the old system, that of the new one, and a list of strikes to its end.
use Rattle.std.specs.Prelude.{◌≡◌, ℕ, zero, suc, ◌≤◌, cond, List, [], ◌∷◌, length, replicate, Some, None, Ok, Err, Option, Result, nat_lt, option_map}
use Rattle.std.specs.List.{filter_map}
use Rattle.std.specs.Result.{result_err}
use Rattle.systems.specs.Bounded.{or_else}
use Rattle.systems.specs.Layout.{words_taken}
use Rattle.systems.specs.Limits.{max_channels}
use Rattle.systems.specs.Meaning.{Meaning}
use Rattle.arena.specs.declared.cause.Cause.TheVariants.{Sight, Move}
use Rattle.docket.specs.declared.strike.Strike.{Strike}
use Rattle.codec.specs.Sequence.{number_at, value_at, after}
use Rattle.files.specs.StrikeList.{record_at}
use Rattle.files.specs.SystemFile.{described, file_fault, file_read, file_words}
use Rattle.files.specs.declared.list_fault.ListFault.{ListFault}
use Rattle.files.specs.declared.system_file.SystemFile.{SystemFile}
use Rattle.files.specs.declared.record.Record.{Record}
use Rattle.files.specs.declared.record.Record.TheVariants.{Sight as SightRecord, Move as MoveRecord, Maker, Remark}
use Rattle.likeness.specs.Within.{max_tolerance, tolerance_channels}
use Rattle.report.specs.Fault.{fault_at, of_list, of_system}
use Rattle.report.specs.declared.fault.InputFault.{InputFault}
use Rattle.report.specs.declared.fault.InputReason.TheVariants.{TooLong, Tolerance, TooWide}
use Rattle.report.specs.declared.input.Input.{Input}

-- how many bytes an input may have
abbrev pub most_bytes : ℕ
most_bytes = 32768

-- how many states of the most channels there is room for in each system
abbrev pub room_states : ℕ
room_states = 64

-- how many words there are for each system: enough for so many states
abbrev pub system_room : ℕ
system_room = words_taken room_states max_channels

-- the tolerance, which comes first
abbrev pub tolerance : List ℕ → ℕ
tolerance input = value_at input 0

-- where the file of the old system begins
abbrev pub old_place : List ℕ → ℕ
old_place input = after input 0

-- where the file of the new system begins
abbrev pub new_place : List ℕ → ℕ
new_place input = (file_read input (old_place input)).end

-- where the list begins
abbrev pub list_place : List ℕ → ℕ
list_place input = (file_read input (new_place input)).end

-- the old system
abbrev pub old_system : List ℕ → Meaning
old_system input = described input (old_place input)

-- the new system
abbrev pub new_system : List ℕ → Meaning
new_system input = described input (new_place input)

-- the strike that a record proposes, if it is none of a maker and no remark
abbrev pub strike_of : Record → Option Strike
strike_of (SightRecord pair) = Some (record { pair = pair; cause = Sight })
strike_of (MoveRecord pair a) = Some (record { pair = pair; cause = Move a })
strike_of (Maker text) = None
strike_of (Remark text) = None

-- What a list holds: its records up to the first fault, and that fault.
pub record Listed : Type 0 where
  pub records : List Record
  pub fault : Option ListFault

-- a list that ends here, with a fault or without
abbrev pub ends_with : Option ListFault → Listed
ends_with fault = record { records = []; fault = fault }

-- a record in front of what the list behind it holds
abbrev pub in_front : Record → Listed → Listed
in_front item behind = record { records = item ∷ behind.records; fault = behind.fault }

-- what an answer of record_at and the list behind it hold
abbrev pub and_behind : (ℕ → Listed) → Result (Option (Record × ℕ)) ListFault → Listed
and_behind behind (Ok None) = ends_with None
and_behind behind (Ok (Some read)) = in_front read.0 (behind read.1)
and_behind behind (Err fault) = ends_with (Some fault)

-- what a list holds from a place on, at most so many records
abbrev pub listed_from : ℕ → List ℕ → ℕ → Listed
listed_from zero input place = ends_with None
listed_from (suc most) input place = and_behind (listed_from most input) (record_at input place)

-- what the list that begins at a place holds; no record is without a byte, so that there are no more records than bytes
unfoldable pub listed : List ℕ → ℕ → Listed
listed input place = listed_from (length input) input place

-- the strikes that the list at a place proposes
abbrev pub proposed : List ℕ → ℕ → List Strike
proposed input place = filter_map strike_of (listed input place).records

-- the strikes that are proposed, up to the first fault of the list
abbrev pub strikes : List ℕ → List Strike
strikes input = proposed input (list_place input)

-- the fault of an input that is too long
abbrev pub length_fault : List ℕ → Option InputFault
length_fault input = cond (nat_lt most_bytes (length input)) (Some (fault_at TooLong most_bytes)) None

-- the fault of the tolerance
abbrev pub tolerance_fault : List ℕ → Option InputFault
tolerance_fault input =
    or_else (option_map (λ why. fault_at (Tolerance why) 0) (result_err (number_at input 0)))
    (cond (nat_lt max_tolerance (tolerance input)) (Some (fault_at TooWide 0)) None)

-- the first fault of the system file at a place
abbrev pub system_fault : List ℕ → ℕ → Option InputFault
system_fault input place = option_map of_system (file_fault input place system_room)

-- the first fault of the list at a place
abbrev pub list_fault : List ℕ → ℕ → Option InputFault
list_fault input place = option_map of_list (listed input place).fault

-- the first fault of an input
abbrev pub input_fault : List ℕ → Option InputFault
input_fault input =
    or_else (length_fault input)
    (or_else (tolerance_fault input)
    (or_else (system_fault input (old_place input))
    (or_else (system_fault input (new_place input))
    (list_fault input (list_place input)))))

-- A file that was tested: the one that starts at a place of the input, whose system fits the words that there are for it.
pub record IsFile (input : List ℕ) (start : ℕ) (file : SystemFile) : Type 0 where
  pub bytes : file.bytes.now ≡ input
  pub place : file.place ≡ start
  pub fits : file_words input start ≤ system_room

-- What was read of an input.
pub record IsRead (input : List ℕ) (read : Input) : Type 0 where
  pub bytes : read.bytes.now ≡ input
  pub short : length input ≤ most_bytes
  pub tolerances : read.likeness.tolerances ≡ replicate tolerance_channels (tolerance input)
  pub old : IsFile input (old_place input) read.old
  pub new : IsFile input (new_place input) read.new
  pub list_place : read.list_place ≡ list_place input
