-- A system file: n states of c channels, and then each state's row: its readings, the moves of either side, p and q,
-- and a next state for each pair of moves, the environment's move fastest.
use Rattle.std.specs.Prelude.{ℕ, zero, suc, ◌+◌, ◌-◌, ◌*◌, ◌≤◌, cond, List, Some, None, Ok, Err, Option, Result, nat_lt}
use Rattle.codec.specs.Filing.{unfiled}
use Rattle.codec.specs.declared.number.NumberFault.{NumberFault}
use Rattle.systems.specs.Bounded.{between, first_below, or_else}
use Rattle.systems.specs.Layout.{words_taken}
use Rattle.systems.specs.Limits.{max_channels, max_moves, max_states}
use Rattle.systems.specs.Meaning.{Meaning}
use Rattle.systems.specs.Rows.{RowMeaning, of_rows}
use Rattle.codec.specs.Sequence.{number_at, value_at, after, skip, nth}
use Rattle.files.specs.declared.check.Allowed.{Allowed}
use Rattle.files.specs.declared.check.TestedFile.{TestedFile}
use Rattle.files.specs.declared.fault.Reason.{Reason}
use Rattle.files.specs.declared.fault.Reason.TheVariants.{Number, States, Channels, TooShort, Moves, NextState}
use Rattle.files.specs.declared.fault.ReadFault.{ReadFault}
use Rattle.files.specs.declared.system_read.SystemRead.{SystemRead}

-- what the number of states may be, and why another is refused
abbrev pub states_allowed : Allowed
states_allowed = record { least = 1; most = max_states; otherwise = States }

-- what the number of channels may be
abbrev pub channels_allowed : Allowed
channels_allowed = record { least = 1; most = max_channels; otherwise = Channels }

-- what a number of moves may be
abbrev pub moves_allowed : Allowed
moves_allowed = record { least = 1; most = max_moves; otherwise = Moves }

-- what a next state may be, where there are n states
abbrev pub next_allowed : ℕ → Allowed
next_allowed n = record { least = 0; most = n - 1; otherwise = NextState }

-- a number that is refused, by why, where it begins and in which row it is
abbrev pub fault : Reason → ℕ → ℕ → ReadFault
fault reason place w = record { reason = reason; place = place; state = w }

-- the fault of an answer of number_at, if it is one
abbrev pub unread_by : ℕ → ℕ → Result (ℕ × ℕ) NumberFault → Option ReadFault
unread_by place w (Ok found) = None
unread_by place w (Err why) = Some (fault (Number why) place w)

-- the fault of the number at a place in the row of state w, if it cannot be read
abbrev pub unread : List ℕ → ℕ → ℕ → Option ReadFault
unread bytes place w = unread_by place w (number_at bytes place)

-- the fault of the number at a place, if it cannot be read or is not allowed
abbrev pub refused : List ℕ → ℕ → ℕ → Allowed → Option ReadFault
refused bytes place w allowed =
    or_else (unread bytes place w)
    (cond (between allowed.least allowed.most (value_at bytes place)) None (Some (fault allowed.otherwise place w)))

-- a row of c channels that begins at start has the readings, p, q and the next states; this is where p begins
abbrev pub controller_place : List ℕ → ℕ → ℕ → ℕ
controller_place bytes c start = skip bytes c start

-- where q begins
abbrev pub environment_place : List ℕ → ℕ → ℕ → ℕ
environment_place bytes c start = after bytes (controller_place bytes c start)

-- where the next states begin
abbrev pub next_place : List ℕ → ℕ → ℕ → ℕ
next_place bytes c start = after bytes (environment_place bytes c start)

-- how many next states there are
abbrev pub next_numbers : List ℕ → ℕ → ℕ → ℕ
next_numbers bytes c start = value_at bytes (controller_place bytes c start) * value_at bytes (environment_place bytes c start)

-- the place behind the row
abbrev pub row_end : List ℕ → ℕ → ℕ → ℕ
row_end bytes c start = skip bytes (next_numbers bytes c start) (next_place bytes c start)

-- what the row holds
abbrev pub file_row : List ℕ → ℕ → ℕ → RowMeaning
file_row bytes c start =
    let q = value_at bytes (environment_place bytes c start) in
    record {
      reading = λ k. unfiled (nth bytes k start);
      controller_moves = value_at bytes (controller_place bytes c start);
      environment_moves = q;
      next = λ a b. nth bytes (a * q + b) (next_place bytes c start);
    }

-- each side has no more moves in the row than a stored system may have
abbrev pub FewMoves : List ℕ → ℕ → ℕ → Type 0
FewMoves bytes c start =
    (value_at bytes (controller_place bytes c start) ≤ max_moves) × (value_at bytes (environment_place bytes c start) ≤ max_moves)

-- the first fault of so many readings
abbrev pub readings_fault : List ℕ → ℕ → ℕ → ℕ → Option ReadFault
readings_fault bytes w start count = first_below count λ j. unread bytes (skip bytes j start) w

-- the first fault of so many next states
abbrev pub next_fault : List ℕ → ℕ → ℕ → ℕ → ℕ → Option ReadFault
next_fault bytes n w start count = first_below count λ j. refused bytes (skip bytes j start) w (next_allowed n)

-- the first fault of the row of state w
abbrev pub row_fault : List ℕ → ℕ → ℕ → ℕ → ℕ → Option ReadFault
row_fault bytes n c w start =
    or_else (readings_fault bytes w start c)
    (or_else (refused bytes (controller_place bytes c start) w moves_allowed)
    (or_else (refused bytes (environment_place bytes c start) w moves_allowed)
    (next_fault bytes n w (next_place bytes c start) (next_numbers bytes c start))))

-- where the row of state w begins, if that of state 0 begins at start
abbrev pub row_start : List ℕ → ℕ → ℕ → ℕ → ℕ
row_start bytes c start zero = start
row_start bytes c start (suc w) = row_end bytes c (row_start bytes c start w)

-- what the row of state w holds
abbrev pub file_rows : List ℕ → ℕ → ℕ → ℕ → RowMeaning
file_rows bytes c start w = file_row bytes c (row_start bytes c start w)

-- the first fault of the rows
abbrev pub rows_fault : List ℕ → ℕ → ℕ → ℕ → Option ReadFault
rows_fault bytes n c start = first_below n λ w. row_fault bytes n c w (row_start bytes c start w)

-- a file that begins at a place has n, c and the rows; this is n
abbrev pub states_at : List ℕ → ℕ → ℕ
states_at bytes place = value_at bytes place

-- where c begins
abbrev pub channels_place : List ℕ → ℕ → ℕ
channels_place bytes place = after bytes place

-- the number of channels, c
abbrev pub channels_at : List ℕ → ℕ → ℕ
channels_at bytes place = value_at bytes (channels_place bytes place)

-- where the rows begin
abbrev pub rows_place : List ℕ → ℕ → ℕ
rows_place bytes place = after bytes (channels_place bytes place)

-- where the row of state w begins
abbrev pub row_at : List ℕ → ℕ → ℕ → ℕ
row_at bytes place w = row_start bytes (channels_at bytes place) (rows_place bytes place) w

-- how many words the system of a file takes
abbrev pub file_words : List ℕ → ℕ → ℕ
file_words bytes place = words_taken (states_at bytes place) (channels_at bytes place)

-- the fault of a file for whose system there are too few words, by where c begins
abbrev pub too_short : ℕ → ReadFault
too_short place = fault TooShort place 0

-- the first fault of a file; room is how many words there are for its system
abbrev pub file_fault : List ℕ → ℕ → ℕ → Option ReadFault
file_fault bytes place room =
    or_else (refused bytes place 0 states_allowed)
    (or_else (refused bytes (channels_place bytes place) 0 channels_allowed)
    (or_else (cond (nat_lt room (file_words bytes place)) (Some (too_short (channels_place bytes place))) None)
    (rows_fault bytes (states_at bytes place) (channels_at bytes place) (rows_place bytes place))))

-- the parts of a file that has no fault
abbrev pub file_parts : List ℕ → ℕ → TestedFile
file_parts bytes place = record {
  sizes = record { states = states_at bytes place; channels = channels_at bytes place };
  channels = channels_place bytes place;
  words = file_words bytes place;
  start = rows_place bytes place;
  end = row_at bytes place (states_at bytes place);
}

-- what a granted read answers: how many words it wrote, and the place behind the file
abbrev pub file_read : List ℕ → ℕ → SystemRead
file_read bytes place = record { words = (file_parts bytes place).words; end = (file_parts bytes place).end }

-- the system that a file describes
unfoldable pub described : List ℕ → ℕ → Meaning
described bytes place =
    let c = channels_at bytes place in
    of_rows (states_at bytes place) c (file_rows bytes c (rows_place bytes place))
