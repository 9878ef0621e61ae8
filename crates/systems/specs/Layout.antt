-- How a stored system lies in 16-bit words: n, c, and a row for each state.
-- A row is a word for each reading, then p, q, and a word for the next state of each pair of moves, by the places below.
use Rattle.std.specs.Prelude.{◌≡◌, ℕ, ◌+◌, ◌*◌, ◌<◌, ◌≤◌, Bool, cond, not, ◌&&◌, List, ◌∷◌, length, replicate, pos, ◌+ℤ◌, ◌-ℤ◌, is_ok, Some, None, Err, Option, Result, nat_lt, slice_index, unsigned_abs}
use Rattle.std.specs.declared.ops.Range.{Range}
use Rattle.systems.specs.Bounded.{all_below, between, first_below}
use Rattle.systems.specs.Limits.{max_channels, max_move_pairs, max_moves, max_states}
use Rattle.systems.specs.Meaning.{Meaning, Reading}
use Rattle.systems.specs.Refused.{unless}
use Rattle.systems.specs.Rows.{RowMeaning, of_rows}
use Rattle.systems.specs.declared.layout.LayoutFault.{LayoutFault}
use Rattle.systems.specs.declared.layout.LayoutFault.TheVariants.{States, Channels, TooShort, Moves, NextState}

-- how many words the numbers of moves take in a row, behind the readings
abbrev pub count_words : ℕ
count_words = 2

-- how many words the row of a state takes, for c channels
abbrev pub row_words : ℕ → ℕ
row_words c = c + (count_words + max_move_pairs)

-- where the reading of channel k stands in a row
abbrev pub reading_offset : ℕ → ℕ
reading_offset k = k

-- where the number of the controller's moves stands in a row, for c channels
abbrev pub controller_offset : ℕ → ℕ
controller_offset c = c

-- where the number of the environment's moves stands
abbrev pub environment_offset : ℕ → ℕ
environment_offset c = c + 1

-- where the next state of moves a and b stands
abbrev pub next_offset : ℕ → ℕ → ℕ → ℕ
next_offset c a b = c + count_words + (a * max_moves + b)

-- how many words lie before the rows: the numbers of states and of channels
abbrev pub header_words : ℕ
header_words = 2

-- where the row of state w begins
abbrev pub row_place : ℕ → ℕ → ℕ
row_place c w = header_words + w * row_words c

-- how many words n states of c channels take: as many as lie before a row for state n
abbrev pub words_taken : ℕ → ℕ → ℕ
words_taken n c = row_place c n

-- from where the row of state w begins to where it ends
abbrev pub row_range : ℕ → ℕ → Range ℕ
row_range c w = record { start = row_place c w; end = row_place c w + row_words c }

-- what is added to a reading that is stored
abbrev pub reading_bias : ℕ
reading_bias = 32768

-- the word that holds a reading
abbrev pub biased : Reading → ℕ
biased reading = unsigned_abs (reading +ℤ pos reading_bias)

-- the reading that a word holds
abbrev pub unbiased : ℕ → Reading
unbiased word = pos word -ℤ pos reading_bias

-- where the number of states stands
abbrev pub states_offset : ℕ
states_offset = 0

-- where the number of channels stands
abbrev pub channels_offset : ℕ
channels_offset = 1

-- how many states there are
abbrev pub state_count : List ℕ → ℕ
state_count words = slice_index words states_offset

-- how many channels there are
abbrev pub channel_count : List ℕ → ℕ
channel_count words = slice_index words channels_offset

-- the word at an offset in the row of state w
abbrev pub row_word : List ℕ → ℕ → ℕ → ℕ
row_word words w offset = slice_index words (row_place (channel_count words) w + offset)

-- the word of the reading of channel k at state w
abbrev pub reading_word : List ℕ → ℕ → ℕ → ℕ
reading_word words w k = row_word words w (reading_offset k)

-- how many moves the controller has at state w
abbrev pub controller_word : List ℕ → ℕ → ℕ
controller_word words w = row_word words w (controller_offset (channel_count words))

-- how many moves the environment has at state w
abbrev pub environment_word : List ℕ → ℕ → ℕ
environment_word words w = row_word words w (environment_offset (channel_count words))

-- the next state of moves a and b at state w
abbrev pub next_word : List ℕ → ℕ → ℕ → ℕ → ℕ
next_word words w a b = row_word words w (next_offset (channel_count words) a b)

-- the words reach to the end of the row of state w
abbrev pub RowHeld : List ℕ → ℕ → Type 0
RowHeld words w = row_place (channel_count words) w + row_words (channel_count words) ≤ length words

-- whether the next state of moves a and b at state w is a state
abbrev pub next_fits : List ℕ → ℕ → ℕ → ℕ → Bool
next_fits words w a b = nat_lt (next_word words w a b) (state_count words)

-- whether it is, with controller move a, for every environment move
abbrev pub move_fits : List ℕ → ℕ → ℕ → Bool
move_fits words w a = all_below (environment_word words w) (next_fits words w a)

-- whether every next state that is used at state w is a state
abbrev pub next_states_fit : List ℕ → ℕ → Bool
next_states_fit words w = all_below (controller_word words w) (move_fits words w)

-- the number of each thing that can be wrong
abbrev pub layout_refusal : LayoutFault → ℕ
layout_refusal States = 18
layout_refusal Channels = 19
layout_refusal TooShort = 20
layout_refusal Moves = 21
layout_refusal NextState = 22

-- what is wrong with the row of state w, if anything is
abbrev pub row_fault : List ℕ → ℕ → Option LayoutFault
row_fault words w =
    cond (not (between 1 max_moves (controller_word words w) && between 1 max_moves (environment_word words w))) (Some Moves)
    (cond (not (next_states_fit words w)) (Some NextState) None)

-- what the check of the rows answers, by the first fault of a row
abbrev pub rows_answer : List ℕ → Option LayoutFault → Result ℕ LayoutFault
rows_answer words fault = unless fault (words_taken (state_count words) (channel_count words))

-- the layout check: how many words the layout takes, or the first fault
abbrev pub layout : List ℕ → Result ℕ LayoutFault
layout words =
    cond (nat_lt (length words) header_words) (Err TooShort)
    (cond (not (between 1 max_states (state_count words))) (Err States)
    (cond (not (between 1 max_channels (channel_count words))) (Err Channels)
    (cond (nat_lt (length words) (words_taken (state_count words) (channel_count words))) (Err TooShort)
    (rows_answer words (first_below (state_count words) (row_fault words))))))

-- the row of state w of a system that has the layout
abbrev pub RowLaidOut : List ℕ → ℕ → Type 0
RowLaidOut words w =
    (1 ≤ controller_word words w) × (controller_word words w ≤ max_moves)
    × (1 ≤ environment_word words w) × (environment_word words w ≤ max_moves)
    × ((a b : ℕ) → a < controller_word words w → b < environment_word words w → next_word words w a b < state_count words)

-- the words begin with a system that has the layout; more words may follow
abbrev pub LaidOut : List ℕ → Type 0
LaidOut words =
    (1 ≤ state_count words) × (state_count words ≤ max_states)
    × (1 ≤ channel_count words) × (channel_count words ≤ max_channels)
    × (words_taken (state_count words) (channel_count words) ≤ length words)
    × ((w : ℕ) → w < state_count words → RowLaidOut words w)

-- what the words hold at state w
abbrev pub stored_row : List ℕ → ℕ → RowMeaning
stored_row words w = record {
  reading = λ k. unbiased (reading_word words w k);
  controller_moves = controller_word words w;
  environment_moves = environment_word words w;
  next = next_word words w;
}

-- the system that words with the layout hold
abbrev pub stored : List ℕ → Meaning
stored words = of_rows (state_count words) (channel_count words) (stored_row words)

-- words hold a system in its layout
abbrev pub Holds : Meaning → List ℕ → Type 0
Holds m words = LaidOut words × (stored words ≡ m)

-- the words of the resting system: its only state shows 0 on its only channel, and the one move of either side leads back to it
abbrev pub resting : List ℕ
resting = 1 ∷ 1 ∷ reading_bias ∷ 1 ∷ 1 ∷ replicate max_move_pairs 0

-- the words that a stored system made over the given words lies in
abbrev pub stored_words : List ℕ → List ℕ
stored_words words = cond (is_ok (layout words)) words resting
