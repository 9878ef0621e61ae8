-- Writing a stored system: the words of its layout, and what each call that writes a row leaves.
use Rattle.std.specs.Prelude.{ℕ, zero, suc, ◌+◌, ◌-◌, ◌/◌, ◌%◌, cond, ◌&&◌, ◌==◌, List, map, nat_lt, slice_set}
use Rattle.std.specs.List.{range_with_len}
use Rattle.systems.specs.Layout.{biased, channels_offset, controller_offset, count_words, environment_offset, header_words, next_offset, reading_offset, row_words, states_offset, words_taken}
use Rattle.systems.specs.Limits.{max_moves}
use Rattle.systems.specs.Meaning.{Meaning, Reading}
use Rattle.systems.specs.Rows.{RowMeaning, row_of}
use Rattle.systems.specs.declared.row_mut.RowMut.{RowMut}

-- the next state of moves a and b in a row, 0 where the row has not the moves
abbrev pub next_cell : RowMeaning → ℕ → ℕ → ℕ
next_cell row a b = cond (nat_lt a row.controller_moves && nat_lt b row.environment_moves) (row.next a b) 0

-- word j of a row of c channels: what stands at each of the places that the layout gives
abbrev pub row_cell : ℕ → RowMeaning → ℕ → ℕ
row_cell c row j =
    let pair = j - (c + count_words) in
    cond (nat_lt j c) (biased (row.reading j))
    (cond (j == controller_offset c) row.controller_moves
    (cond (j == environment_offset c) row.environment_moves
    (next_cell row (pair / max_moves) (pair % max_moves))))

-- the words of a row
abbrev pub row_cells : ℕ → RowMeaning → List ℕ
row_cells c row = map (row_cell c row) (range_with_len 0 (row_words c))

-- word i of the layout of a system
abbrev pub system_word : Meaning → ℕ → ℕ
system_word m i =
    let behind = i - header_words in
    cond (i == states_offset) m.states
    (cond (i == channels_offset) m.channels
    (row_cell m.channels (row_of m (behind / row_words m.channels)) (behind % row_words m.channels)))

-- the layout of a system
abbrev pub system_words : Meaning → List ℕ
system_words m = map (system_word m) (range_with_len 0 (words_taken m.states m.channels))

-- words with the numbers of states and of channels in front
abbrev pub with_header : List ℕ → ℕ → ℕ → List ℕ
with_header words n c = slice_set (slice_set words states_offset n) channels_offset c

-- a row to be written, with other words behind the same reference
abbrev pub rewritten : RowMut → List ℕ → RowMut
rewritten row words = record row { words = record row.words { now = words } }

-- a row of c channels with the reading of channel k
abbrev pub with_reading : ℕ → List ℕ → ℕ → Reading → List ℕ
with_reading c words k reading = cond (nat_lt k c) (slice_set words (reading_offset k) (biased reading)) words

-- a row with p moves of the controller and q of the environment
abbrev pub with_moves : ℕ → List ℕ → ℕ → ℕ → List ℕ
with_moves c words p q = slice_set (slice_set words (controller_offset c) p) (environment_offset c) q

-- a row with the next state of moves a and b
abbrev pub with_next : ℕ → List ℕ → ℕ → ℕ → ℕ → List ℕ
with_next c words a b next = cond (nat_lt a max_moves && nat_lt b max_moves) (slice_set words (next_offset c a b) next) words

-- a row with the readings of the first channels
abbrev pub with_readings : ℕ → List ℕ → ℕ → (ℕ → Reading) → List ℕ
with_readings c words zero reading = words
with_readings c words (suc k) reading = with_reading c (with_readings c words k reading) k (reading k)

-- a row with the next states of controller move a and the first environment moves
abbrev pub with_next_of : ℕ → List ℕ → ℕ → ℕ → (ℕ → ℕ) → List ℕ
with_next_of c words a zero next = words
with_next_of c words a (suc b) next = with_next c (with_next_of c words a b next) a b (next b)

-- a row with the next states of the first controller moves, each with q environment moves
abbrev pub with_next_states : ℕ → List ℕ → ℕ → ℕ → (ℕ → ℕ → ℕ) → List ℕ
with_next_states c words zero q next = words
with_next_states c words (suc a) q next = with_next_of c (with_next_states c words a q next) a q (next a)
