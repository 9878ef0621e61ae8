-- How much memory a report takes.
use Rattle.std.specs.Prelude.{ℕ, ◌+◌, ◌*◌}
use Rattle.report.specs.Input.{most_bytes, room_states}

-- how many entries the table has: one for each pair of states that there is room for
abbrev pub table_room : ℕ
table_room = room_states * room_states

-- how many strikes can be proposed at most: a record takes a byte or more
abbrev pub most_strikes : ℕ
most_strikes = most_bytes

-- how many bytes a line has at most
abbrev pub longest_line : ℕ
longest_line = 34

-- how many lines follow those of the strikes
abbrev pub lines_behind : ℕ
lines_behind = 3

-- more bytes than are ever printed: the longest line, for each strike and for those behind them
abbrev pub most_output : ℕ
most_output = (most_strikes + lines_behind) * longest_line

-- how many bytes are read of an input: one more than it may have
abbrev pub most_read : ℕ
most_read = most_bytes + 1
