-- The most that a stored system has, and so a file, and a system that a docket takes; and the most entries of a list of codes.
use Rattle.std.specs.Prelude.{ℕ, ◌*◌}

-- states
abbrev pub max_states : ℕ
max_states = 256

-- channels
abbrev pub max_channels : ℕ
max_channels = 8

-- moves of each side at a state
abbrev pub max_moves : ℕ
max_moves = 16

-- pairs of moves at a state
abbrev pub max_move_pairs : ℕ
max_move_pairs = max_moves * max_moves

-- entries of a list of codes
abbrev pub most_codes : ℕ
most_codes = 8
