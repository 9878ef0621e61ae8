-- What a system is.
use Rattle.std.specs.Prelude.{◌≡◌, ℕ, ◌<◌, ◌≤◌, Bool, ◌&&◌, ℤ, pos, int_le}

-- what a channel shows at a state
abbrev pub Reading : Type 0
Reading = ℤ

-- the reading that answers a question with an argument out of range
abbrev pub no_question : Reading
no_question = pos 0

-- whether two readings are equal: neither is above the other
abbrev pub same_reading : Reading → Reading → Bool
same_reading x y = int_le x y && int_le y x

-- the most states that a system has, and moves of a side at a state
abbrev pub count_limit : ℕ
count_limit = 65535

-- the most channels that a system has
abbrev pub channel_limit : ℕ
channel_limit = 255

-- A finite system: its states and channels are numbered from 0, and it starts in state 0.
-- At each state the controller and the environment choose a move each, without seeing the other's, and both moves together give the next state.
pub record Meaning : Type 0 where
  pub states : ℕ
  pub channels : ℕ
  -- of a state and a channel
  pub reading : ℕ → ℕ → Reading
  -- how many moves there are at a state
  pub controller_moves : ℕ → ℕ
  pub environment_moves : ℕ → ℕ
  -- of a state, a controller move and an environment move
  pub next : ℕ → ℕ → ℕ → ℕ

-- What holds of every system: the bounds, and 0 for an argument out of range.
pub record Lawful (m : Meaning) : Type 0 where
  pub some_state : 1 ≤ m.states
  pub states_bound : m.states ≤ count_limit
  pub some_channel : 1 ≤ m.channels
  pub channels_bound : m.channels ≤ channel_limit
  pub some_controller_move : (w : ℕ) → w < m.states → 1 ≤ m.controller_moves w
  pub controller_moves_bound : (w : ℕ) → m.controller_moves w ≤ count_limit
  pub some_environment_move : (w : ℕ) → w < m.states → 1 ≤ m.environment_moves w
  pub environment_moves_bound : (w : ℕ) → m.environment_moves w ≤ count_limit
  pub next_bound : (w a b : ℕ) → m.next w a b < m.states
  pub no_state_reading : (w k : ℕ) → m.states ≤ w → m.reading w k ≡ no_question
  pub no_channel_reading : (w k : ℕ) → m.channels ≤ k → m.reading w k ≡ no_question
  pub no_state_controller : (w : ℕ) → m.states ≤ w → m.controller_moves w ≡ 0
  pub no_state_environment : (w : ℕ) → m.states ≤ w → m.environment_moves w ≡ 0
  -- a state out of range has no moves, so that this covers it too
  pub no_controller_next : (w a b : ℕ) → m.controller_moves w ≤ a → m.next w a b ≡ 0
  pub no_environment_next : (w a b : ℕ) → m.environment_moves w ≤ b → m.next w a b ≡ 0
