-- What the game of an exchange is played on.
use Rattle.std.specs.Prelude.{ℕ, ◌<◌, Bool}

-- An old system and a new one side by side, as far as the game sees them.
pub record Arena : Type 0 where
  pub old_states : ℕ
  pub new_states : ℕ
  -- whether the two show readings that can be compared at all
  pub comparable : Bool
  -- of an old state and a new one: whether their readings are alike
  pub alike : ℕ → ℕ → Bool
  -- how many moves there are at a state
  pub old_controller_moves : ℕ → ℕ
  pub old_environment_moves : ℕ → ℕ
  pub new_controller_moves : ℕ → ℕ
  pub new_environment_moves : ℕ → ℕ
  -- of a state, a controller move and an environment move
  pub old_next : ℕ → ℕ → ℕ → ℕ
  pub new_next : ℕ → ℕ → ℕ → ℕ

-- No moves lead out of the states.
pub record Closed (A : Arena) : Type 0 where
  pub old_next_bound : (w a b : ℕ) → A.old_next w a b < A.old_states
  pub new_next_bound : (w a b : ℕ) → A.new_next w a b < A.new_states
