-- Systems that are small enough for a file.
use Rattle.std.specs.Prelude.{ℕ, ◌<◌, ◌≤◌}
use Rattle.systems.specs.Limits.{max_channels, max_moves, max_states}
use Rattle.systems.specs.Meaning.{Meaning}

-- A system that is small enough for a file.
pub record Few (m : Meaning) : Type 0 where
  pub few_states : m.states ≤ max_states
  pub few_channels : m.channels ≤ max_channels
  pub few_controller_moves : (w : ℕ) → w < m.states → m.controller_moves w ≤ max_moves
  pub few_environment_moves : (w : ℕ) → w < m.states → m.environment_moves w ≤ max_moves
