-- The arena of two systems and a likeness.
use Rattle.std.specs.Prelude.{ℕ, Bool, ◌&&◌, ◌==◌, nat_le}
use Rattle.systems.specs.Bounded.{all_below}
use Rattle.systems.specs.Limits.{max_channels}
use Rattle.systems.specs.Meaning.{Lawful, Meaning, Reading}
use Rattle.arena.specs.Arena.{Arena, Closed}

-- whether two systems have the same channels, and no more of them than a docket takes
abbrev pub same_channels : Meaning → Meaning → Bool
same_channels old new = old.channels == new.channels && nat_le old.channels max_channels

-- whether an old state and a new one are alike on every channel
abbrev pub alike_on_all : Meaning → Meaning → (ℕ → Reading → Reading → Bool) → ℕ → ℕ → Bool
alike_on_all old new relation w v = all_below old.channels λ k. relation k (old.reading w k) (new.reading v k)

-- the arena of an old system, a new one, and the likeness that compares their readings
abbrev pub exchange : Meaning → Meaning → (ℕ → Reading → Reading → Bool) → Arena
exchange old new relation = record {
  old_states = old.states;
  new_states = new.states;
  comparable = same_channels old new;
  alike = alike_on_all old new relation;
  old_controller_moves = old.controller_moves;
  old_environment_moves = old.environment_moves;
  new_controller_moves = new.controller_moves;
  new_environment_moves = new.environment_moves;
  old_next = old.next;
  new_next = new.next;
}

-- lawful systems never step out of their states
pub exchange_closed : (old new : Meaning) (relation : ℕ → Reading → Reading → Bool) → Lawful old → Lawful new → Closed (exchange old new relation)
exchange_closed old new relation o n = record { old_next_bound = o.next_bound; new_next_bound = n.next_bound }
