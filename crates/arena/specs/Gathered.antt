-- What is gathered of a system.
use Rattle.std.specs.Prelude.{◌≡◌, ℕ, ◌*◌, ◌/◌, ◌%◌, ◌<◌, ◌≤◌, List, slice_index}
use Rattle.systems.specs.Limits.{max_move_pairs, max_moves}

-- the first n slots hold what the function says of their places
abbrev pub Answers : (ℕ → ℕ) → ℕ → List ℕ → Type 0
Answers f n slots = (k : ℕ) → k < n → slice_index slots k ≡ f k

-- where the moves lead that have slot k: state, controller move and environment move are digits of k
abbrev pub next_at : (ℕ → ℕ → ℕ → ℕ) → ℕ → ℕ
next_at to k = to (k / max_move_pairs) (k / max_moves % max_moves) (k % max_moves)

-- the slots hold where the moves lead from the first n states
abbrev pub LeadsTo : (ℕ → ℕ → ℕ → ℕ) → ℕ → List ℕ → Type 0
LeadsTo to n slots = Answers (next_at to) (n * max_move_pairs) slots

-- no side has too many moves at the first n states
abbrev pub FewMoves : ℕ → List ℕ → List ℕ → Type 0
FewMoves n controller environment =
    (w : ℕ) → w < n → (slice_index controller w ≤ max_moves) × (slice_index environment w ≤ max_moves)
