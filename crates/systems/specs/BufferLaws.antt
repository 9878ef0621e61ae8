-- That a buffer is lawful.
use Rattle.std.specs.Prelude.{◌≡◌, ℕ, ◌+◌, ◌-◌, ◌<◌, ◌≤◌, min, Bool, true, false, cond, ◌&&◌, ◌==◌, nat_le, nat_lt, refl}
use Rattle.std.proofs.Common.{arith}
use Rattle.std.proofs.lemmas.Bool.{and_left, and_parts, and_right, cond_both, cond-false, cond-true, le-leb, le-ltb, leb-true, lt-leb, ne_eqb}
use Rattle.systems.specs.Buffer.{buffer, stepped}
use Rattle.systems.specs.Meaning.{Lawful, count_limit}

-- a step stays within the capacity
stepped_bound : (capacity w a b : ℕ) → w ≤ capacity → stepped capacity w a b ≤ capacity
stepped_bound capacity w a b h =
    cond_both (a == 1) (min (w + 1) capacity) (cond (a == 2 && b == 0) (w - 1) w) (λ v. v ≤ capacity) (λ _. omega arith)
    (λ _. cond_both (a == 2 && b == 0) (w - 1) w (λ v. v ≤ capacity) (λ _. omega arith) (λ _. h))

-- a side has its moves at a state
at_state : (capacity w x : ℕ) → w < capacity + 1 → cond (nat_le w capacity) x 0 ≡ x
at_state capacity w x h = cond-true (nat_le w capacity) x 0 (le-leb w capacity (omega arith))

-- and none elsewhere
past_state : (capacity w x : ℕ) → capacity + 1 ≤ w → cond (nat_le w capacity) x 0 ≡ 0
past_state capacity w x h = cond-false (nat_le w capacity) x 0 (lt-leb w capacity (omega arith))

-- so many moves are few enough, at a state and elsewhere
moves_bound : (capacity w x : ℕ) → x ≤ count_limit → cond (nat_le w capacity) x 0 ≤ count_limit
moves_bound capacity w x h = cond_both (nat_le w capacity) x 0 (λ v. v ≤ count_limit) (λ _. h) (λ _. omega arith)

-- past the controller's moves there is no next state, at a state and elsewhere
no_controller : (there : Bool) (p q a b x : ℕ) → cond there p 0 ≤ a → cond (there && (nat_lt a p && nat_lt b q)) x 0 ≡ 0
no_controller true p q a b x h = cond-false (nat_lt a p && nat_lt b q) x 0 (and_left (nat_lt a p) (nat_lt b q) (le-ltb a p h))
no_controller false p q a b x h = refl

-- nor past the environment's
no_environment : (there : Bool) (p q a b x : ℕ) → cond there q 0 ≤ b → cond (there && (nat_lt a p && nat_lt b q)) x 0 ≡ 0
no_environment true p q a b x h = cond-false (nat_lt a p && nat_lt b q) x 0 (and_right (nat_lt a p) (nat_lt b q) (le-ltb b q h))
no_environment false p q a b x h = refl

-- the laws of systems hold of every buffer
pub buffer_lawful : (capacity : ℕ) → capacity < 256 → Lawful (buffer capacity)
buffer_lawful capacity ok = record {
  some_state = omega arith;
  states_bound = omega arith;
  some_channel = omega arith;
  channels_bound = omega arith;
  some_controller_move = λ w h. omega (arith, at_state capacity w 3 h);
  controller_moves_bound = λ w. moves_bound capacity w 3 (omega arith);
  some_environment_move = λ w h. omega (arith, at_state capacity w 2 h);
  environment_moves_bound = λ w. moves_bound capacity w 2 (omega arith);
  next_bound = λ w a b.
      cond_both (nat_le w capacity && (nat_lt a 3 && nat_lt b 2)) (stepped capacity w a b) 0 (λ v. v < capacity + 1)
      (λ t. omega (arith, stepped_bound capacity w a b (leb-true w capacity (and_parts (nat_le w capacity) (nat_lt a 3 && nat_lt b 2) t).0)))
      (λ _. omega arith);
  no_state_reading = λ w k h. cond-false _ _ _ (and_left _ _ (lt-leb w capacity (omega arith)));
  no_channel_reading = λ w k h. cond-false _ _ _ (and_right _ _ (ne_eqb k 0 (λ e. omega arith)));
  no_state_controller = λ w h. past_state capacity w 3 h;
  no_state_environment = λ w h. past_state capacity w 2 h;
  no_controller_next = λ w a b h. no_controller (nat_le w capacity) 3 2 a b (stepped capacity w a b) h;
  no_environment_next = λ w a b h. no_environment (nat_le w capacity) 3 2 a b (stepped capacity w a b) h;
}
