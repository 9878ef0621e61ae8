-- That two lawful systems side by side are lawful.
use Rattle.std.specs.Prelude.{ℕ, ◌-◌, ◌*◌, ◌/◌, ◌%◌, ◌<◌, ◌≤◌, min, Bool, cond, nat_lt}
use Rattle.std.proofs.Common.{div-lt_iff_lt-mul, mod-lt, mul-pos, arith}
use Rattle.std.proofs.lemmas.Bool.{and_left, and_right, cond_both, cond-false, cond-true, le-ltb, lt-ltb}
use Rattle.systems.specs.Joint.{capped, joint}
use Rattle.systems.specs.Meaning.{Meaning, Lawful, count_limit}

-- a count stops in range, at a state and elsewhere
count_bound : (there : Bool) (x : ℕ) → cond there (capped x) 0 ≤ count_limit
count_bound there x = cond_both there (capped x) 0 (λ v. v ≤ count_limit) (λ _. omega arith) (λ _. omega arith)

-- at a state, a product of counts above 0 is above 0, also where it stops
some_count : (s n x y : ℕ) → s < n → 1 ≤ x → 1 ≤ y → 1 ≤ cond (nat_lt s n) (capped (x * y)) 0
some_count s n x y h i j =
    let product : 0 < x * y = mul-pos i j in
    omega (arith, cond-true (nat_lt s n) (capped (x * y)) 0 (lt-ltb s n h))

-- what stops at the last state is a state
last_bound : (there : Bool) (x n : ℕ) → 1 ≤ n → cond there (min x (n - 1)) 0 < n
last_bound there x n h = cond_both there (min x (n - 1)) 0 (λ v. v < n) (λ _. omega arith) (λ _. h)

-- the laws of systems hold of a joint where they hold of its halves
pub joint_lawful : (x y : Meaning) → Lawful x → Lawful y → Lawful (joint x y)
joint_lawful x y f g =
    let n : ℕ = capped (x.states * y.states) in
    let c : ℕ = (joint x y).channels in
    let p : ℕ → ℕ = (joint x y).controller_moves in
    let q : ℕ → ℕ = (joint x y).environment_moves in
    let product : 0 < x.states * y.states = mul-pos f.some_state g.some_state in
    let some : 1 ≤ n = omega arith in
    let first : (s : ℕ) → s < n → s / y.states < x.states = λ s h. (div-lt_iff_lt-mul g.some_state).1 (omega arith) in
    let second : (s : ℕ) → s % y.states < y.states = λ s. mod-lt s g.some_state in
    record {
      some_state = some;
      states_bound = omega arith;
      some_channel = omega (arith, f.some_channel);
      channels_bound = omega arith;
      some_controller_move = λ s h.
          some_count s n _ _ h (f.some_controller_move (s / y.states) (first s h)) (g.some_controller_move (s % y.states) (second s));
      controller_moves_bound = λ s. count_bound (nat_lt s n) _;
      some_environment_move = λ s h.
          some_count s n _ _ h (f.some_environment_move (s / y.states) (first s h)) (g.some_environment_move (s % y.states) (second s));
      environment_moves_bound = λ s. count_bound (nat_lt s n) _;
      next_bound = λ s a b. last_bound _ _ n some;
      no_state_reading = λ s k h. cond-false _ _ _ (and_left _ _ (le-ltb s n h));
      no_channel_reading = λ s k h. cond-false _ _ _ (and_right _ _ (le-ltb k c h));
      no_state_controller = λ s h. cond-false _ _ _ (le-ltb s n h);
      no_state_environment = λ s h. cond-false _ _ _ (le-ltb s n h);
      no_controller_next = λ s a b h. cond-false _ _ _ (and_right _ _ (and_left _ _ (le-ltb a (p s) h)));
      no_environment_next = λ s a b h. cond-false _ _ _ (and_right (nat_lt s n) _ (and_right (nat_lt a (p s)) (nat_lt b (q s)) (le-ltb b (q s) h)));
    }
