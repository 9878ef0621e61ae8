-- Two systems side by side, as one.
use Rattle.std.specs.Prelude.{ℕ, ◌+◌, ◌-◌, ◌*◌, ◌/◌, ◌%◌, min, cond, ◌&&◌, nat_lt}
use Rattle.systems.specs.Meaning.{Meaning, channel_limit, count_limit, no_question}

-- counts of states and moves stop at the limit
abbrev pub capped : ℕ → ℕ
capped x = min x count_limit

-- where both halves step to from u and v, as u' * n2 + v': a move is split by the second's number of moves at v, as a state is by n2
abbrev pub joint_step : Meaning → Meaning → ℕ → ℕ → ℕ → ℕ → ℕ
joint_step x y u v a b =
    let p : ℕ = y.controller_moves v in
    let q : ℕ = y.environment_moves v in
    x.next u (a / p) (b / q) * y.states + y.next v (a % p) (b % q)

-- State s means u = s div n2 of the first and v = s mod n2 of the second, and the first's channels come first.
-- Counts of channels stop at their limit, and the next state stops at the last state.
abbrev pub joint : Meaning → Meaning → Meaning
joint x y =
    let n : ℕ = capped (x.states * y.states) in
    let c : ℕ = min (x.channels + y.channels) channel_limit in
    let p : ℕ → ℕ = λ s. cond (nat_lt s n) (capped (x.controller_moves (s / y.states) * y.controller_moves (s % y.states))) 0 in
    let q : ℕ → ℕ = λ s. cond (nat_lt s n) (capped (x.environment_moves (s / y.states) * y.environment_moves (s % y.states))) 0 in
    record {
      states = n;
      channels = c;
      reading = λ s k. cond (nat_lt s n && nat_lt k c) (cond (nat_lt k x.channels) (x.reading (s / y.states) k) (y.reading (s % y.states) (k - x.channels))) no_question;
      controller_moves = p;
      environment_moves = q;
      next = λ s a b. cond (nat_lt s n && (nat_lt a (p s) && nat_lt b (q s))) (min (joint_step x y (s / y.states) (s % y.states) a b) (n - 1)) 0;
    }
