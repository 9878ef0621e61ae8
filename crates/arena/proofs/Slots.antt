-- The slots of what is gathered.
use Rattle.std.proofs.Common.{◌≡◌, ℕ, ◌+◌, ◌*◌, ◌/◌, ◌%◌, ◌<◌, List, length, set, refl, arith}
use Rattle.std.proofs.lemmas.Grind.{common_steps}
use Rattle.arena.specs.Gathered.{Answers, next_at}

-- the slot of a pair of moves at a state holds where they lead
pub next_at_slot : (to : ℕ → ℕ → ℕ → ℕ) (w a b : ℕ) → a < 16 → b < 16 → next_at to (w * 256 + a * 16 + b) ≡ to w a b
next_at_slot to w a b la lb =
    let slot = w * 256 + a * 16 + b in
    let state : slot / 256 ≡ w = omega arith in
    let controller : slot / 16 % 16 ≡ a = omega arith in
    let environment : slot % 16 ≡ b = omega arith in
    rw (state, controller, environment) refl

-- one slot more
pub one_more : (f : ℕ → ℕ) (n v : ℕ) (slots : List ℕ) → n < length slots → Answers f n slots → v ≡ f n → Answers f (n + 1) (set slots n v)
one_more f n v slots room before here k l = grind (arith, common_steps, before, here)
