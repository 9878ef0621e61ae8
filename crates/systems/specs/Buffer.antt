-- A buffer of records that wait to be sent: its states count them, and its one channel shows how many there are.
use Rattle.std.specs.Prelude.{ℕ, ◌+◌, ◌-◌, min, cond, ◌&&◌, pos, ◌==◌, nat_le, nat_lt}
use Rattle.systems.specs.Meaning.{Meaning, no_question}

-- where the moves lead: controller move 1, take, fills by one unless the buffer is full;
-- move 2, send, empties by one if a record is there and the environment has the radio up, move 0;
-- every other pair of moves, with 0 wait or 1 radio down, leaves the state
abbrev pub stepped : ℕ → ℕ → ℕ → ℕ → ℕ
stepped capacity w a b = cond (a == 1) (min (w + 1) capacity) (cond (a == 2 && b == 0) (w - 1) w)

-- the buffer with room for so many records; an argument out of range is answered 0
abbrev pub buffer : ℕ → Meaning
buffer capacity = record {
  states = capacity + 1;
  channels = 1;
  reading = λ w k. cond (nat_le w capacity && k == 0) (pos w) no_question;
  controller_moves = λ w. cond (nat_le w capacity) 3 0;
  environment_moves = λ w. cond (nat_le w capacity) 2 0;
  next = λ w a b. cond (nat_le w capacity && (nat_lt a 3 && nat_lt b 2)) (stepped capacity w a b) 0;
}
