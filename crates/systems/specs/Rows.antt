-- A system by what holds at each of its states.
use Rattle.std.specs.Prelude.{ℕ, cond, ◌&&◌, nat_lt}
use Rattle.systems.specs.Meaning.{Meaning, Reading, no_question}

-- What holds at one state of a system.
pub record RowMeaning : Type 0 where
  -- of a channel
  pub reading : ℕ → Reading
  -- how many moves there are
  pub controller_moves : ℕ
  pub environment_moves : ℕ
  -- of a controller move and an environment move
  pub next : ℕ → ℕ → ℕ

-- what holds at state w
abbrev pub row_of : Meaning → ℕ → RowMeaning
row_of m w = record {
  reading = m.reading w;
  controller_moves = m.controller_moves w;
  environment_moves = m.environment_moves w;
  next = m.next w;
}

-- the system of n states and c channels with these rows; a question with an argument out of range is answered 0
abbrev pub of_rows : ℕ → ℕ → (ℕ → RowMeaning) → Meaning
of_rows n c rows =
    let p : ℕ → ℕ = λ w. cond (nat_lt w n) (rows w).controller_moves 0 in
    let q : ℕ → ℕ = λ w. cond (nat_lt w n) (rows w).environment_moves 0 in
    record {
      states = n;
      channels = c;
      reading = λ w k. cond (nat_lt w n && nat_lt k c) ((rows w).reading k) no_question;
      controller_moves = p;
      environment_moves = q;
      next = λ w a b. cond (nat_lt w n && (nat_lt a (p w) && nat_lt b (q w))) ((rows w).next a b) 0;
    }
