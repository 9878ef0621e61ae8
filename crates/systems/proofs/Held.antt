-- The layout of a system holds that system.
use Rattle.std.proofs.Common.{◌≡◌, ℕ, ◌+◌, ◌-◌, ◌*◌, ◌/◌, ◌%◌, ◌<◌, ◌≤◌, List, ◌++◌, length, get_or, sym, ap, ◌∙◌, subst₂, suc, refl, arith}
use Rattle.std.proofs.lemmas.Nat.{div-mul-add, mod-mul-add, mul-le}
use Rattle.std.proofs.lemmas.List.FromFn.{length-map-range_with_len, get_or-map-range_with_len}
use Rattle.std.proofs.lemmas.List.{get_or_append_left, length-append}
use Rattle.std.proofs.lemmas.Bool.Decides.{nat_tests}
use Rattle.std.proofs.lemmas.Bool.{ne_eqb}
use Rattle.systems.specs.Layout.{Holds, LaidOut, RowLaidOut, biased, channel_count, controller_word, environment_word, row_place, row_words, state_count, stored, stored_row, stored_words, unbiased, words_taken}
use Rattle.systems.specs.Layout.{row_word as stored_word}
use Rattle.systems.specs.Limits.{max_channels, max_moves, max_states}
use Rattle.systems.specs.Meaning.{Meaning, Lawful}
use Rattle.systems.specs.Rows.{RowMeaning, of_rows, row_of}
use Rattle.systems.specs.Words.{row_cell, system_word, system_words}
use Rattle.systems.proofs.LaidOut.{stored_words_kept}

-- rows that answer alike whatever can be asked of them
pub record SameRow (c : ℕ) (f g : RowMeaning) : Type 0 where
  pub reading : (k : ℕ) → k < c → f.reading k ≡ g.reading k
  pub controller_moves : f.controller_moves ≡ g.controller_moves
  pub environment_moves : f.environment_moves ≡ g.environment_moves
  pub next : (a b : ℕ) → a < f.controller_moves → b < f.environment_moves → f.next a b ≡ g.next a b

-- systems that answer each question alike are equal
same_meaning : (s t : Meaning) → s.states ≡ t.states → s.channels ≡ t.channels
    → ((w k : ℕ) → s.reading w k ≡ t.reading w k)
    → ((w : ℕ) → s.controller_moves w ≡ t.controller_moves w)
    → ((w : ℕ) → s.environment_moves w ≡ t.environment_moves w)
    → ((w a b : ℕ) → s.next w a b ≡ t.next w a b)
    → s ≡ t
same_meaning s t states channels reading controller environment next =
    λ i. record {
      states = states i;
      channels = channels i;
      reading = λ w k. reading w k i;
      controller_moves = λ w. controller w i;
      environment_moves = λ w. environment w i;
      next = λ w a b. next w a b i;
    }

-- so are systems whose rows answer alike
pub of_rows-same : (n c : ℕ) (f g : ℕ → RowMeaning) → ((w : ℕ) → w < n → SameRow c (f w) (g w)) → of_rows n c f ≡ of_rows n c g
of_rows-same n c f g same =
    let reading : (w k : ℕ) → w < n → k < c → (f w).reading k ≡ (g w).reading k = λ w k l. (same w l).reading k in
    let controller : (w : ℕ) → w < n → (f w).controller_moves ≡ (g w).controller_moves = λ w l. (same w l).controller_moves in
    let environment : (w : ℕ) → w < n → (f w).environment_moves ≡ (g w).environment_moves = λ w l. (same w l).environment_moves in
    let next : (w a b : ℕ) → w < n → a < (f w).controller_moves → b < (f w).environment_moves → (f w).next a b ≡ (g w).next a b =
    λ w a b l. (same w l).next a b in
    same_meaning (of_rows n c f) (of_rows n c g) refl refl
    (λ w k. grind (arith, nat_tests, reading))
    (λ w. grind (arith, nat_tests, controller))
    (λ w. grind (arith, nat_tests, environment))
    (λ w a b. grind (arith, nat_tests, controller, environment, next))

-- a lawful system is that of its rows
pub of_rows-row_of : (m : Meaning) → Lawful m → of_rows m.states m.channels (row_of m) ≡ m
of_rows-row_of m law =
    same_meaning (of_rows m.states m.channels (row_of m)) m refl refl
    (λ w k. grind (arith, nat_tests, law.no_state_reading, law.no_channel_reading))
    (λ w. grind (arith, nat_tests, law.no_state_controller))
    (λ w. grind (arith, nat_tests, law.no_state_environment))
    (λ w a b. grind (arith, nat_tests, law.no_state_controller, law.no_controller_next, law.no_environment_next))

-- the row of a state ends where that of a later state begins, or before
pub row_ends : (c w n : ℕ) → w < n → row_place c w + row_words c ≤ row_place c n
row_ends c w n l = let r : ℕ = row_words c in omega (arith, mul-le (suc w) r n r (omega arith) (omega arith))

-- the words of a row, by what they hold
reading_at : (c : ℕ) (row : RowMeaning) (k : ℕ) → k < c → row_cell c row k ≡ biased (row.reading k)
reading_at c row k l = grind (arith, nat_tests)

controller_at : (c : ℕ) (row : RowMeaning) → row_cell c row c ≡ row.controller_moves
controller_at c row = grind (arith, nat_tests)

environment_at : (c : ℕ) (row : RowMeaning) → row_cell c row (c + 1) ≡ row.environment_moves
environment_at c row = grind (arith, nat_tests)

next_at : (c : ℕ) (row : RowMeaning) (a b : ℕ) → b < max_moves → a < row.controller_moves → b < row.environment_moves
    → row_cell c row (c + 2 + (a * max_moves + b)) ≡ row.next a b
next_at c row a b l low high =
    let j : ℕ = c + 2 + (a * max_moves + b) in
    let a_is : (j - (c + 2)) / max_moves ≡ a = omega arith in
    let b_is : (j - (c + 2)) % max_moves ≡ b = omega arith in
    grind (arith, nat_tests)

-- word j of the row of state w stands j words behind where the row begins
pub row_cell_at : (m : Meaning) (w j : ℕ) → j < row_words m.channels
    → system_word m (row_place m.channels w + j) ≡ row_cell m.channels (row_of m w) j
row_cell_at m w j l =
    let r : ℕ = row_words m.channels in
    let i : ℕ = row_place m.channels w + j in
    let behind : i - 2 ≡ w * r + j = omega arith in
    let row : (i - 2) / r ≡ w = ap (λ x. x / r) behind ∙ div-mul-add w r j l in
    let column : (i - 2) % r ≡ j = ap (λ x. x % r) behind ∙ mod-mul-add w r j l in
    rw (ne_eqb i 0 (λ e. omega arith), ne_eqb i 1 (λ e. omega arith))
    (ap (λ x. row_cell m.channels (row_of m x) ((i - 2) % r)) row ∙ ap (row_cell m.channels (row_of m w)) column)

-- a row of a system that is made of rows holds what that row does
pub row_cell-of_rows : (n c : ℕ) (rows : ℕ → RowMeaning) (w j : ℕ) → w < n
    → row_cell c (row_of (of_rows n c rows) w) j ≡ row_cell c (rows w) j
row_cell-of_rows n c rows w j l = grind (arith, nat_tests)

-- what a row needs to lie in words: numbers of moves of a stored system, readings of 16 bits, and next states that are states
pub record StorableRow (n c : ℕ) (row : RowMeaning) : Type 0 where
  pub some_controller_move : 1 ≤ row.controller_moves
  pub few_controller_moves : row.controller_moves ≤ max_moves
  pub some_environment_move : 1 ≤ row.environment_moves
  pub few_environment_moves : row.environment_moves ≤ max_moves
  pub reading_held : (k : ℕ) → k < c → unbiased (biased (row.reading k)) ≡ row.reading k
  pub next_bound : (a b : ℕ) → a < row.controller_moves → b < row.environment_moves → row.next a b < n

-- and what a system needs
pub record Storable (n c : ℕ) (rows : ℕ → RowMeaning) : Type 0 where
  pub some_state : 1 ≤ n
  pub few_states : n ≤ max_states
  pub some_channel : 1 ≤ c
  pub few_channels : c ≤ max_channels
  pub each_row : (w : ℕ) → w < n → StorableRow n c (rows w)

-- a system whose layout the words begin with
module _ (n c : ℕ) (rows : ℕ → RowMeaning) (ok : Storable n c rows) (words : List ℕ)
    (begins : (i : ℕ) → i < words_taken n c → get_or words i 0 ≡ system_word (of_rows n c rows) i) where
  states_held : state_count words ≡ n
  states_held = begins 0 (omega arith)

  channels_held : channel_count words ≡ c
  channels_held = begins 1 (omega arith)

  row_held : (w j : ℕ) → w < n → j < row_words c → stored_word words w j ≡ row_cell c (rows w) j
  row_held w j l small =
      ap (λ x. get_or words (row_place x w + j) 0) channels_held ∙ begins (row_place c w + j) (omega (arith, row_ends c w n l))
      ∙ row_cell_at (of_rows n c rows) w j small ∙ row_cell-of_rows n c rows w j l

  row_same : (w : ℕ) → w < n → SameRow c (stored_row words w) (rows w)
  row_same w l =
      let row = ok.each_row w l in
      let few_p : (rows w).controller_moves ≤ max_moves = row.few_controller_moves in
      let few_q : (rows w).environment_moves ≤ max_moves = row.few_environment_moves in
      let p : controller_word words w ≡ (rows w).controller_moves =
      ap (stored_word words w) channels_held ∙ row_held w c l (omega arith) ∙ controller_at c (rows w) in
      let q : environment_word words w ≡ (rows w).environment_moves =
      ap (λ x. stored_word words w (x + 1)) channels_held ∙ row_held w (c + 1) l (omega arith) ∙ environment_at c (rows w) in
      record {
        reading = λ k h. ap unbiased (row_held w k l (omega arith) ∙ reading_at c (rows w) k h) ∙ row.reading_held k h;
        controller_moves = p;
        environment_moves = q;
        next = λ a b low high.
            let j : ℕ = c + 2 + (a * max_moves + b) in
            ap (λ x. stored_word words w (x + 2 + (a * max_moves + b))) channels_held
            ∙ row_held w j l (omega arith) ∙ next_at c (rows w) a b (omega arith) (omega arith) (omega arith);
      }

  stored_same : stored words ≡ of_rows n c rows
  stored_same =
      ap (λ x. of_rows x (channel_count words) (stored_row words)) states_held ∙ ap (λ x. of_rows n x (stored_row words)) channels_held
      ∙ of_rows-same n c (stored_row words) rows row_same

  row_laid_out : (w : ℕ) → w < n → RowLaidOut words w
  row_laid_out w l =
      let row = ok.each_row w l in
      let same = row_same w l in
      let p : controller_word words w ≡ (rows w).controller_moves = same.controller_moves in
      let q : environment_word words w ≡ (rows w).environment_moves = same.environment_moves in (
        omega (arith, p, row.some_controller_move),
        omega (arith, p, row.few_controller_moves),
        omega (arith, q, row.some_environment_move),
        omega (arith, q, row.few_environment_moves),
        λ a b low high. omega (arith, same.next a b low high, states_held, row.next_bound a b (omega arith) (omega arith)),
      )

  laid_out : words_taken n c ≤ length words → LaidOut words
  laid_out long = (
    omega (arith, states_held, ok.some_state),
    omega (arith, states_held, ok.few_states),
    omega (arith, channels_held, ok.some_channel),
    omega (arith, channels_held, ok.few_channels),
    subst₂ (λ x y. words_taken x y ≤ length words) (sym states_held) (sym channels_held) long,
    λ w l. row_laid_out w (omega (arith, states_held)),
  )

-- the layout holds the system, whatever words follow
pub held : (n c : ℕ) (rows : ℕ → RowMeaning) → Storable n c rows → (rest : List ℕ)
    → Holds (of_rows n c rows) (system_words (of_rows n c rows) ++ rest)
held n c rows ok rest =
    let m : Meaning = of_rows n c rows in
    let taken : ℕ = words_taken n c in
    let words : List ℕ = system_words m ++ rest in
    let long : length (system_words m) ≡ taken = length-map-range_with_len (system_word m) 0 taken in
    let begins : (i : ℕ) → i < taken → get_or words i 0 ≡ system_word m i =
    λ i l. get_or_append_left (system_words m) rest 0 i (omega (arith, long)) ∙ get_or-map-range_with_len (system_word m) 0 taken i i 0 l (omega arith) in (
      laid_out n c rows ok words begins (omega (arith, length-append (system_words m) rest, long)),
      stored_same n c rows ok words begins,
    )

-- the stored system over words that hold a system is that
pub stored_is : (m : Meaning) (words lent kept : List ℕ) → Holds m words → lent ≡ words → kept ≡ stored_words lent → stored kept ≡ m
stored_is m words lent kept holds l k = ap stored (k ∙ ap stored_words l ∙ stored_words_kept words holds.0) ∙ holds.1
