-- The layout check decides the layout.
use Rattle.std.proofs.Common.{◌≡◌, ℕ, suc, ◌<◌, ◌≤◌, Bool, true, false, cond, not, ◌&&◌, ltb, List, length, is_ok, Some, None, Ok, Err, Decides, Option, Result, refl, ap, ◌∙◌, arith}
use Rattle.std.proofs.lemmas.Nat.{mul-le}
use Rattle.std.proofs.lemmas.Bool.{and_from, and_parts, cond_both, cond-false, cond-true, false≢true, le-ltb, lt-ltb, ltb-false, ltb-true, not-false, not_from_true}
use Rattle.std.proofs.lemmas.Bool.Decides.{Decides-at}
use Rattle.systems.proofs.Bounded.{all_below_from, all_below_true, between_from, between_true, first_below_none_all, first_below_none_from}
use Rattle.systems.specs.Bounded.{between, first_below}
use Rattle.systems.specs.Layout.{LaidOut, RowHeld, RowLaidOut, channel_count, controller_word, environment_word, layout, move_fits, next_fits, next_states_fit, next_word, resting, row_fault, row_words, rows_answer, state_count, stored_words, words_taken}
use Rattle.systems.specs.declared.layout.LayoutFault.{LayoutFault}
use Rattle.systems.specs.declared.layout.LayoutFault.TheVariants.{States, Channels, TooShort, Moves, NextState}

-- the row of every state lies in words that are enough for all
pub row_held : (words : List ℕ) (w n : ℕ) → w < n → words_taken n (channel_count words) ≤ length words → RowHeld words w
row_held words w n l h = let r : ℕ = row_words (channel_count words) in omega (arith, mul-le (suc w) r n r (omega arith) (omega arith))

-- the test of a row's next states says that each is a state
next_states_true : (words : List ℕ) (w : ℕ) → next_states_fit words w ≡ true
    → (a b : ℕ) → a < controller_word words w → b < environment_word words w → next_word words w a b < state_count words
next_states_true words w h a b p q =
    let fits : move_fits words w a ≡ true = all_below_true (controller_word words w) (move_fits words w) h a p in
    ltb-true (next_word words w a b) (state_count words) (all_below_true (environment_word words w) (next_fits words w a) fits b q)

-- and the other way round
next_states_from : (words : List ℕ) (w : ℕ)
    → ((a b : ℕ) → a < controller_word words w → b < environment_word words w → next_word words w a b < state_count words)
    → next_states_fit words w ≡ true
next_states_from words w h =
    all_below_from (controller_word words w) (move_fits words w)
    (λ a p. all_below_from (environment_word words w) (next_fits words w a) (λ b q. lt-ltb (next_word words w a b) (state_count words) (h a b p q)))

-- a search that passes by a test and finds nothing
none_past : {X : Type 0} (t : Bool) (x : X) (rest : Option X) → cond t (Some x) rest ≡ None → (t ≡ false) × (rest ≡ None)
none_past true x rest h = let z : ◌≡◌ {A = ℕ} 0 1 = cc in absurd (omega arith)
none_past false x rest h = (refl, h)

-- a check that passes by a test and passes
ok_past : {X E : Type 0} (t : Bool) (e : E) (rest : Result X E) → is_ok (cond t (Err e) rest) ≡ true → (t ≡ false) × (is_ok rest ≡ true)
ok_past true e rest h = absurd (false≢true h)
ok_past false e rest h = (refl, h)

-- a row with no fault has the layout
pub row_sound : (words : List ℕ) (w : ℕ) → row_fault words w ≡ None → RowLaidOut words w
row_sound words w h =
    let p : ℕ = controller_word words w in
    let q : ℕ = environment_word words w in
    let first = none_past (not (between 1 16 p && between 1 16 q)) Moves (cond (not (next_states_fit words w)) (Some NextState) None) h in
    let second = none_past (not (next_states_fit words w)) NextState None first.1 in
    let counts = and_parts (between 1 16 p) (between 1 16 q) (not-false (between 1 16 p && between 1 16 q) first.0) in
    let controller = between_true 1 16 p counts.0 in
    let environment = between_true 1 16 q counts.1 in
    (controller.0, controller.1, environment.0, environment.1, next_states_true words w (not-false (next_states_fit words w) second.0))

-- a row that has the layout has no fault
pub row_complete : (words : List ℕ) (w : ℕ) → RowLaidOut words w → row_fault words w ≡ None
row_complete words w ok =
    let p : ℕ = controller_word words w in
    let q : ℕ = environment_word words w in
    let counts : (between 1 16 p && between 1 16 q) ≡ true =
    and_from (between 1 16 p) (between 1 16 q) (between_from 1 16 p ok.0 ok.1) (between_from 1 16 q ok.2 ok.3) in
    cond-false (not (between 1 16 p && between 1 16 q)) (Some Moves) _ (not_from_true (between 1 16 p && between 1 16 q) counts)
    ∙ cond-false (not (next_states_fit words w)) (Some NextState) None (not_from_true (next_states_fit words w) (next_states_from words w ok.4))

-- the check of the rows passes only where no row has a fault
rows_none : (words : List ℕ) (o : Option LayoutFault) → is_ok (rows_answer words o) ≡ true → o ≡ None
rows_none words (Some fault) h = absurd (false≢true h)
rows_none words None h = refl

-- words that the check passes have the layout
pub layout_sound : (words : List ℕ) → is_ok (layout words) ≡ true → LaidOut words
layout_sound words h =
    let n : ℕ = state_count words in
    let c : ℕ = channel_count words in
    let header = ok_past (ltb (length words) 2) TooShort _ h in
    let states = ok_past (not (between 1 256 n)) States _ header.1 in
    let channels = ok_past (not (between 1 8 c)) Channels _ states.1 in
    let room = ok_past (ltb (length words) (words_taken n c)) TooShort _ channels.1 in
    let rows = rows_none words (first_below n (row_fault words)) room.1 in
    let few_states = between_true 1 256 n (not-false (between 1 256 n) states.0) in
    let few_channels = between_true 1 8 c (not-false (between 1 8 c) channels.0) in (
      few_states.0,
      few_states.1,
      few_channels.0,
      few_channels.1,
      ltb-false (length words) (words_taken n c) room.0,
      λ w l. row_sound words w (first_below_none_all n (row_fault words) rows w l),
    )

-- what the check answers where the words are enough
pub layout_by_rows : (words : List ℕ)
    → 1 ≤ state_count words → state_count words ≤ 256 → 1 ≤ channel_count words → channel_count words ≤ 8
    → words_taken (state_count words) (channel_count words) ≤ length words
    → layout words ≡ rows_answer words (first_below (state_count words) (row_fault words))
layout_by_rows words some_state states some_channel channels room =
    let n : ℕ = state_count words in
    let c : ℕ = channel_count words in
    cond-false (ltb (length words) 2) (Err TooShort) _ (le-ltb (length words) 2 (omega arith))
    ∙ (cond-false (not (between 1 256 n)) (Err States) _ (not_from_true (between 1 256 n) (between_from 1 256 n some_state states))
    ∙ (cond-false (not (between 1 8 c)) (Err Channels) _ (not_from_true (between 1 8 c) (between_from 1 8 c some_channel channels))
    ∙ cond-false (ltb (length words) (words_taken n c)) (Err TooShort) _ (le-ltb (length words) (words_taken n c) room)))

-- the check passes words that have the layout, and answers how many they take
pub layout_complete : (words : List ℕ) → LaidOut words → layout words ≡ Ok (words_taken (state_count words) (channel_count words))
layout_complete words ok =
    layout_by_rows words ok.0 ok.1 ok.2 ok.3 ok.4
    ∙ ap (rows_answer words) (first_below_none_from (state_count words) (row_fault words) (λ w l. row_complete words w (ok.5 w l)))

-- so an answer that is the check's decides the layout
pub layout_decides : (words : List ℕ) (r : Result ℕ LayoutFault) → r ≡ layout words → Decides (is_ok r) (LaidOut words)
layout_decides words r e =
    Decides-at (is_ok r) (is_ok (layout words)) (ap is_ok e) (layout_sound words, λ ok. ap is_ok (layout_complete words ok))

-- the resting system has the layout, by the check
pub resting_laid_out : LaidOut resting
resting_laid_out = layout_sound resting refl

-- what a stored system lies in has the layout, whatever words it was made over
pub stored_words_laid_out : (words : List ℕ) → LaidOut (stored_words words)
stored_words_laid_out words = cond_both (is_ok (layout words)) words resting LaidOut (layout_sound words) (λ _. resting_laid_out)

-- words that have the layout are kept
pub stored_words_kept : (words : List ℕ) → LaidOut words → stored_words words ≡ words
stored_words_kept words ok = cond-true (is_ok (layout words)) words resting (ap is_ok (layout_complete words ok))
