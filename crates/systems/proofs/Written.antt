-- What the calls that write a row leave, one after the other.
use Rattle.std.proofs.Common.{◌≡◌, ℕ, zero, suc, ◌+◌, ◌-◌, ◌*◌, ◌/◌, ◌%◌, ◌<◌, ◌≤◌, cond, ◌&&◌, eqb, leb, ltb, List, length, get_or, replicate, refl, sym, ap, ◌∙◌, subst, inl, inr, mod-lt, div-lt_iff_lt-mul, div-add-mod', arith}
use borrow.Rule.Slice.PartMut.{put_mid}
use Rattle.std.proofs.lemmas.Bool.{cases_lt}
use Rattle.std.proofs.lemmas.Bool.Decides.{nat_tests}
use Rattle.std.proofs.lemmas.Grind.{common_steps}
use Rattle.std.proofs.lemmas.List.{places}
use Rattle.std.proofs.lemmas.List.FromFn.{fill_by_all, get_or-map-range_with_len, length-map-range_with_len}
use Rattle.std.specs.declared.ops.Range.{Range}
use Rattle.systems.specs.Layout.{biased, row_place, row_range, row_words, words_taken}
use Rattle.systems.specs.Limits.{max_moves}
use Rattle.systems.specs.Meaning.{Reading}
use Rattle.systems.specs.Rows.{RowMeaning, of_rows}
use Rattle.systems.specs.Words.{row_cell, row_cells, system_word, system_words, with_header, with_moves, with_next_of, with_next_states, with_readings}
use Rattle.systems.proofs.Held.{row_cell_at, row_cell-of_rows, row_ends}

-- as many words as before
length-with_readings : (c : ℕ) (words : List ℕ) (k : ℕ) (reading : ℕ → Reading) → length (with_readings c words k reading) ≡ length words
length-with_readings c words zero reading = refl
length-with_readings c words (suc k) reading =
    let before = length-with_readings c words k reading in
    grind (arith, nat_tests, common_steps)

length-with_next_of : (c : ℕ) (words : List ℕ) (a b : ℕ) (next : ℕ → ℕ) → length (with_next_of c words a b next) ≡ length words
length-with_next_of c words a zero next = refl
length-with_next_of c words a (suc b) next =
    let before = length-with_next_of c words a b next in
    grind (arith, nat_tests, common_steps)

length-with_next_states : (c : ℕ) (words : List ℕ) (a q : ℕ) (next : ℕ → ℕ → ℕ) → length (with_next_states c words a q next) ≡ length words
length-with_next_states c words zero q next = refl
length-with_next_states c words (suc a) q next =
    length-with_next_of c (with_next_states c words a q next) a q (next a) ∙ length-with_next_states c words a q next

-- the words afterwards
readings_written : (c : ℕ) (words : List ℕ) (k : ℕ) (reading : ℕ → Reading) (j : ℕ) → k ≤ c → j < length words
    → get_or (with_readings c words k reading) j 0 ≡ cond (ltb j k) (biased (reading j)) (get_or words j 0)
readings_written c words zero reading j few l = grind (arith, nat_tests)
readings_written c words (suc k) reading j few l =
    let before = readings_written c words k reading j (omega arith) l in
    let long = length-with_readings c words k reading in
    grind (arith, nat_tests, common_steps, places)

next_of_written : (c : ℕ) (words : List ℕ) (a b : ℕ) (next : ℕ → ℕ) (j : ℕ) → a < max_moves → b ≤ max_moves → j < length words
    → get_or (with_next_of c words a b next) j 0
    ≡ cond (leb (c + 2 + a * max_moves) j && ltb j (c + 2 + (a * max_moves + b))) (next (j - (c + 2 + a * max_moves))) (get_or words j 0)
next_of_written c words a zero next j low few l = grind (arith, nat_tests)
next_of_written c words a (suc b) next j low few l =
    let before = next_of_written c words a b next j low (omega arith) l in
    let long = length-with_next_of c words a b next in
    grind (arith, nat_tests, common_steps, places)

next_written : (c : ℕ) (words : List ℕ) (p q : ℕ) (next : ℕ → ℕ → ℕ) (j : ℕ) → p ≤ max_moves → q ≤ max_moves → j < length words
    → get_or (with_next_states c words p q next) j 0
    ≡ cond (leb (c + 2) j && (ltb ((j - (c + 2)) / max_moves) p && ltb ((j - (c + 2)) % max_moves) q)) (next ((j - (c + 2)) / max_moves) ((j - (c + 2)) % max_moves)) (get_or words j 0)
next_written c words zero q next j few small l = grind (arith, nat_tests)
next_written c words (suc a) q next j few small l =
    let before = next_written c words a q next j (omega arith) small l in
    let long = length-with_next_states c words a q next in
    let here = next_of_written c (with_next_states c words a q next) a q (next a) j (omega arith) small (omega (arith, long)) in
    grind (arith, nat_tests)

-- a row of which all is written
pub row_written : (c : ℕ) (row : RowMeaning) (words : List ℕ) → length words ≡ row_words c
    → row.controller_moves ≤ max_moves → row.environment_moves ≤ max_moves
    → with_next_states c (with_moves c (with_readings c (replicate (length words) 0) c row.reading) row.controller_moves row.environment_moves)
    row.controller_moves row.environment_moves row.next
    ≡ row_cells c row
row_written c row words long few_p few_q =
    let p : ℕ = row.controller_moves in
    let q : ℕ = row.environment_moves in
    let blank : List ℕ = replicate (length words) 0 in
    let readings : List ℕ = with_readings c blank c row.reading in
    let moves : List ℕ = with_moves c readings p q in
    let blank_long : length blank ≡ row_words c = grind (arith, common_steps) in
    let size : length readings ≡ row_words c = length-with_readings c blank c row.reading ∙ blank_long in
    let size_moves : length moves ≡ row_words c = grind (arith, common_steps) in
    fill_by_all (row_cell c row) _ (row_words c) 0 (length-with_next_states c moves p q row.next ∙ size_moves)
    (λ j l.
    let front = readings_written c blank c row.reading j (omega arith) (omega (arith, blank_long)) in
    let counts : get_or moves j 0 ≡ cond (ltb j c) (get_or readings j 0) (cond (eqb j c) p (cond (eqb j (c + 1)) q (get_or readings j 0))) = grind (arith, nat_tests, common_steps, places) in
    let back = next_written c moves p q row.next j few_p few_q (omega (arith, size_moves)) in
    grind (arith, nat_tests, common_steps))

-- a word in a part that was written
in_part : (xs ys : List ℕ) (a n k : ℕ) → a ≤ length xs → k < length ys → get_or (put_mid a n xs ys) (a + k) 0 ≡ get_or ys k 0
in_part xs ys a n k f l = grind (arith, places)

-- the words of a system of which the first rows are written
pub record RowsHeld (n c : ℕ) (rows : ℕ → RowMeaning) (k : ℕ) (words : List ℕ) : Type 0 where
  pub long : length words ≡ words_taken n c
  pub states : get_or words 0 0 ≡ n
  pub channels : get_or words 1 0 ≡ c
  pub row : (w j : ℕ) → w < k → j < row_words c → get_or words (row_place c w + j) 0 ≡ row_cell c (rows w) j

pub rows_none : (n c : ℕ) (rows : ℕ → RowMeaning) (words after : List ℕ) → length words ≡ words_taken n c → after ≡ with_header words n c
    → RowsHeld n c rows 0 after
rows_none n c rows words after long is = record {
  long = grind (arith, common_steps);
  states = grind (arith, common_steps, places);
  channels = grind (arith, common_steps, places);
  row = λ w j l h. absurd (omega arith);
}

-- the row of a state is written to the part that is its own
pub rows_more : (n c : ℕ) (rows : ℕ → RowMeaning) (k : ℕ) (words row : List ℕ) (part : Range ℕ) → k < n → RowsHeld n c rows k words
    → part ≡ row_range c k → row ≡ row_cells c (rows k)
    → RowsHeld n c rows (k + 1) (put_mid part.start (part.end - part.start) words row)
rows_more n c rows k words row part l before its is =
    let from : ℕ = row_place c k in
    let start : part.start ≡ from = ap (λ (r : Range ℕ). r.start) its in
    let count : part.end - part.start ≡ row_words c = omega (arith, start, ap (λ (r : Range ℕ). r.end) its) in
    let ends = row_ends c k n l in
    let size : length row ≡ row_words c = ap length is ∙ length-map-range_with_len (row_cell c (rows k)) 0 (row_words c) in
    let inside : from ≤ length words = omega (arith, before.long) in
    let words_long = before.long in
    rw (count, start) record {
      long = grind (arith, common_steps);
      states = grind (arith, places, before.states);
      channels = grind (arith, places, before.channels);
      row = λ w j earlier h. elim (cases_lt w k) [
        | inl there ↦ let ended = row_ends c w k there in grind (arith, places, before.row)
        | inr here ↦
            let same : w ≡ k = omega arith in
            let at : get_or row j 0 ≡ row_cell c (rows k) j =
            ap (λ x. get_or x j 0) is ∙ get_or-map-range_with_len (row_cell c (rows k)) 0 (row_words c) j j 0 h (omega arith) in
            subst (λ x. get_or (put_mid from (row_words c) words row) (row_place c x + j) 0 ≡ row_cell c (rows x) j) (sym same)
            (in_part words row from (row_words c) j inside (omega (arith, size)) ∙ at)
      ];
    }

pub rows_all : (n c : ℕ) (rows : ℕ → RowMeaning) (k : ℕ) (words : List ℕ) → RowsHeld n c rows k words → n ≤ k → words ≡ system_words (of_rows n c rows)
rows_all n c rows k words held all =
    let r : ℕ = row_words c in
    let m = of_rows n c rows in
    let is : ℕ → Type 0 = λ i. get_or words i 0 ≡ system_word m i in
    fill_by_all (system_word m) words (words_taken n c) 0 held.long
    (λ i l. elim (cases_lt i 2) [
      | inl header ↦ grind (arith, nat_tests, held.states, held.channels)
      | inr behind ↦
          let w : ℕ = (i - 2) / r in
          let j : ℕ = (i - 2) % r in
          let split : w * r + j ≡ i - 2 = div-add-mod' (i - 2) r in
          let there : row_place c w + j ≡ i = omega arith in
          let inside : i - 2 < n * r = omega arith in
          let state : w < n = (div-lt_iff_lt-mul {k = r} (omega arith)).1 inside in
          let column : j < r = mod-lt (i - 2) (omega arith) in
          subst is there (held.row w j (omega (arith, state)) column ∙ sym (row_cell-of_rows n c rows w j state) ∙ sym (row_cell_at m w j column))
    ])
