-- Bytes that spell a system are read to that system.
use Rattle.std.proofs.Common.{◌≡◌, ℕ, zero, suc, ◌+◌, ◌-◌, ◌*◌, ◌/◌, ◌%◌, ◌<◌, ◌≤◌, List, ◌∷◌, length, None, sym, refl, ap, ◌∙◌, subst, inl, inr, mod-lt, div-lt_iff_lt-mul, mul-zero, div-add-mod', below_more, arith}
use Rattle.std.proofs.lemmas.Bool.{cases_lt}
use Rattle.codec.specs.Filing.{filed, unfiled}
use Rattle.codec.proofs.Filed.{unfiled-filed}
use Rattle.systems.specs.Layout.{words_taken}
use Rattle.systems.specs.Meaning.{Meaning, Lawful}
use Rattle.files.specs.Flattening.{readings_flattened, next_flattened, row_flattened, rows_flattened, flattened}
use Rattle.files.specs.Few.{Few}
use Rattle.codec.specs.Sequence.{value_at, after, skip, nth, Spells}
use Rattle.files.specs.SystemFile.{unread, controller_place, environment_place, next_place, next_numbers, row_end, row_start, states_at, channels_at, rows_place, row_at, file_row, file_rows, described}
use Rattle.files.specs.SystemWrite.{ReadsBack}
use Rattle.systems.specs.Rows.{RowMeaning, of_rows, row_of}
use Rattle.systems.proofs.Held.{SameRow, of_rows-row_of, of_rows-same}
use Rattle.files.proofs.Tested.{RowTested, FileTested, file_fault_from}
use Rattle.codec.proofs.Spelled.{spells_split}
use Rattle.files.proofs.Unspelled.{Here, One, unspell_one, unspell_listed, unspell_rows_of}

module _ (m : Meaning) (law : Lawful m) (few : Few m) (bytes : List ℕ) where
  -- a row that is read to state w
  record RowIs (n c w start : ℕ) : Type 0 where
    tested : RowTested bytes n c w start
    same : SameRow c (file_row bytes c start) (row_of m w)

  unspell_row : (w start : ℕ) (from rest : List ℕ) → w < m.states → Here bytes start from → Spells (row_flattened m w) from rest
      → RowIs m.states m.channels w start × Here bytes (row_end bytes m.channels start) rest
  unspell_row w start from rest l here h =
      let n : ℕ = m.states in
      let c : ℕ = m.channels in
      let p : ℕ = m.controller_moves w in
      let q : ℕ = m.environment_moves w in
      let s = spells_split (readings_flattened m w) (p ∷ q ∷ next_flattened m w) from rest h in
      let readings = unspell_listed bytes start w c (λ k. filed (m.reading w k)) from s.0 here s.1 in
      let one_p = unspell_one bytes (controller_place bytes c start) w p s.0 s.2.0 readings.behind s.2.1 in
      let one_q = unspell_one bytes (environment_place bytes c start) w q s.2.0 s.2.2.0 one_p.behind s.2.2.1 in
      let rows = unspell_rows_of bytes (next_place bytes c start) w q p (m.next w) s.2.2.0 rest one_q.behind s.2.2.2 in
      let count : next_numbers bytes c start ≡ p * q = ap (λ x. x * value_at bytes (environment_place bytes c start)) one_p.value ∙ ap (λ x. p * x) one_q.value in (
        record {
          tested = record {
            readings = readings.read;
            controller = record { read = one_p.read; low = omega (arith, one_p.value, law.some_controller_move w l); high = omega (arith, one_p.value, few.few_controller_moves w l) };
            environment = record { read = one_q.read; low = omega (arith, one_q.value, law.some_environment_move w l); high = omega (arith, one_q.value, few.few_environment_moves w l) };
            next = λ j less.
                let inside : j < p * q = subst (λ k. j < k) count less in
                let some : 0 < q = elim (cases_lt 0 q) [ inl yes_some ↦ yes_some | inr none ↦ let nil : q ≡ 0 = omega arith in absurd (omega (arith, ap (λ x. p * x) nil, mul-zero p)) ] in
                let a : ℕ = j / q in
                let b : ℕ = j % q in
                let split : a * q + b ≡ j = div-add-mod' j q in
                let a_less : a < p = (div-lt_iff_lt-mul {k = q} some).1 inside in
                let b_less : b < q = mod-lt j some in
                let value : nth bytes j (next_place bytes c start) ≡ m.next w a b = subst (λ i. nth bytes i (next_place bytes c start) ≡ m.next w a b) split (rows.value a b a_less b_less) in
                record {
                  read = subst (λ i. unread bytes (skip bytes i (next_place bytes c start)) w ≡ None) split (rows.read a b a_less b_less);
                  low = omega arith;
                  high = omega (arith, value, law.next_bound w a b);
                };
          };
          same = record {
            reading = λ k h. ap unfiled (readings.value k h) ∙ unfiled-filed (m.reading w k);
            controller_moves = one_p.value;
            environment_moves = one_q.value;
            next = λ a b low high.
                subst (λ x. nth bytes (a * x + b) (next_place bytes c start) ≡ m.next w a b) (sym one_q.value)
                (rows.value a b (omega (arith, one_p.value)) (omega (arith, one_q.value)));
          };
        },
        subst (λ k. Here bytes (skip bytes k (next_place bytes c start)) rest) (sym count) rows.behind,
      )

  unspell_rows : (start k : ℕ) (from rest : List ℕ) → k ≤ m.states → Here bytes start from → Spells (rows_flattened m k) from rest
      → ((w : ℕ) → w < k → RowIs m.states m.channels w (row_start bytes m.channels start w)) × Here bytes (row_start bytes m.channels start k) rest
  unspell_rows start zero from rest few_enough here h = ((λ w l. absurd (omega arith)), subst (Here bytes start) h here)
  unspell_rows start (suc k) from rest few_enough here h =
      let c : ℕ = m.channels in
      let s = spells_split (rows_flattened m k) (row_flattened m k) from rest h in
      let before = unspell_rows start k from s.0 (omega arith) here s.1 in
      let last = unspell_row k (row_start bytes c start k) s.0 rest (omega arith) before.1 s.2 in (
        (λ w l. below_more (λ v. RowIs m.states c v (row_start bytes c start v)) k before.0 last.0 w (omega arith)),
        last.1,
      )

  -- the whole file, read from the front of the bytes
  module _ (rest : List ℕ) (file : Spells (flattened m) bytes rest) where
    states_read : One bytes 0 0 m.states file.0
    states_read = unspell_one bytes 0 0 m.states bytes file.0 (record { is = refl; counts = omega arith }) file.1

    channels_read : One bytes (after bytes 0) 0 m.channels file.2.0
    channels_read = unspell_one bytes (after bytes 0) 0 m.channels file.0 file.2.0 states_read.behind file.2.1

    rows_read : ((w : ℕ) → w < m.states → RowIs m.states m.channels w (row_start bytes m.channels (rows_place bytes 0) w))
        × Here bytes (row_start bytes m.channels (rows_place bytes 0) m.states) rest
    rows_read = unspell_rows (rows_place bytes 0) m.states file.2.0 rest (omega arith) channels_read.behind file.2.2

    -- by the numbers that were read
    RowsAre : ℕ → ℕ → Type 0
    RowsAre n c =
        ((w : ℕ) → w < n → RowIs n c w (row_start bytes c (rows_place bytes 0) w)) × Here bytes (row_start bytes c (rows_place bytes 0) n) rest

    rows_are : ((w : ℕ) → w < states_at bytes 0 → RowIs (states_at bytes 0) (channels_at bytes 0) w (row_at bytes 0 w))
        × Here bytes (row_at bytes 0 (states_at bytes 0)) rest
    unfolding RowsAre
    rows_are =
        subst (λ n. RowsAre n (channels_at bytes 0)) (sym states_read.value)
        (subst (λ c. RowsAre m.states c) (sym channels_read.value) rows_read)

    tested : (room : ℕ) → words_taken m.states m.channels ≤ room → FileTested bytes 0 room
    tested room enough = record {
      states = record { read = states_read.read; low = omega (arith, states_read.value, law.some_state); high = omega (arith, states_read.value, few.few_states) };
      channels = record { read = channels_read.read; low = omega (arith, channels_read.value, law.some_channel); high = omega (arith, channels_read.value, few.few_channels) };
      room_enough =
          subst (λ n. words_taken n (channels_at bytes 0) ≤ room) (sym states_read.value)
          (subst (λ c. words_taken m.states c ≤ room) (sym channels_read.value) enough);
      rows = λ w l. (rows_are.0 w l).tested;
    }

    same : described bytes 0 ≡ m
    unfolding described
    same =
        let rows : ℕ → ℕ → RowMeaning = λ c. file_rows bytes c (rows_place bytes 0) in
        ap (λ n. of_rows n (channels_at bytes 0) (rows (channels_at bytes 0))) states_read.value
        ∙ ap (λ c. of_rows m.states c (rows c)) channels_read.value
        ∙ of_rows-same m.states m.channels (rows m.channels) (row_of m) (λ w l. (rows_read.0 w l).same)
        ∙ of_rows-row_of m law

    pub reads_back : ReadsBack m bytes (length bytes - length rest)
    reads_back = record {
      granted = λ room enough. file_fault_from bytes 0 room (tested room enough);
      end = rows_are.1.counts;
      same = same;
    }
