-- The system that a file without a fault describes: its answers, that it has a layout, and that the file is just its numbers.
use Rattle.std.proofs.Common.{◌≡◌, ℕ, zero, suc, ◌+◌, ◌*◌, ◌/◌, ◌%◌, ◌<◌, ◌≤◌, eqb, List, ◌∷◌, ◌++◌, drop, pos, negsuc, None, Ok, sym, refl, ap, ◌∙◌, subst, mul_comm, arith}
use Rattle.std.proofs.lemmas.Nat.{mul-add-lt}
use Rattle.std.proofs.lemmas.Int.{ints}
use Rattle.std.proofs.lemmas.Bool.Decides.{nat_tests}
use Rattle.std.proofs.lemmas.Bool.{cond_both}
use Rattle.codec.specs.Filing.{filed, unfiled}
use Rattle.codec.specs.Number.{number}
use Rattle.codec.proofs.Filed.{filed-unfiled}
use Rattle.systems.specs.Bounded.{joined_below, listed_below}
use Rattle.systems.specs.Layout.{Holds, biased, stored, unbiased}
use Rattle.systems.specs.Meaning.{Meaning}
use Rattle.files.specs.Few.{Few}
use Rattle.files.specs.Flattening.{row_flattened, flattened, ReadsAsFiled}
use Rattle.codec.specs.Sequence.{value_at, skip, nth, Spells}
use Rattle.files.specs.SystemFile.{controller_place, environment_place, next_place, next_numbers, row_end, states_at, channels_place, channels_at, rows_place, row_at, file_fault, file_rows, described}
use Rattle.systems.specs.Limits.{max_moves}
use Rattle.systems.specs.Rows.{of_rows}
use Rattle.systems.specs.Words.{system_words}
use Rattle.systems.proofs.Held.{Storable, StorableRow, held}
use Rattle.codec.proofs.Spelled.{value_bound, Spells-append}
use Rattle.files.proofs.Spelled.{read_at, spells_listed, spells_rows_of}
use Rattle.files.proofs.Tested.{RowTested, FileTested, file_tested}

-- a row spells the numbers that it was read to
spells_row : (bytes : List ℕ) (n c w start : ℕ) → RowTested bytes n c w start → (reading : ℕ → ℕ) (p q : ℕ) (next : ℕ → ℕ → ℕ)
    → p ≡ value_at bytes (controller_place bytes c start) → q ≡ value_at bytes (environment_place bytes c start)
    → ((k : ℕ) → k < c → reading k ≡ nth bytes k start)
    → ((a b : ℕ) → a < p → b < q → next a b ≡ nth bytes (a * q + b) (next_place bytes c start))
    → Spells (listed_below c reading ++ (p ∷ q ∷ joined_below p λ a. listed_below q (next a))) (drop start bytes) (drop (row_end bytes c start) bytes)
spells_row bytes n c w start ok reading p q next e f readings nexts =
    let at_p = controller_place bytes c start in
    let at_q = environment_place bytes c start in
    let at_next = next_place bytes c start in
    let count : p * q ≡ next_numbers bytes c start = ap (λ x. x * q) e ∙ ap (λ x. value_at bytes at_p * x) f in
    Spells-append (listed_below c reading) (p ∷ q ∷ joined_below p λ a. listed_below q (next a)) (drop start bytes) (drop at_p bytes) (drop (row_end bytes c start) bytes)
    (spells_listed bytes w start c reading (λ j l. (ok.readings j l, readings j l))) (
      drop at_q bytes,
      subst (λ x. number (drop at_p bytes) ≡ Ok (x, drop at_q bytes)) (sym e) (read_at bytes at_p w ok.controller.read),
      (
        drop at_next bytes,
        subst (λ x. number (drop at_q bytes) ≡ Ok (x, drop at_next bytes)) (sym f) (read_at bytes at_q w ok.environment.read),
        subst (λ k. Spells (joined_below p λ a. listed_below q (next a)) (drop at_next bytes) (drop (skip bytes k at_next) bytes)) count
            (spells_rows_of bytes w at_next q p next (λ j l. (ok.next j (subst (λ k. j < k) count l)).read) nexts),
      ),
    )

-- the reading that a number of 16 bits files is held by a word
unfiled_held : (v : ℕ) → v < 65536 → unbiased (biased (unfiled v)) ≡ unfiled v
unfiled_held v h =
    cond_both (eqb (v % 2) 0) (pos (v / 2)) (negsuc (v / 2)) (λ z. unbiased (biased z) ≡ z)
    (λ _. omega (arith, ints)) (λ _. omega (arith, ints))

-- the system is that of the file's rows
pub described_is : (bytes : List ℕ) (place : ℕ)
    → of_rows (states_at bytes place) (channels_at bytes place) (file_rows bytes (channels_at bytes place) (rows_place bytes place)) ≡ described bytes place
unfolding described
described_is bytes place = refl

module _ (bytes : List ℕ) (place : ℕ) where
  n : ℕ
  n = states_at bytes place

  c : ℕ
  c = channels_at bytes place

  start : ℕ → ℕ
  start w = row_at bytes place w

  m : Meaning
  m = described bytes place

  -- the answers at arguments in range
  reading_in : (w k : ℕ) → w < n → k < c → m.reading w k ≡ unfiled (nth bytes k (start w))
  unfolding described n c start m
  reading_in w k l h = grind (arith, nat_tests)

  controller_in : (w : ℕ) → w < n → m.controller_moves w ≡ value_at bytes (controller_place bytes c (start w))
  unfolding described n c start m
  controller_in w l = grind (arith, nat_tests)

  environment_in : (w : ℕ) → w < n → m.environment_moves w ≡ value_at bytes (environment_place bytes c (start w))
  unfolding described n c start m
  environment_in w l = grind (arith, nat_tests)

  next_in : (w a b : ℕ) → w < n → a < m.controller_moves w → b < m.environment_moves w
      → m.next w a b ≡ nth bytes (a * m.environment_moves w + b) (next_place bytes c (start w))
  unfolding described n c start m
  next_in w a b l f g = grind (arith, nat_tests)

  module _ (room : ℕ) (ok : FileTested bytes place room) where
    some_states : 1 ≤ n
    unfolding n
    some_states = ok.states.low

    rows_spelled : (k : ℕ) → k ≤ n → Spells (joined_below k (row_flattened m)) (drop (start 0) bytes) (drop (start k) bytes)
    unfolding described n c start m
    rows_spelled zero h = refl
    rows_spelled (suc k) h =
        let l : k < n = omega arith in
        Spells-append (joined_below k (row_flattened m)) (row_flattened m k) (drop (start 0) bytes) (drop (start k) bytes) (drop (start (suc k)) bytes)
        (rows_spelled k (omega arith))
        (spells_row bytes n c k (start k) (ok.rows k l) (λ j. filed (m.reading k j)) (m.controller_moves k) (m.environment_moves k) (m.next k)
        (controller_in k l) (environment_in k l)
        (λ j h. ap filed (reading_in k j l h) ∙ filed-unfiled (nth bytes j (start k)))
        (λ a b f g. next_in k a b l f g))

    pub file_spelled : Spells (flattened (described bytes place)) (drop place bytes) (drop (row_at bytes place (states_at bytes place)) bytes)
    unfolding described n c start m
    file_spelled = (
      drop (channels_place bytes place) bytes,
      read_at bytes place 0 ok.states.read,
      (drop (rows_place bytes place) bytes, read_at bytes (channels_place bytes place) 0 ok.channels.read, rows_spelled n (omega arith)),
    )

    -- its rows lie in words
    row_storable : (w : ℕ) → w < n → StorableRow n c (file_rows bytes c (rows_place bytes place) w)
    unfolding n c start
    row_storable w l =
        let row = ok.rows w l in
        let p : ℕ = value_at bytes (controller_place bytes c (start w)) in
        let q : ℕ = value_at bytes (environment_place bytes c (start w)) in record {
          some_controller_move = row.controller.low;
          few_controller_moves = row.controller.high;
          some_environment_move = row.environment.low;
          few_environment_moves = row.environment.high;
          reading_held = λ k h. unfiled_held (nth bytes k (start w)) (value_bound bytes (skip bytes k (start w)));
          next_bound = λ a b f g.
              let there : a * q + b < next_numbers bytes c (start w) = subst (λ x. a * q + b < x) (mul_comm q p) (mul-add-lt a q b p f g) in
              omega (arith, (row.next (a * q + b) there).high, some_states);
        }

    storable : Storable n c (file_rows bytes c (rows_place bytes place))
    unfolding n c
    storable = record {
      some_state = ok.states.low;
      few_states = ok.states.high;
      some_channel = ok.channels.low;
      few_channels = ok.channels.high;
      each_row = row_storable;
    }

    -- so its layout holds it, whatever words follow
    layout_holds : (rest : List ℕ) → Holds (described bytes place) (system_words (described bytes place) ++ rest)
    unfolding described n c
    layout_holds rest = held n c (file_rows bytes c (rows_place bytes place)) storable rest

    -- and reads as filed
    pub reads_as_filed : (words rest : List ℕ) → words ≡ system_words (described bytes place) ++ rest
        → (stored words ≡ described bytes place) × ReadsAsFiled bytes place (row_at bytes place (states_at bytes place)) words
    reads_as_filed words rest is =
        let to : List ℕ = drop (row_at bytes place (states_at bytes place)) bytes in
        let holds = subst (Holds (described bytes place)) (sym is) (layout_holds rest) in
        (holds.1, (holds.0, subst (λ x. Spells (flattened x) (drop place bytes) to) (sym holds.1) file_spelled))

    pub small : Few (described bytes place)
    unfolding described n c start m
    small = record {
      few_states = ok.states.high;
      few_channels = ok.channels.high;
      few_controller_moves = λ w l. subst (λ x. x ≤ max_moves) (sym (controller_in w l)) (ok.rows w l).controller.high;
      few_environment_moves = λ w l. subst (λ x. x ≤ max_moves) (sym (environment_in w l)) (ok.rows w l).environment.high;
    }

-- a file without a fault describes a system that is small enough for a file
pub few : (bytes : List ℕ) (place room : ℕ) → file_fault bytes place room ≡ None → Few (described bytes place)
few bytes place room none = small bytes place room (file_tested bytes place room none)
