-- The file of a small system is short.
use Rattle.std.proofs.Common.{◌≡◌, ℕ, zero, suc, ◌*◌, ◌<◌, ◌≤◌, true, leb, List, [], ◌∷◌, ◌++◌, length, drop, ap, ◌∙◌, arith, length-append}
use Rattle.std.proofs.lemmas.Bool.{and_parts, leb-true}
use Rattle.codec.specs.Filing.{filed}
use Rattle.codec.specs.Put.{last_place, put_at, place_behind}
use Rattle.codec.specs.Sequence.{Cursor}
use Rattle.codec.proofs.Puts.{numbers_place, numbers_stand, spelled_short}
use Rattle.systems.specs.Bounded.{all_below, joined_below, listed_below}
use Rattle.systems.specs.Meaning.{Meaning}
use Rattle.systems.proofs.Bounded.{all_below_true}
use Rattle.files.specs.Few.{Few}
use Rattle.files.specs.Flattening.{readings_flattened, move_flattened, next_flattened, row_flattened, flattened}
use Rattle.files.specs.SystemWrite.{few_moves, system_bytes}
use Rattle.files.specs.Wrote.{Put}

pub few_from : (m : Meaning) → m.states ≤ 256 → m.channels ≤ 8 → all_below m.states (few_moves m) ≡ true → Few m
few_from m states channels moves =
    let at = λ (w : ℕ) (l : w < m.states). and_parts (leb (m.controller_moves w) 16) (leb (m.environment_moves w) 16) (all_below_true m.states (few_moves m) moves w l) in
    record {
      few_states = states;
      few_channels = channels;
      few_controller_moves = λ w l. leb-true (m.controller_moves w) 16 (at w l).0;
      few_environment_moves = λ w l. leb-true (m.environment_moves w) 16 (at w l).1;
    }

joined_short : (k most : ℕ) (lists : ℕ → List ℕ) → ((j : ℕ) → j < k → length (lists j) ≤ most) → length (joined_below k lists) ≤ k * most
joined_short zero most lists short = omega arith
joined_short (suc k) most lists short =
    let before = joined_short k most lists (λ j l. short j (omega arith)) in
    omega (arith, before, short k (omega arith), length-append (joined_below k lists) (lists k))

listed_short : (k : ℕ) (gives : ℕ → ℕ) → length (listed_below k gives) ≤ k * 1
listed_short k gives = joined_short k 1 (λ j. gives j ∷ []) (λ j l. omega arith)

module _ (m : Meaning) (few : Few m) where
  next_short : (w : ℕ) → w < m.states → length (next_flattened m w) ≤ 256
  next_short w l =
      let p = few.few_controller_moves w l in
      let q = few.few_environment_moves w l in
      let moves = joined_short (m.controller_moves w) 16 (move_flattened m w) (λ a h. omega (arith, q, listed_short (m.environment_moves w) (m.next w a))) in
      omega (arith, p, moves)

  row_short : (w : ℕ) → w < m.states → length (row_flattened m w) ≤ 266
  row_short w l =
      let readings : ℕ = length (readings_flattened m w) in
      let r : readings ≤ 8 = omega (arith, few.few_channels, listed_short m.channels (λ k. filed (m.reading w k))) in
      omega (arith, r, next_short w l, length-append (readings_flattened m w) (m.controller_moves w ∷ m.environment_moves w ∷ next_flattened m w))

  -- a file has at most 3 * (2 + 256 * 266) bytes
  short : length (system_bytes m) ≤ 204294
  short =
      let rows = joined_short m.states 266 (row_flattened m) row_short in
      omega (arith, few.few_states, rows, spelled_short (flattened m))

  -- so its end is a place
  pub ends : {before after : Cursor} → before.place ≡ 0 → Put before (flattened m) after → after.place ≡ length (system_bytes m)
  ends {before} {after} start wrote =
      let low : before.place ≤ last_place = omega (arith, start) in
      let placed = ap (λ there. there.place) wrote.is ∙ numbers_place before (flattened m) low in
      let direct : place_behind before.place (length (system_bytes m)) ≡ length (system_bytes m) = grind (arith, start, short) in
      placed ∙ direct

  -- and it stands in front where there is room
  pub stands : {before after : Cursor} → before.place ≡ 0 → Put before (flattened m) after → length (system_bytes m) ≤ length before.bytes
      → after.bytes ≡ system_bytes m ++ drop (length (system_bytes m)) before.bytes
  stands {before} {after} start wrote room =
      let there = ap (λ there. there.bytes) wrote.is ∙ numbers_stand before (flattened m) (omega (arith, start, room)) (omega (arith, start, short)) in
      there ∙ ap (λ at. put_at before.bytes at (system_bytes m)) start ∙ ap (λ end. system_bytes m ++ drop end before.bytes) (omega arith)
