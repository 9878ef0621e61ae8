-- What a table tells whose entries are the ranks, and what a ranking leaves.
use Rattle.std.proofs.Common.{◌≡◌, ℕ, zero, suc, ◌+◌, ◌*◌, ◌<◌, ◌≤◌, true, false, not, ◌&&◌, eqb, ltb, List, length, get_or, drop, Some, None, sym, ap, ◌∙◌, subst, inl, inr, arith}
use native.Mathlib.Nat.{le-max_left, le-max_right}
use Rattle.std.proofs.lemmas.Bool.{and_from, and_parts, both_ways, cases_Bool, cases_eq, cases_lt, eq-eqb, eqb-false, eqb-true, lt-ltb, ltb-true, ne_eqb, not_from_false, not_from_true, not-true, or_from, or_left, or_right}
use Rattle.systems.specs.Refused.{if_granted}
use Rattle.arena.proofs.Bounds.{count_below_most}
use Rattle.arena.proofs.Places.{place_below}
use Rattle.arena.proofs.Simulation.{Calm, Ordered, largest, refuted_more}
use Rattle.arena.specs.Arena.{Arena, Closed}
use Rattle.arena.specs.Pairs.{refuted}
use Rattle.arena.specs.Table.{entry, highest, highest_below, pairs, stands, struck}
use Rattle.docket.proofs.Grounds.{fitting_room, openable_fits}
use Rattle.docket.proofs.Laws.{settled_accepted}
use Rattle.ranking.proofs.Ranked.{rounds_keep, rounds_solve, seen, sighted_below}
use Rattle.ranking.specs.Rank.{RanksRight, SolvesRanks, rank_does, ranked, sighted}
use Rattle.docket.specs.Refusals.{opening_refusal}

module _ (A : Arena) (c : Closed A) where
  -- a rank of one table is the rank of every other: by the smaller ranks the same move refutes the pair there, and no smaller rank does
  same_below : (k : ℕ) (s t : List ℕ) → SolvesRanks A s → SolvesRanks A t → (w v : ℕ) → w < A.old_states → v < A.new_states → (entry A s w v ≡ 0 → ⊥) → entry A s w v < k → entry A t w v ≡ entry A s w v
  same_below zero s t hs ht w v lw lv some l = absurd (omega arith)
  same_below (suc k) s t hs ht w v lw lv some l =
      elim (cases_Bool (A.alike w v)) [
        | inr e ↦ (ht w v lw lv).unlike e ∙ sym ((hs w v lw lv).unlike e)
        | inl e ↦
            let rank = (hs w v lw lv).reached e (ne_eqb (entry A s w v) 0 some) in
            let refuted_there : refuted A (struck A t (Some (entry A s w v))) w v ≡ true =
            refuted_more A c (struck A s (Some (entry A s w v))) (struck A t (Some (entry A s w v)))
            (λ a b la lb h.
            let was = and_parts (not (eqb (entry A s a b) 0)) (ltb (entry A s a b) (entry A s w v)) h in
            let smaller = ltb-true (entry A s a b) (entry A s w v) was.1 in
            let is = same_below k s t hs ht a b la lb (eqb-false (entry A s a b) 0 (not-true (eqb (entry A s a b) 0) was.0)) (omega arith) in
            subst (λ n. (not (eqb n 0) && ltb n (entry A s w v)) ≡ true) (sym is) h)
            w v rank.1 in
            let there = (ht w v lw lv).least e (entry A s w v) rank.0 refuted_there in
            elim (cases_lt (entry A t w v) (entry A s w v)) [
              | inl less ↦ sym (same_below k t s ht hs w v lw lv (eqb-false (entry A t w v) 0 there.0) (omega arith))
              | inr high ↦ omega (arith, there.1)
            ]
      ]

  -- two tables whose entries are the ranks have the same entry for each pair
  same_rank : (s t : List ℕ) → SolvesRanks A s → SolvesRanks A t → (w v : ℕ) → w < A.old_states → v < A.new_states → entry A s w v ≡ entry A t w v
  same_rank s t hs ht w v lw lv =
      elim (cases_eq (entry A s w v) 0) [
        | inr some ↦ sym (same_below (suc (entry A s w v)) s t hs ht w v lw lv some (omega arith))
        | inl none ↦ elim (cases_eq (entry A t w v) 0) [
          | inl also ↦ none ∙ sym also
          | inr some ↦ same_below (suc (entry A t w v)) t s ht hs w v lw lv some (omega arith)
        ]
      ]

-- no entry is above the highest
entry_most : (n : ℕ) (t : List ℕ) (i : ℕ) → i < n → get_or t i 0 ≤ highest_below n t
entry_most zero t i l = absurd (omega arith)
entry_most (suc n) t i l =
    elim (cases_eq i n) [
      | inl same ↦ subst (λ j. get_or t j 0 ≤ highest_below (suc n) t) (sym same) (le-max_right (highest_below n t) (get_or t n 0))
      | inr other ↦ omega (arith, entry_most n t i (omega arith), le-max_left (highest_below n t) (get_or t n 0))
    ]

-- a table whose entries are the ranks is in order, and no standing pair is faulty
module _ (A : Arena) (c : Closed A) (t : List ℕ) (solves : SolvesRanks A t) where
  ranks_ordered : Ordered A t
  ranks_ordered w v lw lv struck_so =
      elim (cases_Bool (A.alike w v)) [
        | inr e ↦ or_left (not (A.alike w v)) (refuted A (struck A t (Some (entry A t w v))) w v) (not_from_false (A.alike w v) e)
        | inl e ↦ or_right (not (A.alike w v)) (refuted A (struck A t (Some (entry A t w v))) w v) ((solves w v lw lv).reached e struck_so).1
      ]

  -- every struck pair counts above the highest entry
  abbrev above_all : ℕ
  above_all = highest A t + 2

  unrefuted : (w v : ℕ) → w < A.old_states → v < A.new_states → A.alike w v ≡ true → entry A t w v ≡ 0 → refuted A (struck A t None) w v ≡ false
  unrefuted w v lw lv e none =
      elim (cases_Bool (refuted A (struck A t None) w v)) [
        | inr r ↦ r
        | inl r ↦
            let later : refuted A (struck A t (Some above_all)) w v ≡ true =
            refuted_more A c (struck A t None) (struck A t (Some above_all))
            (λ a b la lb h. and_from (not (eqb (entry A t a b) 0)) (ltb (entry A t a b) above_all) h (lt-ltb (entry A t a b) above_all (omega (arith, entry_most (pairs A) t (a * A.new_states + b) (place_below A a b la lb)))))
            w v r in
            absurd (both_ways (stands A t w v) ((solves w v lw lv).least e above_all (omega arith) later).0 (eq-eqb (entry A t w v) 0 none))
      ]

  ranks_calm : Calm A t
  ranks_calm w v lw lv stood =
      let none : entry A t w v ≡ 0 = eqb-true (entry A t w v) 0 stood in
      elim (cases_Bool (A.alike w v)) [
        | inr e ↦ absurd (omega (arith, none, (solves w v lw lv).unlike e))
        | inl e ↦ or_from (not (A.alike w v)) (refuted A (struck A t None) w v) (not_from_true (A.alike w v) e) (unrefuted w v lw lv e none)
      ]

-- what a ranking that is granted leaves
module _ (A : Arena) (c : Closed A) (before : List ℕ) (granted : opening_refusal A (length before) ≡ None) where
  room : pairs A ≤ length before
  room = fitting_room A (length before) (openable_fits A (length before) granted)

  room_after_sight : pairs A ≤ length (sighted A before)
  room_after_sight = omega (arith, room, (seen A before room).size)

  ranked_solves : SolvesRanks A (ranked A before)
  ranked_solves = rounds_solve A c (pairs A) 2 (omega arith) (sighted A before) room_after_sight (sighted_below A before room) (count_below_most (pairs A) (λ i. eqb (get_or (sighted A before) i 0) 0))

  ranked_keeps : (length (ranked A before) ≡ length before) × (drop (pairs A) (ranked A before) ≡ drop (pairs A) before)
  ranked_keeps =
      let first = seen A before room in
      let later = rounds_keep A c (pairs A) 2 (omega arith) (sighted A before) room_after_sight in
      (later.0 ∙ first.size, later.1 ∙ first.rest)

  pub ranked_right : RanksRight A before (ranked A before)
  ranked_right =
      let ordered = ranks_ordered A c (ranked A before) ranked_solves in
      let calm = ranks_calm A c (ranked A before) ranked_solves in
      record {
        solves = ranked_solves;
        only = λ other h. same_rank A c other (ranked A before) h ranked_solves;
        largest = largest A c (ranked A before) ordered calm;
        accepted = settled_accepted A (ranked A before) (subst (λ n. opening_refusal A n ≡ None) (sym ranked_keeps.0) granted) ordered calm;
        rest = ranked_keeps.1;
      }

  -- and so the table that it says it leaves
  pub left_right : (after : List ℕ) → after ≡ rank_does A before → RanksRight A before after
  left_right after e = subst (λ t. RanksRight A before t) (sym (e ∙ ap (λ o. if_granted o (ranked A before) before) granted)) ranked_right
