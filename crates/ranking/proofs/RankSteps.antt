-- The steps of the loops of a ranking.
use Rattle.std.proofs.Common.{◌≡◌, ℕ, zero, suc, ◌+◌, ◌-◌, ◌<◌, ◌&&◌, eqb, List, Some, sym, refl, ap, ◌∙◌, arith}
use Rattle.std.proofs.lemmas.Bool.{cond_both, cond-false, cond-true, eq-eqb, ne_eqb}
use Rattle.arena.specs.Arena.{Arena}
use Rattle.arena.specs.Pairs.{refuted}
use Rattle.arena.specs.Table.{stands, struck}
use Rattle.arena.specs.Written.{with_struck}
use Rattle.ranking.specs.Rank.{Ranking, rank_pair, rank_round, rank_rounds, rank_row, rank_rows, ranking}

-- What adds no rank changes nothing.
module _ (A : Arena) (k : ℕ) where
  pair_still : (w v : ℕ) (y : Ranking) → (rank_pair A k w v y).added ≡ 0 → rank_pair A k w v y ≡ y
  pair_still w v y =
      cond_both (stands A y.table w v && refuted A (struck A y.table (Some k)) w v) (ranking (with_struck A y.table w v k) (y.added + 1)) y (λ z. z.added ≡ 0 → z ≡ y)
      (λ _ none. absurd (omega (arith, none)))
      (λ _ none. refl)

  row_still : (w v : ℕ) (y : Ranking) → (rank_row A k w v y).added ≡ 0 → rank_row A k w v y ≡ y
  row_still w zero y none = refl
  row_still w (suc v) y none =
      let same = pair_still w v (rank_row A k w v y) none in
      same ∙ row_still w v y (sym (ap (λ z. z.added) same) ∙ none)

  rows_still : (w : ℕ) (y : Ranking) → (rank_rows A k w y).added ≡ 0 → rank_rows A k w y ≡ y
  rows_still zero y none = refl
  rows_still (suc w) y none =
      let same = row_still w A.new_states (rank_rows A k w y) none in
      same ∙ rows_still w y (sym (ap (λ z. z.added) same) ∙ none)

  pub round_still : (t : List ℕ) → (rank_round A k t).added ≡ 0 → (rank_round A k t).table ≡ t
  round_still t none = ap (λ z. z.table) (rows_still A.old_states (ranking t 0) none)

-- a round that adds no rank is the last
pub rounds_end : (A : Arena) (most k : ℕ) (t : List ℕ) → (rank_round A k t).added ≡ 0 → (rank_round A k t).table ≡ rank_rounds A most k t
rounds_end A zero k t none = round_still A k t none
rounds_end A (suc most) k t none =
    round_still A k t none ∙ sym (cond-true (eqb (rank_round A k t).added 0) t (rank_rounds A most (k + 1) (rank_round A k t).table) (eq-eqb (rank_round A k t).added 0 none))

-- one that adds ranks is followed by the others
pub rounds_go_on : (A : Arena) (end k : ℕ) (t : List ℕ) → k < end → ((rank_round A k t).added ≡ 0 → ⊥) → rank_rounds A (end - (k + 1)) (k + 1) (rank_round A k t).table ≡ rank_rounds A (end - k) k t
rounds_go_on A end k t l some =
    let more : end - k ≡ suc (end - (k + 1)) = omega arith in
    sym (ap (λ n. rank_rounds A n k t) more ∙ cond-false (eqb (rank_round A k t).added 0) t (rank_rounds A (end - (k + 1)) (k + 1) (rank_round A k t).table) (ne_eqb (rank_round A k t).added 0 some))
