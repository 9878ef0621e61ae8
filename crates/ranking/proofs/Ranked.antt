-- What the rounds of a ranking write, and that the entries are the ranks once a round adds none.
use Rattle.std.proofs.Common.{◌≡◌, ℕ, zero, suc, ◌+◌, ◌*◌, ◌<◌, ◌≤◌, Bool, true, false, cond, not, ◌&&◌, eqb, ltb, List, length, get_or, drop, Some, sym, refl, ap, ◌∙◌, subst, inl, inr, suc-mul, zero-mul, arith}
use Rattle.std.proofs.lemmas.List.{drop-set-lt, get_or-set_other, get_or-set_same, length-set}
use Rattle.std.proofs.lemmas.Bool.{and_from, and_left, and_parts, and_right, both_ways, cases_Bool, cases_eq, cases_lt, cond_both, cond-false, cond-true, eq-eqb, eqb-false, eqb-true, le-ltb, lt-ltb, ne_eqb}
use Rattle.arena.proofs.Bounds.{count_below_one_more}
use Rattle.arena.proofs.Places.{place_below, same_pair}
use Rattle.arena.proofs.Simulation.{refuted_more}
use Rattle.arena.specs.Arena.{Arena, Closed}
use Rattle.arena.specs.Bounds.{count_below}
use Rattle.arena.specs.Pairs.{Relation, refuted}
use Rattle.arena.specs.Entry.{counts, standing_entry, struck_entry}
use Rattle.arena.specs.Table.{entry, number_standing, pairs, stands, struck}
use Rattle.arena.specs.Written.{with_entry, with_standing, with_struck}
use Rattle.ranking.proofs.RankSteps.{round_still}
use Rattle.ranking.specs.Rank.{Ranking, SolvesRanks, rank_pair, rank_round, rank_rounds, rank_row, rank_rows, ranking, sight_pair, sight_rank, sight_row, sight_rows, sighted}

-- Entries written by place: those of the pairs below the n-th are new, and all others are as before.
pub record Filled (A : Arena) (new : ℕ → ℕ → ℕ) (before : List ℕ) (n : ℕ) (t : List ℕ) : Type 0 where
  pub size : length t ≡ length before
  pub done : (w v : ℕ) → v < A.new_states → w * A.new_states + v < n → entry A t w v ≡ new w v
  pub left : (i : ℕ) → n ≤ i → get_or t i 0 ≡ get_or before i 0
  pub rest : drop (pairs A) t ≡ drop (pairs A) before

module _ (A : Arena) (new : ℕ → ℕ → ℕ) (before : List ℕ) where
  filled_none : Filled A new before 0 before
  filled_none = record { size = refl; done = λ w v lv l. absurd (omega arith); left = λ i l. refl; rest = refl }

  -- the next pair gets its new entry
  filled_next : (t : List ℕ) (w v : ℕ) → w < A.old_states → v < A.new_states → pairs A ≤ length before → Filled A new before (w * A.new_states + v) t → Filled A new before (suc (w * A.new_states + v)) (with_entry A t w v (new w v))
  filled_next t w v lw lv room h =
      record {
        size = length-set t (w * A.new_states + v) (new w v) ∙ h.size;
        done = λ a b lb l. elim (cases_eq (a * A.new_states + b) (w * A.new_states + v)) [
          | inl e ↦
              let p = same_pair A w v a b lv lb e in
              ap (λ j. get_or (with_entry A t w v (new w v)) j 0) e
              ∙ get_or-set_same t (w * A.new_states + v) (new w v) 0 (omega (arith, place_below A w v lw lv, h.size))
              ∙ ap (λ x. new x v) p.0 ∙ ap (λ y. new a y) p.1
          | inr e ↦ get_or-set_other t (w * A.new_states + v) (a * A.new_states + b) (new w v) 0 e ∙ h.done a b lb (omega arith)
        ];
        left = λ j l. get_or-set_other t (w * A.new_states + v) j (new w v) 0 (omega arith) ∙ h.left j (omega arith);
        rest = drop-set-lt (pairs A) t (w * A.new_states + v) (new w v) (place_below A w v lw lv) ∙ h.rest;
      }

  -- or its new entry is the one that it has
  filled_kept : (t : List ℕ) (w v : ℕ) → v < A.new_states → new w v ≡ entry A before w v → Filled A new before (w * A.new_states + v) t → Filled A new before (suc (w * A.new_states + v)) t
  filled_kept t w v lv same h =
      record {
        size = h.size;
        done = λ a b lb l. elim (cases_eq (a * A.new_states + b) (w * A.new_states + v)) [
          | inl e ↦
              let p = same_pair A w v a b lv lb e in
              ap (λ j. get_or t j 0) e ∙ h.left (w * A.new_states + v) (omega arith) ∙ sym same ∙ ap (λ x. new x v) p.0 ∙ ap (λ y. new a y) p.1
          | inr e ↦ h.done a b lb (omega arith)
        ];
        left = λ j l. h.left j (omega arith);
        rest = h.rest;
      }

-- what sight writes for a pair
abbrev sight_entry : Arena → ℕ → ℕ → ℕ
sight_entry A w v = cond (A.alike w v) standing_entry (struck_entry sight_rank)

sight_writes : (A : Arena) (w v : ℕ) (t : List ℕ) → with_entry A t w v (sight_entry A w v) ≡ sight_pair A w v t
sight_writes A w v t = by (A.alike w v)
  where
    by : (b : Bool) → with_entry A t w v (cond b standing_entry (struck_entry sight_rank)) ≡ cond b (with_standing A t w v) (with_struck A t w v sight_rank)
    by true = refl
    by false = refl

-- every pair by sight
module _ (A : Arena) (before : List ℕ) (room : pairs A ≤ length before) where
  abbrev Seen : ℕ → List ℕ → Type 0
  Seen n t = Filled A (λ w v. sight_entry A w v) before n t

  seen_row : (w v : ℕ) → w < A.old_states → v ≤ A.new_states → (t : List ℕ) → Seen (w * A.new_states) t → Seen (w * A.new_states + v) (sight_row A w v t)
  seen_row w zero lw lv t h = subst (λ n. Seen n t) (omega arith) h
  seen_row w (suc v) lw lv t h =
      subst (λ n. Seen n (sight_row A w (suc v) t)) (omega arith)
      (subst (λ u. Seen (suc (w * A.new_states + v)) u) (sight_writes A w v (sight_row A w v t))
      (filled_next A (λ w v. sight_entry A w v) before (sight_row A w v t) w v lw (omega arith) room (seen_row w v lw (omega arith) t h)))

  seen_rows : (w : ℕ) → w ≤ A.old_states → Seen (w * A.new_states) (sight_rows A w before)
  seen_rows zero lw = subst (λ n. Seen n before) (sym (zero-mul A.new_states)) (filled_none A (λ w v. sight_entry A w v) before)
  seen_rows (suc w) lw =
      subst (λ n. Seen n (sight_rows A (suc w) before)) (sym (suc-mul w A.new_states))
      (seen_row w A.new_states (omega arith) (omega arith) (sight_rows A w before) (seen_rows w (omega arith)))

  pub seen : Seen (pairs A) (sighted A before)
  seen = seen_rows A.old_states (omega arith)

-- where the same pairs are gone, the same are refuted
pub refuted_same : (A : Arena) → Closed A → (f g : Relation) → ((w v : ℕ) → w < A.old_states → v < A.new_states → f w v ≡ g w v) → (w v : ℕ) → refuted A f w v ≡ refuted A g w v
refuted_same A c f g same w v =
    elim (cases_Bool (refuted A f w v)) [
      | inl e ↦ e ∙ sym (refuted_more A c f g (λ a b la lb h. sym (same a b la lb) ∙ h) w v e)
      | inr e ↦ elim (cases_Bool (refuted A g w v)) [
        | inl d ↦ absurd (both_ways (refuted A f w v) e (refuted_more A c g f (λ a b la lb h. same a b la lb ∙ h) w v d))
        | inr d ↦ e ∙ sym d
      ]
    ]

-- Round k on a table.
module _ (A : Arena) (c : Closed A) (k : ℕ) (some : 0 < k) (t : List ℕ) (room : pairs A ≤ length t) where
  -- whether it ranks a pair
  abbrev pub ranks_now : ℕ → ℕ → Bool
  ranks_now w v = stands A t w v && refuted A (struck A t (Some k)) w v

  -- what it leaves for a pair
  abbrev pub new_rank : ℕ → ℕ → ℕ
  new_rank w v = cond (ranks_now w v) k (entry A t w v)

  -- the round under way, before the n-th pair
  pub record Rounding (n : ℕ) (y : Ranking) : Type 0 where
    pub filled : Filled A new_rank t n y.table
    pub counted : number_standing A t ≡ number_standing A y.table + y.added

  -- what it writes does not count in it
  counts_same : (j w v : ℕ) → j ≤ k → counts (Some j) (new_rank w v) ≡ counts (Some j) (entry A t w v)
  counts_same j w v l =
      cond_both (ranks_now w v) k (entry A t w v) (λ e. counts (Some j) e ≡ counts (Some j) (entry A t w v))
      (λ h.
      let stood = eqb-true (entry A t w v) 0 (and_parts (stands A t w v) (refuted A (struck A t (Some k)) w v) h).0 in
      and_right (not (eqb k 0)) (ltb k j) (le-ltb k j l) ∙ ap (λ e. counts (Some j) e) (sym stood))
      (λ h. refl)

  pub struck_same : (n : ℕ) (u : List ℕ) → Filled A new_rank t n u → (j : ℕ) → j ≤ k → (w v : ℕ) → v < A.new_states → struck A u (Some j) w v ≡ struck A t (Some j) w v
  struck_same n u h j l w v lv =
      elim (cases_lt (w * A.new_states + v) n) [
        | inl d ↦ ap (λ e. counts (Some j) e) (h.done w v lv d) ∙ counts_same j w v l
        | inr d ↦ ap (λ e. counts (Some j) e) (h.left (w * A.new_states + v) d)
      ]

  pub refuted_still : (n : ℕ) (u : List ℕ) → Filled A new_rank t n u → (j : ℕ) → j ≤ k → (w v : ℕ) → refuted A (struck A u (Some j)) w v ≡ refuted A (struck A t (Some j)) w v
  refuted_still n u h j l = refuted_same A c (struck A u (Some j)) (struck A t (Some j)) (λ w v lw lv. struck_same n u h j l w v lv)

  -- the test of the next pair is that of the table
  tested_same : (n : ℕ) (u : List ℕ) → Filled A new_rank t n u → (w v : ℕ) → n ≤ w * A.new_states + v → (stands A u w v && refuted A (struck A u (Some k)) w v) ≡ ranks_now w v
  tested_same n u h w v l =
      ap (λ e. eqb e 0 && refuted A (struck A u (Some k)) w v) (h.left (w * A.new_states + v) l)
      ∙ ap (λ b. stands A t w v && b) (refuted_still n u h k (omega arith) w v)

  rounding_pair : (w v : ℕ) → w < A.old_states → v < A.new_states → (y : Ranking) → Rounding (w * A.new_states + v) y → Rounding (suc (w * A.new_states + v)) (rank_pair A k w v y)
  rounding_pair w v lw lv y h =
      let same = tested_same (w * A.new_states + v) y.table h.filled w v (omega arith) in
      cond_both (stands A y.table w v && refuted A (struck A y.table (Some k)) w v) (ranking (with_entry A y.table w v k) (y.added + 1)) y (λ z. Rounding (suc (w * A.new_states + v)) z)
      (λ e.
      let stood = (and_parts (stands A y.table w v) (refuted A (struck A y.table (Some k)) w v) e).0 in
      let within : w * A.new_states + v < length y.table = omega (arith, place_below A w v lw lv, h.filled.size) in
      let written : get_or (with_entry A y.table w v k) (w * A.new_states + v) 0 ≡ k = get_or-set_same y.table (w * A.new_states + v) k 0 within in
      let fewer : number_standing A y.table ≡ number_standing A (with_entry A y.table w v k) + 1 =
      count_below_one_more (pairs A) (w * A.new_states + v) (λ i. eqb (get_or (with_entry A y.table w v k) i 0) 0) (λ i. eqb (get_or y.table i 0) 0) (place_below A w v lw lv)
      (ne_eqb (get_or (with_entry A y.table w v k) (w * A.new_states + v) 0) 0 (omega (arith, written)))
      stood
      (λ j l ne. ap (λ e. eqb e 0) (get_or-set_other y.table (w * A.new_states + v) j k 0 ne)) in
      record {
        filled = subst (λ e. Filled A new_rank t (suc (w * A.new_states + v)) (with_entry A y.table w v e)) (cond-true (ranks_now w v) k (entry A t w v) (sym same ∙ e)) (filled_next A new_rank t y.table w v lw lv room h.filled);
        counted = omega (arith, h.counted, fewer);
      })
      (λ e. record {
        filled = filled_kept A new_rank t y.table w v lv (cond-false (ranks_now w v) k (entry A t w v) (sym same ∙ e)) h.filled;
        counted = h.counted;
      })

  rounding_row : (w v : ℕ) → w < A.old_states → v ≤ A.new_states → (y : Ranking) → Rounding (w * A.new_states) y → Rounding (w * A.new_states + v) (rank_row A k w v y)
  rounding_row w zero lw lv y h = subst (λ n. Rounding n y) (omega arith) h
  rounding_row w (suc v) lw lv y h =
      subst (λ n. Rounding n (rank_row A k w (suc v) y)) (omega arith) (rounding_pair w v lw (omega arith) (rank_row A k w v y) (rounding_row w v lw (omega arith) y h))

  rounding_none : Rounding 0 (ranking t 0)
  rounding_none = record { filled = filled_none A new_rank t; counted = omega arith }

  rounding_rows : (w : ℕ) → w ≤ A.old_states → Rounding (w * A.new_states) (rank_rows A k w (ranking t 0))
  rounding_rows zero lw = subst (λ n. Rounding n (ranking t 0)) (sym (zero-mul A.new_states)) rounding_none
  rounding_rows (suc w) lw =
      subst (λ n. Rounding n (rank_rows A k (suc w) (ranking t 0))) (sym (suc-mul w A.new_states))
      (rounding_row w A.new_states (omega arith) (omega arith) (rank_rows A k w (ranking t 0)) (rounding_rows w (omega arith)))

  pub rounded : Rounding (pairs A) (rank_round A k t)
  rounded = rounding_rows A.old_states (omega arith)

  -- a round that adds none has ranked no pair
  pub none_ranked : (rank_round A k t).added ≡ 0 → (w v : ℕ) → w < A.old_states → v < A.new_states → ranks_now w v ≡ false
  none_ranked none w v lw lv =
      elim (cases_Bool (ranks_now w v)) [
        | inr e ↦ e
        | inl e ↦
            let stood = eqb-true (entry A t w v) 0 (and_parts (stands A t w v) (refuted A (struck A t (Some k)) w v) e).0 in
            let now : entry A t w v ≡ k =
            ap (λ u. entry A u w v) (sym (round_still A k t none)) ∙ rounded.filled.done w v lv (place_below A w v lw lv) ∙ cond-true (ranks_now w v) k (entry A t w v) e in
            absurd (omega (arith, stood, now))
      ]

-- The rule for one pair as far as the rounds below k decide it.
pub record RuleBelow (A : Arena) (k : ℕ) (t : List ℕ) (w v : ℕ) : Type 0 where
  pub unlike : A.alike w v ≡ false → entry A t w v ≡ 1
  pub reached : A.alike w v ≡ true → (entry A t w v ≡ 0 → ⊥) → (2 ≤ entry A t w v) × (entry A t w v < k) × (refuted A (struck A t (Some (entry A t w v))) w v ≡ true)
  pub least : A.alike w v ≡ true → (j : ℕ) → 2 ≤ j → j < k → refuted A (struck A t (Some j)) w v ≡ true → (entry A t w v ≡ 0 → ⊥) × (entry A t w v ≤ j)

-- the rounds below k are done
abbrev pub RankedBelow : Arena → ℕ → List ℕ → Type 0
RankedBelow A k t = (w v : ℕ) → w < A.old_states → v < A.new_states → RuleBelow A k t w v

-- sight decides what is below 2
pub sighted_below : (A : Arena) (before : List ℕ) → pairs A ≤ length before → RankedBelow A 2 (sighted A before)
sighted_below A before room w v lw lv =
    let is : entry A (sighted A before) w v ≡ sight_entry A w v = (seen A before room).done w v lv (place_below A w v lw lv) in
    record {
      unlike = λ e. is ∙ cond-false (A.alike w v) 0 1 e;
      reached = λ e ne. absurd (ne (is ∙ cond-true (A.alike w v) 0 1 e));
      least = λ e j low high r. absurd (omega arith);
    }

module _ (A : Arena) (c : Closed A) (k : ℕ) (low : 2 ≤ k) (t : List ℕ) (room : pairs A ≤ length t) (below : RankedBelow A k t) where
  abbrev after_round : List ℕ
  after_round = (rank_round A k t).table

  abbrev now_ranked : ℕ → ℕ → Bool
  now_ranked w v = stands A t w v && refuted A (struck A t (Some k)) w v

  round_filled : Filled A (λ w v. cond (now_ranked w v) k (entry A t w v)) t (pairs A) after_round
  round_filled = (rounded A c k (omega arith) t room).filled

  -- what the round leaves for a pair
  ranked_in_it : (w v : ℕ) → w < A.old_states → v < A.new_states → now_ranked w v ≡ true → entry A after_round w v ≡ k
  ranked_in_it w v lw lv e = round_filled.done w v lv (place_below A w v lw lv) ∙ cond-true (now_ranked w v) k (entry A t w v) e

  ranked_before : (w v : ℕ) → w < A.old_states → v < A.new_states → now_ranked w v ≡ false → entry A after_round w v ≡ entry A t w v
  ranked_before w v lw lv e = round_filled.done w v lv (place_below A w v lw lv) ∙ cond-false (now_ranked w v) k (entry A t w v) e

  -- a pair that had a rank keeps it
  rank_kept : (w v : ℕ) → w < A.old_states → v < A.new_states → (entry A t w v ≡ 0 → ⊥) → entry A after_round w v ≡ entry A t w v
  rank_kept w v lw lv ne = ranked_before w v lw lv (and_left (stands A t w v) (refuted A (struck A t (Some k)) w v) (ne_eqb (entry A t w v) 0 ne))

  refuted_alike : (j : ℕ) → j ≤ k → (w v : ℕ) → refuted A (struck A after_round (Some j)) w v ≡ refuted A (struck A t (Some j)) w v
  refuted_alike = refuted_still A c k (omega arith) t room (pairs A) after_round round_filled

  reached_next : (w v : ℕ) → w < A.old_states → v < A.new_states → A.alike w v ≡ true → (entry A after_round w v ≡ 0 → ⊥) → (2 ≤ entry A after_round w v) × (entry A after_round w v < k + 1) × (refuted A (struck A after_round (Some (entry A after_round w v))) w v ≡ true)
  reached_next w v lw lv e ne =
      elim (cases_Bool (now_ranked w v)) [
        | inl h ↦
            let is = ranked_in_it w v lw lv h in (
              omega (arith, is),
              omega (arith, is),
              subst (λ j. refuted A (struck A after_round (Some j)) w v ≡ true) (sym is) (refuted_alike k (omega arith) w v ∙ (and_parts (stands A t w v) (refuted A (struck A t (Some k)) w v) h).1),
            )
        | inr h ↦
            let is = ranked_before w v lw lv h in
            let was = (below w v lw lv).reached e (λ none. ne (is ∙ none)) in (
              omega (arith, is, was.0),
              omega (arith, is, was.1),
              subst (λ j. refuted A (struck A after_round (Some j)) w v ≡ true) (sym is) (refuted_alike (entry A t w v) (omega (arith, was.1)) w v ∙ was.2),
            )
      ]

  least_next : (w v : ℕ) → w < A.old_states → v < A.new_states → A.alike w v ≡ true → (j : ℕ) → 2 ≤ j → j < k + 1 → refuted A (struck A after_round (Some j)) w v ≡ true → (entry A after_round w v ≡ 0 → ⊥) × (entry A after_round w v ≤ j)
  least_next w v lw lv e j lj hj r =
      let was_refuted : refuted A (struck A t (Some j)) w v ≡ true = sym (refuted_alike j (omega arith) w v) ∙ r in
      elim (cases_eq j k) [
        | inr ne ↦
            let was = (below w v lw lv).least e j lj (omega arith) was_refuted in
            let is = rank_kept w v lw lv was.0 in
            ((λ none. was.0 (sym is ∙ none)), omega (arith, is, was.1))
        | inl same ↦ elim (cases_Bool (now_ranked w v)) [
          | inl h ↦ let is = ranked_in_it w v lw lv h in ((λ none. omega (arith, is, none)), omega (arith, is))
          | inr h ↦
              let refuted_at : refuted A (struck A t (Some k)) w v ≡ true = subst (λ j. refuted A (struck A t (Some j)) w v ≡ true) same was_refuted in
              let had : entry A t w v ≡ 0 → ⊥ = λ none. both_ways (now_ranked w v) h (and_from (stands A t w v) (refuted A (struck A t (Some k)) w v) (eq-eqb (entry A t w v) 0 none) refuted_at) in
              let is = rank_kept w v lw lv had in
              ((λ none. had (sym is ∙ none)), omega (arith, is, ((below w v lw lv).reached e had).1))
        ]
      ]

  -- the round decides what is below the next
  pub round_below : RankedBelow A (k + 1) after_round
  round_below w v lw lv =
      record {
        unlike = λ e.
            let was = (below w v lw lv).unlike e in
            rank_kept w v lw lv (omega (arith, was)) ∙ was;
        reached = reached_next w v lw lv;
        least = least_next w v lw lv;
      }

-- where the rounds below k are done and round k would rank no pair, the entries are the ranks
module _ (A : Arena) (c : Closed A) (k : ℕ) (low : 2 ≤ k) (t : List ℕ) (below : RankedBelow A k t) (none : (w v : ℕ) → w < A.old_states → v < A.new_states → (stands A t w v && refuted A (struck A t (Some k)) w v) ≡ false) where
  entries_below : (w v : ℕ) → w < A.old_states → v < A.new_states → entry A t w v < k
  entries_below w v lw lv =
      elim (cases_Bool (A.alike w v)) [
        | inr e ↦ omega (arith, (below w v lw lv).unlike e)
        | inl e ↦ elim (cases_eq (entry A t w v) 0) [
          | inl is ↦ omega (arith, is)
          | inr had ↦ ((below w v lw lv).reached e had).1
        ]
      ]

  -- later rounds count the same pairs
  struck_later : (j : ℕ) → k ≤ j → (w v : ℕ) → w < A.old_states → v < A.new_states → struck A t (Some j) w v ≡ struck A t (Some k) w v
  struck_later j l w v lw lv =
      let small = entries_below w v lw lv in
      ap (λ b. not (eqb (entry A t w v) 0) && b) (lt-ltb (entry A t w v) j (omega arith) ∙ sym (lt-ltb (entry A t w v) k small))

  pub ended_solves : SolvesRanks A t
  ended_solves w v lw lv =
      record {
        unlike = (below w v lw lv).unlike;
        reached = λ e had. let was = (below w v lw lv).reached e (eqb-false (entry A t w v) 0 had) in (was.0, was.2);
        least = λ e j lj r. elim (cases_lt j k) [
          | inl before ↦ let was = (below w v lw lv).least e j lj before r in (ne_eqb (entry A t w v) 0 was.0, was.1)
          | inr later ↦
              let refuted_at : refuted A (struck A t (Some k)) w v ≡ true = sym (refuted_same A c (struck A t (Some j)) (struck A t (Some k)) (struck_later j later) w v) ∙ r in
              let had : entry A t w v ≡ 0 → ⊥ =
              λ is. both_ways (stands A t w v && refuted A (struck A t (Some k)) w v) (none w v lw lv) (and_from (stands A t w v) (refuted A (struck A t (Some k)) w v) (eq-eqb (entry A t w v) 0 is) refuted_at) in
              (ne_eqb (entry A t w v) 0 had, omega (arith, entries_below w v lw lv))
        ];
      }

-- one that passes is counted
counted_some : (n i : ℕ) (f : ℕ → Bool) → i < n → f i ≡ true → 0 < count_below n f
counted_some zero i f l e = absurd (omega arith)
counted_some (suc n) i f l e =
    elim (cases_eq n i) [
      | inl same ↦ let x : cond {A = ℕ} (f n) 1 0 ≡ 1 = cond-true (f n) 1 0 (rw same e) in omega arith
      | inr other ↦ let h = counted_some n i f (omega arith) e in omega arith
    ]

-- a table in which no pair stands has none to rank
full_none : (A : Arena) (k : ℕ) (t : List ℕ) → number_standing A t ≡ 0 → (w v : ℕ) → w < A.old_states → v < A.new_states → (stands A t w v && refuted A (struck A t (Some k)) w v) ≡ false
full_none A k t full w v lw lv =
    elim (cases_Bool (stands A t w v)) [
      | inr e ↦ and_left (stands A t w v) (refuted A (struck A t (Some k)) w v) e
      | inl e ↦ absurd (omega (arith, full, counted_some (pairs A) (w * A.new_states + v) (λ i. eqb (get_or t i 0) 0) (place_below A w v lw lv) e))
    ]

-- whether a round adds no rank
abbrev adds_none : Arena → ℕ → List ℕ → Bool
adds_none A k t = eqb (rank_round A k t).added 0

-- the rounds behind one
abbrev further_rounds : Arena → ℕ → ℕ → List ℕ → List ℕ
further_rounds A most k t = rank_rounds A most (k + 1) (rank_round A k t).table

module _ (A : Arena) (c : Closed A) where
  -- a round leaves the table's length, and no more pairs standing
  pub round_size : (k : ℕ) → 0 < k → (t : List ℕ) → pairs A ≤ length t → length (rank_round A k t).table ≡ length t
  round_size k some t room = (rounded A c k some t room).filled.size

  pub round_counts : (k : ℕ) → 0 < k → (t : List ℕ) → pairs A ≤ length t → number_standing A t ≡ number_standing A (rank_round A k t).table + (rank_round A k t).added
  round_counts k some t room = (rounded A c k some t room).counted

  -- with as many rounds as pairs stand, the last adds none
  pub rounds_solve : (most k : ℕ) → 2 ≤ k → (t : List ℕ) → pairs A ≤ length t → RankedBelow A k t → number_standing A t ≤ most → SolvesRanks A (rank_rounds A most k t)
  rounds_solve zero k low t room below enough = ended_solves A c k low t below (full_none A k t (omega arith))
  rounds_solve (suc most) k low t room below enough =
      cond_both (adds_none A k t) t (further_rounds A most k t) (λ u. SolvesRanks A u)
      (λ none. ended_solves A c k low t below (none_ranked A c k (omega arith) t room (eqb-true (rank_round A k t).added 0 none)))
      (λ some.
      let n : ℕ = (rank_round A k t).added in
      let ne : n ≡ 0 → ⊥ = eqb-false n 0 some in
      rounds_solve most (k + 1) (omega arith) (rank_round A k t).table (omega (arith, round_size k (omega arith) t room)) (round_below A c k low t room below) (omega (arith, round_counts k (omega arith) t room, ne)))

  -- rounds leave the length of the table and the entries behind those of the pairs
  pub rounds_keep : (most k : ℕ) → 0 < k → (t : List ℕ) → pairs A ≤ length t → (length (rank_rounds A most k t) ≡ length t) × (drop (pairs A) (rank_rounds A most k t) ≡ drop (pairs A) t)
  rounds_keep zero k some t room = (refl, refl)
  rounds_keep (suc most) k some t room =
      cond_both (adds_none A k t) t (further_rounds A most k t) (λ u. (length u ≡ length t) × (drop (pairs A) u ≡ drop (pairs A) t))
      (λ _. (refl, refl))
      (λ _.
      let first = (rounded A c k some t room).filled in
      let later = rounds_keep most (k + 1) (omega arith) (rank_round A k t).table (omega (arith, first.size)) in
      (later.0 ∙ first.size, later.1 ∙ first.rest))
