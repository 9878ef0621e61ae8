-- What sweeps count and keep, what it tells that one makes no strike, and where a decision ends.
use Rattle.std.proofs.Common.{◌≡◌, ℕ, zero, suc, ◌+◌, ◌*◌, ◌<◌, ◌≤◌, Bool, true, false, ◌&&◌, eqb, ltb, ◌≢◌, List, [], ◌∷◌, ◌++◌, All, map, replicate, length, sum, None, Ok, Decides, Result, sym, refl, ap, ◌∙◌, subst, inl, inr, append_assoc, arith}
use Rattle.std.proofs.lemmas.Nat.{mul-le}
use Rattle.std.proofs.lemmas.List.Elements.{All-cons, All-nil}
use Rattle.std.proofs.lemmas.List.Sums.{sum_by-cons}
use Rattle.std.proofs.lemmas.Bool.{and_from, and_left, and_right, cases_Bool, cases_eq, cond_both, cond-false, cond-true, eq-eqb, eqb-false, eqb-true, le-ltb, lt-ltb, ne_eqb}
use Rattle.systems.specs.Refused.{if_granted, unless}
use Rattle.arena.proofs.Simulation.{replaces_by}
use Rattle.arena.specs.Arena.{Arena, Closed}
use Rattle.arena.specs.Pairs.{Largest, Replaces}
use Rattle.arena.specs.Table.{faulty, loose, number_standing, pairs, standing, stands, start_stands, struck}
use Rattle.docket.proofs.Good.{Good, good_after, good_count, good_opened, good_swept}
use Rattle.docket.proofs.Laws.{calm_none_loose, good_tells, run_law}
use Rattle.docket.proofs.Runs.{after_more, answers_more}
use Rattle.docket.specs.Certificate.{certificate, certificate_says}
use Rattle.docket.specs.Decide.{IsRun, Told, decision, decision_calls, full_budget, proposals, swept_out, with_earlier}
use Rattle.docket.specs.Judge.{Judges, outcome_of}
use Rattle.docket.specs.Law.{SettleTells, SettledRight}
use Rattle.docket.specs.Position.{Position, marked, opened}
use Rattle.docket.specs.Refusals.{opening_refusal, use_refusal}
use Rattle.docket.specs.Run.{after, answers, does, granted as granted_as, says}
use Rattle.docket.specs.Settle.{first_loose, settle_says, settled_unless, settlement}
use Rattle.docket.specs.Strikes.{open_does}
use Rattle.docket.specs.Sweep.{Swept, sweep_pair, sweep_row, sweep_rows, swept}
use Rattle.docket.specs.Use.{UnderWay}
use Rattle.docket.specs.declared.call.Call.{Call}
use Rattle.docket.specs.declared.call.Call.TheVariants.{Open, Sweep, Settle}
use Rattle.docket.specs.declared.call.Grant.{Grant}
use Rattle.docket.specs.declared.call.Grant.TheVariants.{Opened, Swept as SweptGrant, Checked}
use Rattle.docket.specs.declared.outcome.Outcome.{Outcome}
use Rattle.docket.specs.declared.refusal.Refusal.{Refusal}
use Rattle.docket.specs.declared.strike.Settlement.TheVariants.{Settled}
use Rattle.docket.specs.declared.strike.Strike.{Strike}

-- A sweep under way from a position: its strikes are counted, and the sizes stay.
pub record SweptFrom (x : Position) (y : Swept) : Type 0 where
  pub counts : y.position.docket.count ≡ x.docket.count + y.made
  pub old_states : y.position.docket.old_states ≡ x.docket.old_states
  pub new_states : y.position.docket.new_states ≡ x.docket.new_states

-- whether a sweep under way strikes the pair
abbrev strikes_now : Arena → ℕ → ℕ → ℕ → Swept → Bool
strikes_now A budget w v y = ltb y.made budget && (ltb y.position.docket.count (pairs A) && loose A y.position.table w v)

-- the sweep with the pair struck
abbrev one_made : Arena → ℕ → ℕ → Swept → Swept
one_made A w v y = record { position = marked A y.position w v; made = y.made + 1 }

-- a sweep that is about to start
abbrev pub started : Position → Swept
started x = record { position = x; made = 0 }

pub swept_from_start : (x : Position) → SweptFrom x (started x)
swept_from_start x = record { counts = omega arith; old_states = refl; new_states = refl }

module _ (A : Arena) (x : Position) (budget : ℕ) where
  pub swept_from_pair : (w v : ℕ) (y : Swept) → SweptFrom x y → SweptFrom x (sweep_pair A budget w v y)
  swept_from_pair w v y h =
      cond_both (strikes_now A budget w v y) (one_made A w v y) y (λ z. SweptFrom x z)
      (λ _. record {
        counts = omega (arith, h.counts);
        old_states = h.old_states;
        new_states = h.new_states;
      })
      (λ _. h)

  pub swept_from_row : (w v : ℕ) (y : Swept) → SweptFrom x y → SweptFrom x (sweep_row A budget w v y)
  swept_from_row w zero y h = h
  swept_from_row w (suc v) y h = swept_from_pair w v (sweep_row A budget w v y) (swept_from_row w v y h)

  pub swept_from_rows : (w : ℕ) (y : Swept) → SweptFrom x y → SweptFrom x (sweep_rows A budget w y)
  swept_from_rows zero y h = h
  swept_from_rows (suc w) y h = swept_from_row w A.new_states (sweep_rows A budget w y) (swept_from_rows w y h)

pub swept_from : (A : Arena) (x : Position) (budget : ℕ) → SweptFrom x (swept A x budget)
swept_from A x budget = swept_from_rows A x budget A.old_states (started x) (swept_from_start x)

pub swept_counts : (A : Arena) (x : Position) (budget : ℕ) → (swept A x budget).position.docket.count ≡ x.docket.count + (swept A x budget).made
swept_counts A x budget = (swept_from A x budget).counts

pub swept_old_states : (A : Arena) (x : Position) (budget : ℕ) → (swept A x budget).position.docket.old_states ≡ x.docket.old_states
swept_old_states A x budget = (swept_from A x budget).old_states

pub swept_new_states : (A : Arena) (x : Position) (budget : ℕ) → (swept A x budget).position.docket.new_states ≡ x.docket.new_states
swept_new_states A x budget = (swept_from A x budget).new_states

-- a sweep that has made none has changed nothing
module _ (A : Arena) (budget : ℕ) where
  idle_pair : (w v : ℕ) (y : Swept) → (sweep_pair A budget w v y).made ≡ 0 → sweep_pair A budget w v y ≡ y
  idle_pair w v y =
      cond_both (strikes_now A budget w v y) (one_made A w v y) y (λ z. z.made ≡ 0 → z ≡ y) (λ _ h. absurd (omega (arith, h))) (λ _ _. refl)

  idle_row : (w v : ℕ) (y : Swept) → (sweep_row A budget w v y).made ≡ 0 → sweep_row A budget w v y ≡ y
  idle_row w zero y h = refl
  idle_row w (suc v) y h =
      let e = idle_pair w v (sweep_row A budget w v y) h in
      e ∙ idle_row w v y (sym (ap (λ z. z.made) e) ∙ h)

  idle_rows : (w : ℕ) (y : Swept) → (sweep_rows A budget w y).made ≡ 0 → sweep_rows A budget w y ≡ y
  idle_rows zero y h = refl
  idle_rows (suc w) y h =
      let e = idle_row w A.new_states (sweep_rows A budget w y) h in
      e ∙ idle_rows w y (sym (ap (λ z. z.made) e) ∙ h)

  -- and none of its pairs was struck by itself
  idle_at_row : (w : ℕ) (y : Swept) → (sweep_rows A budget w y).made ≡ 0 → (a : ℕ) → a < w → (sweep_row A budget a A.new_states y).made ≡ 0
  idle_at_row zero y h a l = absurd (omega arith)
  idle_at_row (suc w) y h a l =
      let e = idle_row w A.new_states (sweep_rows A budget w y) h in
      let before : (sweep_rows A budget w y).made ≡ 0 = sym (ap (λ z. z.made) e) ∙ h in
      elim (cases_eq a w) [
        | inl same ↦ subst (λ k. (sweep_row A budget k A.new_states y).made ≡ 0) (sym same) (subst (λ z. (sweep_row A budget w A.new_states z).made ≡ 0) (idle_rows w y before) h)
        | inr less ↦ idle_at_row w y before a (omega arith)
      ]

  idle_at_pair : (w v : ℕ) (y : Swept) → (sweep_row A budget w v y).made ≡ 0 → (b : ℕ) → b < v → (sweep_pair A budget w b y).made ≡ 0
  idle_at_pair w zero y h b l = absurd (omega arith)
  idle_at_pair w (suc v) y h b l =
      let e = idle_pair w v (sweep_row A budget w v y) h in
      let before : (sweep_row A budget w v y).made ≡ 0 = sym (ap (λ z. z.made) e) ∙ h in
      elim (cases_eq b v) [
        | inl same ↦ subst (λ k. (sweep_pair A budget w k y).made ≡ 0) (sym same) (subst (λ z. (sweep_pair A budget w v z).made ≡ 0) (idle_row w v y before) h)
        | inr less ↦ idle_at_pair w v y before b (omega arith)
      ]

pub none_made_same : (A : Arena) (x : Position) (budget : ℕ) → (swept A x budget).made ≡ 0 → (swept A x budget).position ≡ x
none_made_same A x budget h = ap (λ z. z.position) (idle_rows A budget A.old_states (started x) h)

-- a good position in which a sweep makes no strike is settled
module _ (A : Arena) (c : Closed A) (x : Position) (good : Good A x) where
  none_made_tight : (budget : ℕ) → 0 < budget → (swept A x budget).made ≡ 0 → (w v : ℕ) → w < A.old_states → v < A.new_states → stands A x.table w v ≡ true → faulty A (struck A x.table None) w v ≡ false
  none_made_tight budget some h w v lw lv st =
      let none = idle_at_pair A budget w A.new_states (started x) (idle_at_row A budget A.old_states (started x) h w lw) v lv in
      elim (cases_Bool (faulty A (struck A x.table None) w v)) [
        | inr e ↦ e
        | inl e ↦
            let room = lt-ltb x.docket.count (pairs A) (good_count A x good w v lw lv st) in
            let now = and_from (ltb 0 budget) (ltb x.docket.count (pairs A) && loose A x.table w v) (lt-ltb 0 budget some)
            (and_from (ltb x.docket.count (pairs A)) (loose A x.table w v) room (and_from (stands A x.table w v) (faulty A (struck A x.table None) w v) st e)) in
            let made : (sweep_pair A budget w v (started x)).made ≡ 0 + 1 = ap (λ z. z.made) (cond-true (strikes_now A budget w v (started x)) (one_made A w v (started x)) (started x) now) in
            absurd (omega (arith, none, made))
      ]

  pub none_made_settled : (budget : ℕ) → 0 < budget → (swept A x budget).made ≡ 0 → first_loose A x.table ≡ None
  none_made_settled budget some h = calm_none_loose A x.table (none_made_tight budget some h)

  pub settled_says : first_loose A x.table ≡ None → settle_says A x ≡ Ok (Settled (number_standing A x.table))
  settled_says h =
      ap (λ o. unless o (settlement A x.table)) good.in_use
      ∙ ap (λ o. Ok (settled_unless o (number_standing A x.table))) h

  pub none_made_says : (budget : ℕ) → 0 < budget → (swept A x budget).made ≡ 0 → settle_says A x ≡ Ok (Settled (number_standing A x.table))
  none_made_says budget some h = settled_says (none_made_settled budget some h)

-- once the count is the number of pairs, a sweep makes none
module _ (A : Arena) (budget : ℕ) (y : Swept) (full : pairs A ≤ y.position.docket.count) where
  full_pair : (w v : ℕ) → sweep_pair A budget w v y ≡ y
  full_pair w v =
      cond-false (strikes_now A budget w v y) (one_made A w v y) y (and_right (ltb y.made budget) (ltb y.position.docket.count (pairs A) && loose A y.position.table w v)
      (and_left (ltb y.position.docket.count (pairs A)) (loose A y.position.table w v) (le-ltb y.position.docket.count (pairs A) full)))

  full_row : (w v : ℕ) → sweep_row A budget w v y ≡ y
  full_row w zero = refl
  full_row w (suc v) = ap (λ z. sweep_pair A budget w v z) (full_row w v) ∙ full_pair w v

  full_rows : (w : ℕ) → sweep_rows A budget w y ≡ y
  full_rows zero = refl
  full_rows (suc w) = ap (λ z. sweep_row A budget w A.new_states z) (full_rows w) ∙ full_row w A.new_states

pub full_makes_none : (A : Arena) (x : Position) → pairs A ≤ x.docket.count → (budget : ℕ) → (swept A x budget).made ≡ 0
full_makes_none A x full budget = ap (λ z. z.made) (full_rows A budget (started x) full A.old_states)

-- whether a full sweep makes no strike
abbrev makes_none : Arena → Position → Bool
makes_none A x = eqb (swept A x full_budget).made 0

-- the sweeps behind one that makes strikes
abbrev further : Arena → ℕ → Position → Swept
further A most x = with_earlier (swept A x full_budget).made (swept_out A most (swept A x full_budget).position)

-- full sweeps until one makes no strike
module _ (A : Arena) where
  -- each sweep that makes a strike leaves fewer to make
  fewer_left : (x : Position) (most : ℕ) → pairs A ≤ x.docket.count + suc most → makes_none A x ≡ false → pairs A ≤ (swept A x full_budget).position.docket.count + most
  fewer_left x most enough some =
      let n : ℕ = (swept A x full_budget).made in
      let ne : n ≡ 0 → ⊥ = eqb-false n 0 some in
      omega (arith, swept_counts A x full_budget, ne, enough)

  -- and more sweeps change nothing
  pub swept_out_same : (most more : ℕ) (x : Position) → pairs A ≤ x.docket.count + most → pairs A ≤ x.docket.count + more → swept_out A most x ≡ swept_out A more x
  swept_out_same zero zero x h k = refl
  swept_out_same zero (suc more) x h k =
      sym (cond-true (makes_none A x) (started x) (further A more x) (eq-eqb (swept A x full_budget).made 0 (full_makes_none A x (omega arith) full_budget)))
  swept_out_same (suc most) zero x h k =
      cond-true (makes_none A x) (started x) (further A most x) (eq-eqb (swept A x full_budget).made 0 (full_makes_none A x (omega arith) full_budget))
  swept_out_same (suc most) (suc more) x h k =
      elim (cases_Bool (makes_none A x)) [
        | inl none ↦ cond-true (makes_none A x) (started x) (further A most x) none ∙ sym (cond-true (makes_none A x) (started x) (further A more x) none)
        | inr some ↦
            cond-false (makes_none A x) (started x) (further A most x) some
            ∙ ap (λ z. with_earlier (swept A x full_budget).made z) (swept_out_same most more (swept A x full_budget).position (fewer_left x most h some) (fewer_left x more k some))
            ∙ sym (cond-false (makes_none A x) (started x) (further A more x) some)
      ]

  -- a full sweep that makes strikes, and those behind it
  pub swept_out_next : (x : Position) → ((swept A x full_budget).made ≡ 0 → ⊥) → swept_out A (pairs A) x ≡ with_earlier (swept A x full_budget).made (swept_out A (pairs A) (swept A x full_budget).position)
  swept_out_next x some = next (pairs A) refl
    where
      next : (most : ℕ) → most ≡ pairs A → swept_out A most x ≡ with_earlier (swept A x full_budget).made (swept_out A most (swept A x full_budget).position)
      next zero e = absurd (some (full_makes_none A x (omega arith) full_budget))
      next (suc most) e =
          cond-false (makes_none A x) (started x) (further A most x) (ne_eqb (swept A x full_budget).made 0 some)
          ∙ ap (λ z. with_earlier (swept A x full_budget).made z) (swept_out_same most (suc most) (swept A x full_budget).position (fewer_left x most (omega arith) (ne_eqb (swept A x full_budget).made 0 some)) (omega arith))

  -- and one that makes none is the last
  pub swept_out_last : (x : Position) → (swept A x full_budget).made ≡ 0 → swept_out A (pairs A) x ≡ started x
  swept_out_last x none = last (pairs A)
    where
      last : (most : ℕ) → swept_out A most x ≡ started x
      last zero = refl
      last (suc most) = cond-true (makes_none A x) (started x) (further A most x) (eq-eqb (swept A x full_budget).made 0 none)

module _ (A : Arena) (c : Closed A) where
  -- with as many sweeps as pairs are left to strike, the last makes none
  pub swept_out_enough : (most : ℕ) (x : Position) → Good A x → pairs A ≤ x.docket.count + most → Good A (swept_out A most x).position × ((swept A (swept_out A most x).position full_budget).made ≡ 0)
  swept_out_enough zero x good enough = (good, full_makes_none A x (omega arith) full_budget)
  swept_out_enough (suc most) x good enough =
      cond_both (makes_none A x) (started x) (further A most x) (λ z. Good A z.position × ((swept A z.position full_budget).made ≡ 0))
      (λ none. (good, eqb-true (swept A x full_budget).made 0 none))
      (λ some. swept_out_enough most (swept A x full_budget).position (good_swept A c x good full_budget) (fewer_left A x most enough some))

-- a full sweep for each number of strikes, and one more
abbrev sweeps : List ℕ → List Call
sweeps made = replicate (suc (length made)) (Sweep full_budget)

-- their answers
abbrev swept_answers : List ℕ → List (Result Grant Refusal)
swept_answers made = map (λ n. Ok (SweptGrant n)) (made ++ 0 ∷ [])

-- Full sweeps from x to y, as calls: each but the last makes some strikes, and the last none.
pub record SweptOut (A : Arena) (x : Position) (y : Swept) : Type 0 where
  pub made : List ℕ
  pub each_strikes : All (λ n. n ≢ 0) made
  pub total : y.made ≡ sum made
  pub answered : answers A x (sweeps made) ≡ swept_answers made
  pub ended : y.position ≡ after A x (sweeps made)

module _ (A : Arena) (c : Closed A) where
  -- a sweep in use, as a call
  sweep_answers : (x : Position) → Good A x → says A x (Sweep full_budget) ≡ Ok (SweptGrant (swept A x full_budget).made)
  sweep_answers x good = ap (λ o. granted_as (λ n. SweptGrant n) (unless o (swept A x full_budget).made)) good.in_use

  sweep_leads : (x : Position) → Good A x → does A x (Sweep full_budget) ≡ (swept A x full_budget).position
  sweep_leads x good = ap (λ o. if_granted o (swept A x full_budget).position x) good.in_use

  last_sweep : (x : Position) → Good A x → (swept A x full_budget).made ≡ 0 → SweptOut A x (started x)
  last_sweep x good none = record {
    made = [];
    each_strikes = All-nil (λ n. n ≢ 0);
    total = refl;
    answered = ap (λ r. r ∷ []) (sweep_answers x good ∙ ap (λ n. Ok (SweptGrant n)) none);
    ended = sym (sweep_leads x good ∙ none_made_same A x full_budget none);
  }

  pub swept_out_calls : (most : ℕ) (x : Position) → Good A x → pairs A ≤ x.docket.count + most → SweptOut A x (swept_out A most x)
  swept_out_calls zero x good enough = last_sweep x good (full_makes_none A x (omega arith) full_budget)
  swept_out_calls (suc most) x good enough =
      cond_both (makes_none A x) (started x) (further A most x) (λ z. SweptOut A x z)
      (λ none. last_sweep x good (eqb-true (swept A x full_budget).made 0 none))
      (λ some.
      let n : ℕ = (swept A x full_budget).made in
      let rest = swept_out_calls most (swept A x full_budget).position (good_swept A c x good full_budget) (fewer_left A x most enough some) in
      record {
        made = n ∷ rest.made;
        each_strikes = All-cons (λ n. n ≢ 0) n rest.made (eqb-false n 0 some) rest.each_strikes;
        total = ap (λ m. n + m) rest.total ∙ sym (sum_by-cons (λ k. k) n rest.made);
        answered =
            ap (λ r. r ∷ answers A (does A x (Sweep full_budget)) (sweeps rest.made)) (sweep_answers x good)
            ∙ ap (λ z. Ok (SweptGrant n) ∷ answers A z (sweeps rest.made)) (sweep_leads x good)
            ∙ ap (λ rs. Ok (SweptGrant n) ∷ rs) rest.answered;
        ended = rest.ended ∙ ap (λ z. after A z (sweeps rest.made)) (sym (sweep_leads x good));
      })

-- no docket has more pairs
pub pairs_most : (rows columns : ℕ) → rows ≤ 256 → columns ≤ 256 → rows * columns ≤ 65536
pairs_most rows columns few_rows few_columns = mul-le rows columns 256 256 few_rows few_columns

-- A docket under way at q, and the sweeps that lead from there to y.
module _ (A : Arena) (c : Closed A) (q : Position) (way : UnderWay A q) where
  good_under_way : Good A q
  good_under_way = subst (λ z. Good A z) (sym way.led) (good_after A c (opened A way.before) (good_opened A way.before way.granted) way.calls)

  pub used_under_way : use_refusal A q ≡ None
  used_under_way = good_under_way.in_use

  module _ (y : Position) (third : y ≡ (swept_out A (pairs A) q).position) where
    swept_good : Good A y × ((swept A y full_budget).made ≡ 0)
    swept_good = subst (λ z. Good A z × ((swept A z full_budget).made ≡ 0)) (sym third) (swept_out_enough A c (pairs A) q good_under_way (omega arith))

    pub settled_behind_sweeps : settle_says A y ≡ Ok (Settled (number_standing A y.table))
    settled_behind_sweeps = none_made_says A c y swept_good.0 full_budget (omega arith) swept_good.1

    settled_right_behind_sweeps : SettledRight A y (number_standing A y.table)
    settled_right_behind_sweeps = subst (λ r. SettleTells A y r) settled_behind_sweeps (good_tells A c y swept_good.0)

    pub largest_behind_sweeps : Largest A (standing A y.table)
    largest_behind_sweeps = settled_right_behind_sweeps.largest

    pub accepted_behind_sweeps : certificate_says A y.table ≡ Ok (certificate A y.table)
    accepted_behind_sweeps = settled_right_behind_sweeps.accepted

-- A judgement whose opening is granted: behind the opening it is at p, and the sweeps lead from there to y.
module _ (A : Arena) (c : Closed A) (x : Position) (granted : opening_refusal A (length x.table) ≡ None) (p : Position) (first : p ≡ open_does A x) where
  behind_opening : p ≡ opened A x
  behind_opening = first ∙ ap (λ o. if_granted o (opened A x) x) granted

  pub opened_under_way : UnderWay A p
  opened_under_way = record { before = x; calls = []; granted = granted; led = behind_opening }

  pub judged : (y : Position) → y ≡ (swept_out A (pairs A) p).position → (o : Outcome) → o ≡ outcome_of A (swept_out A (pairs A) p) → Judges A y.table (Ok o)
  judged y third o told =
      let large = largest_behind_sweeps A c p opened_under_way y third in
      let verdict : o.replaces ≡ start_stands A y.table = ap (λ z. z.replaces) told ∙ ap (λ z. start_stands A z.table) (sym third) in
      ((large, subst (λ b. Decides b (Replaces A)) (sym verdict) (replaces_by A y.table large)), accepted_behind_sweeps A c p opened_under_way y third)

-- A decision whose opening is granted: behind the proposals it is at q, and the sweeps lead from there to y.
module _ (A : Arena) (c : Closed A) (x : Position) (strikes : List Strike) (granted : opening_refusal A (length x.table) ≡ None) (q : Position) (led : q ≡ after A (opened A x) (proposals strikes)) where
  pub proposals_under_way : UnderWay A q
  proposals_under_way = record { before = x; calls = proposals strikes; granted = granted; led = led }

  module _ (y : Position) (third : y ≡ (swept_out A (pairs A) q).position) (o : Outcome) (outcome : o ≡ outcome_of A (swept_out A (pairs A) q)) where
    swept_calls : SweptOut A q (swept_out A (pairs A) q)
    swept_calls = swept_out_calls A c (pairs A) q (good_under_way A c q proposals_under_way) (omega arith)

    -- the sweeps and the settle check
    abbrev last_calls : List Call
    last_calls = sweeps swept_calls.made ++ Settle ∷ []

    last_calls_lead : y ≡ after A q last_calls
    last_calls_lead = third ∙ swept_calls.ended ∙ sym (after_more A q (sweeps swept_calls.made) (Settle ∷ []))

    counted : o.standing ≡ number_standing A y.table
    counted = ap (λ z. z.standing) outcome ∙ ap (λ z. number_standing A z.table) (sym third)

    last_calls_answer : answers A q last_calls ≡ swept_answers swept_calls.made ++ Ok (Checked (Settled o.standing)) ∷ []
    last_calls_answer =
        answers_more A q (sweeps swept_calls.made) (Settle ∷ [])
        ∙ ap (λ rs. rs ++ answers A (after A q (sweeps swept_calls.made)) (Settle ∷ [])) swept_calls.answered
        ∙ ap (λ z. swept_answers swept_calls.made ++ answers A z (Settle ∷ [])) (sym (third ∙ swept_calls.ended))
        ∙ ap (λ r. swept_answers swept_calls.made ++ granted_as (λ s. Checked s) r ∷ []) (settled_behind_sweeps A c q proposals_under_way y third)
        ∙ ap (λ n. swept_answers swept_calls.made ++ Ok (Checked (Settled n)) ∷ []) (sym counted)

    -- the decision is a run
    run_told : IsRun A x strikes o y
    run_told = record {
      made = swept_calls.made;
      each_strikes = swept_calls.each_strikes;
      total = ap (λ z. z.swept) outcome ∙ swept_calls.total;
      answered =
          ap (λ cs. answers A x cs) (append_assoc (Open ∷ proposals strikes) (sweeps swept_calls.made) (Settle ∷ []))
          ∙ ap (λ o. granted_as (λ n. Opened n) (unless o (pairs A)) ∷ answers A (if_granted o (opened A x) x) (proposals strikes ++ last_calls)) granted
          ∙ ap (λ rs. Ok (Opened (pairs A)) ∷ rs) (answers_more A (opened A x) (proposals strikes) last_calls)
          ∙ ap (λ z. Ok (Opened (pairs A)) ∷ answers A (opened A x) (proposals strikes) ++ answers A z last_calls) (sym led)
          ∙ ap (λ rs. Ok (Opened (pairs A)) ∷ answers A (opened A x) (proposals strikes) ++ rs) last_calls_answer
          ∙ sym (append_assoc (Ok (Opened (pairs A)) ∷ answers A (opened A x) (proposals strikes)) (swept_answers swept_calls.made) (Ok (Checked (Settled o.standing)) ∷ []));
      ended =
          last_calls_lead
          ∙ ap (λ z. after A z last_calls) led
          ∙ sym (after_more A (opened A x) (proposals strikes) last_calls)
          ∙ ap (λ o. after A (if_granted o (opened A x) x) (proposals strikes ++ last_calls)) (sym granted)
          ∙ sym (ap (λ cs. after A x cs) (append_assoc (Open ∷ proposals strikes) (sweeps swept_calls.made) (Settle ∷ [])));
      law = run_law A c x (decision_calls strikes (suc (length swept_calls.made)));
    }

    -- all that the decision tells
    pub told : Told A x strikes o y
    told =
        let decided : swept_out A (pairs A) q ≡ decision A x strikes = ap (λ z. swept_out A (pairs A) z) led in
        let verdict : o.replaces ≡ start_stands A y.table = ap (λ z. z.replaces) outcome ∙ ap (λ z. start_stands A z.table) (sym third) in
        let large = largest_behind_sweeps A c q proposals_under_way y third in
        record {
          granted = granted;
          ended = third ∙ ap (λ z. z.position) decided;
          swept = ap (λ z. z.swept) outcome ∙ ap (λ z. z.made) decided;
          counted = counted;
          verdict = verdict;
          run = run_told;
          largest = large;
          decides = subst (λ b. Decides b (Replaces A)) (sym verdict) (replaces_by A y.table large);
          accepted = accepted_behind_sweeps A c q proposals_under_way y third;
        }
