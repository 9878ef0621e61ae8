-- What an opening establishes, and every call keeps.
use Rattle.std.proofs.Common.{◌≡◌, ℕ, zero, suc, ◌+◌, ◌*◌, ◌<◌, ◌≤◌, min, Bool, true, false, cond, not, ◌&&◌, eqb, ltb, List, [], ◌∷◌, length, get_or, drop, set, Some, None, Ok, Err, Option, Result, sym, refl, ap, ◌∙◌, subst, inl, inr, arith}
use Rattle.std.proofs.lemmas.List.{get_or_append_left, get_or-replicate, get_or-set_other, get_or-set_same, length-append, length-drop, length-replicate, length-set}
use Rattle.std.proofs.lemmas.Bool.{and_from, and_parts, both_ways, cases_eq, cond_both, eq-eqb, lt-ltb, ne_eqb, not_from_false, not_from_true, not-true, or_cases}
use Rattle.systems.proofs.Bounded.{or_else_none}
use Rattle.systems.specs.Refused.{if_granted, unless}
use Rattle.arena.proofs.Bounds.{count_below_less, count_below_none, count_below_one_more}
use Rattle.arena.proofs.Places.{place_below, same_pair}
use Rattle.arena.proofs.Simulation.{Ordered, faulty_more}
use Rattle.arena.specs.Arena.{Arena, Closed}
use Rattle.arena.specs.Bounds.{count_below}
use Rattle.arena.specs.Table.{entry, faulty, loose, pairs, stands, struck}
use Rattle.arena.specs.Written.{all_standing}
use Rattle.docket.proofs.Grounds.{caused_faulty, fitting_room, grounds, if_granted_both, openable_fits, opened_in_use}
use Rattle.docket.specs.Position.{Position, marked, opened}
use Rattle.docket.specs.Refusals.{misfit, opening_refusal, pair_refusal, strike_refusal, use_refusal}
use Rattle.docket.specs.Run.{after, does, granted, opens, says, was_opened}
use Rattle.docket.specs.Settle.{settle_says}
use Rattle.docket.specs.Strikes.{strike_does, strike_says}
use Rattle.docket.specs.Sweep.{Swept, sweep_pair, sweep_row, sweep_rows, sweep_says, swept}
use Rattle.docket.specs.declared.call.Call.{Call}
use Rattle.docket.specs.declared.call.Call.TheVariants.{Open, Strike, Sweep, Settle}
use Rattle.docket.specs.declared.call.Grant.{Grant}
use Rattle.docket.specs.declared.call.Grant.TheVariants.{Opened, Struck, Swept as SweptGrant, Checked}
use Rattle.docket.specs.declared.refusal.Refusal.{Refusal}
use Rattle.docket.specs.declared.refusal.Refusal.TheVariants.{Closed as ClosedDocket, OtherSizes}
use Rattle.docket.specs.declared.strike.Strike.{Strike as Proposal}

-- whether the entry at an index is a strike's
abbrev pub struck_at : List ℕ → ℕ → Bool
struck_at t i = not (eqb (get_or t i 0) 0)

-- A docket in use whose table holds its strikes: as many as it counts, none with a larger number, and each pair's faulty by those before it.
pub record Good (A : Arena) (x : Position) : Type 0 where
  pub in_use : use_refusal A x ≡ None
  pub openable : opening_refusal A (length x.table) ≡ None
  pub low : (i : ℕ) → i < pairs A → get_or x.table i 0 ≤ x.docket.count
  pub counted : x.docket.count ≡ count_below (pairs A) (λ i. struck_at x.table i)
  pub ordered : Ordered A x.table

-- the table of a good position has an entry for each pair
pub good_room : (A : Arena) (x : Position) → Good A x → pairs A ≤ length x.table
good_room A x good = fitting_room A (length x.table) (openable_fits A (length x.table) good.openable)

-- and its count is below the number of pairs while one stands
pub good_count : (A : Arena) (x : Position) → Good A x → (w v : ℕ) → w < A.old_states → v < A.new_states → stands A x.table w v ≡ true → x.docket.count < pairs A
good_count A x good w v lw lv st =
    omega (arith, good.counted, count_below_less (pairs A) (w * A.new_states + v) (λ i. struck_at x.table i) (place_below A w v lw lv) (not_from_true (stands A x.table w v) st))

-- a strike of a standing pair leaves the other strikes as they are
module _ (A : Arena) (x : Position) (w v : ℕ) (st : stands A x.table w v ≡ true) where
  kept_entry : (i : ℕ) → struck_at x.table i ≡ true → get_or (marked A x w v).table i 0 ≡ get_or x.table i 0
  kept_entry i g =
      get_or-set_other x.table (w * A.new_states + v) i (x.docket.count + 1) 0
      (λ e. both_ways (eqb (get_or x.table (w * A.new_states + v) 0) 0) (subst (λ j. eqb (get_or x.table j 0) 0 ≡ false) e (not-true (eqb (get_or x.table i 0) 0) g)) st)

-- a docket stays in use when a pair is struck
pub marked_in_use : (A : Arena) (x : Position) (w v : ℕ) → use_refusal A x ≡ None → use_refusal A (marked A x w v) ≡ None
marked_in_use A x w v used =
    subst (λ n. cond (not x.docket.is_open) (Some ClosedDocket) (cond (not (eqb x.docket.old_states A.old_states && eqb x.docket.new_states A.new_states)) (Some OtherSizes) (misfit A n)) ≡ None)
    (sym (length-set x.table (w * A.new_states + v) (x.docket.count + 1))) used

-- and so when a strike is proposed
pub strike_in_use : (A : Arena) (x : Position) (s : Proposal) → use_refusal A x ≡ None → use_refusal A (strike_does A x s) ≡ None
strike_in_use A x s used =
    if_granted_both (λ y. use_refusal A y ≡ None) (strike_refusal A x s) (marked A x s.pair.0 s.pair.1) x (λ _. marked_in_use A x s.pair.0 s.pair.1 used) used

-- a strike of a standing pair that is faulty keeps the position good
module _ (A : Arena) (c : Closed A) (x : Position) (good : Good A x) (w v : ℕ) (lw : w < A.old_states) (lv : v < A.new_states) (st : stands A x.table w v ≡ true) (bad : faulty A (struck A x.table None) w v ≡ true) where
  abbrev index : ℕ
  index = w * A.new_states + v

  abbrev number : ℕ
  number = x.docket.count + 1

  abbrev table' : List ℕ
  table' = set x.table index number

  same : get_or table' index 0 ≡ number
  same = get_or-set_same x.table index number 0 (omega (arith, place_below A w v lw lv, good_room A x good))

  other : (i : ℕ) → (i ≡ index → ⊥) → get_or table' i 0 ≡ get_or x.table i 0
  other i ne = get_or-set_other x.table index i number 0 ne

  now_faulty : faulty A (struck A table' (Some number)) w v ≡ true
  now_faulty =
      faulty_more A c (struck A x.table None) (struck A table' (Some number))
      (λ a b la lb h.
      let k = kept_entry A x w v st (a * A.new_states + b) h in
      and_from (not (eqb (entry A table' a b) 0)) (ltb (entry A table' a b) number)
      (subst (λ n. not (eqb n 0) ≡ true) (sym k) h)
      (lt-ltb (entry A table' a b) number (omega (arith, k, good.low (a * A.new_states + b) (place_below A a b la lb)))))
      w v bad

  still_faulty : (k a b : ℕ) → faulty A (struck A x.table (Some k)) a b ≡ true → faulty A (struck A table' (Some k)) a b ≡ true
  still_faulty k =
      faulty_more A c (struck A x.table (Some k)) (struck A table' (Some k))
      (λ a b la lb h.
      let was = and_parts (not (eqb (entry A x.table a b) 0)) (ltb (entry A x.table a b) k) h in
      subst (λ n. (not (eqb n 0) && ltb n k) ≡ true) (sym (kept_entry A x w v st (a * A.new_states + b) was.0)) h)

  marked_ordered : Ordered A table'
  marked_ordered a b la lb g =
      elim (cases_eq (a * A.new_states + b) index) [
        | inl e ↦
            let p = same_pair A w v a b lv lb e in
            subst (λ k. faulty A (struck A table' (Some k)) a b ≡ true) (sym same ∙ ap (λ i. get_or table' i 0) (sym e))
            (subst (λ j. faulty A (struck A table' (Some number)) a j ≡ true) p.1
            (subst (λ j. faulty A (struck A table' (Some number)) j v ≡ true) p.0 now_faulty))
        | inr e ↦
            let k = other (a * A.new_states + b) e in
            subst (λ k. faulty A (struck A table' (Some k)) a b ≡ true) (sym k)
            (still_faulty (entry A x.table a b) a b (good.ordered a b la lb (subst (λ n. eqb n 0 ≡ false) k g)))
      ]

  pub good_marked : Good A (marked A x w v)
  good_marked =
      record {
        in_use = marked_in_use A x w v good.in_use;
        openable = subst (λ n. opening_refusal A n ≡ None) (sym (length-set x.table index number)) good.openable;
        low = λ i l. elim (cases_eq i index) [
          | inl e ↦ subst (λ j. get_or table' j 0 ≤ number) (sym e) (omega (arith, same))
          | inr e ↦ omega (arith, other i e, good.low i l)
        ];
        counted = ap (λ n. n + 1) good.counted ∙ sym (count_below_one_more (pairs A) index (λ i. struck_at x.table i) (λ i. struck_at table' i) (place_below A w v lw lv)
            (not_from_true (stands A x.table w v) st)
            (not_from_false (eqb (get_or table' index 0) 0) (ne_eqb (get_or table' index 0) 0 (omega (arith, same))))
            (λ k l ne. ap (λ n. not (eqb n 0)) (sym (other k ne))));
        ordered = marked_ordered;
      }

-- what each call leaves of a good position is good
module _ (A : Arena) (c : Closed A) where
  pub good_strike : (x : Position) → Good A x → (s : Proposal) → Good A (strike_does A x s)
  good_strike x good s =
      if_granted_both (λ y. Good A y) (strike_refusal A x s) (marked A x s.pair.0 s.pair.1) x
      (λ h.
      let g = grounds A x s.pair.0 s.pair.1 s.cause (or_else_none (use_refusal A x) (pair_refusal A x s.pair.0 s.pair.1 s.cause) h).1 in
      good_marked A c x good s.pair.0 s.pair.1 g.row g.column g.stood (caused_faulty A x.table s.pair.0 s.pair.1 s.cause g.caused))
      good

  pub good_sweep_pair : (budget w v : ℕ) → w < A.old_states → v < A.new_states → (y : Swept) → Good A y.position → Good A (sweep_pair A budget w v y).position
  good_sweep_pair budget w v lw lv y good =
      cond_both (ltb y.made budget && (ltb y.position.docket.count (pairs A) && loose A y.position.table w v)) (record { position = marked A y.position w v; made = y.made + 1 }) y (λ z. Good A z.position)
      (λ h.
      let within = and_parts (ltb y.made budget) (ltb y.position.docket.count (pairs A) && loose A y.position.table w v) h in
      let is_loose = and_parts (ltb y.position.docket.count (pairs A)) (loose A y.position.table w v) within.1 in
      let p = and_parts (stands A y.position.table w v) (faulty A (struck A y.position.table None) w v) is_loose.1 in
      good_marked A c y.position good w v lw lv p.0 p.1)
      (λ h. good)

  pub good_sweep_row : (budget w v : ℕ) → w < A.old_states → v ≤ A.new_states → (y : Swept) → Good A y.position → Good A (sweep_row A budget w v y).position
  good_sweep_row budget w zero lw lv y good = good
  good_sweep_row budget w (suc v) lw lv y good =
      good_sweep_pair budget w v lw (omega arith) (sweep_row A budget w v y) (good_sweep_row budget w v lw (omega arith) y good)

  pub good_sweep_rows : (budget w : ℕ) → w ≤ A.old_states → (y : Swept) → Good A y.position → Good A (sweep_rows A budget w y).position
  good_sweep_rows budget zero lw y good = good
  good_sweep_rows budget (suc w) lw y good =
      good_sweep_row budget w A.new_states (omega arith) (omega arith) (sweep_rows A budget w y) (good_sweep_rows budget w (omega arith) y good)

  pub good_swept : (x : Position) → Good A x → (budget : ℕ) → Good A (swept A x budget).position
  good_swept x good budget = good_sweep_rows budget A.old_states (omega arith) (record { position = x; made = 0 }) good

-- an opening that is granted makes a good position
module _ (A : Arena) (x : Position) (h : opening_refusal A (length x.table) ≡ None) where
  opened_length : length (opened A x).table ≡ length x.table
  opened_length =
      simp (length-append, length-replicate, length-drop) (omega (arith, fitting_room A (length x.table) (openable_fits A (length x.table) h)))

  opened_openable : opening_refusal A (length (opened A x).table) ≡ None
  opened_openable = subst (λ n. opening_refusal A n ≡ None) (sym opened_length) h

  zeroes : (i : ℕ) → i < pairs A → get_or (opened A x).table i 0 ≡ 0
  zeroes i l =
      let room = fitting_room A (length x.table) (openable_fits A (length x.table) h) in
      let entries = min (pairs A) (length x.table) in
      get_or_append_left (all_standing entries) (drop (pairs A) x.table) 0 i (omega (arith, room, length-replicate {A = ℕ} entries 0))
      ∙ get_or-replicate entries i 0 0 (omega (arith, room))

  pub good_opened : Good A (opened A x)
  good_opened =
      record {
        in_use = opened_in_use A x (openable_fits A (length (opened A x).table) opened_openable);
        openable = opened_openable;
        low = λ i l. omega (arith, zeroes i l);
        counted = sym (count_below_none (pairs A) (λ i. struck_at (opened A x).table i) (λ i l. not_from_true (eqb (get_or (opened A x).table i 0) 0) (eq-eqb (get_or (opened A x).table i 0) 0 (zeroes i l))));
        ordered = λ w v lw lv g. absurd (both_ways (stands A (opened A x).table w v) g (eq-eqb (entry A (opened A x).table w v) 0 (zeroes (w * A.new_states + v) (place_below A w v lw lv))));
      }

-- an answer of another call is not that of an opening
not_opened : {X : Type 0} (grant : X → Grant) → ((answer : X) → opens (Ok (grant answer)) ≡ false) → (r : Result X Refusal) → opens (granted grant r) ≡ false
not_opened grant other (Ok answer) = other answer
not_opened grant other (Err refusal) = refl

opens_unless : (o : Option Refusal) (n : ℕ) → opens (granted (λ n. Opened n) (unless o n)) ≡ true → o ≡ None
opens_unless None n h = refl
opens_unless (Some refusal) n h = absurd (both_ways false refl h)

-- a call that is a granted opening leads to a good position
pub good_opens : (A : Arena) (x : Position) (call : Call) → opens (says A x call) ≡ true → Good A (does A x call)
good_opens A x Open h =
    let o = opens_unless (opening_refusal A (length x.table)) (pairs A) h in
    subst (λ r. Good A (if_granted r (opened A x) x)) (sym o) (good_opened A x o)
good_opens A x (Strike s) h = absurd (both_ways (opens (says A x (Strike s))) (not_opened (λ n. Struck n) (λ n. refl) (strike_says A x s)) h)
good_opens A x (Sweep budget) h = absurd (both_ways (opens (says A x (Sweep budget))) (not_opened (λ n. SweptGrant n) (λ n. refl) (sweep_says A x budget)) h)
good_opens A x Settle h = absurd (both_ways (opens (says A x Settle)) (not_opened (λ s. Checked s) (λ s. refl) (settle_says A x)) h)

-- every call keeps a good position good, and so do calls in a row
module _ (A : Arena) (c : Closed A) where
  pub good_does : (x : Position) → Good A x → (call : Call) → Good A (does A x call)
  good_does x good Open = if_granted_both (λ y. Good A y) (opening_refusal A (length x.table)) (opened A x) x (λ h. good_opened A x h) good
  good_does x good (Strike s) = good_strike A c x good s
  good_does x good (Sweep budget) = if_granted_both (λ y. Good A y) (use_refusal A x) (swept A x budget).position x (λ h. good_swept A c x good budget) good
  good_does x good Settle = good

  pub good_after : (x : Position) → Good A x → (calls : List Call) → Good A (after A x calls)
  good_after x good [] = good
  good_after x good (call ∷ calls) = good_after (does A x call) (good_does x good call) calls

  -- after calls among which an opening was granted
  pub good_after_opening : (x : Position) (calls : List Call) → was_opened A x calls ≡ true → Good A (after A x calls)
  good_after_opening x [] h = absurd (both_ways false refl h)
  good_after_opening x (call ∷ calls) h =
      elim (or_cases (opens (says A x call)) (was_opened A (does A x call) calls) h) [
        | inl e ↦ good_after (does A x call) (good_opens A x call e) calls
        | inr e ↦ good_after_opening (does A x call) calls e
      ]
