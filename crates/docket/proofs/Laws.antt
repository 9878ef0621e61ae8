-- What settle checks and certificate checks tell, and the law over runs.
use Rattle.std.proofs.Common.{◌≡◌, ℕ, ◌+◌, ◌<◌, Bool, true, false, cond, List, length, is_some, Some, None, Ok, Option, sym, refl, ap, ◌∙◌, subst, arith}
use Rattle.std.proofs.lemmas.Bool.{both_ways, cond-true}
use Rattle.systems.proofs.Bounded.{first_below_none_all, first_below_none_from, or_else_none}
use Rattle.systems.specs.Bounded.{or_else}
use Rattle.systems.specs.Refused.{unless}
use Rattle.arena.proofs.Bounds.{first_below_some}
use Rattle.arena.proofs.Refuting.{some_cause}
use Rattle.arena.proofs.Simulation.{Calm, Ordered, all_in_order, calm, largest, lost, ordered_and_calm, replaces_by}
use Rattle.arena.specs.Arena.{Arena, Closed}
use Rattle.arena.specs.Pairs.{Largest}
use Rattle.arena.specs.Table.{cause_of, faulty, in_order, number_standing, standing, stands, struck}
use Rattle.arena.specs.declared.cause.Cause.{Cause}
use Rattle.docket.proofs.Good.{Good, good_after_opening, good_count}
use Rattle.docket.proofs.Grounds.{found_caused, grants}
use Rattle.docket.specs.Certificate.{Certifies, certificate, certificate_says, first_fault, first_fault_in, pair_fault, refused}
use Rattle.docket.specs.Law.{CertificateLaw, RunLaw, SettleTells, SettledRight, Sound}
use Rattle.docket.specs.Position.{Position}
use Rattle.docket.specs.Refusals.{opening_refusal, pair_refusal, strike_refusal}
use Rattle.docket.specs.Run.{after}
use Rattle.docket.specs.Settle.{first_loose, first_loose_in, loose_strike, settle_says, settled_unless, settlement, strike_for}
use Rattle.docket.specs.Strikes.{strike_says}
use Rattle.docket.specs.declared.call.Call.{Call}
use Rattle.docket.specs.declared.certificate.CertificateFault.{CertificateFault}
use Rattle.docket.specs.declared.certificate.CertificateFault.TheVariants.{Loose as LooseFault, Unfounded}
use Rattle.docket.specs.declared.strike.Strike.{Strike}

-- a loose pair is one that stands and has a cause
module _ (A : Arena) (t : List ℕ) (w v : ℕ) where
  pub no_loose_strike : loose_strike A t w v ≡ None → stands A t w v ≡ true → faulty A (struck A t None) w v ≡ false
  no_loose_strike h st =
      sym (some_cause A t w v)
      ∙ ap is_some (by (cause_of A t w v) (sym (cond-true (stands A t w v) (strike_for w v (cause_of A t w v)) None st) ∙ h))
    where
      by : (o : Option Cause) → strike_for w v o ≡ None → o ≡ None
      by None e = refl
      by (Some cause) e = let z : ◌≡◌ {A = ℕ} 0 1 = cc in absurd (omega arith)

  pub loose_strike_none : (stands A t w v ≡ true → faulty A (struck A t None) w v ≡ false) → loose_strike A t w v ≡ None
  loose_strike_none h =
      by (stands A t w v) (cause_of A t w v) (λ st. some_cause A t w v ∙ h st)
    where
      by : (b : Bool) (o : Option Cause) → (b ≡ true → is_some o ≡ false) → cond b (strike_for w v o) None ≡ None
      by true None e = refl
      by true (Some cause) e = absurd (both_ways true (e refl) refl)
      by false o e = refl

  pub loose_strike_some : (s : Strike) → loose_strike A t w v ≡ Some s → (cause : Cause) × (stands A t w v ≡ true) × (cause_of A t w v ≡ Some cause) × (record { pair = (w, v); cause = cause } ≡ s)
  loose_strike_some s h = by (stands A t w v) (cause_of A t w v) h
    where
      by : (b : Bool) (o : Option Cause) → cond b (strike_for w v o) None ≡ Some s → (cause : Cause) × (b ≡ true) × (o ≡ Some cause) × (record { pair = (w, v); cause = cause } ≡ s)
      by true None e = let z : ◌≡◌ {A = ℕ} 0 1 = cc in absurd (omega arith)
      by true (Some cause) e = (cause, refl, refl, cc)
      by false o e = let z : ◌≡◌ {A = ℕ} 0 1 = cc in absurd (omega arith)

-- no pair is loose exactly where no standing pair is faulty
pub none_loose_calm : (A : Arena) (t : List ℕ) → first_loose A t ≡ None → Calm A t
none_loose_calm A t h w v lw lv st =
    no_loose_strike A t w v (first_below_none_all A.new_states (λ v. loose_strike A t w v) (first_below_none_all A.old_states (λ w. first_loose_in A t w A.new_states) h w lw) v lv) st

pub calm_none_loose : (A : Arena) (t : List ℕ) → Calm A t → first_loose A t ≡ None
calm_none_loose A t q =
    first_below_none_from A.old_states (λ w. first_loose_in A t w A.new_states) (λ w lw.
    first_below_none_from A.new_states (λ v. loose_strike A t w v) (λ v lv. loose_strike_none A t w v (q w v lw lv)))

-- the first fault of a table

module _ (A : Arena) (t : List ℕ) (w v : ℕ) where
  no_pair_fault : pair_fault A t w v ≡ None → in_order A t w v ≡ true
  no_pair_fault h = by (in_order A t w v) h
    where
      by : (b : Bool) → cond b None (Some (cond (stands A t w v) (LooseFault (w, v)) (Unfounded (w, v)))) ≡ None → b ≡ true
      by true e = refl
      by false e = let z : ◌≡◌ {A = ℕ} 0 1 = cc in absurd (omega arith)

  pair_fault_none : in_order A t w v ≡ true → pair_fault A t w v ≡ None
  pair_fault_none h = cond-true (in_order A t w v) None (Some (cond (stands A t w v) (LooseFault (w, v)) (Unfounded (w, v)))) h

pub none_faulty : (A : Arena) (t : List ℕ) → Ordered A t → Calm A t → first_fault A t ≡ None
none_faulty A t o q =
    first_below_none_from A.old_states (λ w. first_fault_in A t w A.new_states) (λ w lw.
    first_below_none_from A.new_states (λ v. pair_fault A t w v) (λ v lv. pair_fault_none A t w v (all_in_order A t o q w v lw lv)))

pub faultless : (A : Arena) (t : List ℕ) → first_fault A t ≡ None → Ordered A t × Calm A t
faultless A t h =
    ordered_and_calm A t (λ w v lw lv.
    no_pair_fault A t w v (first_below_none_all A.new_states (λ v. pair_fault A t w v) (first_below_none_all A.old_states (λ w. first_fault_in A t w A.new_states) h w lw) v lv))

-- a table whose standing pairs are settled is accepted
pub settled_accepted : (A : Arena) (t : List ℕ) → opening_refusal A (length t) ≡ None → Ordered A t → Calm A t → certificate_says A t ≡ Ok (certificate A t)
settled_accepted A t h o q =
    ap (λ r. unless (or_else (refused r) (first_fault A t)) (certificate A t)) h
    ∙ ap (λ f. unless f (certificate A t)) (none_faulty A t o q)

-- the law of certificate checks
pub certificate_law : (A : Arena) → Closed A → CertificateLaw A
certificate_law A c t = by (or_else (refused (opening_refusal A (length t))) (first_fault A t)) refl
  where
    by : (o : Option CertificateFault) → or_else (refused (opening_refusal A (length t))) (first_fault A t) ≡ o → Certifies A t (unless o (certificate A t))
    by None e =
        let both = faultless A t (or_else_none (refused (opening_refusal A (length t))) (first_fault A t) e).1 in
        let large = largest A c t both.0 both.1 in
        (large, replaces_by A t large)
    by (Some fault) e = tt

module _ (A : Arena) (c : Closed A) (x : Position) (good : Good A x) where
  -- a good position in which no pair is loose is settled rightly
  settled_right : first_loose A x.table ≡ None → SettledRight A x (number_standing A x.table)
  settled_right h =
      let q = none_loose_calm A x.table h in
      record {
        largest = largest A c x.table good.ordered q;
        counted = refl;
        accepted = settled_accepted A x.table good.openable good.ordered q;
      }

  -- a loose pair's strike is granted
  loose_granted : (w v : ℕ) → w < A.old_states → v < A.new_states → (cause : Cause) → stands A x.table w v ≡ true → cause_of A x.table w v ≡ Some cause → strike_refusal A x (record { pair = (w, v); cause = cause }) ≡ None
  loose_granted w v lw lv cause st h =
      ap (λ o. or_else o (pair_refusal A x w v cause)) good.in_use
      ∙ grants A x w v cause (record { row = lw; column = lv; stood = st; caused = found_caused A x.table w v cause h; room = good_count A x good w v lw lv st })

  loose_told : (s : Strike) → first_loose A x.table ≡ Some s → (Largest A (standing A x.table) → ⊥) × (strike_says A x s ≡ Ok (x.docket.count + 1))
  loose_told s h =
      let row = first_below_some A.old_states (λ w. first_loose_in A x.table w A.new_states) s h in
      let column = first_below_some A.new_states (λ v. loose_strike A x.table row.0 v) s row.2 in
      let found = loose_strike_some A x.table row.0 column.0 s column.2 in
      let g = loose_granted row.0 column.0 row.1 column.1 found.0 found.1 found.2 in (
        (λ l.
            let quiet = calm A c x.table l.simulation row.0 column.0 row.1 column.1 found.1 in
            both_ways (faulty A (struck A x.table None) row.0 column.0) quiet (sym (some_cause A x.table row.0 column.0) ∙ ap is_some found.2)),
        ap (λ o. unless o (x.docket.count + 1)) (subst (λ s. strike_refusal A x s ≡ None) found.3 g),
      )

  pub good_tells : SettleTells A x (settle_says A x)
  good_tells =
      subst (λ o. SettleTells A x (unless o (settlement A x.table))) (sym good.in_use) (by (first_loose A x.table) settled_right loose_told)
    where
      by : (o : Option Strike) → (o ≡ None → SettledRight A x (number_standing A x.table)) → ((s : Strike) → o ≡ Some s → (Largest A (standing A x.table) → ⊥) × (strike_says A x s ≡ Ok (x.docket.count + 1))) → SettleTells A x (Ok (settled_unless o (number_standing A x.table)))
      by None settled loose = settled refl
      by (Some s) settled loose = loose s refl

  pub good_sound : Sound A x
  good_sound = record { struck_rightly = lost A c x.table good.ordered; settle_tells = good_tells }

-- the law over runs
pub run_law : (A : Arena) → Closed A → (x : Position) (calls : List Call) → RunLaw A x calls
run_law A c x calls done left e h = good_sound A c (after A x done) (good_after_opening A c x done h)
