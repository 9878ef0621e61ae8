-- Simulations, what is faulty by what lies outside them, and what a table in order says of them.
use Rattle.std.proofs.Common.{◌≡◌, ℕ, zero, suc, ◌<◌, Bool, true, false, cond, not, ◌&&◌, eqb, ltb, leb, List, Some, None, Decides, Option, sym, refl, ap, ◌∙◌, inl, inr, arith}
use Rattle.std.proofs.lemmas.Bool.{and_from, and_parts, and_right, both_ways, cases_Bool, cond_both, cond-false, cond-true, lt-ltb, ltb-true, not-false, not_from_false, not-true, or_cases, or_left, or_parts, or_right}
use Rattle.systems.proofs.Bounded.{all_below_true}
use Rattle.arena.proofs.Bounds.{all_below_fails, all_below_weaker, any_below_none, any_below_true, any_below_weaker, first_below_some}
use Rattle.arena.specs.Arena.{Arena, Closed}
use Rattle.arena.specs.Pairs.{Largest, Relation, Replaces, Simulation, refuted, refutes, spoils, spoilt}
use Rattle.arena.specs.Table.{by_move, cause_of, entry, faulty, in_order, least_refuting, loose, standing, stands, start_stands, struck}
use Rattle.arena.specs.declared.cause.Cause.TheVariants.{Sight, Move}

-- the pairs in range of one relation are in another
abbrev pub Within : Arena → Relation → Relation → Type 0
Within A f g = (w v : ℕ) → w < A.old_states → v < A.new_states → f w v ≡ true → g w v ≡ true

-- where more pairs are gone, more are refuted
module _ (A : Arena) (c : Closed A) (f g : Relation) (m : Within A f g) where
  pub refutes_more : (w v a : ℕ) → refutes A f w v a ≡ true → refutes A g w v a ≡ true
  refutes_more w v a =
      all_below_weaker (A.new_controller_moves v) (λ reply. spoilt A f w v a reply) (λ reply. spoilt A g w v a reply) (λ reply _.
      any_below_weaker (A.new_environment_moves v) (λ b'. spoils A f w v a reply b') (λ b'. spoils A g w v a reply b') (λ b' _.
      all_below_weaker (A.old_environment_moves w) (λ b. f (A.old_next w a b) (A.new_next v reply b')) (λ b. g (A.old_next w a b) (A.new_next v reply b')) (λ b _.
      m (A.old_next w a b) (A.new_next v reply b') (c.old_next_bound w a b) (c.new_next_bound v reply b'))))

  pub refuted_more : (w v : ℕ) → refuted A f w v ≡ true → refuted A g w v ≡ true
  refuted_more w v = any_below_weaker (A.old_controller_moves w) (λ a. refutes A f w v a) (λ a. refutes A g w v a) (λ a _. refutes_more w v a)

  pub faulty_more : (w v : ℕ) → faulty A f w v ≡ true → faulty A g w v ≡ true
  faulty_more w v h =
      elim (or_cases (not (A.alike w v)) (refuted A f w v) h) [
        | inl e ↦ or_left (not (A.alike w v)) (refuted A g w v) e
        | inr e ↦ or_right (not (A.alike w v)) (refuted A g w v) (refuted_more w v e)
      ]

  pub faulty_less : (w v : ℕ) → faulty A g w v ≡ false → faulty A f w v ≡ false
  faulty_less w v h =
      elim (cases_Bool (faulty A f w v)) [ inl e ↦ absurd (both_ways (faulty A g w v) h (faulty_more w v e)) | inr e ↦ e ]

-- the pairs outside a relation
abbrev pub outside : Relation → Relation
outside R w v = not (R w v)

-- no pair of a simulation is faulty by what lies outside it
pub simulation_faultless : (A : Arena) (R : Relation) → Simulation A R → (w v : ℕ) → R w v ≡ true → faulty A (outside R) w v ≡ false
simulation_faultless A R s w v r =
    elim (cases_Bool (faulty A (outside R) w v)) [
      | inr e ↦ e
      | inl e ↦ absurd (elim (or_cases (not (A.alike w v)) (refuted A (outside R) w v) e) [
        | inl u ↦ both_ways (A.alike w v) (not-true (A.alike w v) u) (s.alike w v r)
        | inr u ↦
            let a = any_below_true (A.old_controller_moves w) (λ a. refutes A (outside R) w v a) u in
            let reply = s.replies w v r a.0 a.1 in
            let spoilt_so = all_below_true (A.new_controller_moves v) (λ reply. spoilt A (outside R) w v a.0 reply) a.2 reply.0 reply.1 in
            let b' = any_below_true (A.new_environment_moves v) (λ b'. spoils A (outside R) w v a.0 reply.0 b') spoilt_so in
            let b = reply.2 b'.0 b'.1 in
            let gone = all_below_true (A.old_environment_moves w) (λ b. outside R (A.old_next w a.0 b) (A.new_next v reply.0 b'.0)) b'.2 b.0 b.1 in
            both_ways (R (A.old_next w a.0 b.0) (A.new_next v reply.0 b'.0)) (not-true (R (A.old_next w a.0 b.0) (A.new_next v reply.0 b'.0)) gone) b.2
      ])
    ]

-- and a relation in range of which no pair is so faulty is a simulation
pub faultless_simulation : (A : Arena) (R : Relation) → ((w v : ℕ) → R w v ≡ true → (w < A.old_states) × (v < A.new_states)) → ((w v : ℕ) → R w v ≡ true → faulty A (outside R) w v ≡ false) → Simulation A R
faultless_simulation A R range h =
    record {
      in_range = range;
      alike = λ w v r. not-false (A.alike w v) (or_parts (not (A.alike w v)) (refuted A (outside R) w v) (h w v r)).0;
      replies = λ w v r a la.
          let unrefuted = any_below_none (A.old_controller_moves w) (λ a. refutes A (outside R) w v a) (or_parts (not (A.alike w v)) (refuted A (outside R) w v) (h w v r)).1 a la in
          let reply = all_below_fails (A.new_controller_moves v) (λ reply. spoilt A (outside R) w v a reply) unrefuted in (
            reply.0,
            reply.1,
            λ b' lb'.
                let b = all_below_fails (A.old_environment_moves w) (λ b. outside R (A.old_next w a b) (A.new_next v reply.0 b')) (any_below_none (A.new_environment_moves v) (λ b'. spoils A (outside R) w v a reply.0 b') reply.2 b' lb') in
                (b.0, b.1, not-false (R (A.old_next w a b.0) (A.new_next v reply.0 b')) b.2),
          );
    }

-- each struck pair is faulty by those with smaller numbers
abbrev pub Ordered : Arena → List ℕ → Type 0
Ordered A t = (w v : ℕ) → w < A.old_states → v < A.new_states → stands A t w v ≡ false → faulty A (struck A t (Some (entry A t w v))) w v ≡ true

-- no standing pair is faulty
abbrev pub Calm : Arena → List ℕ → Type 0
Calm A t = (w v : ℕ) → w < A.old_states → v < A.new_states → stands A t w v ≡ true → faulty A (struck A t None) w v ≡ false

module _ (A : Arena) (t : List ℕ) where
  pub standing_from : (w v : ℕ) → w < A.old_states → v < A.new_states → stands A t w v ≡ true → standing A t w v ≡ true
  standing_from w v lw lv h =
      and_from (ltb w A.old_states) (ltb v A.new_states && stands A t w v) (lt-ltb w A.old_states lw)
      (and_from (ltb v A.new_states) (stands A t w v) (lt-ltb v A.new_states lv) h)

  pub standing_parts : (w v : ℕ) → standing A t w v ≡ true → (w < A.old_states) × (v < A.new_states) × (stands A t w v ≡ true)
  standing_parts w v h =
      let row = and_parts (ltb w A.old_states) (ltb v A.new_states && stands A t w v) h in
      let column = and_parts (ltb v A.new_states) (stands A t w v) row.1 in
      (ltb-true w A.old_states row.0, ltb-true v A.new_states column.0, column.1)

  -- the pairs in range that are not standing are struck
  outside_struck : Within A (outside (standing A t)) (struck A t None)
  outside_struck w v lw lv h =
      elim (cases_Bool (stands A t w v)) [
        | inl e ↦ absurd (both_ways (standing A t w v) (not-true (standing A t w v) h) (standing_from w v lw lv e))
        | inr e ↦ not_from_false (stands A t w v) e
      ]

  struck_outside : Within A (struck A t None) (outside (standing A t))
  struck_outside w v lw lv h =
      not_from_false (standing A t w v) (and_right (ltb w A.old_states) (ltb v A.new_states && stands A t w v) (and_right (ltb v A.new_states) (stands A t w v) (not-true (stands A t w v) h)))

module _ (A : Arena) (c : Closed A) (t : List ℕ) where
  -- by the entries: what was struck before a pair is lost before it
  lost_below : Ordered A t → (R : Relation) → Simulation A R → (k w v : ℕ) → w < A.old_states → v < A.new_states → entry A t w v < k → stands A t w v ≡ false → R w v ≡ false
  lost_below o R s zero w v lw lv l h = absurd (omega arith)
  lost_below o R s (suc k) w v lw lv l h =
      elim (cases_Bool (R w v)) [
        | inr e ↦ e
        | inl e ↦ absurd (both_ways (faulty A (outside R) w v) (simulation_faultless A R s w v e)
            (faulty_more A c (struck A t (Some (entry A t w v))) (outside R) (λ x y lx ly g.
            let both = and_parts (not (eqb (entry A t x y) 0)) (ltb (entry A t x y) (entry A t w v)) g in
            let before = ltb-true (entry A t x y) (entry A t w v) both.1 in
            not_from_false (R x y) (lost_below o R s k x y lx ly (omega arith) (not-true (eqb (entry A t x y) 0) both.0)))
            w v (o w v lw lv h)))
      ]

  -- no struck pair of a table in order is in a simulation
  pub lost : Ordered A t → (R : Relation) → Simulation A R → (w v : ℕ) → w < A.old_states → v < A.new_states → stands A t w v ≡ false → R w v ≡ false
  lost o R s w v lw lv h = lost_below o R s (suc (entry A t w v)) w v lw lv (omega arith) h

  -- where the table is in order and no standing pair is faulty, the standing pairs are the largest simulation
  pub largest : Ordered A t → Calm A t → Largest A (standing A t)
  largest o q =
      record {
        simulation = faultless_simulation A (standing A t)
            (λ w v h. let p = standing_parts A t w v h in (p.0, p.1))
            (λ w v h. let p = standing_parts A t w v h in faulty_less A c (outside (standing A t)) (struck A t None) (outside_struck A t) w v (q w v p.0 p.1 p.2));
        contains = λ S s w v h.
            let range = s.in_range w v h in
            elim (cases_Bool (stands A t w v)) [
              | inl e ↦ standing_from A t w v range.0 range.1 e
              | inr e ↦ absurd (both_ways (S w v) (lost o S s w v range.0 range.1 e) h)
            ];
      }

  -- where the standing pairs are a simulation, none of them is faulty
  pub calm : Simulation A (standing A t) → Calm A t
  calm s w v lw lv h =
      faulty_less A c (struck A t None) (outside (standing A t)) (struck_outside A t) w v (simulation_faultless A (standing A t) s w v (standing_from A t w v lw lv h))

-- every pair is in order where the table is in order and no standing pair is faulty
pub all_in_order : (A : Arena) (t : List ℕ) → Ordered A t → Calm A t → (w v : ℕ) → w < A.old_states → v < A.new_states → in_order A t w v ≡ true
all_in_order A t o q w v lw lv =
    cond_both (stands A t w v) (not (loose A t w v)) (faulty A (struck A t (Some (entry A t w v))) w v) (λ b. b ≡ true)
    (λ e. not_from_false (loose A t w v) (and_right (stands A t w v) (faulty A (struck A t None) w v) (q w v lw lv e)))
    (λ e. o w v lw lv e)

-- and only there
pub ordered_and_calm : (A : Arena) (t : List ℕ) → ((w v : ℕ) → w < A.old_states → v < A.new_states → in_order A t w v ≡ true) → Ordered A t × Calm A t
ordered_and_calm A t h = (
  (λ w v lw lv e. sym (cond-false (stands A t w v) (not (loose A t w v)) (faulty A (struck A t (Some (entry A t w v))) w v) e) ∙ h w v lw lv),
  (λ w v lw lv e.
      let tight = not-true (loose A t w v) (sym (cond-true (stands A t w v) (not (loose A t w v)) (faulty A (struck A t (Some (entry A t w v))) w v) e) ∙ h w v lw lv) in
      sym (ap (λ b. b && faulty A (struck A t None) w v) e) ∙ tight),
)

-- whether the new system replaces the old is told by the largest simulation's pair of start states
pub replaces_by : (A : Arena) (t : List ℕ) → Largest A (standing A t) → Decides (start_stands A t) (Replaces A)
replaces_by A t l = ((λ e. (standing A t, l, e)), (λ r. l.contains r.0 r.1.simulation 0 0 r.2))

-- a least refuting move refutes
pub least_refutes : (A : Arena) (gone : Relation) (w v first end a : ℕ) → least_refuting A gone w v first end ≡ Some a → (a < end) × (refutes A gone w v a ≡ true)
least_refutes A gone w v first end a h =
    let found = first_below_some end (λ a. cond (leb first a && refutes A gone w v a) (Some a) None) a h in
    let at = tried (leb first found.0 && refutes A gone w v found.0) found.0 found.2 in
    let r = (and_parts (leb first found.0) (refutes A gone w v found.0) at.0).1 in
    (omega (arith, found.1, at.1), sym (ap (λ k. refutes A gone w v k) at.1) ∙ r)
  where
    tried : (b : Bool) (k : ℕ) → cond b (Some k) None ≡ Some a → (b ≡ true) × (k ≡ a)
    tried true k e = (refl, cc)
    tried false k e = let z : ◌≡◌ {A = ℕ} 0 1 = cc in absurd (omega arith)

-- a cause that is a move is one of an alike pair that it refutes
pub move_refutes : (A : Arena) (t : List ℕ) (w v a : ℕ) → cause_of A t w v ≡ Some (Move a) → (A.alike w v ≡ true) × (a < A.old_controller_moves w) × (refutes A (struck A t None) w v a ≡ true)
move_refutes A t w v a h =
    let at = by (A.alike w v) (least_refuting A (struck A t None) w v 0 (A.old_controller_moves w)) h in
    let r = least_refutes A (struck A t None) w v 0 (A.old_controller_moves w) a at.1 in
    (at.0, r.0, r.1)
  where
    by : (b : Bool) (o : Option ℕ) → cond b (by_move o) (Some Sight) ≡ Some (Move a) → (b ≡ true) × (o ≡ Some a)
    by true None e = let z : ◌≡◌ {A = ℕ} 0 1 = cc in absurd (omega arith)
    by true (Some k) e = (refl, cc)
    by false o e = let z : ◌≡◌ {A = ℕ} 0 1 = cc in absurd (omega arith)

-- a cause that is sight is one of an unlike pair
pub sight_unlike : (A : Arena) (t : List ℕ) (w v : ℕ) → cause_of A t w v ≡ Some Sight → A.alike w v ≡ false
sight_unlike A t w v h = by (A.alike w v) (least_refuting A (struck A t None) w v 0 (A.old_controller_moves w)) h
  where
    by : (b : Bool) (o : Option ℕ) → cond b (by_move o) (Some Sight) ≡ Some Sight → b ≡ false
    by true None e = let z : ◌≡◌ {A = ℕ} 0 1 = cc in absurd (omega arith)
    by true (Some k) e = let z : ◌≡◌ {A = ℕ} 0 1 = cc in absurd (omega arith)
    by false o e = refl
