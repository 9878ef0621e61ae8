-- What it takes for a call not to be refused.
use Rattle.std.proofs.Common.{◌≡◌, ℕ, ◌<◌, ◌≤◌, Bool, true, false, cond, not, ◌&&◌, eqb, ltb, leb, List, length, Some, None, Option, refl, ap, ◌∙◌, arith}
use Rattle.std.proofs.lemmas.Bool.{and_from, and_parts, cond-false, cond-true, eq-eqb, eqb-true, leb-false, lt-leb, lt-ltb, ltb-false, ltb-true, not-false, not_from_false, not_from_true, or_left, or_right}
use Rattle.systems.proofs.Bounded.{or_else_none}
use Rattle.systems.specs.Bounded.{or_else}
use Rattle.systems.specs.Refused.{if_granted}
use Rattle.arena.proofs.Bounds.{any_below_from}
use Rattle.arena.proofs.Simulation.{move_refutes, sight_unlike}
use Rattle.arena.specs.Arena.{Arena}
use Rattle.arena.specs.Pairs.{refuted, refutes}
use Rattle.arena.specs.Table.{cause_of, faulty, pairs, stands, struck}
use Rattle.arena.specs.declared.cause.Cause.{Cause}
use Rattle.arena.specs.declared.cause.Cause.TheVariants.{Sight, Move}
use Rattle.docket.specs.Position.{Position, opened}
use Rattle.docket.specs.Refusals.{cause_refusal, few_moves_in_both, misfit, opening_refusal, pair_refusal, too_many_states, use_refusal}
use Rattle.docket.specs.Use.{InUse}
use Rattle.docket.specs.declared.refusal.Refusal.{Refusal}
use Rattle.docket.specs.declared.refusal.Refusal.TheVariants.{TooManyStates, NotComparable, TooManyMoves, TableTooShort, Closed, OtherSizes, NoSuchState, AlreadyStruck, NoSuchMove, Alike, NotRefuted, Full}

-- a test in a row of tests
module _ {X : Type 0} (b : Bool) (r : X) (o : Option X) where
  pub passed : cond b (Some r) o ≡ None → (b ≡ false) × (o ≡ None)
  passed h = by b h
    where
      by : (b : Bool) → cond b (Some r) o ≡ None → (b ≡ false) × (o ≡ None)
      by true e = let z : ◌≡◌ {A = ℕ} 0 1 = cc in absurd (omega arith)
      by false e = (refl, e)

  pub pass : b ≡ false → o ≡ None → cond b (Some r) o ≡ None
  pass e h = cond-false b (Some r) o e ∙ h

-- a table that serves has an entry for each pair
pub fitting_room : (A : Arena) (entries : ℕ) → misfit A entries ≡ None → pairs A ≤ entries
fitting_room A entries h =
    let channels = passed (not A.comparable) NotComparable _ h in
    let moves = passed (not (few_moves_in_both A)) TooManyMoves _ channels.1 in
    ltb-false entries (pairs A) (passed (ltb entries (pairs A)) TableTooShort None moves.1).0

pub openable_fits : (A : Arena) (entries : ℕ) → opening_refusal A entries ≡ None → misfit A entries ≡ None
openable_fits A entries h = (passed (too_many_states A) TooManyStates (misfit A entries) h).1

-- a docket that was just opened is in use
pub opened_in_use : (A : Arena) (x : Position) → misfit A (length (opened A x).table) ≡ None → use_refusal A (opened A x) ≡ None
opened_in_use A x h =
    pass (not (eqb A.old_states A.old_states && eqb A.new_states A.new_states)) OtherSizes (misfit A (length (opened A x).table))
    (not_from_true (eqb A.old_states A.old_states && eqb A.new_states A.new_states) (and_from (eqb A.old_states A.old_states) (eqb A.new_states A.new_states) (eq-eqb A.old_states A.old_states refl) (eq-eqb A.new_states A.new_states refl))) h

-- what use a docket is of that is not refused
pub in_use : (A : Arena) (x : Position) → use_refusal A x ≡ None → InUse A x
in_use A x h =
    let shut = passed (not x.docket.is_open) Closed _ h in
    let same = eqb x.docket.old_states A.old_states && eqb x.docket.new_states A.new_states in
    let other = passed (not same) OtherSizes _ shut.1 in
    let sizes = and_parts (eqb x.docket.old_states A.old_states) (eqb x.docket.new_states A.new_states) (not-false same other.0) in
    record {
      is_open = not-false x.docket.is_open shut.0;
      old_states = eqb-true x.docket.old_states A.old_states sizes.0;
      new_states = eqb-true x.docket.new_states A.new_states sizes.1;
      room = fitting_room A (length x.table) other.1;
    }

-- What a docket in use grants a strike on.
pub record Grounds (A : Arena) (x : Position) (w v : ℕ) (cause : Cause) : Type 0 where
  pub row : w < A.old_states
  pub column : v < A.new_states
  pub stood : stands A x.table w v ≡ true
  pub caused : cause_refusal A x.table w v cause ≡ None
  pub room : x.docket.count < pairs A

module _ (A : Arena) (x : Position) (w v : ℕ) (cause : Cause) where
  pub grounds : pair_refusal A x w v cause ≡ None → Grounds A x w v cause
  grounds h =
      let range = passed (not (ltb w A.old_states && ltb v A.new_states)) NoSuchState _ h in
      let stood = passed (not (stands A x.table w v)) AlreadyStruck _ range.1 in
      let last = or_else_none (cause_refusal A x.table w v cause) (cond (leb (pairs A) x.docket.count) (Some Full) None) stood.1 in
      let below = and_parts (ltb w A.old_states) (ltb v A.new_states) (not-false (ltb w A.old_states && ltb v A.new_states) range.0) in
      record {
        row = ltb-true w A.old_states below.0;
        column = ltb-true v A.new_states below.1;
        stood = not-false (stands A x.table w v) stood.0;
        caused = last.0;
        room = leb-false (pairs A) x.docket.count (passed (leb (pairs A) x.docket.count) Full None last.1).0;
      }

  pub grants : Grounds A x w v cause → pair_refusal A x w v cause ≡ None
  grants g =
      pass (not (ltb w A.old_states && ltb v A.new_states)) NoSuchState _ (not_from_true (ltb w A.old_states && ltb v A.new_states) (and_from (ltb w A.old_states) (ltb v A.new_states) (lt-ltb w A.old_states g.row) (lt-ltb v A.new_states g.column)))
      (pass (not (stands A x.table w v)) AlreadyStruck _ (not_from_true (stands A x.table w v) g.stood)
      (ap (λ o. or_else o (cond (leb (pairs A) x.docket.count) (Some Full) None)) g.caused
      ∙ pass (leb (pairs A) x.docket.count) Full None (lt-leb (pairs A) x.docket.count g.room) refl))

-- a pair with a cause that is not refused is faulty
pub caused_faulty : (A : Arena) (t : List ℕ) (w v : ℕ) (cause : Cause) → cause_refusal A t w v cause ≡ None → faulty A (struck A t None) w v ≡ true
caused_faulty A t w v Sight h =
    or_left (not (A.alike w v)) (refuted A (struck A t None) w v) (not_from_false (A.alike w v) (passed (A.alike w v) Alike None h).0)
caused_faulty A t w v (Move a) h =
    let below = passed (leb (A.old_controller_moves w) a) NoSuchMove _ h in
    or_right (not (A.alike w v)) (refuted A (struck A t None) w v)
    (any_below_from (A.old_controller_moves w) a (λ a. refutes A (struck A t None) w v a) (leb-false (A.old_controller_moves w) a below.0) (by (refutes A (struck A t None) w v a) below.1))
  where
    by : (b : Bool) → cond b None (Some NotRefuted) ≡ None → b ≡ true
    by true e = refl
    by false e = let z : ◌≡◌ {A = ℕ} 0 1 = cc in absurd (omega arith)

-- the cause that is found for a pair is not refused
pub found_caused : (A : Arena) (t : List ℕ) (w v : ℕ) (cause : Cause) → cause_of A t w v ≡ Some cause → cause_refusal A t w v cause ≡ None
found_caused A t w v Sight h = pass (A.alike w v) Alike None (sight_unlike A t w v h) refl
found_caused A t w v (Move a) h =
    let found = move_refutes A t w v a h in
    pass (leb (A.old_controller_moves w) a) NoSuchMove _ (lt-leb (A.old_controller_moves w) a found.1)
    (cond-true (refutes A (struck A t None) w v a) None (Some NotRefuted) found.2)

-- where a call leads, granted or refused
pub if_granted_both : (P : Position → Type 0) (o : Option Refusal) (y x : Position) → (o ≡ None → P y) → P x → P (if_granted o y x)
if_granted_both P None y x granted refused = granted refl
if_granted_both P (Some refusal) y x granted refused = refused
