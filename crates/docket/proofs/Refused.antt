-- What the answer of a check tells of the refusal behind it.
use Rattle.std.proofs.Common.{◌≡◌, ℕ, ◌<◌, List, Some, None, Ok, Err, Option, sym, refl, ap, ◌∙◌}
use Rattle.systems.proofs.Bounded.{first_below_found}
use Rattle.systems.specs.Bounded.{first_below}
use Rattle.systems.specs.Refused.{unless}
use Rattle.arena.specs.Arena.{Arena}
use Rattle.docket.specs.Certificate.{first_fault, first_fault_in, pair_fault}

module _ {E X : Type 0} where
  -- a check that refuses names the refusal
  pub refusal_of : (o : Option E) (x : X) (e : E) → Err e ≡ unless o x → o ≡ Some e
  refusal_of (Some f) x e h = cc
  refusal_of None x e h = cc

  -- a check that grants has none
  pub no_refusal : (o : Option E) (x y : X) → Ok y ≡ unless o x → o ≡ None
  no_refusal (Some f) x y h = cc
  no_refusal None x y h = cc

-- a check that does not grant refuses
refused_with : {E : Type 0} (o : Option E) → (unless o (tt {0}) ≡ Ok tt → ⊥) → (e : E) × (o ≡ Some e)
refused_with (Some e) h = (e, refl)
refused_with None h = absurd (h refl)

-- the fault of a pair out of order, when the pairs before it are in order
pub fault_at : (A : Arena) (table : List ℕ) (w v : ℕ) → first_below w (λ w. first_fault_in A table w A.new_states) ≡ None → first_fault_in A table w v ≡ None → w < A.old_states → v < A.new_states → (unless (pair_fault A table w v) (tt {0}) ≡ Ok tt → ⊥) → unless (pair_fault A table w v) (tt {0}) ≡ unless (first_fault A table) tt
fault_at A table w v rows row lw lv h =
    let fault = refused_with (pair_fault A table w v) h in
    let in_row = first_below_found A.new_states v (λ v. pair_fault A table w v) fault.0 row fault.1 lv in
    let first = first_below_found A.old_states w (λ w. first_fault_in A table w A.new_states) fault.0 rows in_row lw in
    ap (λ o. unless o tt) (fault.1 ∙ sym first)
