-- Two files that are taken for an exchange.
use Rattle.std.proofs.Common.{◌≡◌, ℕ, ◌*◌, ◌<◌, ◌≤◌, Bool, true, cond, not, eqb, leb, ltb, ◌&&◌, Some, None, Option, refl, ◌∙◌, arith}
use Rattle.std.proofs.lemmas.Bool.{le-ltb}
use Rattle.std.proofs.lemmas.Bool.Decides.{nat_tests}
use Rattle.systems.specs.Meaning.{Meaning, Reading}
use Rattle.systems.specs.Bounded.{or_else}
use Rattle.systems.proofs.Bounded.{all_below_from, or_else_none}
use Rattle.likeness.specs.Within.{first_too_wide}
use Rattle.std.specs.Prelude.{option_map}
use Rattle.arena.specs.Exchange.{exchange}
use Rattle.docket.specs.Refusals.{few_moves, opening_refusal}
use Rattle.docket.specs.declared.refusal.Refusal.{Refusal}
use Rattle.docket.specs.declared.refusal.Refusal.TheVariants.{NotComparable, TableTooShort}
use Rattle.files.specs.Few.{Few}
use Rattle.files.specs.SystemFile.{file_fault}
use Rattle.hosting.specs.Files.{Lent, Room, filed, files_fault}
use Rattle.hosting.specs.declared.fault.FilesFault.TheVariants.{Tolerance, OldFile, NewFile, Exchange}

-- a system that is small enough for a file has few moves
few_moves_of : (m : Meaning) → Few m → few_moves m.states m.controller_moves m.environment_moves ≡ true
few_moves_of m few =
    all_below_from m.states (λ w. leb (m.controller_moves w) 16 && leb (m.environment_moves w) 16)
    (λ w l.
    let p = few.few_controller_moves w l in
    let q = few.few_environment_moves w l in
    grind (arith, nat_tests))

-- an opening for two such systems is refused only for their channels, or for a table that is too short
opening_of_files : (old new : Meaning) (relation : ℕ → Reading → Reading → Bool) (entries : ℕ) → Few old → Few new
    → opening_refusal (exchange old new relation) entries
    ≡ cond (not (eqb old.channels new.channels)) (Some NotComparable) (cond (ltb entries (old.states * new.states)) (Some TableTooShort) None)
opening_of_files old new relation entries o n =
    let few_old = few_moves_of old o in
    let few_new = few_moves_of new n in
    let a = o.few_states in
    let b = n.few_states in
    let c = o.few_channels in
    rw (le-ltb 256 old.states a, le-ltb 256 new.states b, few_old, few_new) (grind (arith, nat_tests))

-- and so by its cases
module _ (old new : Meaning) (relation : ℕ → Reading → Reading → Bool) (entries : ℕ) (o : Few old) (n : Few new) where
  pub opening_refused_for_channels : (old.channels ≡ new.channels → ⊥) → opening_refusal (exchange old new relation) entries ≡ Some NotComparable
  opening_refused_for_channels differ = opening_of_files old new relation entries o n ∙ grind (arith, nat_tests)

  pub opening_refused_for_table : old.channels ≡ new.channels → entries < old.states * new.states → opening_refusal (exchange old new relation) entries ≡ Some TableTooShort
  opening_refused_for_table same short = opening_of_files old new relation entries o n ∙ grind (arith, nat_tests)

  pub opening_granted : old.channels ≡ new.channels → old.states * new.states ≤ entries → opening_refusal (exchange old new relation) entries ≡ None
  opening_granted same enough = opening_of_files old new relation entries o n ∙ grind (arith, nat_tests)

-- where the tolerances and both files have no fault, the fault is that of an opening
pub fault_together : (e : Lent) (lent : Room) → first_too_wide e.tolerances ≡ None → file_fault e.old_file 0 lent.old_words ≡ None → file_fault e.new_file 0 lent.new_words ≡ None
    → files_fault e lent ≡ option_map (λ refusal. Exchange refusal) (opening_refusal (filed e) lent.entries)
fault_together e lent t o n = rw (t, o, n) refl

-- files without a fault open
pub opens : (e : Lent) (lent : Room) → files_fault e lent ≡ None → opening_refusal (filed e) lent.entries ≡ None
opens e lent none =
    let tolerances = option_map (λ channel. Tolerance channel) (first_too_wide e.tolerances) in
    let old = option_map (λ fault. OldFile fault) (file_fault e.old_file 0 lent.old_words) in
    let new = option_map (λ fault. NewFile fault) (file_fault e.new_file 0 lent.new_words) in
    let together = option_map (λ refusal. Exchange refusal) (opening_refusal (filed e) lent.entries) in
    let first = or_else_none tolerances (or_else old (or_else new together)) none in
    let second = or_else_none old (or_else new together) first.1 in
    let third = or_else_none new together second.1 in
    unmapped (opening_refusal (filed e) lent.entries) third.1
  where
    unmapped : (o : Option Refusal) → option_map (λ refusal. Exchange refusal) o ≡ None → o ≡ None
    unmapped None h = refl
    unmapped (Some refusal) h = cc
