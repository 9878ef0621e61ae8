-- Codes as far as they were added.
use Rattle.std.proofs.Common.{◌≡◌, ℕ, ◌+◌, ◌<◌, ◌≤◌, Bool, true, false, cond, List, [], ◌∷◌, ◌++◌, length, map, take, get_or, Ok, Err, refl, sym, ap, ◌∙◌, arith, nat_lt}
use Rattle.std.proofs.lemmas.Bool.{cond-true, ltb-true}
use Rattle.std.proofs.lemmas.List.{length-map, length-take-le, map_more}
use Rattle.systems.specs.CodeList.{add_answer, added}
use Rattle.systems.specs.declared.codes.CodeEntry.{CodeEntry}
use Rattle.systems.specs.declared.code_list.CodeFault.TheVariants.{Full}
use Rattle.layered.specs.Codes.{entry}
use Rattle.layered.specs.declared.coded.Code.{Code}

-- what is granted under a test was granted by it
granted_by : {X E : Type 0} (t : Bool) (x : X) (e : E) → cond t (Ok x) (Err e) ≡ Ok x → t ≡ true
granted_by true x e h = refl
granted_by false x e h = let z : ◌≡◌ {A = ℕ} 0 1 = cc in absurd (omega arith)

-- a code that was added makes one more of the codes
pub one_more : (codes : List Code) (i : ℕ) (d : Code) (entries : List CodeEntry) → i < length codes → entries ≡ map entry (take i codes) → add_answer entries ≡ Ok tt
    → (added entries (entry (get_or codes i d)) ≡ map entry (take (i + 1) codes)) × (i + 1 ≤ 8)
one_more codes i d entries l h granted =
    let many : length entries ≡ i = ap length h ∙ length-map (take i codes) entry ∙ length-take-le i codes (omega arith) in
    let test : nat_lt (length entries) 8 ≡ true = granted_by (nat_lt (length entries) 8) tt Full granted in
    let room : length entries < 8 = ltb-true (length entries) 8 test in (
      cond-true (nat_lt (length entries) 8) (entries ++ entry (get_or codes i d) ∷ []) entries test
          ∙ ap (λ es. es ++ entry (get_or codes i d) ∷ []) h ∙ sym (map_more entry codes i d l),
      omega arith,
    )
