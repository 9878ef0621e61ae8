-- Tests and searches over the numbers below a bound: their steps, and what their answers say of each number.
use Rattle.std.proofs.Common.{◌≡◌, ℕ, zero, suc, ◌+◌, ◌<◌, ◌≤◌, Bool, true, false, leb, Some, None, Decides, Option, refl, sym, ap, ◌∙◌, subst, inl, inr, add-one, arith}
use Rattle.std.proofs.lemmas.Bool.{and_from, and_parts, both_ways, cases_Bool, cases_eq, le-leb, leb-true}
use Rattle.std.proofs.lemmas.Bool.Decides.{Decides-below_and}
use denote.Param.Members.{Mut}
use Rattle.std.specs.Prelude.{MatchOption, IsSomeAnd}
use Rattle.std.specs.Bool.{MatchBool}
use Rattle.std.specs.Fn.{Called}
use Rattle.std.specs.Iterator.Runs.{Run, SomeRun, CallKeepsClosure, AllItemsGive, AnyItemGives, IsFirstToGive}
use Rattle.std.specs.Option.{option_map}
use Rattle.std.specs.declared.ops.Range.{Range}
use Rattle.std.proofs.iter.Yields.{nat_range_steps}
use Rattle.std.proofs.iter.runs.Sources.{range_runs}
use Rattle.systems.specs.Bounded.{all_below, between, first_below, or_else}

-- a number in a range

pub between_true : (least most x : ℕ) → between least most x ≡ true → (least ≤ x) × (x ≤ most)
between_true least most x h =
    let both = and_parts (leb least x) (leb x most) h in
    (leb-true least x both.0, leb-true x most both.1)

pub between_from : (least most x : ℕ) → least ≤ x → x ≤ most → between least most x ≡ true
between_from least most x low high = and_from (leb least x) (leb x most) (le-leb least x low) (le-leb x most high)

-- every number below the bound

all_below_decides : (n : ℕ) (f : ℕ → Bool) → Decides (all_below n f) ((k : ℕ) → k < n → f k ≡ true)
all_below_decides n f =
    Decides-below_and f (λ k. f k ≡ true) (λ j. all_below j f) (λ _. ((λ e. e), (λ e. e))) refl (λ _. refl) n

pub all_below_true : (n : ℕ) (f : ℕ → Bool) → all_below n f ≡ true → (k : ℕ) → k < n → f k ≡ true
all_below_true n f = (all_below_decides n f).0

pub all_below_from : (n : ℕ) (f : ℕ → Bool) → ((k : ℕ) → k < n → f k ≡ true) → all_below n f ≡ true
all_below_from n f = (all_below_decides n f).1

pub all_below_false : (n k : ℕ) (f : ℕ → Bool) → k < n → f k ≡ false → all_below n f ≡ false
all_below_false n k f l e =
    elim (cases_Bool (all_below n f)) [ inl h ↦ absurd (both_ways (f k) e (all_below_true n f h k l)) | inr h ↦ h ]

-- a test that is passed just where every number below the bound passes
pub all_below_is : (n : ℕ) (f : ℕ → Bool) (r : Bool) → Decides r ((k : ℕ) → k < n → f k ≡ true) → r ≡ all_below n f
all_below_is n f r (sound, complete) =
    elim (cases_Bool r) [
      | inl passed ↦ passed ∙ sym (all_below_from n f (sound passed))
      | inr failed ↦ failed ∙ sym (elim (cases_Bool (all_below n f)) [
        | inl h ↦ absurd (both_ways r failed (complete (all_below_true n f h)))
        | inr h ↦ h
      ])
    ]

-- a loop's step
pub all_below_more : (k : ℕ) (f : ℕ → Bool) → all_below k f ≡ true → f k ≡ true → all_below (k + 1) f ≡ true
all_below_more k f h e = rw add-one (and_from (f k) (all_below k f) e h)

-- the first number below the bound that finds something

pub or_else_none : {X : Type 0} (a b : Option X) → or_else a b ≡ None → (a ≡ None) × (b ≡ None)
or_else_none (Some x) b h = let z : ◌≡◌ {A = ℕ} 0 1 = cc in absurd (omega arith)
or_else_none None b h = (refl, h)

both_none : {X : Type 0} (a b : Option X) → a ≡ None → b ≡ None → or_else a b ≡ None
both_none a b p q = rw (p, q) refl

-- a loop's step
pub first_below_none_more : {X : Type 0} (k : ℕ) (f : ℕ → Option X) → first_below k f ≡ None → f k ≡ None → first_below (k + 1) f ≡ None
first_below_none_more k f h e = rw add-one (both_none (first_below k f) (f k) h e)

-- a loop's exit
pub first_below_found : {X : Type 0} (n k : ℕ) (f : ℕ → Option X) (x : X) → first_below k f ≡ None → f k ≡ Some x → k < n → first_below n f ≡ Some x
first_below_found zero k f x h e l = absurd (omega arith)
first_below_found (suc n) k f x h e l =
    elim (cases_eq k n) [
      | inl same ↦ ap (λ o. or_else o (f n)) (subst (λ j. first_below j f ≡ None) same h) ∙ subst (λ j. f j ≡ Some x) same e
      | inr less ↦ ap (λ o. or_else o (f n)) (first_below_found n k f x h e (omega arith))
    ]

pub first_below_none_all : {X : Type 0} (n : ℕ) (f : ℕ → Option X) → first_below n f ≡ None → (k : ℕ) → k < n → f k ≡ None
first_below_none_all zero f h k l = absurd (omega arith)
first_below_none_all (suc n) f h k l =
    let none = or_else_none (first_below n f) (f n) h in
    elim (cases_eq k n) [
      | inl same ↦ ap f same ∙ none.1
      | inr less ↦ first_below_none_all n f none.0 k (omega arith)
    ]

pub first_below_none_from : {X : Type 0} (n : ℕ) (f : ℕ → Option X) → ((k : ℕ) → k < n → f k ≡ None) → first_below n f ≡ None
first_below_none_from zero f h = refl
first_below_none_from (suc n) f h =
    both_none (first_below n f) (f n) (first_below_none_from n f (λ k l. h k (omega arith))) (h n (omega arith))

-- `all` and `find_map` over a range from 0, by the clause `runs` of the call: each call of the closure computes the test of its number, and changes nothing

-- an item that is there
is_some : (o : Option ℕ) (k : ℕ) → option_map (λ y. y) o ≡ Some k → o ≡ Some k
is_some None k e = e
is_some (Some x) k e = e

-- the number at a place of a run is the place
at_place : (p : Run nat_range_steps) → p.from.start ≡ 0 → (k : ℕ) → k < p.len → p.at k ≡ Some k
at_place p start k l =
    let e = (range_runs p p.seen).3 k l in
    let same : p.from.start + k ≡ k = omega arith in
    is_some (p.at k) k (e ∙ ap Some same)

module _ {F R : Type 0} (g : Mut F (ℕ × Unit {0}) R) (f : F) (test : ℕ → R) where
  -- each call computes the test of its number, and changes nothing
  abbrev pub Computes : Type 0
  Computes = (k : ℕ) (r : R) (h : F) → Called g f (k, tt) r h → (h ≡ f) × (r ≡ test k)

  -- so calls leave the closure as it was
  keeps : Computes → CallKeepsClosure g f
  keeps calls x r h call = (calls x.0 r h call).0

  -- what a call answered at a place
  answered : Computes → (p : Run nat_range_steps) → p.from.start ≡ 0 → (k : ℕ) (r : R) → k < p.len
      → MatchOption (p.at k) (Unit {0}) (λ x. Called g f (x, tt) r f) → r ≡ test k
  answered calls p start k r l h =
      (calls k r f (subst (λ o. MatchOption o (Unit {0}) (λ x. Called g f (x, tt) r f)) (at_place p start k l) h)).1

  -- the same, said of a place that is known to have an item
  answered_there : Computes → (p : Run nat_range_steps) → p.from.start ≡ 0 → (k : ℕ) (r : R) → k < p.len
      → IsSomeAnd (p.at k) (λ x. Called g f (x, tt) r f) → r ≡ test k
  answered_there calls p start k r l h =
      (calls k r f (subst (λ o. IsSomeAnd o (λ x. Called g f (x, tt) r f)) (at_place p start k l) h)).1

-- `all` answers whether every number below the range's end passes
pub all_below_from_all : {F : Type 0} {g : Mut F (ℕ × Unit {0}) Bool} {f : F} {n most : ℕ} {r : Bool} (test : ℕ → Bool)
    → SomeRun nat_range_steps record { start = 0; end = n } (λ p. MatchBool r ((p.whole ≡ true) × AllItemsGive p g f true) (AnyItemGives p g f false))
    → n ≡ most
    → Computes g f test
    → r ≡ all_below most test
all_below_from_all {g = g} {f = f} {n = n} {most = most} {r = true} test (p, is, (whole, all)) same calls =
    let start : p.from.start ≡ 0 = ap (λ (s : Range ℕ). s.start) is in
    let long : p.len ≡ n = omega (arith, (range_runs p p.seen).1 whole, start, ap (λ (s : Range ℕ). s.end) is) in
    sym (all_below_from most test (λ k l. sym (answered g f test calls p start k true (omega arith) (all (keeps g f test calls) k))))
all_below_from_all {g = g} {f = f} {n = n} {most = most} {r = false} test (p, is, any) same calls =
    let start : p.from.start ≡ 0 = ap (λ (s : Range ℕ). s.start) is in
    let few : p.len ≤ n = omega (arith, (range_runs p p.seen).0, ap (λ (s : Range ℕ). s.end) is) in
    let (k, l, here) = any (keeps g f test calls) in
    sym (all_below_false most k test (omega arith) (sym (answered_there g f test calls p start k false l here)))

-- `find_map` answers what the least number below the range's end that finds something finds
pub first_below_from_find_map : {F X : Type 0} {g : Mut F (ℕ × Unit {0}) (Option X)} {f : F} {n most : ℕ} {r : Option X} (find : ℕ → Option X)
    → SomeRun nat_range_steps record { start = 0; end = n } (λ p. MatchOption r ((p.whole ≡ true) × AllItemsGive p g f None) (λ y. (i : ℕ) × (i < p.len) × (p.len ≡ i + 1) × IsFirstToGive p g f (Some y) None i))
    → n ≡ most
    → Computes g f find
    → r ≡ first_below most find
first_below_from_find_map {g = g} {f = f} {n = n} {most = most} {r = None} find (p, is, (whole, all)) same calls =
    let start : p.from.start ≡ 0 = ap (λ (s : Range ℕ). s.start) is in
    let long : p.len ≡ n = omega (arith, (range_runs p p.seen).1 whole, start, ap (λ (s : Range ℕ). s.end) is) in
    sym (first_below_none_from most find (λ k l. sym (answered g f find calls p start k None (omega arith) (all (keeps g f find calls) k))))
first_below_from_find_map {g = g} {f = f} {n = n} {most = most} {r = Some y} find (p, is, (i, l, _, first)) same calls =
    let start : p.from.start ≡ 0 = ap (λ (s : Range ℕ). s.start) is in
    let few : p.len ≤ n = omega (arith, (range_runs p p.seen).0, ap (λ (s : Range ℕ). s.end) is) in
    let found = first (keeps g f find calls) in
    let before : first_below i find ≡ None =
    first_below_none_from i find (λ k m. sym (answered_there g f find calls p start k None (omega arith) (found.1 k m))) in
    sym (first_below_found most i find y before (sym (answered_there g f find calls p start i (Some y) l found.0)) (omega arith))
