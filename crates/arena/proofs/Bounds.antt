-- Tests over the numbers below a bound: their steps, and what their answers say of each number.
use Rattle.std.proofs.Common.{◌≡◌, ℕ, zero, suc, ◌+◌, ◌<◌, ◌≤◌, Bool, true, false, cond, ◌⊎◌, Some, None, Decides, Option, refl, ap, subst, inl, inr, add-one, arith}
use Rattle.std.proofs.lemmas.Bool.{and_cases, both_ways, cases_Bool, cases_eq, cond-true, cond-false, or_from, true≢false}
use Rattle.std.proofs.lemmas.Bool.Decides.{Decides-below_or}
use Rattle.systems.proofs.Bounded.{all_below_true, all_below_from}
use Rattle.systems.specs.Bounded.{all_below, first_below, or_else}
use Rattle.arena.specs.Bounds.{any_below, count_below}

-- some number below the bound

any_below_decides : (n : ℕ) (f : ℕ → Bool) → Decides (any_below n f) ((k : ℕ) × (k < n) × (f k ≡ true))
any_below_decides n f =
    Decides-below_or f (λ k. f k ≡ true) (λ j. any_below j f) (λ _. ((λ e. e), (λ e. e))) refl (λ _. refl) n

pub any_below_true : (n : ℕ) (f : ℕ → Bool) → any_below n f ≡ true → (k : ℕ) × (k < n) × (f k ≡ true)
any_below_true n f = (any_below_decides n f).0

pub any_below_from : (n k : ℕ) (f : ℕ → Bool) → k < n → f k ≡ true → any_below n f ≡ true
any_below_from n k f l e = (any_below_decides n f).1 (k, l, e)

pub any_below_none : (n : ℕ) (f : ℕ → Bool) → any_below n f ≡ false → (k : ℕ) → k < n → f k ≡ false
any_below_none n f h k l =
    elim (cases_Bool (f k)) [ inl e ↦ absurd (both_ways (any_below n f) h (any_below_from n k f l e)) | inr e ↦ e ]

-- a loop's step
pub any_below_more : (k : ℕ) (f : ℕ → Bool) → any_below k f ≡ false → f k ≡ false → any_below (k + 1) f ≡ false
any_below_more k f h e = rw add-one (or_from (f k) (any_below k f) e h)

-- not every number below the bound

pub all_below_fails : (n : ℕ) (f : ℕ → Bool) → all_below n f ≡ false → (k : ℕ) × (k < n) × (f k ≡ false)
all_below_fails zero f h = absurd (true≢false h)
all_below_fails (suc n) f h =
    elim (and_cases (f n) (all_below n f) h) [
      | inl e ↦ (n, omega arith, e)
      | inr e ↦ let k = all_below_fails n f e in (k.0, omega (arith, k.1), k.2)
    ]

-- a loop's end

pub all_below_end : (i n : ℕ) (f : ℕ → Bool) → i ≡ n → all_below i f ≡ true → all_below n f ≡ true
all_below_end i n f e h = subst (λ j. all_below j f ≡ true) e h

pub any_below_end : (i n : ℕ) (f : ℕ → Bool) → i ≡ n → any_below i f ≡ false → any_below n f ≡ false
any_below_end i n f e h = subst (λ j. any_below j f ≡ false) e h

-- what passes one test passes another

pub all_below_weaker : (n : ℕ) (f g : ℕ → Bool) → ((k : ℕ) → k < n → f k ≡ true → g k ≡ true) → all_below n f ≡ true → all_below n g ≡ true
all_below_weaker n f g m h = all_below_from n g (λ k l. m k l (all_below_true n f h k l))

pub any_below_weaker : (n : ℕ) (f g : ℕ → Bool) → ((k : ℕ) → k < n → f k ≡ true → g k ≡ true) → any_below n f ≡ true → any_below n g ≡ true
any_below_weaker n f g m h = let k = any_below_true n f h in any_below_from n k.0 g k.1 (m k.0 k.1 k.2)

-- how many pass

pub count_below_most : (n : ℕ) (f : ℕ → Bool) → count_below n f ≤ n
count_below_most zero f = omega arith
count_below_most (suc n) f =
    let h = count_below_most n f in
    elim (f n) as (λ b. cond b 1 0 + count_below n f ≤ suc n) [ true ↦ omega arith | false ↦ omega arith ]

pub count_below_same : (n : ℕ) (f g : ℕ → Bool) → ((k : ℕ) → k < n → f k ≡ g k) → count_below n f ≡ count_below n g
count_below_same zero f g h = refl
count_below_same (suc n) f g h =
    let e = count_below_same n f g (λ k l. h k (omega arith)) in
    let d = h n (omega arith) in
    cc

pub count_below_one_more : (n i : ℕ) (f g : ℕ → Bool) → i < n → f i ≡ false → g i ≡ true → ((k : ℕ) → k < n → (k ≡ i → ⊥) → f k ≡ g k) → count_below n g ≡ count_below n f + 1
count_below_one_more zero i f g l a b h = absurd (omega arith)
count_below_one_more (suc n) i f g l a b h =
    elim (cases_eq n i) [
      | inl e ↦
          let s = count_below_same n f g (λ k d. h k (omega arith) (omega arith)) in
          let x : cond {A = ℕ} (g n) 1 0 ≡ 1 = cond-true (g n) 1 0 (rw e b) in
          let y : cond {A = ℕ} (f n) 1 0 ≡ 0 = cond-false (f n) 1 0 (rw e a) in
          omega arith
      | inr e ↦
          let r = count_below_one_more n i f g (omega arith) a b (λ k d. h k (omega arith)) in
          let x : cond {A = ℕ} (f n) 1 0 ≡ cond {A = ℕ} (g n) 1 0 = ap (λ b. cond b 1 0) (h n (omega arith) e) in
          omega arith
    ]

pub count_below_less : (n i : ℕ) (f : ℕ → Bool) → i < n → f i ≡ false → count_below n f < n
count_below_less zero i f l a = absurd (omega arith)
count_below_less (suc n) i f l a =
    elim (cases_eq n i) [
      | inl e ↦
          let x : cond {A = ℕ} (f n) 1 0 ≡ 0 = cond-false (f n) 1 0 (rw e a) in
          omega (arith, count_below_most n f)
      | inr e ↦
          let r = count_below_less n i f (omega arith) a in
          let x : cond {A = ℕ} (f n) 1 0 ≤ 1 = elim (f n) as (λ b. cond {A = ℕ} b 1 0 ≤ 1) [ true ↦ omega arith | false ↦ omega arith ] in
          omega arith
    ]

pub count_below_none : (n : ℕ) (f : ℕ → Bool) → ((k : ℕ) → k < n → f k ≡ false) → count_below n f ≡ 0
count_below_none zero f h = refl
count_below_none (suc n) f h =
    let a = count_below_none n f (λ k l. h k (omega arith)) in
    let b : cond {A = ℕ} (f n) 1 0 ≡ 0 = cond-false (f n) 1 0 (h n (omega arith)) in
    omega arith

-- where a first answer was found

or_else_some : {X : Type 0} (a b : Option X) (x : X) → or_else a b ≡ Some x → (a ≡ Some x) ⊎ ((a ≡ None) × (b ≡ Some x))
or_else_some (Some y) b x h = inl h
or_else_some None b x h = inr (refl, h)

pub first_below_some : {X : Type 0} (n : ℕ) (f : ℕ → Option X) (x : X) → first_below n f ≡ Some x → (k : ℕ) × (k < n) × (f k ≡ Some x) × (first_below k f ≡ None)
first_below_some zero f x h = let z : ◌≡◌ {A = ℕ} 0 1 = cc in absurd (omega arith)
first_below_some (suc n) f x h =
    elim (or_else_some (first_below n f) (f n) x h) [
      | inl e ↦ let k = first_below_some n f x e in (k.0, omega (arith, k.1), k.2, k.3)
      | inr e ↦ (n, omega arith, e.1, e.0)
    ]
