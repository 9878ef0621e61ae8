-- In a table of ends that ascends, a height lies between the ends that its count below picks out.
use Rattle.std.proofs.Common.{◌≡◌, ℕ, zero, suc, ◌+◌, ◌-◌, ◌<◌, ◌≤◌, Bool, true, ◌&&◌, List, [], ◌∷◌, length, get_or, count_by, cond, pos, ◌≤ℤ◌, ◌<ℤ◌, refl, ap, ◌∙◌, sub-one, one-add, arith}
use lib.Signed.{lt_z}
use Rattle.std.proofs.lemmas.Int.{ints}
use Rattle.std.proofs.lemmas.Bool.{and_parts, cond_both}
use Rattle.std.proofs.lemmas.List.Sums.{sum_by-cons}
use Rattle.systems.specs.Meaning.{Reading}
use Rattle.likeness.specs.SeaState.{InClass, class_ends, class_of, ends_below}

-- whether the ends ascend, and all lie above the first
abbrev pub ascends_from : Reading → List Reading → Bool
ascends_from first [] = true
ascends_from first (end ∷ ends) = lt_z first end && ascends_from end ends

-- whether the ends ascend
abbrev pub ascends : List Reading → Bool
ascends [] = true
ascends (end ∷ ends) = ascends_from end ends

-- the height is at most end k, if there is one, and above the end before, if there is one
abbrev pub Placed : List Reading → Reading → ℕ → Type 0
Placed ends h k =
    (k ≤ length ends) × (k < length ends → h ≤ℤ get_or ends k (pos 0)) × (0 < k → get_or ends (k - 1) (pos 0) <ℤ h)

-- without the first end the rest still ascends
rest_ascends : (end : Reading) (ends : List Reading) → ascends (end ∷ ends) ≡ true → ascends ends ≡ true
rest_ascends end [] up = refl
rest_ascends end (next ∷ ends) up = (and_parts (lt_z end next) (ascends (next ∷ ends)) up).1

-- no end that follows lies below a height that is at most the first
none_below : (end : Reading) (ends : List Reading) (h : Reading) → ascends (end ∷ ends) ≡ true → h ≤ℤ end → ends_below h ends ≡ 0
none_below end [] h up low = refl
none_below end (next ∷ ends) h up low =
    let parts = and_parts (lt_z end next) (ascends (next ∷ ends)) up in
    let first = parts.0 in
    let low' : h ≤ℤ next = grind (arith, ints) in
    let none = none_below next ends h parts.1 low' in
    cond_both (lt_z next h) 1 0 (λ n. n + ends_below h ends ≡ 0) (λ e. absurd (grind (arith, ints))) (λ e. omega arith)

-- one more end in front, below the height
one_more : (end : Reading) (ends : List Reading) (h : Reading) (k : ℕ) → end <ℤ h → Placed ends h k → Placed (end ∷ ends) h (suc k)
one_more end ends h zero low p = (omega arith, λ l. p.1 (omega arith), λ l. low)
one_more end ends h (suc k) low p =
    (omega arith, λ l. p.1 (omega arith), λ l. rw sub-one (rw sub-one at (p.2 (omega arith))))

-- the count of the ends below a height places it
pub placed : (ends : List Reading) (h : Reading) → ascends ends ≡ true → Placed ends h (ends_below h ends)
placed [] h up = (omega arith, λ l. absurd (omega arith), λ l. absurd (omega arith))
placed (end ∷ ends) h up =
    cond_both (lt_z end h) 1 0 (λ n. Placed (end ∷ ends) h (n + ends_below h ends))
    (λ e. rw one-add (one_more end ends h (ends_below h ends) (grind (arith, ints)) (placed ends h (rest_ascends end ends up))))
    (λ e.
    let low : h ≤ℤ end = grind (arith, ints) in
    rw (none_below end ends h up low) (omega arith, λ l. low, λ l. absurd (omega arith)))

-- the table of class ends ascends, which is a test that computes, so every height lies in its class
pub in_class : (h : Reading) → InClass h (class_of h)
unfolding class_of
in_class h = let p = placed class_ends h refl in record { a_class = p.0; up_to = p.1; above = p.2 }

-- the count of the ends below a height, as a count of those that pass the test
pub counted : (ends : List Reading) (h : Reading) → count_by (λ end. lt_z end h) ends ≡ ends_below h ends
counted [] h = refl
counted (end ∷ ends) h = sum_by-cons (λ e. cond (lt_z e h) 1 0) end ends ∙ ap (λ n. cond (lt_z end h) 1 0 + n) (counted ends h)
