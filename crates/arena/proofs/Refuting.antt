-- The search for the least refuting move.
use Rattle.std.proofs.Common.{◌≡◌, ℕ, zero, suc, ◌+◌, ◌<◌, ◌≤◌, Bool, true, false, cond, not, ◌&&◌, ◌||◌, leb, List, is_some, Some, None, Option, sym, refl, ap, ◌∙◌, inl, inr, add-one, arith}
use Rattle.std.proofs.lemmas.Bool.{and_from, and_left, and_right, cond-true, cond-false, cases_Bool, le-leb, lt-leb}
use Rattle.systems.proofs.Bounded.{first_below_none_more, first_below_found, first_below_none_all, first_below_none_from}
use Rattle.systems.specs.Bounded.{or_else}
use Rattle.arena.specs.Arena.{Arena}
use Rattle.arena.specs.Bounds.{any_below}
use Rattle.arena.specs.Pairs.{Relation, refutes, refuted}
use Rattle.arena.specs.Table.{by_move, cause_of, faulty, least_refuting, struck}
use Rattle.arena.specs.declared.cause.Cause.TheVariants.{Sight}

-- a pair that is named by what it equals
pub struck_there : (gone : Relation) (from to from' to' : ℕ) (r b : Bool) → r ≡ gone from to → from ≡ from' → to ≡ to' → r ≡ b → gone from' to' ≡ b
struck_there gone from to from' to' r b e f t h = sym (e ∙ ap (λ x. gone x to) f ∙ ap (λ y. gone from' y) t) ∙ h

module _ (A : Arena) (gone : Relation) (w v first : ℕ) where
  -- the test of one move
  abbrev tried : ℕ → Option ℕ
  tried a = cond (leb first a && refutes A gone w v a) (Some a) None

  pub none_before : least_refuting A gone w v first first ≡ None
  none_before =
      first_below_none_from first (λ a. tried a) (λ a l. cond-false (leb first a && refutes A gone w v a) (Some a) None (and_left (leb first a) (refutes A gone w v a) (lt-leb first a l)))

  pub none_more : (a : ℕ) → least_refuting A gone w v first a ≡ None → refutes A gone w v a ≡ false → least_refuting A gone w v first (a + 1) ≡ None
  none_more a h e = first_below_none_more a (λ a. tried a) h (cond-false (leb first a && refutes A gone w v a) (Some a) None (and_right (leb first a) (refutes A gone w v a) e))

  pub found : (a end : ℕ) → first ≤ a → a < end → least_refuting A gone w v first a ≡ None → refutes A gone w v a ≡ true → least_refuting A gone w v first end ≡ Some a
  found a end f l h e = first_below_found end a (λ a. tried a) a h (cond-true (leb first a && refutes A gone w v a) (Some a) None (and_from (leb first a) (refutes A gone w v a) (le-leb first a f) e)) l

  pub none_at_all : (i end : ℕ) → first ≤ i → end ≤ i → least_refuting A gone w v first i ≡ None → least_refuting A gone w v first end ≡ None
  none_at_all i end f l h = first_below_none_from end (λ a. tried a) (λ a k. first_below_none_all i (λ a. tried a) h a (omega arith))

some_of_two : {X : Type 0} (a b : Option X) → is_some (or_else a b) ≡ (is_some b || is_some a)
some_of_two (Some x) (Some y) = refl
some_of_two (Some x) None = refl
some_of_two None (Some y) = refl
some_of_two None None = refl

some_if : (b : Bool) (a : ℕ) → is_some (cond b (Some a) None) ≡ b
some_if true a = refl
some_if false a = refl

-- a least refuting move is found exactly where some move refutes
pub some_refutes : (A : Arena) (gone : Relation) (w v end : ℕ) → is_some (least_refuting A gone w v 0 end) ≡ any_below end (λ a. refutes A gone w v a)
some_refutes A gone w v zero = refl
some_refutes A gone w v (suc a) =
    some_of_two (least_refuting A gone w v 0 a) (tried A gone w v 0 a)
    ∙ ap (λ b. b || is_some (least_refuting A gone w v 0 a)) (some_if (leb 0 a && refutes A gone w v a) a ∙ ap (λ b. b && refutes A gone w v a) (le-leb 0 a (omega arith)))
    ∙ ap (λ b. refutes A gone w v a || b) (some_refutes A gone w v a)

-- a search of one move
pub one_refutes : (A : Arena) (gone : Relation) (w v a : ℕ) → is_some (least_refuting A gone w v a (a + 1)) ≡ refutes A gone w v a
one_refutes A gone w v a =
    rw add-one (
    ap (λ o. is_some (or_else o (tried A gone w v a a))) (none_before A gone w v a)
    ∙ some_if (leb a a && refutes A gone w v a) a
    ∙ ap (λ b. b && refutes A gone w v a) (le-leb a a (omega arith)))

some_by_move : (o : Option ℕ) → is_some (by_move o) ≡ is_some o
some_by_move (Some a) = refl
some_by_move None = refl

-- there is something to strike a pair for exactly where it is unlike or refuted
pub some_cause : (A : Arena) (table : List ℕ) (w v : ℕ) → is_some (cause_of A table w v) ≡ faulty A (struck A table None) w v
some_cause A table w v =
    elim (cases_Bool (A.alike w v)) [
      | inl e ↦
          ap is_some (cond-true (A.alike w v) (by_move least) (Some Sight) e)
          ∙ some_by_move least
          ∙ some_refutes A (struck A table None) w v (A.old_controller_moves w)
          ∙ sym (ap (λ b. not b || refuted A (struck A table None) w v) e)
      | inr e ↦
          ap is_some (cond-false (A.alike w v) (by_move least) (Some Sight) e)
          ∙ sym (ap (λ b. not b || refuted A (struck A table None) w v) e)
    ]
  where
    least : Option ℕ
    least = least_refuting A (struck A table None) w v 0 (A.old_controller_moves w)
