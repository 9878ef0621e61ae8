-- The places of the pairs' entries in a table.
use Rattle.std.proofs.Common.{◌≡◌, ℕ, ◌/◌, ◌%◌, ◌<◌, sym, ap, ◌∙◌, arith}
use Rattle.std.proofs.lemmas.Nat.{div-mul-add, mod-mul-add, mul-add-lt}
use Rattle.arena.specs.Arena.{Arena}
use Rattle.arena.specs.Table.{pairs, place}

-- the place of a pair in range is one of so many as there are pairs
pub place_below : (A : Arena) (w v : ℕ) → w < A.old_states → v < A.new_states → place A w v < pairs A
place_below A w v lw lv = omega (arith, mul-add-lt w A.new_states v A.old_states lw lv)

-- pairs at one place are the same
pub same_pair : (A : Arena) (w v a b : ℕ) → v < A.new_states → b < A.new_states → place A a b ≡ place A w v → (w ≡ a) × (v ≡ b)
same_pair A w v a b lv lb e = (
  sym (div-mul-add w A.new_states v lv) ∙ ap (λ i. i / A.new_states) (sym e) ∙ div-mul-add a A.new_states b lb,
  sym (mod-mul-add w A.new_states v lv) ∙ ap (λ i. i % A.new_states) (sym e) ∙ mod-mul-add a A.new_states b lb,
)
