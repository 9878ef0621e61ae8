-- Counts and the highest over the entries that a table has.
use Rattle.std.proofs.Common.{◌≡◌, ℕ, zero, suc, ◌+◌, ◌-◌, ◌≤◌, List, length, take, inl, inr, sym, ap, ◌∙◌, arith}
use Rattle.std.proofs.Math.Nat.{eq-or-lt_of_le}
use Rattle.std.proofs.lemmas.Bool.{cases_lt}
use Rattle.std.proofs.lemmas.Grind.{common_steps}
use Rattle.arena.specs.Bounds.{count_below}
use Rattle.arena.specs.Entry.{says_standing}
use Rattle.arena.specs.Table.{entry_at, highest_below}

-- past the end of the table no number is higher
highest_past : (table : List ℕ) (m n : ℕ) → length table ≤ m → m ≤ n → highest_below n table ≡ highest_below m table
highest_past table m zero past le =
    let none : 0 ≡ m = omega arith in
    ap (λ i. highest_below i table) none
highest_past table m (suc n) past le =
    elim (eq-or-lt_of_le le) [
      | inl e ↦ ap (λ i. highest_below i table) (sym e)
      | inr lt ↦
          let before = highest_past table m n past (omega arith) in
          grind (arith, common_steps, before)
    ]

-- past the end of the table every pair stands
standing_past : (table : List ℕ) (m n : ℕ) → length table ≤ m → m ≤ n → count_below n (λ i. says_standing (entry_at table i)) ≡ count_below m (λ i. says_standing (entry_at table i)) + (n - m)
standing_past table m zero past le =
    let none : 0 ≡ m = omega arith in
    let count : count_below 0 (λ i. says_standing (entry_at table i)) ≡ count_below m (λ i. says_standing (entry_at table i)) = ap (λ i. count_below i (λ j. says_standing (entry_at table j))) none in
    omega (arith, count)
standing_past table m (suc n) past le =
    elim (eq-or-lt_of_le le) [
      | inl e ↦
          let count : count_below (suc n) (λ i. says_standing (entry_at table i)) ≡ count_below m (λ i. says_standing (entry_at table i)) = ap (λ i. count_below i (λ j. says_standing (entry_at table j))) (sym e) in
          count ∙ omega (arith, e)
      | inr lt ↦
          let before = standing_past table m n past (omega arith) in
          grind (arith, common_steps, before)
    ]

-- the highest number of so many pairs is that of the entries that they have
pub highest_in : (table : List ℕ) (n : ℕ) → highest_below (length (take n table)) table ≡ highest_below n table
highest_in table n =
    elim (cases_lt (length table) n) [
      | inl lt ↦
          let long : length (take n table) ≡ length table = grind (arith, common_steps) in
          ap (λ i. highest_below i table) long ∙ sym (highest_past table (length table) n (omega arith) (omega arith))
      | inr le ↦
          let long : length (take n table) ≡ n = grind (arith, common_steps) in
          ap (λ i. highest_below i table) long
    ]

-- of so many pairs those stand whose entries say so, and those that have none
pub standing_in : (table : List ℕ) (n : ℕ) → count_below (length (take n table)) (λ i. says_standing (entry_at table i)) + (n - length (take n table)) ≡ count_below n (λ i. says_standing (entry_at table i))
standing_in table n =
    elim (cases_lt (length table) n) [
      | inl lt ↦
          let long : length (take n table) ≡ length table = grind (arith, common_steps) in
          ap (λ l. count_below l (λ i. says_standing (entry_at table i)) + (n - l)) long ∙ sym (standing_past table (length table) n (omega arith) (omega arith))
      | inr le ↦
          let long : length (take n table) ≡ n = grind (arith, common_steps) in
          ap (λ l. count_below l (λ i. says_standing (entry_at table i)) + (n - l)) long ∙ omega arith
    ]
