-- What a number that was read is known to be: it has 16 bits, and what is left behind it is an end of the bytes.
use Rattle.std.proofs.Common.{◌≡◌, ℕ, suc, ◌+◌, ◌*◌, ◌%◌, ◌<◌, Bool, true, false, cond, ltb, ◌⊎◌, List, [], ◌∷◌, drop, Ok, Err, Result, sym, refl, ap, inl, inr, arith}
use Rattle.std.proofs.lemmas.Bool.{ltb-true}
use Rattle.codec.specs.Number.{third_byte, second_byte, number}
use Rattle.codec.specs.declared.number.NumberFault.TheVariants.{TooLong, TooLarge}

-- an answer that passes a test, and one of two
ok_then : {X E : Type 0} (t : Bool) (r : Result X E) (e : E) (x : X) → cond t r (Err e) ≡ Ok x → (t ≡ true) × (r ≡ Ok x)
ok_then true r e x h = (refl, h)
ok_then false r e x h = let z : ◌≡◌ {A = ℕ} 0 1 = cc in absurd (omega arith)

ok_either : {X E : Type 0} (t : Bool) (y : X) (r : Result X E) (x : X) → cond t (Ok y) r ≡ Ok x → (y ≡ x) ⊎ (r ≡ Ok x)
ok_either true y r x h = inl cc
ok_either false y r x h = inr h

inside : {X E : Type 0} {x y : X} → ◌≡◌ {A = Result X E} (Ok x) (Ok y) → x ≡ y
inside h = cc

-- a number of 16 bits, with an end of the bytes
pub record Found (xs : List ℕ) (n : ℕ) (rest : List ℕ) : Type 0 where
  pub bound : n < 65536
  pub taken : ℕ
  pub left : rest ≡ drop taken xs

found_here : (byte value n : ℕ) (xs rest : List ℕ) → value < 65536 → ◌≡◌ {A = ℕ × List ℕ} (value, xs) (n, rest) → Found (byte ∷ xs) n rest
found_here byte value n xs rest small same =
    let is : value ≡ n = ap (λ found. found.0) same in
    record { bound = omega arith; taken = 1; left = sym (ap (λ found. found.1) same) }

found_later : (byte n : ℕ) (xs rest : List ℕ) → Found xs n rest → Found (byte ∷ xs) n rest
found_later byte n xs rest found = record { bound = found.bound; taken = suc found.taken; left = found.left }

third_found : (low n : ℕ) (xs rest : List ℕ) → low < 16384 → third_byte low xs ≡ Ok (n, rest) → Found xs n rest
third_found low n [] rest small h = let z : ◌≡◌ {A = ℕ} 0 1 = cc in absurd (omega arith)
third_found low n (byte ∷ xs) rest small h =
    let ends = ok_then (ltb byte 128) (cond (ltb byte 4) (Ok (low + 16384 * byte, xs)) (Err TooLarge)) TooLong (n, rest) h in
    let fits = ok_then (ltb byte 4) (Ok (low + 16384 * byte, xs)) TooLarge (n, rest) ends.1 in
    found_here byte (low + 16384 * byte) n xs rest (omega (arith, ltb-true byte 4 fits.0)) (inside fits.1)

second_found : (low n : ℕ) (xs rest : List ℕ) → low < 128 → second_byte low xs ≡ Ok (n, rest) → Found xs n rest
second_found low n [] rest small h = let z : ◌≡◌ {A = ℕ} 0 1 = cc in absurd (omega arith)
second_found low n (byte ∷ xs) rest small h =
    let value : ℕ = low + 128 * (byte % 128) in
    elim (ok_either (ltb byte 128) (value, xs) (third_byte value xs) (n, rest) h) [
      | inl here ↦ found_here byte value n xs rest (omega arith) here
      | inr later ↦ found_later byte n xs rest (third_found value n xs rest (omega arith) later)
    ]

pub number_found : (n : ℕ) (xs rest : List ℕ) → number xs ≡ Ok (n, rest) → Found xs n rest
number_found n [] rest h = let z : ◌≡◌ {A = ℕ} 0 1 = cc in absurd (omega arith)
number_found n (byte ∷ xs) rest h =
    elim (ok_either (ltb byte 128) (byte % 128, xs) (second_byte (byte % 128) xs) (n, rest) h) [
      | inl here ↦ found_here byte (byte % 128) n xs rest (omega arith) here
      | inr later ↦ found_later byte n xs rest (second_found (byte % 128) n xs rest (omega arith) later)
    ]
