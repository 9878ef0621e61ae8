-- Numbers that were read one behind the other spell a list.
use Rattle.std.proofs.Common.{◌≡◌, ℕ, ◌+◌, ◌-◌, ◌<◌, true, is_ok, List, [], ◌∷◌, ◌++◌, length, drop, Ok, Err, Result, sym, refl, ap, ◌∙◌, subst, arith, lit<, length-drop}
use Rattle.std.proofs.lemmas.Grind.{common_steps}
use Rattle.std.proofs.lemmas.List.{drop-drop, drop_all}
use Rattle.std.specs.Result.{result_unwrap_or}
use Rattle.codec.specs.Number.{number}
use Rattle.codec.specs.Sequence.{placed, number_at, value_at, after, Spells}
use Rattle.codec.specs.declared.number.NumberFault.{NumberFault}
use Rattle.codec.proofs.Found.{number_found}

-- an end of the bytes is what is left from the place that its length tells
from_place : (bytes rest : List ℕ) (k : ℕ) → rest ≡ drop k bytes → rest ≡ drop (length bytes - length rest) bytes
from_place bytes rest k e = grind (arith, common_steps, drop_all, length-drop)

read_by : (bytes : List ℕ) (place : ℕ) (r : Result (ℕ × List ℕ) NumberFault) → number (drop place bytes) ≡ r → is_ok (placed bytes r) ≡ true
    → r ≡ Ok ((result_unwrap_or (placed bytes r) (0, place)).0, drop (result_unwrap_or (placed bytes r) (0, place)).1 bytes)
read_by bytes place (Ok found) h ok =
    let s = number_found found.0 (drop place bytes) found.1 h in
    let rest = from_place bytes found.1 (place + s.taken) (s.left ∙ drop-drop s.taken place bytes) in
    let with_rest : List ℕ → Result (ℕ × List ℕ) NumberFault = λ rest. Ok (found.0, rest) in
    ap with_rest rest
read_by bytes place (Err why) h ok = absurd cc

-- a number without a fault is read off the bytes from its place on
pub read_where_ok : (bytes : List ℕ) (place : ℕ) → is_ok (number_at bytes place) ≡ true → number (drop place bytes) ≡ Ok (value_at bytes place, drop (after bytes place) bytes)
unfolding value_at after
read_where_ok bytes place ok = read_by bytes place (number (drop place bytes)) refl ok

value_bound_by : (bytes : List ℕ) (place : ℕ) (r : Result (ℕ × List ℕ) NumberFault) → number (drop place bytes) ≡ r → (result_unwrap_or (placed bytes r) (0, place)).0 < 65536
value_bound_by bytes place (Ok found) h = (number_found found.0 (drop place bytes) found.1 h).bound
value_bound_by bytes place (Err why) h = lit< tt

-- numbers that are read have 16 bits
pub value_bound : (bytes : List ℕ) (place : ℕ) → value_at bytes place < 65536
unfolding value_at
value_bound bytes place = value_bound_by bytes place (number (drop place bytes)) refl

pub Spells-append : (ns ms bytes mid rest : List ℕ) → Spells ns bytes mid → Spells ms mid rest → Spells (ns ++ ms) bytes rest
Spells-append [] ms bytes mid rest front back = subst (λ xs. Spells ms xs rest) (sym front) back
Spells-append (n ∷ ns) ms bytes mid rest front back = (front.0, front.1, Spells-append ns ms front.0 mid rest front.2 back)

pub spells_split : (ns ms bytes rest : List ℕ) → Spells (ns ++ ms) bytes rest → (mid : List ℕ) × Spells ns bytes mid × Spells ms mid rest
spells_split [] ms bytes rest h = (bytes, refl, h)
spells_split (n ∷ ns) ms bytes rest h =
    let s = spells_split ns ms h.0 rest h.2 in
    (s.0, (h.0, h.1, s.1), s.2)

-- a number at the front of the bytes from a place on, by its place
pub from_read : (bytes : List ℕ) (place n : ℕ) (rest : List ℕ) → number (drop place bytes) ≡ Ok (n, rest)
    → (number_at bytes place ≡ Ok (n, length bytes - length rest)) × (value_at bytes place ≡ n) × (after bytes place ≡ length bytes - length rest) × (rest ≡ drop (after bytes place) bytes)
unfolding value_at after
from_read bytes place n rest h =
    let found = number_found n (drop place bytes) rest h in
    let end = from_place bytes rest (place + found.taken) (found.left ∙ drop-drop found.taken place bytes) in (
      ap (placed bytes) h,
      ap (λ r. (result_unwrap_or (placed bytes r) (0, place)).0) h,
      ap (λ r. (result_unwrap_or (placed bytes r) (0, place)).1) h,
      end ∙ ap (λ k. drop k bytes) (sym (ap (λ r. (result_unwrap_or (placed bytes r) (0, place)).1) h)),
    )
