-- Numbers that stand one behind the other in a list of bytes, by the places where they begin.
use Rattle.std.specs.Prelude.{◌≡◌, ℕ, zero, suc, ◌+◌, ◌-◌, ◌≤◌, cond, List, [], ◌∷◌, length, take, drop, Some, None, Ok, Err, Option, Result, nat_le, nat_lt, slice_index}
use Rattle.std.specs.List.{flat_map}
use Rattle.std.specs.Result.{result_unwrap_or}
use Rattle.codec.specs.Number.{number, encoded}
use Rattle.codec.specs.declared.number.NumberFault.{NumberFault}

-- bytes, and the place in them where what comes next begins
pub record Cursor : Type 0 where
  pub bytes : List ℕ
  pub place : ℕ

-- a reader that was inside its bytes went on inside them
abbrev pub WentOn : Cursor → Cursor → Type 0
WentOn before after = before.place ≤ length before.bytes → (before.place ≤ after.place) × (after.place ≤ length before.bytes)

-- a part of the bytes, and the place where it begins
pub record Part : Type 0 where
  pub place : ℕ
  pub bytes : List ℕ

-- the byte at a place, if the bytes reach to it
abbrev pub byte_at : List ℕ → ℕ → Option ℕ
byte_at bytes place = cond (nat_lt place (length bytes)) (Some (slice_index bytes place)) None

-- so many bytes from a place on, if the bytes reach to their end
abbrev pub part_at : List ℕ → ℕ → ℕ → Option (List ℕ)
part_at bytes place count = cond (nat_le (place + count) (length bytes)) (Some (take count (drop place bytes))) None

-- a number with its rest, as a number with the place where the rest begins
abbrev pub placed : List ℕ → Result (ℕ × List ℕ) NumberFault → Result (ℕ × ℕ) NumberFault
placed bytes (Ok found) = Ok (found.0, length bytes - length found.1)
placed bytes (Err fault) = Err fault

-- the number at a place and the place behind it; past the end the bytes have ended
abbrev pub number_at : List ℕ → ℕ → Result (ℕ × ℕ) NumberFault
number_at bytes place = placed bytes (number (drop place bytes))

-- a number without the place behind it
abbrev pub number_alone : Result (ℕ × ℕ) NumberFault → Result ℕ NumberFault
number_alone (Ok found) = Ok found.0
number_alone (Err fault) = Err fault

-- the number at a place, 0 where there is none
unfoldable pub value_at : List ℕ → ℕ → ℕ
value_at bytes place = (result_unwrap_or (number_at bytes place) (0, place)).0

-- the place behind the number at a place, the same place where there is none
unfoldable pub after : List ℕ → ℕ → ℕ
after bytes place = (result_unwrap_or (number_at bytes place) (0, place)).1

-- the place behind k numbers
abbrev pub skip : List ℕ → ℕ → ℕ → ℕ
skip bytes zero place = place
skip bytes (suc k) place = after bytes (skip bytes k place)

-- the number behind k others
abbrev pub nth : List ℕ → ℕ → ℕ → ℕ
nth bytes k place = value_at bytes (skip bytes k place)

-- the bytes are the numbers, one behind the other, and then the rest
abbrev pub Spells : List ℕ → List ℕ → List ℕ → Type 0
Spells [] bytes rest = bytes ≡ rest
Spells (n ∷ ns) bytes rest = (behind : List ℕ) × (number bytes ≡ Ok (n, behind)) × Spells ns behind rest

-- numbers, each in the fewest bytes, one behind the other
abbrev pub spelled : List ℕ → List ℕ
spelled numbers = flat_map encoded numbers
