-- Numbers that are put into lent bytes one behind the other.
use Rattle.std.specs.Prelude.{ℕ, ◌+◌, ◌-◌, ◌^◌, cond, List, [], ◌∷◌, ◌++◌, length, take, drop, min, nat_le}
use Rattle.codec.specs.Number.{encoded}
use Rattle.codec.specs.Sequence.{Cursor}
use Rattle.codec.specs.declared.writer.Writer.{Writer}

-- the memory with items put at a place, and all others as they were
abbrev pub put_at : List ℕ → ℕ → List ℕ → List ℕ
put_at memory at items = take at memory ++ (items ++ drop (at + length items) memory)

-- the bytes after an encoding was put at a place, if there is room for it from there on
abbrev pub put_if_room : List ℕ → ℕ → List ℕ → List ℕ
put_if_room bytes place encoding = cond (nat_le (place + length encoding) (length bytes)) (put_at bytes place encoding) bytes

-- the greatest place
abbrev pub last_place : ℕ
last_place = 2 ^ 64 - 1

-- the place so many bytes behind a place, or the greatest
abbrev pub place_behind : ℕ → ℕ → ℕ
place_behind place count = min (place + count) last_place

-- the number is put at the place if it fits there; the next goes behind it, whether it fits or not
abbrev pub put_number : Cursor → ℕ → Cursor
put_number before number = record {
  bytes = put_if_room before.bytes before.place (encoded number);
  place = place_behind before.place (length (encoded number));
}

-- the numbers, one behind the other
abbrev pub put_numbers : Cursor → List ℕ → Cursor
put_numbers before [] = before
put_numbers before (number ∷ numbers) = put_numbers (put_number before number) numbers

-- the bytes that a writer writes into, and the place where the next number goes
abbrev pub written : Writer → Cursor
written writer = record { bytes = writer.bytes.now; place = writer.place }
