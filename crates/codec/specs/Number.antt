-- Numbers in groups of seven bits, the least group first; the high bit is set on every byte but the last.
use Rattle.std.specs.Prelude.{◌≡◌, ℕ, ◌+◌, ◌*◌, ◌/◌, ◌%◌, ◌≤◌, Bool, cond, List, [], ◌∷◌, ◌++◌, length, drop, Ok, Err, Result, nat_le, nat_lt}
use Rattle.std.specs.Borrow.{Bor}
use Rattle.codec.specs.declared.number.NumberFault.{NumberFault}
use Rattle.codec.specs.declared.number.NumberFault.TheVariants.{Ends, TooLong, TooLarge}
use Rattle.codec.specs.declared.number.WriteFault.{WriteFault}
use Rattle.codec.specs.declared.number.WriteFault.TheVariants.{TooFewBytes}

-- the number of each reason why no number can be read
abbrev pub number_refusal : NumberFault → ℕ
number_refusal Ends = 15
number_refusal TooLong = 16
number_refusal TooLarge = 17

-- and why none is written
abbrev pub write_refusal : WriteFault → ℕ
write_refusal TooFewBytes = 23

-- how many values a group of seven bits has; from this byte on the high bit is set
abbrev pub group_size : ℕ
group_size = 128

-- what one is worth in the third group
abbrev pub third_group : ℕ
third_group = group_size * group_size

-- the least third group that takes a number above 65,535
abbrev pub third_group_end : ℕ
third_group_end = 4

-- the number that ends in the third byte; low is what the first two groups are worth
abbrev pub third_byte : ℕ → List ℕ → Result (ℕ × List ℕ) NumberFault
third_byte low [] = Err Ends
third_byte low (byte ∷ rest) =
    cond (nat_lt byte group_size)
    (cond (nat_lt byte third_group_end) (Ok (low + third_group * byte, rest)) (Err TooLarge))
    (Err TooLong)

-- the number that ends in the second byte or later; low is what the first group is worth
abbrev pub second_byte : ℕ → List ℕ → Result (ℕ × List ℕ) NumberFault
second_byte low [] = Err Ends
second_byte low (byte ∷ rest) =
    let worth = low + group_size * (byte % group_size) in
    cond (nat_lt byte group_size) (Ok (worth, rest)) (third_byte worth rest)

-- the number at the front of the bytes and the bytes behind it
abbrev pub number : List ℕ → Result (ℕ × List ℕ) NumberFault
number [] = Err Ends
number (byte ∷ rest) =
    cond (nat_lt byte group_size) (Ok (byte % group_size, rest)) (second_byte (byte % group_size) rest)

-- an answer of the reader, with the bytes that its reference points to
abbrev pub value_and_rest : Result (ℕ × Bor (List ℕ)) NumberFault → Result (ℕ × List ℕ) NumberFault
value_and_rest (Ok found) = Ok (found.0, found.1.now)
value_and_rest (Err fault) = Err fault

-- the fewest bytes that a number of 16 bits is written in, found by division by 128, the size of a group
abbrev pub encoded : ℕ → List ℕ
encoded n =
    cond (nat_lt n group_size) (n ∷ [])
    (cond (nat_lt n third_group) ((n % group_size + group_size) ∷ (n / group_size) ∷ [])
    ((n % group_size + group_size) ∷ (n / group_size % group_size + group_size) ∷ (n / group_size / group_size) ∷ []))

-- whether there is room for an encoding
abbrev pub has_room : List ℕ → List ℕ → Bool
has_room encoding bytes = nat_le (length encoding) (length bytes)

-- what a writer of the encoding answers: how many bytes it wrote
abbrev pub put_answer : List ℕ → List ℕ → Result ℕ WriteFault
put_answer encoding bytes = cond (has_room encoding bytes) (Ok (length encoding)) (Err TooFewBytes)

-- the bytes after it: the encoding in front and the others as they were, or all as they were
abbrev pub put_in_front : List ℕ → List ℕ → List ℕ
put_in_front encoding bytes = cond (has_room encoding bytes) (encoding ++ drop (length encoding) bytes) bytes

-- no bytes in which n can be read are fewer than count: whatever reads to n leaves a rest that is shorter by count or more
abbrev pub NoneShorter : ℕ → ℕ → Type 0
NoneShorter n count = (bytes rest : List ℕ) → number bytes ≡ Ok (n, rest) → count + length rest ≤ length bytes
