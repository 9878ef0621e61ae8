-- The place behind a number is no earlier than the number, and inside the bytes.
use Rattle.std.proofs.Common.{◌≡◌, ℕ, ◌≤◌, List, length, drop, Ok, Err, Result, refl, arith}
use Rattle.std.proofs.lemmas.Grind.{common_steps}
use Rattle.std.specs.Result.{result_unwrap_or}
use Rattle.codec.specs.Number.{number}
use Rattle.codec.specs.declared.number.NumberFault.{NumberFault}
use Rattle.codec.proofs.Found.{number_found}
use Rattle.codec.specs.Sequence.{placed, after}

-- the same of an answer of the reader of numbers
placed_forward : (bytes : List ℕ) (place : ℕ) → place ≤ length bytes → (read : Result (ℕ × List ℕ) NumberFault) → number (drop place bytes) ≡ read
    → (place ≤ (result_unwrap_or (placed bytes read) (0, place)).1) × ((result_unwrap_or (placed bytes read) (0, place)).1 ≤ length bytes)
placed_forward bytes place inside (Ok found) h =
    let left = (number_found found.0 (drop place bytes) found.1 h).left in
    (grind (arith, common_steps), omega arith)
placed_forward bytes place inside (Err why) h = (omega arith, inside)

pub after_forward : (bytes : List ℕ) (place : ℕ) → place ≤ length bytes → place ≤ after bytes place
unfolding after
after_forward bytes place inside = (placed_forward bytes place inside (number (drop place bytes)) refl).0

pub after_inside : (bytes : List ℕ) (place : ℕ) → place ≤ length bytes → after bytes place ≤ length bytes
unfolding after
after_inside bytes place inside = (placed_forward bytes place inside (number (drop place bytes)) refl).1
