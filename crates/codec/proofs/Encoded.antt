-- What the bytes of a number read back to.
use Rattle.std.proofs.Common.{◌≡◌, ℕ, ◌<◌, List, ◌++◌, Ok, inl, inr, arith}
use Rattle.std.proofs.lemmas.Bool.{cases_lt, lt-ltb, le-ltb}
use Rattle.std.proofs.lemmas.Bool.Decides.{nat_tests}
use Rattle.codec.specs.Number.{number, encoded}

pub number-encoded : (n : ℕ) (rest : List ℕ) → n < 65536 → number (encoded n ++ rest) ≡ Ok (n, rest)
number-encoded n rest small =
    elim (cases_lt n 128) [
      | inl one ↦ rw (lt-ltb n 128 one) (grind (arith, nat_tests))
      | inr more ↦ elim (cases_lt n 16384) [
        | inl two ↦ rw (le-ltb n 128 more, lt-ltb n 16384 two) (grind (arith, nat_tests))
        | inr three ↦ rw (le-ltb n 128 more, le-ltb n 16384 three) (grind (arith, nat_tests))
      ]
    ]
