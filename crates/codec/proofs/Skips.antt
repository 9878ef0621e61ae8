-- Steps of a loop from number to number.
use Rattle.std.proofs.Common.{◌≡◌, ℕ, zero, suc, ◌+◌, List, sym, refl, ap, add-zero, add-suc, add-one}
use Rattle.codec.specs.Sequence.{value_at, after, skip, nth}

pub skip_more : (bytes : List ℕ) (k place : ℕ) → skip bytes (k + 1) place ≡ after bytes (skip bytes k place)
skip_more bytes k place = rw add-one refl

pub skip-skip : (bytes : List ℕ) (j k place : ℕ) → skip bytes (j + k) place ≡ skip bytes k (skip bytes j place)
skip-skip bytes j zero place = rw add-zero refl
skip-skip bytes j (suc k) place = rw add-suc (ap (after bytes) (skip-skip bytes j k place))

-- the numbers behind j others
pub nth-skip : (bytes : List ℕ) (j place : ℕ) → ◌≡◌ {A = ℕ → ℕ} (λ k. nth bytes k (skip bytes j place)) (λ k. nth bytes (j + k) place)
nth-skip bytes j place = λ i k. value_at bytes (sym (skip-skip bytes j k place) i)
