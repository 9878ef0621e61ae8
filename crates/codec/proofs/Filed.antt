-- Filing and unfiling a reading are inverse.
use Rattle.std.proofs.Common.{◌≡◌, ℕ, ◌+◌, ◌*◌, ◌/◌, ◌%◌, eqb, ℤ, pos, negsuc, ap, ◌∙◌, arith}
use Rattle.std.proofs.lemmas.Bool.{cond_both, eqb-true, eqb-false, eq-eqb, ne_eqb}
use Rattle.codec.specs.Filing.{filed, unfiled}

pub unfiled-filed : (z : ℤ) → unfiled (filed z) ≡ z
unfiled-filed (pos x) = rw (eq-eqb (2 * x % 2) 0 (omega arith)) (ap pos (omega arith))
unfiled-filed (negsuc k) = rw (ne_eqb ((2 * k + 1) % 2) 0 (λ e. omega arith)) (ap negsuc (omega arith))

pub filed-unfiled : (n : ℕ) → filed (unfiled n) ≡ n
filed-unfiled n =
    cond_both (eqb (n % 2) 0) (pos (n / 2)) (negsuc (n / 2)) (λ z. filed z ≡ n)
    (λ e. omega (arith, eqb-true (n % 2) 0 e)) (λ e. let odd = eqb-false (n % 2) 0 e in omega (arith, odd))

-- what files n is what n unfiles to, and the other way round
pub filed_back : (z : ℤ) (n : ℕ) → z ≡ unfiled n → filed z ≡ n
filed_back z n e = ap filed e ∙ filed-unfiled n

pub unfiled_back : (n : ℕ) (z : ℤ) → n ≡ filed z → unfiled n ≡ z
unfiled_back n z e = ap unfiled e ∙ unfiled-filed z
