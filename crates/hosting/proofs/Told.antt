-- What the calls on two systems tell of their exchange, under whichever of its names.
use Rattle.std.proofs.Common.{◌≡◌, ℕ, List, Ok, Err, Result, subst}
use Rattle.std.specs.Prelude.{IfOk}
use Rattle.arena.specs.Arena.{Arena}
use Rattle.arena.specs.Table.{Shows}
use Rattle.docket.specs.Certificate.{Certifies}
use Rattle.docket.specs.Judge.{Judges}
use Rattle.docket.specs.declared.certificate.Certificate.{Certificate}
use Rattle.docket.specs.declared.certificate.CertificateFault.{CertificateFault}
use Rattle.docket.specs.declared.outcome.Outcome.{Outcome}
use Rattle.docket.specs.declared.refusal.Refusal.{Refusal}

-- what a verdict tells
pub judges_as : (A B : Arena) (table : List ℕ) (r : Result Outcome Refusal) → A ≡ B → Judges A table r → Judges B table r
judges_as A B table r same law = subst (λ X. Judges X table r) same law

-- what an accepted table shows
pub shows_as : (A B : Arena) (table : List ℕ) (r : Result Certificate CertificateFault) → A ≡ B → Certifies A table r → IfOk r (λ c. Shows B table c.replaces)
shows_as A B table (Ok c) same law = subst (λ X. Shows X table c.replaces) same law
shows_as A B table (Err fault) same law = tt
