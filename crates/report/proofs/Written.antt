-- The lines of proposals, as they are written one by one.
use Rattle.std.proofs.Common.{◌≡◌, List, [], ◌∷◌, ◌⊎◌, inl, inr, refl}
use Rattle.std.specs.Prelude.{Result}
use Rattle.docket.specs.declared.call.Grant.{Grant}
use Rattle.docket.specs.declared.refusal.Refusal.{Refusal}
use Rattle.docket.specs.declared.strike.Strike.{Strike}
use Rattle.report.specs.Lines.{proposal_lines}

-- without a strike or an answer left there is no line left
pub no_line : (strikes : List Strike) (answers : List (Result Grant Refusal)) → (strikes ≡ []) ⊎ (answers ≡ []) → proposal_lines strikes answers ≡ []
no_line [] answers h = refl
no_line (s ∷ ss) [] h = refl
no_line (s ∷ ss) (a ∷ rest) h = elim h [
  | inl e ↦ cc
  | inr e ↦ cc
]
