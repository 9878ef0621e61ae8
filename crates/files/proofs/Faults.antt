-- What an answer tells of the fault that there is, or is not.
use Rattle.std.proofs.Common.{◌≡◌, Some, None, Ok, Err, Option, Result, refl}
use Rattle.systems.specs.Refused.{unless}

pub unless_err : {X F : Type 0} (fault : Option F) (value : X) (why : F) → Err why ≡ unless fault value → fault ≡ Some why
unless_err (Some fault) value why h = cc
unless_err None value why h = absurd cc

pub unless_ok : {X F : Type 0} (fault : Option F) (value found : X) → ◌≡◌ {A = Result X F} (Ok found) (unless fault value) → (fault ≡ None) × (found ≡ value)
unless_ok (Some fault) value found h = absurd cc
unless_ok None value found h = (refl, cc)
