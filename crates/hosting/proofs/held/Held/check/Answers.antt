use Rattle.std.proofs.Common.{rules}
use Rattle.hosting.proofs.Told.{shows_as}
use Rattle.hosting.proofs.held.Held.check.Goals as goal

pub returns-clause-law : goal.returns-clause-law
returns-clause-law c = shows_as _ _ _ _ (search rules) c.check_certificate.ensures.law
