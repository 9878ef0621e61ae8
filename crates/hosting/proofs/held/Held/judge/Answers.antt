use Rattle.std.proofs.Common.{rules}
use Rattle.hosting.proofs.Told.{judges_as}
use Rattle.hosting.proofs.held.Held.judge.Goals as goal

pub returns-clause-law : goal.returns-clause-law
returns-clause-law c = judges_as _ _ _ _ (search rules) c.judge.ensures.law
