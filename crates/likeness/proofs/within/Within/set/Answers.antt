-- The tolerances stay at most 1,000, since the check lets no wider one through.
use Rattle.std.proofs.Common.{◌≤◌, arith, rules}
use Rattle.std.proofs.lemmas.List.{get_or-set_same, get_or-set_other}
use Rattle.std.proofs.lemmas.Bool.{cases_eq}
use Rattle.likeness.proofs.within.Within.set.Goals as goal
use Rattle.likeness.specs.Within.{max_tolerance}

pub invariant_of-self : goal.invariant_of-self
invariant_of-self c =
    let narrow : c.args.tolerance ≤ max_tolerance = search rules in
    record { ok = λ k h. let old = c.args.self.now.ok k h in grind (arith, get_or-set_same, get_or-set_other, cases_eq k c.from.result) }
