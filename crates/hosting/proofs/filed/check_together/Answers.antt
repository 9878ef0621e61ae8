use Rattle.std.proofs.Common.{rules, sym, ap}
use Rattle.systems.specs.Refused.{unless}
use Rattle.hosting.proofs.Taken.{opening_granted, opening_refused_for_table}
use Rattle.hosting.proofs.filed.check_together.Goals as goal

pub returns-then-entries-number_of_pairs : goal.returns-then-entries-number_of_pairs
returns-then-entries-number_of_pairs c relation =
    sym (ap (λ o. unless o tt) (opening_refused_for_table _ _ relation c.args.entries c.requires.old c.requires.new (search rules) (search rules)))

pub returns : goal.returns
returns c relation =
    sym (ap (λ o. unless o tt) (opening_granted _ _ relation c.args.entries c.requires.old c.requires.new (search rules) (search rules)))
