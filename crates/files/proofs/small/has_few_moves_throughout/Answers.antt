use Rattle.std.proofs.Common.{rules}
use Rattle.systems.proofs.Bounded.{all_below_from_all}
use Rattle.files.specs.SystemWrite.{few_moves}
use Rattle.files.proofs.small.has_few_moves_throughout.Goals as goal

pub returns : goal.returns
returns g c =
    all_below_from_all (few_moves (g.S.System.meaning c.args.system.now)) c.all.ensures.runs c.states.ensures (λ k r h call. search rules)
