use Rattle.std.proofs.Common.{rules}
use Rattle.systems.proofs.Bounded.{all_below_from_all}
use Rattle.arena.proofs.exchange.Exchange.alike_on_all.Goals as goal

pub returns : goal.returns
returns g c =
    let pair = c.args.pair in
    let exchange = c.args.self.now in
    all_below_from_all (λ k. g.L.Likeness.relation exchange.likeness.now k ((g.S.System.meaning exchange.old.now).reading pair.0 k) ((g.T.System.meaning exchange.new.now).reading pair.1 k))
    c.all.ensures.runs c.channels.ensures (λ k r h call. search rules)
