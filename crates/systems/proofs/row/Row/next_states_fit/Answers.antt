use Rattle.std.proofs.Common.{rules}
use Rattle.systems.proofs.Bounded.{all_below_from_all}
use Rattle.systems.proofs.row.Row.next_states_fit.Goals as goal
use Rattle.systems.specs.Layout.{move_fits}

pub returns : goal.returns
returns c =
    let row = c.args.self.now in
    all_below_from_all (move_fits row.words.now row.state) c.all.ensures.runs c.controller_moves.ensures
    (λ k r h call. search rules)
