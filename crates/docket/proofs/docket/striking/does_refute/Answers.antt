use Rattle.std.proofs.Common.{is_some, None, ap, ◌∙◌}
use Rattle.arena.proofs.Refuting.{one_refutes}
use Rattle.arena.specs.Table.{struck}
use Rattle.docket.proofs.docket.striking.does_refute.Goals as goal

pub returns : goal.returns
returns g c =
    let A = g.A.Arena.view c.args.board.now.arena.now in
    c.is_some.ensures ∙ ap is_some c.least_refuting_move.ensures ∙ one_refutes A (struck A c.args.board.now.table.now None) c.args.pair.0 c.args.pair.1 c.args.controller
