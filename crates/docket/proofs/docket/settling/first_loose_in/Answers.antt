use Rattle.std.proofs.Common.{rules}
use Rattle.systems.proofs.Bounded.{first_below_from_find_map}
use Rattle.docket.specs.Settle.{loose_strike}
use Rattle.docket.proofs.docket.settling.first_loose_in.Goals as goal

pub returns : goal.returns
returns g c =
    first_below_from_find_map (λ v. loose_strike (g.A.Arena.view c.args.board.now.arena.now) c.args.board.now.table.now c.args.row v) c.find_map.ensures.runs c.new_states.ensures (λ k r h call. search rules)
