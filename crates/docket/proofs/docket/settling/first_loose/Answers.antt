use Rattle.std.proofs.Common.{rules}
use Rattle.systems.proofs.Bounded.{first_below_from_find_map}
use Rattle.docket.specs.Settle.{first_loose_in}
use Rattle.docket.proofs.docket.settling.first_loose.Goals as goal

pub returns : goal.returns
returns g c =
    let A = g.A.Arena.view c.args.board.now.arena.now in
    first_below_from_find_map (λ w. first_loose_in A c.args.board.now.table.now w A.new_states) c.find_map.ensures.runs c.old_states.ensures (λ k r h call. search rules)
