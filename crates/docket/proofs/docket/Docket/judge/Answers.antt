use Rattle.docket.proofs.Decided.{judged, opened_under_way}
use Rattle.docket.proofs.Refused.{no_refusal}
use Rattle.docket.specs.Position.{position}
use Rattle.docket.proofs.docket.Docket.judge.Goals as goal

pub conclude-requires : goal.conclude-requires
conclude-requires g c =
    opened_under_way (g.A.Arena.view c.args.arena.now) (g.A.Arena.closed c.args.arena.now) (position c.args.self.now c.args.table.now)
    (no_refusal _ _ _ c.in_ok-open.ensures.answer) _ c.in_ok-open.ensures.after

pub returns-clause-law : goal.returns-clause-law
returns-clause-law g c =
    judged (g.A.Arena.view c.args.arena.now) (g.A.Arena.closed c.args.arena.now) (position c.args.self.now c.args.table.now)
    (no_refusal _ _ _ c.in_ok-open.ensures.answer) _ c.in_ok-open.ensures.after
    (position c.conclude.new.self c.conclude.new.table) c.conclude.ensures.after c.conclude.result c.conclude.ensures.outcome
