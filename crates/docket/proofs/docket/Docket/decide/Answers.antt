use Rattle.std.proofs.Common.{◌≡◌, None, sym, subst, ap, ◌∙◌}
use Rattle.docket.proofs.Decided.{proposals_under_way, told}
use Rattle.docket.proofs.Good.{good_opened}
use Rattle.docket.proofs.Refused.{no_refusal}
use Rattle.docket.specs.Decide.{proposals}
use Rattle.docket.specs.Position.{position}
use Rattle.docket.specs.Refusals.{use_refusal}
use Rattle.docket.specs.Run.{after}
use Rattle.docket.proofs.docket.Docket.decide.Goals as goal

pub propose-requires-clause-used : goal.propose-requires-clause-used
propose-requires-clause-used g c =
    let A = g.A.Arena.view c.args.arena.now in
    let x = position c.args.self.now c.args.table.now in
    subst (λ y. use_refusal A y ≡ None) (sym c.open_fitting.ensures.after) (good_opened A x (no_refusal _ _ _ c.in_ok-check_opening.ensures.answer)).in_use

pub conclude-requires : goal.conclude-requires
conclude-requires g c =
    let A = g.A.Arena.view c.args.arena.now in
    proposals_under_way A (g.A.Arena.closed c.args.arena.now) (position c.args.self.now c.args.table.now) c.args.strikes.now
    (no_refusal _ _ _ c.in_ok-check_opening.ensures.answer) (position c.propose.new.self c.propose.new.table)
    (c.propose.ensures.after ∙ ap (λ z. after A z (proposals c.args.strikes.now)) c.open_fitting.ensures.after)

pub returns-clause-decided : goal.returns-clause-decided
returns-clause-decided g c =
    let A = g.A.Arena.view c.args.arena.now in
    told A (g.A.Arena.closed c.args.arena.now) (position c.args.self.now c.args.table.now) c.args.strikes.now
    (no_refusal _ _ _ c.in_ok-check_opening.ensures.answer) (position c.propose.new.self c.propose.new.table)
    (c.propose.ensures.after ∙ ap (λ z. after A z (proposals c.args.strikes.now)) c.open_fitting.ensures.after)
    (position c.conclude.new.self c.conclude.new.table) c.conclude.ensures.after c.conclude.result c.conclude.ensures.outcome
