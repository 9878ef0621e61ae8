use Rattle.std.proofs.Common.{◌≡◌, true, false, None, sym, subst}
use Rattle.docket.proofs.Grounds.{in_use}
use Rattle.docket.specs.Position.{closed, position}
use Rattle.docket.specs.Refusals.{use_refusal}
use Rattle.docket.specs.Seen.{ledger_view, view_of}
use Rattle.docket.proofs.docket.Docket.propose_one.Goals as goal

pub unreachable-requires : goal.unreachable-requires
unreachable-requires g c =
    let A = g.A.Arena.view c.args.arena.now in
    let seen : closed ≡ c.args.self.now = subst (λ o. view_of o ≡ c.args.self.now) c.in_default.is c.self.view_is in
    let opened : false ≡ true = subst (λ d. d.is_open ≡ true) (sym seen) (in_use A (position c.args.self.now c.args.table.now) c.requires).is_open in
    cc

pub strike-requires : goal.strike-requires
strike-requires g c =
    let A = g.A.Arena.view c.args.arena.now in
    let seen : ledger_view c.in-Some.ledger ≡ c.args.self.now = subst (λ o. view_of o ≡ c.args.self.now) c.in-Some.is c.self.view_is in
    subst (λ d. use_refusal A (position d c.args.table.now) ≡ None) (sym seen) c.requires
