use Rattle.std.proofs.Common.{◌≡◌, true, false, Ok, sym, subst, ◌∙◌, rules}
use Rattle.arena.specs.Table.{number_standing}
use Rattle.docket.proofs.Decided.{settled_behind_sweeps, used_under_way}
use Rattle.docket.proofs.Grounds.{in_use}
use Rattle.docket.specs.Position.{closed, position}
use Rattle.docket.specs.Seen.{ledger_view, view_of}
use Rattle.docket.specs.Settle.{settle_says}
use Rattle.docket.specs.Use.{UnderWay}
use Rattle.docket.specs.declared.strike.Settlement.TheVariants.{Settled}
use Rattle.docket.proofs.docket.Docket.conclude_on.Goals as goal

pub unreachable-requires : goal.unreachable-requires
unreachable-requires g c =
    let A = g.A.Arena.view c.args.arena.now in
    let q = position c.args.self.now c.args.table.now in
    let used = used_under_way A (g.A.Arena.closed c.args.arena.now) q c.requires in
    let seen : closed ≡ c.args.self.now = subst (λ o. view_of o ≡ c.args.self.now) c.in_default.is c.self.view_is in
    let opened : false ≡ true = subst (λ d. d.is_open ≡ true) (sym seen) (in_use A q used).is_open in
    cc

pub sweep_out-swept-requires : goal.sweep_out-swept-requires
sweep_out-swept-requires g c =
    let A = g.A.Arena.view c.args.arena.now in
    let q = position (ledger_view c.in-Some.ledger) c.args.table.now in
    let seen : ledger_view c.in-Some.ledger ≡ c.args.self.now = subst (λ o. view_of o ≡ c.args.self.now) c.in-Some.is c.self.view_is in
    let way = subst (λ d. UnderWay A (position d c.args.table.now)) (sym seen) c.requires in
    record { used = in_use A q (used_under_way A (g.A.Arena.closed c.args.arena.now) q way) }

pub unreachable-requires-in_default-settle : goal.unreachable-requires-in_default-settle
unreachable-requires-in_default-settle g c =
    let A = g.A.Arena.view c.args.arena.now in
    let q = position (ledger_view c.in-Some.ledger) c.args.table.now in
    let y = position (ledger_view c.sweep_out-swept.new.self) c.sweep_out-swept.new.table in
    let seen : ledger_view c.in-Some.ledger ≡ c.args.self.now = subst (λ o. view_of o ≡ c.args.self.now) c.in-Some.is c.self.view_is in
    let way = subst (λ d. UnderWay A (position d c.args.table.now)) (sym seen) c.requires in
    let settled : settle_says A y ≡ Ok (Settled (number_standing A y.table)) =
    settled_behind_sweeps A (g.A.Arena.closed c.args.arena.now) q way y c.sweep_out-swept.ensures.after in
    let says = c.settle.ensures ∙ settled in
    search (rules, says)
