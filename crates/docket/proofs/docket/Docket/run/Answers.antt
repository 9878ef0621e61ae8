use Rattle.docket.proofs.Laws.{certificate_law, run_law}
use Rattle.docket.specs.Position.{position}
use Rattle.docket.proofs.docket.Docket.run.Goals as goal

pub returns-clause-law : goal.returns-clause-law
returns-clause-law g c = run_law (g.A.Arena.view c.args.arena.now) (g.A.Arena.closed c.args.arena.now) (position c.args.self.now c.args.table.now) c.args.calls.now

pub returns-clause-certificates : goal.returns-clause-certificates
returns-clause-certificates g c = certificate_law (g.A.Arena.view c.args.arena.now) (g.A.Arena.closed c.args.arena.now)

pub returns-in_err-reserve-clause-law : goal.returns-in_err-reserve-clause-law
returns-in_err-reserve-clause-law g c = run_law (g.A.Arena.view c.args.arena.now) (g.A.Arena.closed c.args.arena.now) (position c.args.self.now c.args.table.now) c.args.calls.now

pub returns-in_err-reserve-clause-certificates : goal.returns-in_err-reserve-clause-certificates
returns-in_err-reserve-clause-certificates g c = certificate_law (g.A.Arena.view c.args.arena.now) (g.A.Arena.closed c.args.arena.now)
