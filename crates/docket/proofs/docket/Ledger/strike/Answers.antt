use Rattle.std.proofs.Common.{rules}
use Rattle.docket.proofs.Grounds.{in_use}
use Rattle.docket.proofs.Refused.{refusal_of}
use Rattle.docket.specs.Position.{position}
use Rattle.docket.specs.Seen.{ledger_view}
use Rattle.docket.proofs.docket.Ledger.strike.Goals as goal

pub check_strike-requires : goal.check_strike-requires
check_strike-requires g c = record { used = in_use (g.A.Arena.view c.args.arena.now) (position (ledger_view c.args.self.now) c.args.table.now) c.requires }

pub returns-in_err-check_strike-clause-answer : goal.returns-in_err-check_strike-clause-answer
returns-in_err-check_strike-clause-answer g c = let named = refusal_of _ _ _ c.in_err-check_strike.ensures.answer in search (rules, c.requires, named)

pub returns-in_err-check_strike-clause-after : goal.returns-in_err-check_strike-clause-after
returns-in_err-check_strike-clause-after g c = let named = refusal_of _ _ _ c.in_err-check_strike.ensures.answer in search (rules, c.requires, named)
