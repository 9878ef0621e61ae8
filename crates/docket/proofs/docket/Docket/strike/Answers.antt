use Rattle.std.proofs.Common.{rules}
use Rattle.docket.proofs.Refused.{refusal_of, no_refusal}
use Rattle.docket.proofs.docket.Docket.strike.Goals as goal

pub returns-in_err-check_use-clause-answer : goal.returns-in_err-check_use-clause-answer
returns-in_err-check_use-clause-answer g c = let named = refusal_of _ _ _ c.in_err-check_use.ensures.answer in search (rules, named)

pub returns-in_err-check_use-clause-after : goal.returns-in_err-check_use-clause-after
returns-in_err-check_use-clause-after g c = let named = refusal_of _ _ _ c.in_err-check_use.ensures.answer in search (rules, named)

pub strike-requires : goal.strike-requires
strike-requires g c = no_refusal _ _ _ c.in_ok-check_use.ensures.answer
