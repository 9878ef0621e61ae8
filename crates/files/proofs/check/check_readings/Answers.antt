use Rattle.std.proofs.Common.{arith}
use Rattle.std.proofs.lemmas.Result.{err_from_is_err_and}
use Rattle.systems.proofs.Bounded.{first_below_found}
use Rattle.files.proofs.check.check_readings.Goals as goal

pub returns-in_err-number-clause-answer : goal.returns-in_err-number-clause-answer
returns-in_err-number-clause-answer c =
    let p = err_from_is_err_and c.from_residual.result c.from_residual.ensures.1 in
    let bad = rw c.loop-channel.invariant.reads at c.in_err-number.ensures.answer in
    rw (p.1, p.2) (first_below_found c.args.count c.loop-channel._channel _ _ c.loop-channel.invariant.no_fault bad (omega arith))
