use Rattle.std.proofs.Common.{add-one, arith, rules}
use Rattle.std.proofs.lemmas.Result.{err_from_is_err_and}
use Rattle.systems.proofs.Bounded.{first_below_found, first_below_none_more}
use Rattle.files.proofs.check.check_rows.Goals as goal

pub returns-in_err-check_row-clause-answer : goal.returns-in_err-check_row-clause-answer
returns-in_err-check_row-clause-answer c =
    let p = err_from_is_err_and c.from_residual.result c.from_residual.ensures.1 in
    let bad = rw c.loop-state.invariant.reads at c.in_err-check_row.ensures.answer in
    rw (p.1, p.2) (first_below_found c.args.sizes.states c.loop-state.state _ _ c.loop-state.invariant.no_fault bad (omega arith))

pub loop-state-preserved : goal.loop-state-preserved
loop-state-preserved c = rw add-one (search (rules, first_below_none_more))
