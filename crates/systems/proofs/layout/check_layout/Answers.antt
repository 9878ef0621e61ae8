use Rattle.std.proofs.Common.{◌≡◌, Some, None, Ok, ap, rules}
use Rattle.std.proofs.lemmas.Result.{err_from_is_err_and}
use Rattle.systems.proofs.Bounded.{first_below_found, first_below_none_more}
use Rattle.systems.proofs.LaidOut.{layout_by_rows, layout_decides}
use Rattle.systems.proofs.layout.check_layout.Goals as goal
use Rattle.systems.specs.Bounded.{first_below}
use Rattle.systems.specs.Layout.{layout, row_fault, rows_answer, state_count}

pub returns-in_err-check : goal.returns-in_err-check
returns-in_err-check c =
    let words = c.args.words.now in
    let fault = c.in_err-check.field-0.0 in
    let left = err_from_is_err_and c.from_residual.result c.from_residual.ensures.1 in
    let rows : first_below (state_count words) (row_fault words) ≡ Some fault =
    first_below_found (state_count words) c.loop-state.state (row_fault words) fault c.loop-state.invariant
    c.in_err-check.ensures
    (search rules) in
    let answer : c.from_residual.result ≡ layout words =
    search (rules, left.1, left.2, layout_by_rows words, ap (rows_answer words) rows) in
    record { answer = answer; decides = layout_decides words c.from_residual.result answer }

pub loop-state-preserved : goal.loop-state-preserved
loop-state-preserved c =
    first_below_none_more c.loop-state.state (row_fault c.args.words.now) c.loop-state.invariant
    c.in_ok-check.ensures

pub returns : goal.returns
returns c =
    let words = c.args.words.now in
    let rows : first_below (state_count words) (row_fault words) ≡ None = search rules in
    let answer : Ok c.words_taken-taken.result ≡ layout words =
    search (rules, layout_by_rows words, ap (rows_answer words) rows) in
    record { answer = answer; decides = layout_decides words _ answer }
