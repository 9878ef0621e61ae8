use Rattle.std.proofs.Common.{◌∙◌, sym}
use Rattle.std.proofs.lemmas.List.{append-nil}
use Rattle.std.proofs.lemmas.Slice.Zip.{either_empty_from_Zip}
use Rattle.report.proofs.Written.{no_line}
use Rattle.report.proofs.deciding.put_proposals.Goals as goal

pub returns-clause-items : goal.returns-clause-items
returns-clause-items c =
    let ended = either_empty_from_Zip c.loop-strike.strike-iterator c.next.new.self c.next.result c.in-None.is c.next.ensures.steps in
    let all = rw (no_line _ _ ended) at c.loop-strike.invariant.lines in
    sym (append-nil c.loop-strike.lines.items) ∙ all
