use Rattle.report.proofs.Part.{line_in_part}
use Rattle.report.proofs.program.exchange.Goals as goal

pub returns-in-Err-clause-in_part : goal.returns-in-Err-clause-in_part
returns-in-Err-clause-in_part g c =
    line_in_part (g.R.Read.remaining c.args.reader.now) _ _ c.tell_no_memory.result c.tell_no_memory.ensures.in_part
