use Rattle.std.proofs.Common.{rules, ◌≡◌, Some, None}
use Rattle.streams.specs.declared.ending.Ending.TheVariants.{NoMemory, Refused}
use Rattle.report.specs.Input.{input_fault}
use Rattle.report.specs.Lines.{fault_line, no_memory_line}
use Rattle.description.specs.Program.{ToldOfInput}
use Rattle.streams.proofs.Part.{part_told}
use Rattle.description.proofs.program.print_input.Goals as goal

pub returns-in-Err-Refused-clause-in_part : goal.returns-in-Err-Refused-clause-in_part
returns-in-Err-Refused-clause-in_part g c =
    let fault = c.in-Err-Refused.fault in
    let text : c.deref-in-Err-Refused.result.now ≡ fault_line fault = search rules in
    let refused : input_fault c.args.input.now ≡ Some fault = search rules in
    part_told _ _ (ToldOfInput c.args.input.now) _ _ (Refused, (fault, refused, text)) c.tell-in-Err-Refused.ensures.in_part

pub returns-in-Err-NoMemory-clause-in_part : goal.returns-in-Err-NoMemory-clause-in_part
returns-in-Err-NoMemory-clause-in_part g c =
    let text : c.deref-in-Err-NoMemory.result.now ≡ no_memory_line = search rules in
    let fine : input_fault c.args.input.now ≡ None = search rules in
    part_told _ _ (ToldOfInput c.args.input.now) _ _ (NoMemory, (fine, text)) c.tell-in-Err-NoMemory.ensures.in_part
