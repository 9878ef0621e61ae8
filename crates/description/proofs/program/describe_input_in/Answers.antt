use Rattle.std.proofs.Common.{rules, ◌≡◌, Ok}
use Rattle.description.proofs.Front.{input_of_left, input_part_of_left}
use Rattle.description.proofs.program.describe_input_in.Goals as goal

pub returns-clause-printed : goal.returns-clause-printed
returns-clause-printed g c =
    let read : c.read_front.result ≡ Ok c.in_ok-count.count = search rules in
    input_of_left (g.R.Read.remaining c.args.reader.now) _ _ _ _ _ c.requires (rw read at c.read_front.ensures.bytes) c.print_input.ensures.printed

pub returns-clause-in_part : goal.returns-clause-in_part
returns-clause-in_part g c =
    let read : c.read_front.result ≡ Ok c.in_ok-count.count = search rules in
    input_part_of_left _ _ (g.R.Read.remaining c.args.reader.now) _ _ _ c.requires (rw read at c.read_front.ensures.bytes) c.print_input.ensures.in_part
