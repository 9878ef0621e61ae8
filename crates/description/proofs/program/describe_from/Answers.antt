use Rattle.std.proofs.Common.{rules, ◌≡◌, Ok}
use Rattle.std.specs.Prelude.{IfSome}
use Rattle.description.proofs.Front.{file_of_left}
use Rattle.description.proofs.program.describe_from.Goals as goal

pub returns-clause-printed : goal.returns-clause-printed
returns-clause-printed g c =
    let read : c.read_file.result ≡ Ok c.in_ok-bytes.bytes = search rules in
    let all : IfSome (g.R.Read.remaining c.args.reader.now) (λ left. c.deref.result.now ≡ left) = rw c.deref.ensures.value (rw read at c.read_file.ensures) in
    file_of_left _ _ (g.R.Read.remaining c.args.reader.now) _ _ all c.print_file.ensures.printed
