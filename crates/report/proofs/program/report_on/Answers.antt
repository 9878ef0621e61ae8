use Rattle.std.proofs.Common.{rules, ◌≡◌, ◌≤◌, Ok, length, take, length-take}
use Rattle.report.proofs.Front.{ends_refused, ends_told, output_told}
use Rattle.report.specs.Room.{most_read}
use Rattle.report.proofs.program.report_on.Goals as goal

pub returns-in-Ok-clause-output : goal.returns-in-Ok-clause-output
returns-in-Ok-clause-output g c =
    let read : c.read_front.result ≡ Ok c.in_ok-count.count = search rules in
    rw c.in-Ok.ensures.output (output_told _ _ c.requires (g.R.Read.remaining c.args.reader.now) (rw read at c.read_front.ensures.bytes))

pub returns-in-Ok-clause-ends : goal.returns-in-Ok-clause-ends
returns-in-Ok-clause-ends g c =
    let read : c.read_front.result ≡ Ok c.in_ok-count.count = search rules in
    ends_told _ _ c.requires (g.R.Read.remaining c.args.reader.now) (rw read at c.read_front.ensures.bytes) c.in-Ok.ensures.answer.0

pub returns-in-Ok-clause-consumed : goal.returns-in-Ok-clause-consumed
returns-in-Ok-clause-consumed g c =
    let read : c.read_front.result ≡ Ok c.in_ok-count.count = search rules in
    let within : c.in_ok-count.count ≤ length c.read_front.new.buffer = search rules in
    let few : length (take c.in_ok-count.count c.read_front.new.buffer) ≤ most_read = simp (length-take) (search rules) in
    (take c.in_ok-count.count c.read_front.new.buffer, few, rw read at c.read_front.ensures.left)

pub returns-in-Err-clause-output : goal.returns-in-Err-clause-output
returns-in-Err-clause-output g c =
    let read : c.read_front.result ≡ Ok c.in_ok-count.count = search rules in
    rw c.in-Err.ensures.output (output_told _ _ c.requires (g.R.Read.remaining c.args.reader.now) (rw read at c.read_front.ensures.bytes))

pub returns-in-Err-clause-ends : goal.returns-in-Err-clause-ends
returns-in-Err-clause-ends g c =
    let read : c.read_front.result ≡ Ok c.in_ok-count.count = search rules in
    ends_refused _ _ c.requires (g.R.Read.remaining c.args.reader.now) c.in-Err.field-0 (rw read at c.read_front.ensures.bytes) c.in-Err.ensures.answer

pub returns-in-Err-clause-consumed : goal.returns-in-Err-clause-consumed
returns-in-Err-clause-consumed g c =
    let read : c.read_front.result ≡ Ok c.in_ok-count.count = search rules in
    let few : length (take c.in_ok-count.count c.read_front.new.buffer) ≤ most_read = simp (length-take) (search rules) in
    (take c.in_ok-count.count c.read_front.new.buffer, few, rw read at c.read_front.ensures.left)
