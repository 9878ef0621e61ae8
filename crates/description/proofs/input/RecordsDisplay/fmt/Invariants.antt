use Rattle.std.specs.Prelude.{◌-◌, length}
use Rattle.std.specs.Fmt.{IsPlainFormatter}
use Rattle.description.proofs.Lines.{LinesBetween}
use Rattle.description.proofs.input.RecordsDisplay.fmt.Given as goal

-- the lines so far
abbrev pub invariant-loop-item : goal.invariant-loop-item
invariant-loop-item g l =
    IsPlainFormatter l.initial.f → LinesBetween g.W.Write.write_str_gives l.initial.f l.f l.self.input.now l.self.place l.next

abbrev pub decreases-loop-item : goal.decreases-loop-item
decreases-loop-item g l = length l.self.input.now - l.next
