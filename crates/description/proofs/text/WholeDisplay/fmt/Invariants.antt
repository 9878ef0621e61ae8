use Rattle.std.specs.Fmt.{HasWritten, IsPlainFormatter}
use Rattle.systems.specs.Bounded.{joined_below}
use Rattle.description.specs.Text.{state_text}
use Rattle.description.proofs.text.WholeDisplay.fmt.Given as goal

-- the states so far
abbrev pub invariant-loop-number : goal.invariant-loop-number
invariant-loop-number g l =
    IsPlainFormatter l.initial.f → HasWritten g.W.Write.write_str_gives l.initial.f (joined_below l.number (state_text (g.S.System.meaning l.system))) l.f
