use Rattle.std.specs.Fmt.{HasWritten, IsPlainFormatter}
use Rattle.systems.specs.Bounded.{joined_below}
use Rattle.description.specs.Text.{reading_text}
use Rattle.description.proofs.text.ReadingsDisplay.fmt.Given as goal

-- behind the name stand the readings of the channels so far
abbrev pub invariant-loop-channel : goal.invariant-loop-channel
invariant-loop-channel g l =
    let reading = reading_text (g.S.System.meaning l.system) l.number in
    IsPlainFormatter l.initial.f → HasWritten g.W.Write.write_str_gives l.initial.f (joined_below l.channel reading) l.f
