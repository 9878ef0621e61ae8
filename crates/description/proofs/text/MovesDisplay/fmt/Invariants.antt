use Rattle.std.specs.Fmt.{HasWritten, IsPlainFormatter}
use Rattle.systems.specs.Bounded.{joined_below}
use Rattle.description.specs.Text.{move_line, move_lines}
use Rattle.description.proofs.text.MovesDisplay.fmt.Given as goal

-- the lines of the environment moves so far
abbrev pub invariant-loop-environment : goal.invariant-loop-environment
invariant-loop-environment g l =
    let line = move_line (g.S.System.meaning l.system) l.number l.controller in
    IsPlainFormatter l.initial.f → HasWritten g.W.Write.write_str_gives l.initial.f (joined_below l.environment-counter line) l.f

-- the lines of the controller moves so far
abbrev pub invariant-loop-controller : goal.invariant-loop-controller
invariant-loop-controller g l =
    let lines = move_lines (g.S.System.meaning l.system) l.number in
    IsPlainFormatter l.initial.f → HasWritten g.W.Write.write_str_gives l.initial.f (joined_below l.controller-counter lines) l.f
