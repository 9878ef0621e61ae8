use Rattle.systems.specs.Bounded.{joined_below}
use Rattle.files.specs.Flattening.{move_flattened}
use Rattle.files.specs.Wrote.{Wrote}
use Rattle.files.proofs.small.SmallSystem.put_next_states.Given as goal

abbrev pub invariant-loop-controller : goal.invariant-loop-controller
invariant-loop-controller g l = Wrote l.initial.writer (joined_below l.controller (move_flattened (g.S.System.meaning l.self.system.now) l.state)) l.writer
