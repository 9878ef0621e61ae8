use Rattle.systems.specs.Bounded.{listed_below}
use Rattle.files.specs.Wrote.{Wrote}
use Rattle.files.proofs.small.SmallSystem.put_move.Given as goal

abbrev pub invariant-loop-environment : goal.invariant-loop-environment
invariant-loop-environment g l = Wrote l.initial.writer (listed_below l.environment ((g.S.System.meaning l.self.system.now).next l.state l.controller)) l.writer
