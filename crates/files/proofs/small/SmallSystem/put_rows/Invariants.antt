use Rattle.files.specs.Flattening.{rows_flattened}
use Rattle.files.specs.Wrote.{Wrote}
use Rattle.files.proofs.small.SmallSystem.put_rows.Given as goal

abbrev pub invariant-loop-state : goal.invariant-loop-state
invariant-loop-state g l = Wrote l.initial.writer (rows_flattened (g.S.System.meaning l.self.system.now) l.state) l.writer
