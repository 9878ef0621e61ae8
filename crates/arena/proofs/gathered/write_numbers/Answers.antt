use Rattle.std.proofs.Common.{arith}
use Rattle.std.proofs.lemmas.Grind.{common_steps}
use Rattle.arena.proofs.gathered.write_numbers.Goals as goal

pub loop-state-preserved : goal.loop-state-preserved
loop-state-preserved g c = λ f h. let before = c.loop-state.invariant f h in let here = h _ _ c.moves_at.ensures in grind (arith, common_steps, before, here)

pub returns : goal.returns
returns g c = λ f h k l. c.loop-state.invariant f h k (omega arith)
