use Rattle.std.proofs.Common.{arith}
use Rattle.arena.proofs.gathered.Moves.gather.Goals as goal

pub returns-clause-controller : goal.returns-clause-controller
returns-clause-controller g c = λ p h k l. c.write_numbers.ensures p h k (omega arith)

pub returns-clause-environment : goal.returns-clause-environment
returns-clause-environment g c = λ q h k l. c.write_numbers-2.ensures q h k (omega arith)
