use Rattle.arena.specs.Gathered.{FewMoves}
use Rattle.arena.proofs.gathered.count_few.Given as goal

abbrev pub invariant-loop-state : goal.invariant-loop-state
invariant-loop-state l = FewMoves l.state l.controller l.environment
