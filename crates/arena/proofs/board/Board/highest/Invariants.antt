use Rattle.std.proofs.Common.{◌≡◌}
use Rattle.arena.specs.Table.{highest_below}
use Rattle.arena.proofs.board.Board.highest.Given as goal

abbrev pub invariant-loop-entry : goal.invariant-loop-entry
invariant-loop-entry g l = l.highest ≡ highest_below l.entry-index l.self.table.now
