use Rattle.std.proofs.Common.{◌≡◌, ◌≤◌}
use Rattle.arena.specs.Bounds.{count_below}
use Rattle.arena.specs.Entry.{says_standing}
use Rattle.arena.specs.Table.{entry_at}
use Rattle.arena.proofs.board.Board.number_standing.Given as goal

abbrev pub invariant-loop-entry : goal.invariant-loop-entry
invariant-loop-entry g l = record {
  counted : l.standing ≡ count_below l.entry-index (λ i. says_standing (entry_at l.self.table.now i));
  few : l.standing ≤ l.entry-index;
}
