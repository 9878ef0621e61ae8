use Rattle.std.proofs.Common.{◌≡◌}
use Rattle.arena.specs.Held.{holding}
use Rattle.ranking.specs.Rank.{sight_row, sight_rows}
use Rattle.ranking.proofs.ranking.sight_round.Given as goal

abbrev pub invariant-loop-row : goal.invariant-loop-row
invariant-loop-row g l = record {
  arena : l.board.arena ≡ l.initial.board.arena;
  table : l.board.table ≡ holding l.initial.board.table (sight_rows (g.A.Arena.view l.board.arena.now) l.row l.initial.board.table.now);
}

abbrev pub invariant-loop-column : goal.invariant-loop-column
invariant-loop-column g l = record {
  arena : l.board.arena ≡ l.initial.board.arena;
  table : l.board.table ≡ holding l.initial.board.table (sight_row (g.A.Arena.view l.board.arena.now) l.row l.column l.initial.board.table.now);
}
