use Rattle.std.proofs.Common.{◌≡◌, ◌+◌, ◌*◌, ◌≤◌}
use Rattle.arena.specs.Held.{holding}
use Rattle.ranking.specs.Rank.{rank_row, rank_rows, ranking}
use Rattle.ranking.proofs.ranking.rank_round.Given as goal

abbrev pub invariant-loop-row : goal.invariant-loop-row
invariant-loop-row g l =
    let A = g.A.Arena.view l.board.arena.now in record {
      arena : l.board.arena ≡ l.initial.board.arena;
      table : l.board.table ≡ holding l.initial.board.table l.board.table.now;
      ranked : rank_rows A l.round l.row (ranking l.initial.board.table.now 0) ≡ ranking l.board.table.now l.added;
      few : l.added ≤ l.row * A.new_states;
    }

abbrev pub invariant-loop-column : goal.invariant-loop-column
invariant-loop-column g l =
    let A = g.A.Arena.view l.board.arena.now in record {
      arena : l.board.arena ≡ l.initial.board.arena;
      table : l.board.table ≡ holding l.initial.board.table l.board.table.now;
      ranked : rank_row A l.round l.row l.column (ranking l.initial.board.table.now l.initial.added) ≡ ranking l.board.table.now l.added;
      few : l.added ≤ l.row * A.new_states + l.column;
    }
