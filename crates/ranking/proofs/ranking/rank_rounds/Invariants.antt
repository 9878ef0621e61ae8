use Rattle.std.proofs.Common.{◌≡◌, ◌-◌}
use Rattle.arena.specs.Table.{pairs}
use Rattle.arena.specs.Held.{holding}
use Rattle.ranking.specs.Rank.{first_round, rank_rounds}
use Rattle.ranking.proofs.ranking.rank_rounds.Given as goal

abbrev pub invariant-loop-round : goal.invariant-loop-round
invariant-loop-round g l =
    let A = g.A.Arena.view l.board.arena.now in record {
      arena : l.board.arena ≡ l.initial.board.arena;
      table : l.board.table ≡ holding l.initial.board.table l.board.table.now;
      rest : rank_rounds A (l.round-end - l.round) l.round l.board.table.now ≡ rank_rounds A (pairs A) first_round l.initial.board.table.now;
    }
