use Rattle.std.proofs.Common.{◌≡◌, ◌+◌, ◌-◌, ◌*◌}
use Rattle.arena.specs.Table.{pairs}
use Rattle.docket.specs.Decide.{swept_out}
use Rattle.docket.specs.Position.{position}
use Rattle.docket.specs.Seen.{ledger_view}
use Rattle.docket.proofs.docket.Ledger.sweep_out.Given as goal

abbrev pub invariant-loop-total : goal.invariant-loop-total
invariant-loop-total g l =
    let A = g.A.Arena.view l.arena in record {
      made : l.total + (swept_out A (pairs A) (position (ledger_view l.self) l.table)).made ≡ (swept_out A (pairs A) (position (ledger_view l.initial.self) l.initial.table)).made;
      after : (swept_out A (pairs A) (position (ledger_view l.self) l.table)).position ≡ (swept_out A (pairs A) (position (ledger_view l.initial.self) l.initial.table)).position;
      count : l.self.count ≡ l.initial.self.count + l.total;
      rows : l.self.rows ≡ l.initial.self.rows;
      columns : l.self.columns ≡ l.initial.self.columns;
    }

abbrev pub decreases-loop-total : goal.decreases-loop-total
decreases-loop-total g l = l.initial.self.rows * l.initial.self.columns - l.self.count
