use Rattle.std.proofs.Common.{◌≡◌}
use Rattle.docket.specs.Seen.{ledger_view}
use Rattle.docket.specs.Sweep.{sweep_row, sweep_rows, sweeping}
use Rattle.docket.proofs.docket.Ledger.sweep.Given as goal

abbrev pub invariant-loop-column : goal.invariant-loop-column
invariant-loop-column g l =
    let A = g.A.Arena.view l.arena in
    (sweep_row A l.budget l.row l.column (sweeping (ledger_view l.initial.self) l.initial.table l.initial.made) ≡ sweeping (ledger_view l.self) l.table l.made)
    × (l.self.rows ≡ l.initial.self.rows)
    × (l.self.columns ≡ l.initial.self.columns)

abbrev pub invariant-loop-row : goal.invariant-loop-row
invariant-loop-row g l =
    let A = g.A.Arena.view l.arena in
    (sweep_rows A l.budget l.row (sweeping (ledger_view l.initial.self) l.initial.table 0) ≡ sweeping (ledger_view l.self) l.table l.made)
    × (l.self.rows ≡ l.initial.self.rows)
    × (l.self.columns ≡ l.initial.self.columns)
