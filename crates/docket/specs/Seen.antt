-- A docket as the definitions see it.
use Rattle.std.specs.Prelude.{true, Some, None, Option}
use Rattle.docket.specs.Position.{View, closed}
use Rattle.docket.specs.declared.docket.Ledger.{Ledger}

-- what a docket keeps that was opened
abbrev pub ledger_view : Ledger → View
ledger_view o = record { is_open = true; old_states = o.rows; new_states = o.columns; count = o.count }

-- what a docket keeps, opened or not
abbrev pub view_of : Option Ledger → View
view_of None = closed
view_of (Some o) = ledger_view o
