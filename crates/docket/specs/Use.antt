-- Dockets in use.
use Rattle.std.specs.Prelude.{◌≡◌, ◌≤◌, true, List, length, None}
use Rattle.arena.specs.Arena.{Arena}
use Rattle.arena.specs.Table.{pairs}
use Rattle.docket.specs.Position.{Position, opened}
use Rattle.docket.specs.Refusals.{opening_refusal}
use Rattle.docket.specs.Run.{after}
use Rattle.docket.specs.declared.call.Call.{Call}

-- A docket in use: open, for the systems' sizes, with a table that has room for each pair.
pub record InUse (A : Arena) (x : Position) : Type 0 where
  pub is_open : x.docket.is_open ≡ true
  pub old_states : x.docket.old_states ≡ A.old_states
  pub new_states : x.docket.new_states ≡ A.new_states
  pub room : pairs A ≤ length x.table

-- A docket under way: an opening was granted, and calls followed.
pub record UnderWay (A : Arena) (x : Position) : Type 0 where
  pub before : Position
  pub calls : List Call
  pub granted : opening_refusal A (length before.table) ≡ None
  pub led : x ≡ after A (opened A before) calls
