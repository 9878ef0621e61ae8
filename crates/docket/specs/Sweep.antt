-- Sweeps.
use Rattle.std.specs.Prelude.{ℕ, zero, suc, ◌+◌, cond, ◌&&◌, List, Result, nat_lt}
use Rattle.systems.specs.Refused.{if_granted, unless}
use Rattle.arena.specs.Arena.{Arena}
use Rattle.arena.specs.Table.{loose, pairs}
use Rattle.docket.specs.Position.{Position, View, marked, position}
use Rattle.docket.specs.Refusals.{use_refusal}
use Rattle.docket.specs.declared.refusal.Refusal.{Refusal}

-- A sweep under way: where it has led, and how many strikes it has made.
pub record Swept : Type 0 where
  pub position : Position
  pub made : ℕ

-- a docket and its table in a sweep that has made so many strikes
abbrev pub sweeping : View → List ℕ → ℕ → Swept
sweeping docket table made = record { position = position docket table; made = made }

-- a pair that is loose now gets a strike, while the budget lasts and the count is below the number of pairs
abbrev pub sweep_pair : Arena → ℕ → ℕ → ℕ → Swept → Swept
sweep_pair A budget w v y =
    cond (nat_lt y.made budget && (nat_lt y.position.docket.count (pairs A) && loose A y.position.table w v))
    (record { position = marked A y.position w v; made = y.made + 1 })
    y

-- the first so many pairs of an old state's row, in turn
abbrev pub sweep_row : Arena → ℕ → ℕ → ℕ → Swept → Swept
sweep_row A budget w zero y = y
sweep_row A budget w (suc v) y = sweep_pair A budget w v (sweep_row A budget w v y)

-- the first so many rows, in turn
abbrev pub sweep_rows : Arena → ℕ → ℕ → Swept → Swept
sweep_rows A budget zero y = y
sweep_rows A budget (suc w) y = sweep_row A budget w A.new_states (sweep_rows A budget w y)

-- a whole sweep: the pairs in the order of their places, each judged by the table as it is when its turn comes
abbrev pub swept : Arena → Position → ℕ → Swept
swept A x budget = sweep_rows A budget A.old_states (record { position = x; made = 0 })

-- a sweep answers how many strikes it made
abbrev pub sweep_says : Arena → Position → ℕ → Result ℕ Refusal
sweep_says A x budget = unless (use_refusal A x) (swept A x budget).made

-- what a sweep leaves
abbrev pub sweep_does : Arena → Position → ℕ → Position
sweep_does A x budget = if_granted (use_refusal A x) (swept A x budget).position x
