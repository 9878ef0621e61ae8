-- Opening and striking.
use Rattle.std.specs.Prelude.{ℕ, ◌+◌, length, Result}
use Rattle.systems.specs.Refused.{if_granted, unless}
use Rattle.arena.specs.Arena.{Arena}
use Rattle.arena.specs.Table.{pairs}
use Rattle.docket.specs.Position.{Position, marked, opened}
use Rattle.docket.specs.Refusals.{opening_refusal, strike_refusal}
use Rattle.docket.specs.declared.refusal.Refusal.{Refusal}
use Rattle.docket.specs.declared.strike.Strike.{Strike}

-- an opening answers how many pairs there are
abbrev pub open_says : Arena → Position → Result ℕ Refusal
open_says A x = unless (opening_refusal A (length x.table)) (pairs A)

-- what an opening leaves
abbrev pub open_does : Arena → Position → Position
open_does A x = if_granted (opening_refusal A (length x.table)) (opened A x) x

-- a strike answers its number
abbrev pub strike_says : Arena → Position → Strike → Result ℕ Refusal
strike_says A x s = unless (strike_refusal A x s) (x.docket.count + 1)

-- what a strike leaves
abbrev pub strike_does : Arena → Position → Strike → Position
strike_does A x s = if_granted (strike_refusal A x s) (marked A x s.pair.0 s.pair.1) x
