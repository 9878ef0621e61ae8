use Rattle.std.proofs.Common.{◌≡◌, ◌+◌, ◌≤◌, ◌++◌, None, length, drop, vec_items, vec_len, vec_capacity}
use Rattle.docket.specs.Decide.{proposals}
use Rattle.docket.specs.Position.{position}
use Rattle.docket.specs.Refusals.{use_refusal}
use Rattle.docket.specs.Run.{after, answers}
use Rattle.docket.proofs.docket.Docket.propose.Given as goal

abbrev pub invariant-loop-strike : goal.invariant-loop-strike
invariant-loop-strike g l =
    let A = g.A.Arena.view l.arena in
    let start = position l.initial.self l.initial.table in
    let now = position l.self l.table in
    let left = drop l.strike-index (proposals l.strikes) in
    (after A now left ≡ after A start (proposals l.strikes))
    × (vec_items l.answers ++ answers A now left ≡ vec_items l.initial.answers ++ answers A start (proposals l.strikes))
    × (vec_len l.answers + length l.strikes ≤ vec_capacity l.answers + l.strike-index)
    × (vec_capacity l.answers ≡ vec_capacity l.initial.answers)
    × (use_refusal A now ≡ None)
