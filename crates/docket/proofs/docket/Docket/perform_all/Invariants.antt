use Rattle.std.proofs.Common.{◌≡◌, ◌+◌, ◌≤◌, ◌++◌, length, drop, vec_items, vec_len, vec_capacity}
use Rattle.docket.specs.Position.{position}
use Rattle.docket.specs.Run.{after, answers}
use Rattle.docket.proofs.docket.Docket.perform_all.Given as goal

abbrev pub invariant-loop-call : goal.invariant-loop-call
invariant-loop-call g l =
    let A = g.A.Arena.view l.arena in
    let start = position l.initial.self l.initial.table in
    let now = position l.self l.table in
    let left = drop l.call-index l.calls in
    (after A now left ≡ after A start l.calls)
    × (vec_items l.answers ++ answers A now left ≡ vec_items l.initial.answers ++ answers A start l.calls)
    × (vec_len l.answers + length l.calls ≤ vec_capacity l.answers + l.call-index)
    × (vec_capacity l.answers ≡ vec_capacity l.initial.answers)
