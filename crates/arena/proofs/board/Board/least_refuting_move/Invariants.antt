use Rattle.std.proofs.Common.{◌≡◌, ◌≤◌, true, false, None}
use Rattle.systems.specs.Bounded.{all_below}
use Rattle.arena.specs.Bounds.{any_below}
use Rattle.arena.specs.Pairs.{spoils, spoilt}
use Rattle.arena.specs.Table.{least_refuting, struck}
use Rattle.arena.proofs.board.Board.least_refuting_move.Given as goal

abbrev pub invariant-loop-environment : goal.invariant-loop-environment
invariant-loop-environment g l =
    let A = g.A.Arena.view l.self.arena.now in
    (all_below l.environment (λ b. struck A l.self.table.now l.before (A.old_next l.old_state l.controller b) (A.new_next l.new_state l.reply l.answer)) ≡ true)
    × (l.to ≡ A.new_next l.new_state l.reply l.answer)
    × (l.environment-end ≡ A.old_environment_moves l.old_state)

abbrev pub invariant-answers : goal.invariant-answers
invariant-answers g l =
    let A = g.A.Arena.view l.self.arena.now in
    (any_below l.answer (λ b'. spoils A (struck A l.self.table.now l.before) l.old_state l.new_state l.controller l.reply b') ≡ false)
    × (l.answer-end ≡ A.new_environment_moves l.new_state)

abbrev pub invariant-replies : goal.invariant-replies
invariant-replies g l =
    let A = g.A.Arena.view l.self.arena.now in
    (all_below l.reply (λ reply. spoilt A (struck A l.self.table.now l.before) l.old_state l.new_state l.controller reply) ≡ true)
    × (l.reply-end ≡ A.new_controller_moves l.new_state)

abbrev pub invariant-moves : goal.invariant-moves
invariant-moves g l =
    let A = g.A.Arena.view l.self.arena.now in
    (least_refuting A (struck A l.self.table.now l.before) l.old_state l.new_state l.fn.moves.start l.controller-iterator.start ≡ None)
    × (l.fn.moves.start ≤ l.controller-iterator.start)
    × (l.controller-iterator.end ≡ l.fn.moves.end)
