use Rattle.std.proofs.Common.{◌≡◌, true, false, sym, refl, ◌∙◌, arith}
use Rattle.systems.proofs.Bounded.{all_below_more, all_below_false}
use Rattle.arena.proofs.Bounds.{any_below_more, any_below_from, all_below_end, any_below_end}
use Rattle.arena.proofs.Refuting.{none_before, none_more, found, none_at_all, struck_there}
use Rattle.arena.specs.Pairs.{refutes}
use Rattle.arena.specs.Table.{struck}
use Rattle.arena.proofs.board.Board.least_refuting_move.Goals as goal

pub moves-init : goal.moves-init
moves-init g c =
    let A = g.A.Arena.view c.args.self.now.arena.now in
    let gone = struck A c.args.self.now.table.now c.args.before in
    rw c.into_iter-controller-iterator.ensures.into_iter_gives (none_before A gone c.args.pair.0 c.args.pair.1 c.args.moves.start, omega arith, refl)

pub loop-environment-preserved : goal.loop-environment-preserved
loop-environment-preserved g c =
    let A = g.A.Arena.view c.args.self.now.arena.now in
    let gone = struck A c.args.self.now.table.now c.args.before in (
      all_below_more c.loop-environment.environment _ c.loop-environment.invariant.0 (struck_there gone _ _ _ _ _ _ c.is_struck.ensures c.old_next-from.ensures c.loop-environment.invariant.1 c.if-not-is_struck.false),
      c.loop-environment.invariant.1,
      c.loop-environment.invariant.2,
    )

pub answers-preserved : goal.answers-preserved
answers-preserved g c =
    let A = g.A.Arena.view c.args.self.now.arena.now in
    let gone = struck A c.args.self.now.table.now c.args.before in (
      any_below_more c.answers.answer _ c.answers.invariant.0
          (all_below_false (A.old_environment_moves c.args.pair.0) c.loop-environment.environment _ (omega (arith, c.loop-environment.invariant.2)) (struck_there gone _ _ _ _ _ _ c.is_struck.ensures c.old_next-from.ensures c.loop-environment.invariant.1 c.if-not-is_struck.true)),
      c.answers.invariant.1,
    )

pub replies-preserved : goal.replies-preserved
replies-preserved g c =
    let A = g.A.Arena.view c.args.self.now.arena.now in (
      all_below_more c.replies.reply _ c.replies.invariant.0
          (any_below_from (A.new_environment_moves c.args.pair.1) c.answers.answer _ (omega (arith, c.answers.invariant.1))
          (all_below_end c.loop-environment.environment (A.old_environment_moves c.args.pair.0) _ (omega (arith, c.loop-environment.invariant.2)) c.loop-environment.invariant.0)),
      c.replies.invariant.1,
    )

pub moves-preserved : goal.moves-preserved
moves-preserved g c =
    let A = g.A.Arena.view c.args.self.now.arena.now in
    let gone = struck A c.args.self.now.table.now c.args.before in
    let step = c.in-Some.ensures.steps in
    let replied : refutes A gone c.args.pair.0 c.args.pair.1 c.in-Some.controller ≡ false =
    all_below_false (A.new_controller_moves c.args.pair.1) c.replies.reply _ (omega (arith, c.replies.invariant.1))
    (any_below_end c.answers.answer (A.new_environment_moves c.args.pair.1) _ (omega (arith, c.answers.invariant.1)) c.answers.invariant.0) in
    rw step.1.2 (
      none_more A gone c.args.pair.0 c.args.pair.1 c.args.moves.start c.moves.controller-iterator.start c.moves.invariant.0 (rw step.1.1 at replied),
      omega arith,
      step.0 ∙ c.moves.invariant.2,
    )

pub returns-in-moves : goal.returns-in-moves
returns-in-moves g c =
    let A = g.A.Arena.view c.args.self.now.arena.now in
    let gone = struck A c.args.self.now.table.now c.args.before in
    let step = c.in-Some.ensures.steps in
    let refuted : refutes A gone c.args.pair.0 c.args.pair.1 c.in-Some.controller ≡ true =
    all_below_end c.replies.reply (A.new_controller_moves c.args.pair.1) _ (omega (arith, c.replies.invariant.1)) c.replies.invariant.0 in
    rw step.1.1 (sym (found A gone c.args.pair.0 c.args.pair.1 c.args.moves.start c.moves.controller-iterator.start c.args.moves.end (omega arith) (omega arith) c.moves.invariant.0 (rw step.1.1 at refuted)))

pub returns : goal.returns
returns g c =
    let A = g.A.Arena.view c.args.self.now.arena.now in
    let gone = struck A c.args.self.now.table.now c.args.before in
    sym (none_at_all A gone c.args.pair.0 c.args.pair.1 c.args.moves.start c.moves.controller-iterator.start c.args.moves.end c.moves.invariant.1 (omega (arith, c.in-None.ensures.steps)) c.moves.invariant.0)
