use Rattle.std.proofs.Common.{◌∙◌, arith}
use Rattle.docket.proofs.Runs.{after_all, after_next, answers_all, answers_next}
use Rattle.docket.specs.declared.call.Call.TheVariants.{Open}
use Rattle.docket.proofs.docket.Docket.perform_all.Goals as goal

pub loop-call-preserved : goal.loop-call-preserved
loop-call-preserved g c =
    let A = g.A.Arena.view c.args.arena.now in
    let calls = c.args.calls.now in
    let i = c.loop-call.call-index in (
      after_next A calls i Open _ _ c.loop-call-test.true c.perform-answer.ensures.after ∙ c.loop-call.invariant.0,
      answers_next A calls i Open _ _ _ _ _ c.loop-call-test.true c.perform-answer.ensures.after c.perform-answer.ensures.answer c.push_reserved.ensures.items ∙ c.loop-call.invariant.1,
      omega (arith, c.push_reserved.ensures.len, c.push_reserved.ensures.capacity, c.loop-call.invariant.2),
      c.push_reserved.ensures.capacity ∙ c.loop-call.invariant.3,
    )

pub returns : goal.returns
returns g c =
    let A = g.A.Arena.view c.args.arena.now in
    let calls = c.args.calls.now in
    let i = c.loop-call.call-index in
    record {
      answered = answers_all A calls i _ _ _ c.loop-call-test.false c.loop-call.invariant.1;
      after = after_all A calls i _ _ c.loop-call-test.false c.loop-call.invariant.0;
      capacity = c.loop-call.invariant.3;
    }
