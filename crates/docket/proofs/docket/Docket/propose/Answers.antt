use Rattle.std.proofs.Common.{◌≡◌, ◌<◌, ◌≤◌, None, length, sym, subst, ap, ◌∙◌, arith}
use Rattle.docket.proofs.Good.{strike_in_use}
use Rattle.docket.proofs.Runs.{after_all, after_next, answers_all, answers_next, proposal_at, proposed}
use Rattle.docket.specs.Decide.{proposals}
use Rattle.docket.specs.Position.{position}
use Rattle.docket.specs.Refusals.{use_refusal}
use Rattle.docket.specs.Run.{does, says}
use Rattle.docket.specs.declared.call.Call.TheVariants.{Open}
use Rattle.docket.proofs.docket.Docket.propose.Goals as goal

pub loop-strike-preserved : goal.loop-strike-preserved
loop-strike-preserved g c =
    let A = g.A.Arena.view c.args.arena.now in
    let strikes = c.args.strikes.now in
    let i = c.loop-strike.strike-index in
    let x = position c.loop-strike.self c.loop-strike.table in
    let left : i < length (proposals strikes) = omega (arith, proposed strikes, c.loop-strike-test.true) in
    let call = proposal_at strikes i _ c.loop-strike-test.true in
    let leads = c.propose_one-answer.ensures.after ∙ ap (λ s. does A x s) call in
    let answered = c.propose_one-answer.ensures.answer ∙ ap (λ s. says A x s) call in (
      after_next A (proposals strikes) i Open _ _ left leads ∙ c.loop-strike.invariant.0,
      answers_next A (proposals strikes) i Open _ _ _ _ _ left leads answered c.push_reserved.ensures.items ∙ c.loop-strike.invariant.1,
      omega (arith, c.push_reserved.ensures.len, c.push_reserved.ensures.capacity, c.loop-strike.invariant.2),
      c.push_reserved.ensures.capacity ∙ c.loop-strike.invariant.3,
      subst (λ y. use_refusal A y ≡ None) (sym c.propose_one-answer.ensures.after) (strike_in_use A x _ c.loop-strike.invariant.4),
    )

pub returns : goal.returns
returns g c =
    let A = g.A.Arena.view c.args.arena.now in
    let strikes = c.args.strikes.now in
    let i = c.loop-strike.strike-index in
    let none : length (proposals strikes) ≤ i = omega (arith, proposed strikes, c.loop-strike-test.false) in
    record {
      answered = answers_all A (proposals strikes) i _ _ _ none c.loop-strike.invariant.1;
      after = after_all A (proposals strikes) i _ _ none c.loop-strike.invariant.0;
      capacity = c.loop-strike.invariant.3;
    }
