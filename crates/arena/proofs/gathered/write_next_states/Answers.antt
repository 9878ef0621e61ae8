use Rattle.std.proofs.Common.{◌+◌, ◌*◌, ◌<◌, length, sym, ◌∙◌, arith}
use Rattle.arena.specs.Gathered.{next_at}
use Rattle.arena.proofs.Slots.{next_at_slot, one_more}
use Rattle.arena.proofs.gathered.write_next_states.Goals as goal

pub loop-controller-init : goal.loop-controller-init
loop-controller-init g c = λ to h k l. c.loop-state.invariant to h k (omega arith)

pub loop-environment-init : goal.loop-environment-init
loop-environment-init g c = λ to h k l. c.loop-controller.invariant to h k (omega arith)

pub loop-environment-preserved : goal.loop-environment-preserved
loop-environment-preserved g c =
    λ to h k l.
    let w = c.loop-state.state in
    let a = c.loop-controller.controller in
    let b = c.loop-environment.environment in
    let slots = c.loop-environment.slots in
    let room : w * 256 + a * 16 + b < length slots = omega arith in
    let here = h w a b c.next.result c.next.ensures ∙ sym (next_at_slot to w a b c.loop-controller-test.true c.loop-environment-test.true) in
    rw c.slot_of.ensures (one_more (next_at to) (w * 256 + a * 16 + b) c.next.result slots room (c.loop-environment.invariant to h) here k (omega arith))

pub loop-controller-preserved : goal.loop-controller-preserved
loop-controller-preserved g c = λ to h k l. c.loop-environment.invariant to h k (omega arith)

pub loop-state-preserved : goal.loop-state-preserved
loop-state-preserved g c = λ to h k l. c.loop-controller.invariant to h k (omega arith)

pub returns : goal.returns
returns g c = λ to h k l. c.loop-state.invariant to h k (omega arith)
