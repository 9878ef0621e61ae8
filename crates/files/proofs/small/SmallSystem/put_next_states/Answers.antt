use Rattle.files.specs.Flattening.{move_flattened}
use Rattle.files.proofs.Puts.{put_joined}
use Rattle.files.proofs.small.SmallSystem.put_next_states.Goals as goal

pub loop-controller-preserved : goal.loop-controller-preserved
loop-controller-preserved g c =
    let m = g.S.System.meaning c.args.self.now.system.now in
    put_joined c.loop-controller.controller (move_flattened m c.args.state) c.loop-controller.invariant c.put_move.ensures
