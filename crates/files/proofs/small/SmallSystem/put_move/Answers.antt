use Rattle.std.proofs.Common.{refl}
use Rattle.files.proofs.Puts.{put_listed}
use Rattle.files.proofs.small.SmallSystem.put_move.Goals as goal

pub loop-environment-preserved : goal.loop-environment-preserved
loop-environment-preserved g c =
    let m = g.S.System.meaning c.args.self.now.system.now in
    put_listed c.loop-environment.environment (m.next c.args.state c.args.controller) c.loop-environment.invariant c.put_next_state.ensures refl
