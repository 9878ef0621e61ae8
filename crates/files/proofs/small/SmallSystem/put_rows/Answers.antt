use Rattle.files.specs.Flattening.{row_flattened}
use Rattle.files.proofs.Puts.{put_joined}
use Rattle.files.proofs.small.SmallSystem.put_rows.Goals as goal

pub loop-state-preserved : goal.loop-state-preserved
loop-state-preserved g c =
    let m = g.S.System.meaning c.args.self.now.system.now in
    put_joined c.loop-state.state (row_flattened m) c.loop-state.invariant c.put_row.ensures
