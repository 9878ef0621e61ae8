use Rattle.std.proofs.Common.{◌∷◌}
use Rattle.files.specs.Flattening.{readings_flattened, next_flattened}
use Rattle.files.proofs.Puts.{put_first, put_then}
use Rattle.files.proofs.small.SmallSystem.put_row.Goals as goal

pub returns : goal.returns
returns g c =
    let m = g.S.System.meaning c.args.self.now.system.now in
    let w = c.args.state in
    let p = rw c.controller_moves.ensures at c.put_number.ensures in
    let q = rw c.environment_moves.ensures at c.put_number-2.ensures in
    put_then (readings_flattened m w) (m.controller_moves w ∷ m.environment_moves w ∷ next_flattened m w) c.put_readings.ensures
    (put_first (m.controller_moves w) (m.environment_moves w ∷ next_flattened m w) p
    (put_first (m.environment_moves w) (next_flattened m w) q c.put_next_states.ensures))
