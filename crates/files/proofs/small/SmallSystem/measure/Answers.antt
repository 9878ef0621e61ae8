use Rattle.std.proofs.Common.{refl}
use Rattle.files.proofs.FileSize.{ends}
use Rattle.files.proofs.small.SmallSystem.measure.Goals as goal

pub returns : goal.returns
returns g c = ends (g.S.System.meaning c.args.self.now.system.now) c.args.self.now.few refl c.put.ensures
