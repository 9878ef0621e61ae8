use Rattle.std.proofs.Common.{◌≡◌, ◌-◌, ◌++◌, length, drop, sym, subst, refl, arith, length-append}
use Rattle.files.specs.Flattening.{flattened}
use Rattle.files.specs.SystemWrite.{ReadsBack, system_bytes}
use Rattle.codec.proofs.Puts.{Spells-spelled}
use Rattle.files.proofs.Complete.{reads_back}
use Rattle.files.proofs.FileSize.{stands}
use Rattle.files.proofs.small.SmallSystem.put_in_front.Goals as goal

pub returns : goal.returns
returns g c =
    let m = g.S.System.meaning c.args.self.now.system.now in
    let few = c.args.self.now.few in
    let wrote = c.put.ensures in
    let file = system_bytes m in
    let rest = drop (length file) c.args.bytes.now in
    let is = stands m few refl wrote c.requires in
    let count : length (file ++ rest) - length rest ≡ length file = omega (arith, length-append file rest) in
    let back = reads_back m (g.S.System.lawful c.args.self.now.system.now) few (file ++ rest) rest (Spells-spelled (flattened m) rest wrote.small) in
    record {
      bytes = is;
      reads_back = subst (λ b. ReadsBack m b (length file)) (sym is) (subst (ReadsBack m (file ++ rest)) count back);
    }
