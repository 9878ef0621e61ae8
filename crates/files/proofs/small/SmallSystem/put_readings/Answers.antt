use Rattle.std.proofs.Common.{ap, ◌∙◌, w16, SFits, rules}
use Rattle.std.proofs.lemmas.Int.{to_z-of_z}
use Rattle.codec.specs.Filing.{filed}
use Rattle.files.proofs.Puts.{put_listed}
use Rattle.files.proofs.small.SmallSystem.put_readings.Goals as goal

pub loop-channel-preserved : goal.loop-channel-preserved
loop-channel-preserved g c =
    let m = g.S.System.meaning c.args.self.now.system.now in
    let fits : SFits w16 c.reading.result = search rules in
    let value = c.file_reading.ensures.answer ∙ ap filed (to_z-of_z w16 c.reading.result fits ∙ c.reading.ensures) in
    put_listed c.loop-channel.channel (λ k. filed (m.reading c.args.state k)) c.loop-channel.invariant c.put_number.ensures value
