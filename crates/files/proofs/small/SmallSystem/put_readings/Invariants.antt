use Rattle.codec.specs.Filing.{filed}
use Rattle.systems.specs.Bounded.{listed_below}
use Rattle.files.specs.Wrote.{Wrote}
use Rattle.files.proofs.small.SmallSystem.put_readings.Given as goal

abbrev pub invariant-loop-channel : goal.invariant-loop-channel
invariant-loop-channel g l = Wrote l.initial.writer (listed_below l.channel λ k. filed ((g.S.System.meaning l.self.system.now).reading l.state k)) l.writer
