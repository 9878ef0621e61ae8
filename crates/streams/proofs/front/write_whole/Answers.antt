use Rattle.std.proofs.Common.{◌≤◌, ◌-◌, length, take, drop, sym, subst, arith, length-drop, length-take}
use Rattle.std.specs.Io.KnownBytes.{Appends}
use Rattle.streams.proofs.Came.{appends_more, appends_same, front_sent}
use Rattle.streams.proofs.front.write_whole.Goals as goal
use Rattle.streams.proofs.front.write_whole.Goals.{in-Ok, in-Err}

pub loop-turn-preserved : goal.loop-turn-preserved
loop-turn-preserved g c =
    let before = c.loop-turn.invariant in
    let written = c.loop-turn.written in
    let bytes = c.args.bytes.now in
    let rest = take (length bytes - written) (drop written bytes) in
    let old = g.W.Write.contents c.args.writer.now in
    let middle = g.W.Write.contents c.loop-turn.writer in
    let new = g.W.Write.contents c.write.new.self in
    elim c.match-write.branch [
      | in-Ok w ↦
          let count = w.in-Ok.count in
          let few : count ≤ length rest = w.in-Ok.ensures.bound in
          record {
            within = let long : length rest ≤ length bytes - written = simp (length-take, length-drop) (omega arith) in rw w.written-is (omega arith);
            sent = rw w.written-is (subst (Appends old new) (sym (front_sent written count bytes)) (appends_more old middle new (take written bytes) (take count rest) before.sent w.in-Ok.ensures.bytes));
          }
      | in-Err w ↦
          record {
            within = rw w.written-is before.within;
            sent = rw w.written-is (appends_same old middle new (take written bytes) before.sent w.in-Err.ensures.bytes);
          }
    ]
