use Rattle.std.proofs.Common.{◌≡◌, ◌+◌, ◌-◌, length, take, drop, sym, subst, arith, length-drop, length-take}
use borrow.Rule.Slice.PartMut.{put_mid, same_len_mid, take_put}
use Rattle.std.specs.Io.KnownBytes.{Consumes}
use Rattle.streams.proofs.Came.{consumes_more, consumes_same, front_more}
use Rattle.streams.proofs.front.read_front.Goals as goal
use Rattle.streams.proofs.front.read_front.Goals.{in-Ok, in-Err}

pub loop-turn-preserved : goal.loop-turn-preserved
loop-turn-preserved g c =
    let before = c.loop-turn.invariant in
    let filled = c.loop-turn.filled in
    let buffer = c.loop-turn.buffer in
    let part = c.read.new.buf in
    let k = length buffer - filled in
    let old = g.R.Read.remaining c.args.reader.now in
    let middle = g.R.Read.remaining c.loop-turn.reader in
    let new = g.R.Read.remaining c.read.new.self in
    let lent : length (take k (drop filled buffer)) ≡ k = simp (length-take, length-drop) (omega arith) in
    let room : filled + length part ≡ length buffer = omega (arith, c.read.auto.buf, lent) in
    let same : length (put_mid filled k buffer part) ≡ length buffer = same_len_mid filled k buffer part c.read.auto.buf in
    elim c.match-read.branch [
      | in-Ok w ↦
          let count = w.in-Ok.count in
          let front = front_more filled count k buffer part before.within w.in-Ok.ensures.bound.0 in
          record {
            within = rw w.filled-is (omega (arith, w.in-Ok.ensures.bound.0));
            came = rw w.filled-is (subst (Consumes old new) (sym front) (consumes_more old middle new (take filled buffer) (take count part) before.came w.in-Ok.ensures.bytes.0));
          }
      | in-Err w ↦
          record {
            within = rw w.filled-is (omega arith);
            came = rw w.filled-is (subst (Consumes old new) (sym (take_put filled k buffer part before.within)) (consumes_same old middle new (take filled buffer) before.came w.in-Err.ensures.bytes));
          }
    ]
