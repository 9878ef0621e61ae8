use Rattle.std.proofs.Common.{◌≡◌, ℕ, ◌+◌, ◌*◌, add-mul, add-one, one-mul, ap, ◌∙◌, arith}
use Rattle.systems.specs.Words.{rewritten, with_next_of, with_next_states}
use Rattle.codec.specs.Sequence.{nth}
use Rattle.codec.proofs.Skips.{nth-skip, skip-skip}
use Rattle.files.proofs.rows.write_next_states.Goals as goal

-- one controller move more
one_move : (a q : ℕ) → (a + 1) * q ≡ a * q + q
one_move a q = grind (arith, add-mul, one-mul)

pub loop-controller_move-preserved : goal.loop-controller_move-preserved
loop-controller_move-preserved c =
    let bytes = c.args.reader.now.bytes in
    let start = c.args.reader.now.place in
    let row = c.args.row.now in
    let q = c.args.environment in
    let a = c.loop-controller_move.controller_move in
    let next : ℕ → ℕ → ℕ = λ i b. nth bytes (i * q + b) start in
    let all : c.loop-environment_move.environment_move ≡ q = omega (arith, c.loop-environment_move-test.false, c.loop-environment_move.auto.environment_move-end) in
    let begun = c.loop-controller_move.invariant in
    let ended = rw (all, begun.reads, begun.written) at c.loop-environment_move.invariant in
    record {
      reads = rw (one_move a q, skip-skip bytes (a * q) q start) ended.reads;
      written = rw add-one
          (ended.written ∙ ap (λ (f : ℕ → ℕ). rewritten row (with_next_of row.channels (with_next_states row.channels row.words.now a q next) a q f)) (nth-skip bytes (a * q) start));
    }
