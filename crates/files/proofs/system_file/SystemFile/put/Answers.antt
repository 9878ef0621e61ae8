use Rattle.std.proofs.Common.{◌≡◌, ℕ, ◌+◌, ◌-◌, ◌<◌, ◌≤◌, List, length, length-drop, length-take, drop, take, sym, ap, ◌∙◌, subst, arith}
use borrow.Rule.Slice.PartMut.{put_mid}
use Rattle.codec.proofs.Puts.{put_is, drop-put}
use Rattle.systems.specs.Rows.{of_rows}
use Rattle.systems.specs.Words.{system_words}
use Rattle.files.specs.Flattening.{ReadsAsFiled}
use Rattle.files.specs.SystemFile.{FewMoves, described, file_rows, row_start}
use Rattle.files.specs.declared.check.TestedFile.{TestedFile}
use Rattle.files.proofs.Described.{described_is, reads_as_filed}
use Rattle.files.proofs.Tested.{granted}
use Rattle.files.proofs.system_file.SystemFile.put.Goals as goal

-- a part of so many words
part_long : (memory : List ℕ) (at n : ℕ) → at + n ≤ length memory → length (take (at + n - at) (drop at memory)) ≡ n
part_long memory at n h = simp (length-take, length-drop) (omega arith)

pub write_words-requires : goal.write_words-requires
write_words-requires c =
    let self = c.args.self.now in
    let bytes = self.bytes.now in
    let file = granted bytes self.place (length c.args.memory.now) c.args.at self.parts c.requires.room self.tested in
    let few : TestedFile → Type 0 = λ f. (w : ℕ) → w < f.sizes.states → FewMoves bytes f.sizes.channels (row_start bytes f.sizes.channels f.start w) in
    record {
      long = part_long c.args.memory.now c.args.at self.parts.words file.inside ∙ file.words_are;
      few_moves = rw c.new.ensures (subst few (sym file.is) (λ w l. let row = file.tested.rows w l in (row.controller.high, row.environment.high)));
    }

pub returns : goal.returns
returns c =
    let self = c.args.self.now in
    let bytes = self.bytes.now in
    let place = self.place in
    let memory = c.args.memory.now in
    let at = c.args.at in
    let file = granted bytes place (length memory) at self.parts c.requires.room self.tested in
    let words = c.write_words.new.words in
    let m = described bytes place in
    let long : length words ≡ self.parts.words = c.write_words.auto.words ∙ part_long memory at self.parts.words file.inside in
    let Laid : TestedFile → Type 0 = λ f. words ≡ system_words (of_rows f.sizes.states f.sizes.channels (file_rows bytes f.sizes.channels f.start)) in
    let laid : words ≡ system_words m = subst Laid file.is (rw c.new.ensures at c.write_words.ensures) ∙ ap system_words (described_is bytes place) in
    let after : List ℕ = drop at (put_mid at (at + self.parts.words - at) memory words) in
    let exit = put_is memory words (system_words m) at self.parts.words laid (sym long ∙ ap length laid) in
    let behind = ap (drop at) exit ∙ drop-put memory (system_words m) at (omega (arith, file.inside)) in
    let read = reads_as_filed bytes place (length memory - at) file.tested after (drop (at + length (system_words m)) memory) behind in
    record {
      answer = ap (λ f. record { words = f.words; end = f.end }) file.is;
      words = exit;
      system = read.0;
      filed = subst (λ end. ReadsAsFiled bytes place end after) (sym (ap (λ f. f.end) file.is)) read.1;
    }
