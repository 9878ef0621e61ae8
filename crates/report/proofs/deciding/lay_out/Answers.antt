use Rattle.std.proofs.Common.{◌≡◌, ◌++◌, length, take, drop, sym, subst, ◌∙◌}
use Rattle.std.proofs.Math.Seq.{take-append_seam}
use Rattle.files.specs.SystemFile.{described}
use Rattle.systems.specs.Layout.{Holds}
use Rattle.report.proofs.deciding.lay_out.Goals as goal

pub returns-clause-held : goal.returns-clause-held
returns-clause-held c =
    let words = c.lay_out_in_front.new.words in
    let long : length words ≡ c.args.words.now.len = c.lay_out_in_front.auto.words ∙ c.deref_mut.ensures.len in
    let front : take c.args.words.now.len (words ++ drop (length words) c.args.words.now.items) ≡ words = rw (← long) (take-append_seam words _) in
    subst (Holds (described c.args.file.now.bytes.now c.args.file.now.place)) (sym front) c.lay_out_in_front.ensures
