use Rattle.std.proofs.Common.{ap, ◌∙◌}
use Rattle.systems.specs.Layout.{stored}
use Rattle.description.proofs.Described.{of_file}
use Rattle.description.proofs.file.describe.Goals as goal

pub returns-clause-text : goal.returns-clause-text
returns-clause-text c =
    let bytes = c.args.bytes.now in
    let tested = c.in_ok-file.ensures in
    let held = rw (tested.bytes, tested.place) at c.in_ok-words.ensures in
    let system = ap stored c.deref.ensures.value ∙ held.1 in
    let end = rw (tested.bytes, tested.place) at c.end.ensures in
    of_file bytes _ _ _ _ c.most_words.ensures end system tested.answer c.in_ok-file_text.ensures
