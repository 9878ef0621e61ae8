use Rattle.std.proofs.Common.{ap, ◌∙◌}
use Rattle.systems.specs.Layout.{stored}
use Rattle.description.proofs.Described.{of_input}
use Rattle.description.proofs.input.describe_input.Goals as goal

pub returns-clause-text : goal.returns-clause-text
returns-clause-text c =
    let bytes = c.args.input.now in
    let read = c.in_ok-read.ensures.1 in
    let old_held = rw (read.old.bytes, read.old.place) at c.in_ok-old_words.ensures in
    let new_held = rw (read.new.bytes, read.new.place) at c.in_ok-new_words.ensures in
    let old = ap stored c.deref.ensures.value ∙ old_held.1 in
    let new = ap stored c.deref-2.ensures.value ∙ new_held.1 in
    let tolerance = rw read.tolerances at c.tolerance.ensures in
    (c.in_ok-read.ensures.0, of_input bytes _ _ _ _ _ tolerance old new read.list_place c.in_ok-to_string.ensures.ok)
