use Rattle.std.proofs.Common.{Ok, Err, ap, ◌∙◌}
use Rattle.docket.specs.Position.{position}
use Rattle.systems.specs.Layout.{stored}
use Rattle.docket.specs.declared.decision.DecideError.TheVariants.{Refused}
use Rattle.report.proofs.Told.{answered_of, begun_from, decided_of, exchange_is, refused, tells}
use Rattle.report.proofs.deciding.decide.Goals as goal

pub returns-in-Ok-clause-told : goal.returns-in-Ok-clause-told
returns-in-Ok-clause-told c =
    let input = c.args.input.now in
    let bytes = input.bytes.now in
    let read = c.requires in
    let old_held = rw (read.old.bytes, read.old.place) at c.lay_out.ensures.held in
    let new_held = rw (read.new.bytes, read.new.place) at c.lay_out-2.ensures.held in
    let old = ap stored c.deref.ensures.value ∙ old_held.1 in
    let new = ap stored c.deref-2.ensures.value ∙ new_held.1 in
    let A = exchange_is bytes _ _ _ old new read.tolerances in
    let table = begun_from _ _ (c.deref_mut.ensures.value ∙ c.clear-3.ensures.entries) c.args.work.now.entries in
    let proposed = c.deref-3.ensures.value ∙ rw read.list_place at c.read_strikes.ensures.strikes in
    let after = position c.decide.new.self c.decide.new.table in
    tells bytes c.in-Ok.outcome after (decided_of bytes _ _ _ _ (Ok c.in-Ok.outcome) after A c.new.ensures table proposed c.in-Ok.ensures.decided)

pub returns-in-Ok-clause-answers : goal.returns-in-Ok-clause-answers
returns-in-Ok-clause-answers c =
    let input = c.args.input.now in
    let bytes = input.bytes.now in
    let read = c.requires in
    let old_held = rw (read.old.bytes, read.old.place) at c.lay_out.ensures.held in
    let new_held = rw (read.new.bytes, read.new.place) at c.lay_out-2.ensures.held in
    let old = ap stored c.deref.ensures.value ∙ old_held.1 in
    let new = ap stored c.deref-2.ensures.value ∙ new_held.1 in
    let A = exchange_is bytes _ _ _ old new read.tolerances in
    let table = begun_from _ _ (c.deref_mut.ensures.value ∙ c.clear-3.ensures.entries) c.args.work.now.entries in
    let proposed = c.deref-3.ensures.value ∙ rw read.list_place at c.read_strikes.ensures.strikes in
    answered_of bytes _ _ _ _ (Ok c.in-Ok.outcome) _ A c.new.ensures table proposed (rw c.clear-2.ensures.items at c.in-Ok.ensures.answered)

pub returns-in-Err-Refused-clause-told : goal.returns-in-Err-Refused-clause-told
returns-in-Err-Refused-clause-told c =
    let input = c.args.input.now in
    let bytes = input.bytes.now in
    let read = c.requires in
    let old_held = rw (read.old.bytes, read.old.place) at c.lay_out.ensures.held in
    let new_held = rw (read.new.bytes, read.new.place) at c.lay_out-2.ensures.held in
    let old = ap stored c.deref.ensures.value ∙ old_held.1 in
    let new = ap stored c.deref-2.ensures.value ∙ new_held.1 in
    let A = exchange_is bytes _ _ _ old new read.tolerances in
    let table = begun_from _ _ (c.deref_mut.ensures.value ∙ c.clear-3.ensures.entries) c.args.work.now.entries in
    let proposed = c.deref-3.ensures.value ∙ rw read.list_place at c.read_strikes.ensures.strikes in
    let after = position c.decide.new.self c.decide.new.table in
    rw read.list_place (refused bytes after c.in-Err-Refused.refusal (decided_of bytes _ _ _ _ (Err (Refused c.in-Err-Refused.refusal)) after A c.new.ensures table proposed (rw c.in-Err-Refused.field-0-is at c.in-Err-Refused.ensures.decided)))
