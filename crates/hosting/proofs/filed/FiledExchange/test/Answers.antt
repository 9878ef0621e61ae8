use Rattle.std.proofs.Common.{◌≡◌, None, Some, rules, ap, ◌∙◌}
use Rattle.std.specs.Prelude.{option_map}
use Rattle.likeness.specs.Within.{first_too_wide, within}
use Rattle.docket.specs.Refusals.{opening_refusal}
use Rattle.docket.proofs.Refused.{no_refusal, refusal_of}
use Rattle.files.specs.SystemFile.{file_fault}
use Rattle.hosting.proofs.Taken.{fault_together}
use Rattle.hosting.specs.Files.{filed, lent_by, room}
use Rattle.hosting.specs.declared.fault.FilesFault.TheVariants.{Exchange}
use Rattle.hosting.proofs.filed.FiledExchange.test.Goals as goal

pub returns-in_err-check_together-clause-answer : goal.returns-in_err-check_together-clause-answer
returns-in_err-check_together-clause-answer c =
    let e = lent_by c.args.self.now in
    let t : first_too_wide e.tolerances ≡ None = search rules in
    let o : file_fault e.old_file 0 c.args.old_words ≡ None = search rules in
    let n : file_fault e.new_file 0 c.args.new_words ≡ None = search rules in
    let together = fault_together e (room c.args.old_words c.args.new_words c.args.entries) t o n in
    let old_bytes : c.in_ok-old.old.bytes.now ≡ e.old_file = search rules in
    let old_place : c.in_ok-old.old.place ≡ 0 = search rules in
    let new_bytes : c.in_ok-new.new.bytes.now ≡ e.new_file = search rules in
    let new_place : c.in_ok-new.new.place ≡ 0 = search rules in
    let refused : opening_refusal (filed e) c.args.entries ≡ Some c.in_err-check_together.field-0.0 = refusal_of _ _ _ (rw (old_bytes, old_place, new_bytes, new_place) at (c.in_err-check_together.ensures (within e.tolerances))) in
    let fault = together ∙ ap (option_map (λ refusal. Exchange refusal)) refused in
    search (rules, fault)

pub returns-clause-answer : goal.returns-clause-answer
returns-clause-answer c =
    let e = lent_by c.args.self.now in
    let t : first_too_wide e.tolerances ≡ None = search rules in
    let o : file_fault e.old_file 0 c.args.old_words ≡ None = search rules in
    let n : file_fault e.new_file 0 c.args.new_words ≡ None = search rules in
    let old_bytes : c.in_ok-old.old.bytes.now ≡ e.old_file = search rules in
    let old_place : c.in_ok-old.old.place ≡ 0 = search rules in
    let new_bytes : c.in_ok-new.new.bytes.now ≡ e.new_file = search rules in
    let new_place : c.in_ok-new.new.place ≡ 0 = search rules in
    let granted : opening_refusal (filed e) c.args.entries ≡ None = no_refusal _ _ _ (rw (old_bytes, old_place, new_bytes, new_place) at (c.in_ok-check_together.ensures (within e.tolerances))) in
    fault_together e (room c.args.old_words c.args.new_words c.args.entries) t o n ∙ ap (option_map (λ refusal. Exchange refusal)) granted
