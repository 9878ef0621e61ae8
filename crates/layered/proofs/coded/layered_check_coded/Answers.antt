use Rattle.std.proofs.Common.{◌≡◌, rules, sym, ap, ◌∙◌}
use Rattle.systems.specs.Meaning.{Meaning}
use Rattle.hosting.specs.Answers.{certificate_of}
use Rattle.layered.specs.Codes.{coded, coded_certificate, meant}
use Rattle.layered.specs.Layers.{check_says}
use Rattle.layered.proofs.coded.layered_check_coded.Goals as goal

pub returns-in-Ok : goal.returns-in-Ok
returns-in-Ok c =
    let tolerances = c.args.tolerances.now.channels in
    let table = c.args.table.now in
    let was : Meaning = meant c.in-Ok.sides.new in
    let is = coded c.args.old_words.now c.args.codes.now c.args.channel c.args.cut in
    let is' = coded c.args.new_words.now c.args.codes.now c.args.channel c.args.cut in
    let old : meant c.in-Ok.sides.old ≡ is = search (rules, c.in-Ok.ensures.old) in
    let new : was ≡ is' = search (rules, c.in-Ok.ensures.new) in
    c.of.ensures
    ∙ ap certificate_of (c.check.ensures ∙ ap (λ m. check_says tolerances m was table) old ∙ ap (λ m. check_says tolerances is m table) new)
    ∙ sym (ap (λ fault. coded_certificate fault (check_says tolerances is is' table)) c.in-Ok.ensures.fault)
