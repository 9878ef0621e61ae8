use Rattle.std.proofs.Common.{◌≡◌, rules, sym, ap, ◌∙◌}
use Rattle.systems.specs.Meaning.{Meaning}
use Rattle.systems.specs.Refused.{if_granted}
use Rattle.hosting.specs.Answers.{decision_of, words_refusal}
use Rattle.layered.specs.Codes.{coded, coded_decision, meant}
use Rattle.layered.specs.Layers.{decide_says, decide_does}
use Rattle.layered.proofs.coded.layered_decide_coded.Goals as goal

pub returns-in-Ok-clause-answer : goal.returns-in-Ok-clause-answer
returns-in-Ok-clause-answer c =
    let tolerances = c.args.tolerances.now.channels in
    let table = c.args.table.now in
    let was : Meaning = meant c.in-Ok.sides.new in
    let is = coded c.args.old_words.now c.args.codes.now c.args.channel c.args.cut in
    let is' = coded c.args.new_words.now c.args.codes.now c.args.channel c.args.cut in
    let old : meant c.in-Ok.sides.old ≡ is = search (rules, c.in-Ok.ensures.old) in
    let new : was ≡ is' = search (rules, c.in-Ok.ensures.new) in
    c.of_words.ensures
    ∙ ap (decision_of words_refusal) (c.decide.ensures.answer ∙ ap (λ m. decide_says tolerances m was table) old ∙ ap (λ m. decide_says tolerances is m table) new)
    ∙ sym (ap (λ fault. coded_decision fault (decide_says tolerances is is' table)) c.in-Ok.ensures.fault)

pub returns-in-Ok-clause-table : goal.returns-in-Ok-clause-table
returns-in-Ok-clause-table c =
    let tolerances = c.args.tolerances.now.channels in
    let table = c.args.table.now in
    let was : Meaning = meant c.in-Ok.sides.new in
    let is = coded c.args.old_words.now c.args.codes.now c.args.channel c.args.cut in
    let is' = coded c.args.new_words.now c.args.codes.now c.args.channel c.args.cut in
    let old : meant c.in-Ok.sides.old ≡ is = search (rules, c.in-Ok.ensures.old) in
    let new : was ≡ is' = search (rules, c.in-Ok.ensures.new) in
    c.decide.ensures.table
    ∙ ap (λ m. decide_does tolerances m was table) old ∙ ap (λ m. decide_does tolerances is m table) new
    ∙ sym (ap (λ fault. if_granted fault (decide_does tolerances is is' table) table) c.in-Ok.ensures.fault)
