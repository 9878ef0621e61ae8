use Rattle.std.proofs.Common.{ap, ◌∙◌}
use Rattle.hosting.specs.Answers.{ranks_of, words_refusal}
use Rattle.layered.proofs.joints.layered_rank_joints.Goals as goal

pub returns-clause-answer : goal.returns-clause-answer
returns-clause-answer c =
    let old = c.joint-old.ensures in
    let new = c.joint-new.ensures in
    c.of_words.ensures ∙ ap (ranks_of words_refusal) (rw (old.first, old.second, new.first, new.second) at c.rank.ensures.answer)

pub returns-clause-table : goal.returns-clause-table
returns-clause-table c =
    let old = c.joint-old.ensures in
    let new = c.joint-new.ensures in
    rw (old.first, old.second, new.first, new.second) at c.rank.ensures.table
