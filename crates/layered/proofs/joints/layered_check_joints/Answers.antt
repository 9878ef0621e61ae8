use Rattle.std.proofs.Common.{ap, ◌∙◌}
use Rattle.hosting.specs.Answers.{certificate_of}
use Rattle.layered.proofs.joints.layered_check_joints.Goals as goal

pub returns : goal.returns
returns c =
    let old = c.joint-old.ensures in
    let new = c.joint-new.ensures in
    c.of.ensures ∙ ap certificate_of (rw (old.first, old.second, new.first, new.second) at c.check.ensures)
