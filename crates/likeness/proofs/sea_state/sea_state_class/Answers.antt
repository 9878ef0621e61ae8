use Rattle.std.proofs.Common.{◌≡◌, pos, rules}
use Rattle.std.proofs.lemmas.List.{at_drop_more}
use Rattle.likeness.specs.SeaState.{class_ends, class_of, ends_below}
use Rattle.likeness.proofs.Ascending.{in_class}
use Rattle.likeness.proofs.sea_state.sea_state_class.Goals as goal

pub loop-end-init : goal.loop-end-init
unfolding class_of
loop-end-init c = (search rules, search rules, λ n l. at_drop_more (ends_below _) class_ends n (pos 0) l)

pub returns : goal.returns
returns c =
    let counted : c.loop-end.class ≡ class_of c.args.height = search rules in
    record { answer = counted; rule = rw counted (in_class c.args.height) }
