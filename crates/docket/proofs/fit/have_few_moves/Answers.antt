use Rattle.std.proofs.Common.{rules, refl, ◌&&◌, nat_le}
use Rattle.systems.proofs.Bounded.{all_below_from_all}
use Rattle.systems.specs.Limits.{max_moves}
use Rattle.docket.proofs.fit.have_few_moves.Goals as goal

pub returns : goal.returns
returns g c =
    λ controller environment gives.
    all_below_from_all (λ w. nat_le (controller w) max_moves && nat_le (environment w) max_moves) c.all.ensures.runs refl (λ k r h call. search (rules, gives))
