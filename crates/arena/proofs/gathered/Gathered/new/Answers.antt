use Rattle.std.proofs.Common.{rules}
use Rattle.arena.proofs.gathered.Gathered.new.Goals as goal

pub invariant_of-result : goal.invariant_of-result
invariant_of-result g c =
    let A = g.A.Arena.view c.args.arena.now in
    record {
      old_count = c.old_states-old_states.ensures;
      new_count = c.new_states-new_states.ensures;
      old_controller = c.gather.ensures.controller A.old_controller_moves (search rules);
      old_environment = c.gather.ensures.environment A.old_environment_moves (search rules);
      old_next = c.gather.ensures.next A.old_next (search rules);
      new_controller = c.gather-2.ensures.controller A.new_controller_moves (search rules);
      new_environment = c.gather-2.ensures.environment A.new_environment_moves (search rules);
      new_next = c.gather-2.ensures.next A.new_next (search rules);
    }
