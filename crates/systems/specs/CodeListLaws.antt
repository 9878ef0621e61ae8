-- That a lawful system with a list of codes is lawful.
use Rattle.std.specs.Prelude.{ℕ, List, nat_lt}
use Rattle.std.proofs.Common.{◌∙◌}
use Rattle.std.proofs.lemmas.Bool.{and_left, and_right, cond-false, le-ltb}
use Rattle.systems.specs.CodeList.{code_list}
use Rattle.systems.specs.Meaning.{Meaning, Lawful, Reading}
use Rattle.systems.specs.declared.codes.CodeEntry.{CodeEntry}

-- the laws of systems hold of a list of codes where they hold of its system
pub code_list_lawful : (m : Meaning) (channel : ℕ) (entries : List CodeEntry) (cut : Reading) → Lawful m → Lawful (code_list m channel entries cut)
code_list_lawful m channel entries cut f = record {
  some_state = f.some_state;
  states_bound = f.states_bound;
  some_channel = f.some_channel;
  channels_bound = f.channels_bound;
  some_controller_move = f.some_controller_move;
  controller_moves_bound = f.controller_moves_bound;
  some_environment_move = f.some_environment_move;
  environment_moves_bound = f.environment_moves_bound;
  next_bound = f.next_bound;
  no_state_reading = λ w k h. cond-false _ _ _ (and_left _ _ (le-ltb w m.states h)) ∙ f.no_state_reading w k h;
  no_channel_reading = λ w k h.
      cond-false _ _ _ (and_right (nat_lt w m.states) _ (and_left _ _ (le-ltb k m.channels h))) ∙ f.no_channel_reading w k h;
  no_state_controller = f.no_state_controller;
  no_state_environment = f.no_state_environment;
  no_controller_next = f.no_controller_next;
  no_environment_next = f.no_environment_next;
}
