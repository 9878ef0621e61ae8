-- Each worked example computes.
use Rattle.std.proofs.Common.{refl}
use Rattle.likeness.specs.SeaState.{class_of}
use Rattle.worked_examples.specs.Examples.{WorkedExamples}

pub computed : WorkedExamples
unfolding class_of
computed = record {
  largest_number = refl;
  number_too_large = refl;
  number_too_long = refl;
  class_of_125 = refl;
  class_of_126 = refl;
  within_4 = refl;
  not_within_3 = refl;
  joint_steps = refl;
  six_pairs = refl;
  two_stand = refl;
  larger_replaces = refl;
  ranks = refl;
  highest_rank = refl;
  sweeps = refl;
  swept_table = refl;
  ranks_accepted = refl;
  sweeps_accepted = refl;
  equal_entries_refused = refl;
}
