use Rattle.worked_examples.proofs.Computed.{computed}
use Rattle.worked_examples.proofs.worked_examples.Goals as goal

pub returns-clause-examples : goal.returns-clause-examples
returns-clause-examples c = computed
