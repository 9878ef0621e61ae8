use Rattle.std.proofs.Common.{sym, subst}
use Rattle.systems.proofs.LaidOut.{stored_words_laid_out}
use Rattle.systems.proofs.stored.Stored.new.Goals as goal
use Rattle.systems.specs.Layout.{LaidOut}

pub invariant_of-result : goal.invariant_of-result
invariant_of-result c =
    record { ok = subst LaidOut (sym c.words_or_resting.ensures) (stored_words_laid_out c.args.words.now) }
