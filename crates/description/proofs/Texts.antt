-- Texts that grow piece by piece.
use Rattle.std.proofs.Common.{ℕ, ◌+◌, List, add-one}
use Rattle.std.proofs.Output.{has_written_append}
use Rattle.std.specs.Fmt.{HasWritten}
use Rattle.std.specs.declared.fmt.Formatter.{Formatter}
use Rattle.systems.specs.Bounded.{joined_below}

-- a loop's turn: the text of the next number stands behind those of the numbers below it
pub written_more : {W : Type 0} (took : W → List ℕ → W → Type 0) (f g h : Formatter W) (k : ℕ) (text : ℕ → List ℕ) → HasWritten took f (joined_below k text) g → HasWritten took g (text k) h → HasWritten took f (joined_below (k + 1) text) h
written_more took f g h k text below here = rw add-one (has_written_append took f (joined_below k text) g (text k) h below here)
