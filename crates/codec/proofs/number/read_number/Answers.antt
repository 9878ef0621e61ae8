use Rattle.std.proofs.Common.{rules}
use Rattle.std.proofs.lemmas.List.{take_rest, drop-drop}
use Rattle.codec.proofs.number.read_number.Goals as goal

pub returns-then-first-lt-HIGH_BIT : goal.returns-then-first-lt-HIGH_BIT
returns-then-first-lt-HIGH_BIT c = simp take_rest (search rules)

pub returns-then-second-lt-HIGH_BIT : goal.returns-then-second-lt-HIGH_BIT
returns-then-second-lt-HIGH_BIT c = simp take_rest (simp drop-drop (search rules))

pub returns : goal.returns
returns c = simp take_rest (simp drop-drop (search rules))
