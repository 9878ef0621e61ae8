-- The system that lent words hold.
use Rattle.std.specs.Prelude.{ℕ, List}
use Rattle.systems.specs.Layout.{stored, stored_words}
use Rattle.systems.specs.Meaning.{Meaning}

-- the stored system; the resting system where the words have not the layout
abbrev pub held : List ℕ → Meaning
held words = stored (stored_words words)
