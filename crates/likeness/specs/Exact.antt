-- Equal readings.
use Rattle.std.specs.Prelude.{Bool}
use Rattle.systems.specs.Meaning.{Reading, same_reading}

-- on every channel, equal readings are alike
abbrev pub exact : Reading → Reading → Bool
exact = same_reading
