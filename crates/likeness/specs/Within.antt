-- Readings that differ by at most the tolerance of their channel.
use Rattle.std.specs.Prelude.{ℕ, ◌<◌, ◌≤◌, Bool, cond, List, ◌-ℤ◌, is_ok, Ok, Err, Option, Result, nat_le, nat_lt, position, slice_index, slice_set, unsigned_abs}
use Rattle.systems.specs.Layout.{layout_refusal}
use Rattle.systems.specs.Limits.{max_channels}
use Rattle.systems.specs.Meaning.{Reading}
use Rattle.systems.specs.declared.layout.LayoutFault.TheVariants.{Channels}
use Rattle.likeness.specs.declared.within.ToleranceFault.{ToleranceFault}
use Rattle.likeness.specs.declared.within.ToleranceFault.TheVariants.{NoChannel, TooWide}

-- the widest tolerance
abbrev pub max_tolerance : ℕ
max_tolerance = 1000

-- how many channels, from channel 0 on, can have a tolerance
abbrev pub tolerance_channels : ℕ
tolerance_channels = max_channels

-- the number of each refusal of a tolerance
abbrev pub tolerance_refusal : ToleranceFault → ℕ
tolerance_refusal NoChannel = layout_refusal Channels
tolerance_refusal TooWide = 27

-- no tolerance is wider than the widest
abbrev pub Mild : List ℕ → Type 0
Mild ts = (k : ℕ) → k < tolerance_channels → slice_index ts k ≤ max_tolerance

-- the first channel whose tolerance is wider than the widest, if there is one
abbrev pub first_too_wide : List ℕ → Option ℕ
first_too_wide ts = position (λ t. nat_lt max_tolerance t) ts

-- the tolerance of channel k: that of the list, and 0 where it can have none
abbrev pub tolerance_of : List ℕ → ℕ → ℕ
tolerance_of ts k = cond (nat_lt k tolerance_channels) (slice_index ts k) 0

-- whether two readings on channel k differ by at most its tolerance
abbrev pub within : List ℕ → ℕ → Reading → Reading → Bool
within ts k x y = nat_le (unsigned_abs (x -ℤ y)) (tolerance_of ts k)

-- what setting tolerance t on channel k answers
abbrev pub set_answer : ℕ → ℕ → Result (Unit {0}) ToleranceFault
set_answer k t =
    cond (nat_lt max_tolerance t) (Err TooWide) (cond (nat_lt k tolerance_channels) (Ok tt) (Err NoChannel))

-- the tolerances after setting tolerance t on channel k
abbrev pub tolerances_after : List ℕ → ℕ → ℕ → List ℕ
tolerances_after ts k t = cond (is_ok (set_answer k t)) (slice_set ts k t) ts
