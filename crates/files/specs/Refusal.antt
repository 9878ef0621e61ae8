-- The numbers of the refusals of a system file: those of a number that cannot be read, and those of the layout check.
use Rattle.std.specs.Prelude.{ℕ}
use Rattle.codec.specs.Number.{number_refusal}
use Rattle.systems.specs.Layout.{layout_refusal}
use Rattle.systems.specs.declared.layout.LayoutFault.TheVariants.{States as LayoutStates, Channels as LayoutChannels, TooShort as LayoutTooShort, Moves as LayoutMoves, NextState as LayoutNextState}
use Rattle.files.specs.declared.fault.Reason.{Reason}
use Rattle.files.specs.declared.fault.Reason.TheVariants.{Number, States, Channels, TooShort, Moves, NextState}

-- the number of the refusal
abbrev pub refusal : Reason → ℕ
refusal (Number fault) = number_refusal fault
refusal States = layout_refusal LayoutStates
refusal Channels = layout_refusal LayoutChannels
refusal TooShort = layout_refusal LayoutTooShort
refusal Moves = layout_refusal LayoutMoves
refusal NextState = layout_refusal LayoutNextState
