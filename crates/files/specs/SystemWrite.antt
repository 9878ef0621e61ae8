-- Writing a system as the bytes of its file.
use Rattle.std.specs.Prelude.{◌≡◌, ℕ, ◌≤◌, Bool, cond, not, ◌&&◌, List, length, Some, None, Option, nat_le, nat_lt}
use Rattle.codec.specs.Number.{write_refusal}
use Rattle.codec.specs.Sequence.{spelled}
use Rattle.codec.specs.declared.number.WriteFault.TheVariants.{TooFewBytes as NumberTooFewBytes}
use Rattle.systems.specs.Bounded.{all_below}
use Rattle.systems.specs.Layout.{layout_refusal, words_taken}
use Rattle.systems.specs.Limits.{max_channels, max_moves, max_states}
use Rattle.systems.specs.Meaning.{Meaning}
use Rattle.systems.specs.declared.layout.LayoutFault.TheVariants.{States as LayoutStates, Channels as LayoutChannels, Moves as LayoutMoves}
use Rattle.files.specs.Flattening.{flattened}
use Rattle.files.specs.SystemFile.{described, file_fault, file_read}
use Rattle.files.specs.declared.system_write.SystemWriteFault.{SystemWriteFault}
use Rattle.files.specs.declared.system_write.SystemWriteFault.TheVariants.{States, Channels, Moves, TooFewBytes}

-- the number of each reason why a system is not written
abbrev pub system_write_refusal : SystemWriteFault → ℕ
system_write_refusal States = layout_refusal LayoutStates
system_write_refusal Channels = layout_refusal LayoutChannels
system_write_refusal Moves = layout_refusal LayoutMoves
system_write_refusal TooFewBytes = write_refusal NumberTooFewBytes

-- the file of a system
abbrev pub system_bytes : Meaning → List ℕ
system_bytes m = spelled (flattened m)

-- whether each side has no more moves at state w than a stored system may have
abbrev pub few_moves : Meaning → ℕ → Bool
few_moves m w = nat_le (m.controller_moves w) max_moves && nat_le (m.environment_moves w) max_moves

-- why the system cannot be written into so many bytes, if it cannot
abbrev pub write_fault : Meaning → ℕ → Option SystemWriteFault
write_fault m room =
    cond (nat_lt max_states m.states) (Some States)
    (cond (nat_lt max_channels m.channels) (Some Channels)
    (cond (not (all_below m.states (few_moves m))) (Some Moves)
    (cond (nat_lt room (length (system_bytes m))) (Some TooFewBytes) None)))

-- the bytes are the file of the system and take so many: read back into enough words, it is that system
pub record ReadsBack (m : Meaning) (bytes : List ℕ) (count : ℕ) : Type 0 where
  pub granted : (room : ℕ) → words_taken m.states m.channels ≤ room → file_fault bytes 0 room ≡ None
  pub end : (file_read bytes 0).end ≡ count
  pub same : described bytes 0 ≡ m
