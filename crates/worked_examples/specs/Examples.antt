-- The worked examples.
use Rattle.std.specs.Prelude.{◌≡◌, ℕ, true, false, List, [], ◌∷◌, replicate, pos, Ok, Err}
use Rattle.codec.specs.Number.{number}
use Rattle.codec.specs.declared.number.NumberFault.TheVariants.{TooLarge, TooLong}
use Rattle.systems.specs.Buffer.{buffer}
use Rattle.systems.specs.Joint.{joint}
use Rattle.likeness.specs.Exact.{exact}
use Rattle.likeness.specs.SeaState.{class_of}
use Rattle.likeness.specs.Within.{within}
use Rattle.arena.specs.Arena.{Arena}
use Rattle.arena.specs.Exchange.{exchange}
use Rattle.arena.specs.Table.{number_standing, pairs, start_stands}
use Rattle.arena.specs.Written.{all_standing}
use Rattle.docket.specs.Certificate.{certificate_says}
use Rattle.docket.specs.Decide.{decision, full_budget}
use Rattle.docket.specs.Position.{Position, closed, position}
use Rattle.docket.specs.Run.{after, answers}
use Rattle.docket.specs.declared.call.Call.{Call}
use Rattle.docket.specs.declared.call.Call.TheVariants.{Open, Sweep}
use Rattle.docket.specs.declared.call.Grant.TheVariants.{Opened, Swept}
use Rattle.docket.specs.declared.certificate.CertificateFault.TheVariants.{Unfounded}
use Rattle.ranking.specs.Rank.{rank_does, rank_says}

-- how many there are
abbrev pub example_count : ℕ
example_count = 18

-- the exchange of a buffer of one capacity for one of another, compared exactly
abbrev pub buffers : ℕ → ℕ → Arena
buffers old new = exchange (buffer old) (buffer new) (λ _. exact)

-- a closed docket and a table for six pairs
abbrev pub begun : Position
begun = position closed (all_standing 6)

-- an opening and four full sweeps
abbrev pub four_sweeps : List Call
four_sweeps = Open ∷ Sweep full_budget ∷ Sweep full_budget ∷ Sweep full_budget ∷ Sweep full_budget ∷ []

-- Every worked example.
pub record WorkedExamples : Type 0 where
  pub largest_number : number (255 ∷ 255 ∷ 3 ∷ []) ≡ Ok (65535, [])
  pub number_too_large : number (128 ∷ 128 ∷ 4 ∷ []) ≡ Err TooLarge
  pub number_too_long : number (128 ∷ 128 ∷ 128 ∷ []) ≡ Err TooLong
  pub class_of_125 : class_of (pos 125) ≡ 3
  pub class_of_126 : class_of (pos 126) ≡ 4
  pub within_4 : within (replicate 8 4) 0 (pos 5) (pos 9) ≡ true
  pub not_within_3 : within (replicate 8 3) 0 (pos 5) (pos 9) ≡ false
  pub joint_steps : (joint (buffer 1) (buffer 1)).next 0 5 1 ≡ 2
  pub six_pairs : pairs (buffers 1 2) ≡ 6
  pub two_stand : number_standing (buffers 1 2) (decision (buffers 1 2) begun []).position.table ≡ 2
  pub larger_replaces : start_stands (buffers 1 2) (decision (buffers 1 2) begun []).position.table ≡ true
  pub ranks : rank_does (buffers 2 1) (all_standing 6) ≡ 3 ∷ 1 ∷ 1 ∷ 2 ∷ 1 ∷ 1 ∷ []
  pub highest_rank : rank_says (buffers 2 1) (all_standing 6) ≡ Ok 3
  pub sweeps : answers (buffers 2 1) begun four_sweeps ≡ Ok (Opened 6) ∷ Ok (Swept 4) ∷ Ok (Swept 1) ∷ Ok (Swept 1) ∷ Ok (Swept 0) ∷ []
  pub swept_table : (after (buffers 2 1) begun four_sweeps).table ≡ 6 ∷ 1 ∷ 2 ∷ 5 ∷ 3 ∷ 4 ∷ []
  pub ranks_accepted : certificate_says (buffers 2 1) (3 ∷ 1 ∷ 1 ∷ 2 ∷ 1 ∷ 1 ∷ []) ≡ Ok (record { standing = 0; replaces = false })
  pub sweeps_accepted : certificate_says (buffers 2 1) (6 ∷ 1 ∷ 2 ∷ 5 ∷ 3 ∷ 4 ∷ []) ≡ Ok (record { standing = 0; replaces = false })
  pub equal_entries_refused : certificate_says (buffers 2 1) (3 ∷ 1 ∷ 1 ∷ 3 ∷ 1 ∷ 1 ∷ []) ≡ Err (Unfounded (0, 0))
