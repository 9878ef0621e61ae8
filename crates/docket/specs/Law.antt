-- The law over runs.
use Rattle.std.specs.Prelude.{◌≡◌, ℕ, ◌+◌, ◌<◌, true, false, List, ◌++◌, Ok, Err, Result}
use Rattle.arena.specs.Arena.{Arena}
use Rattle.arena.specs.Pairs.{Largest, Relation, Simulation}
use Rattle.arena.specs.Table.{number_standing, standing, stands}
use Rattle.docket.specs.Certificate.{Certifies, certificate, certificate_says}
use Rattle.docket.specs.Position.{Position}
use Rattle.docket.specs.Run.{after, was_opened}
use Rattle.docket.specs.Settle.{settle_says}
use Rattle.docket.specs.Strikes.{strike_says}
use Rattle.docket.specs.declared.call.Call.{Call}
use Rattle.docket.specs.declared.refusal.Refusal.{Refusal}
use Rattle.docket.specs.declared.strike.Settlement.{Settlement}
use Rattle.docket.specs.declared.strike.Settlement.TheVariants.{Settled, Loose}

-- What a settle check that says settled tells: the standing pairs are the largest simulation, so many they are, and the certificate check accepts the table.
pub record SettledRight (A : Arena) (x : Position) (n : ℕ) : Type 0 where
  pub largest : Largest A (standing A x.table)
  pub counted : n ≡ number_standing A x.table
  pub accepted : certificate_says A x.table ≡ Ok (certificate A x.table)

-- what each answer of a settle check tells; a strike that it names would be granted next
abbrev pub SettleTells : Arena → Position → Result Settlement Refusal → Type 0
SettleTells A x (Ok (Settled n)) = SettledRight A x n
SettleTells A x (Ok (Loose strike)) = (Largest A (standing A x.table) → ⊥) × (strike_says A x strike ≡ Ok (x.docket.count + 1))
SettleTells A x (Err refusal) = ⊥

-- What holds once an opening was granted.
pub record Sound (A : Arena) (x : Position) : Type 0 where
  -- no struck pair belongs to any simulation
  pub struck_rightly : (R : Relation) → Simulation A R → (w v : ℕ) → w < A.old_states → v < A.new_states → stands A x.table w v ≡ false → R w v ≡ false
  -- the settle check is not refused, and tells the truth
  pub settle_tells : SettleTells A x (settle_says A x)

-- from any docket and any table, that holds after each of the calls behind a granted opening
abbrev pub RunLaw : Arena → Position → List Call → Type 0
RunLaw A x calls = (done left : List Call) → done ++ left ≡ calls → was_opened A x done ≡ true → Sound A (after A x done)

-- whatever a table holds, it is accepted only if its standing pairs are the largest simulation
abbrev pub CertificateLaw : Arena → Type 0
CertificateLaw A = (table : List ℕ) → Certifies A table (certificate_says A table)
