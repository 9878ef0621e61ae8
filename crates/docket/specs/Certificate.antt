-- Certificate checks.
use Rattle.std.specs.Prelude.{ℕ, cond, List, length, Some, None, Ok, Err, Option, Result}
use Rattle.systems.specs.Bounded.{first_below, or_else}
use Rattle.systems.specs.Refused.{unless}
use Rattle.arena.specs.Arena.{Arena}
use Rattle.arena.specs.Table.{Shows, in_order, number_standing, stands, start_stands}
use Rattle.docket.specs.Refusals.{opening_refusal, refusal_number}
use Rattle.docket.specs.declared.certificate.Certificate.{Certificate}
use Rattle.docket.specs.declared.certificate.CertificateFault.{CertificateFault}
use Rattle.docket.specs.declared.certificate.CertificateFault.TheVariants.{Refused, Unfounded, Loose}
use Rattle.docket.specs.declared.refusal.Refusal.{Refusal}

-- the fault of a pair out of order
abbrev pub pair_fault : Arena → List ℕ → ℕ → ℕ → Option CertificateFault
pair_fault A table w v = cond (in_order A table w v) None (Some (cond (stands A table w v) (Loose (w, v)) (Unfounded (w, v))))

-- the fault of the first pair out of order in an old state's row
abbrev pub first_fault_in : Arena → List ℕ → ℕ → ℕ → Option CertificateFault
first_fault_in A table w columns = first_below columns λ v. pair_fault A table w v

-- the fault of the first pair out of order by place
abbrev pub first_fault : Arena → List ℕ → Option CertificateFault
first_fault A table = first_below A.old_states λ w. first_fault_in A table w A.new_states

-- a refusal as a fault
abbrev pub refused : Option Refusal → Option CertificateFault
refused None = None
refused (Some refusal) = Some (Refused refusal)

-- what an accepted table shows
abbrev pub certificate : Arena → List ℕ → Certificate
certificate A table = record { standing = number_standing A table; replaces = start_stands A table }

-- what a certificate check answers
abbrev pub certificate_says : Arena → List ℕ → Result Certificate CertificateFault
certificate_says A table = unless (or_else (refused (opening_refusal A (length table))) (first_fault A table)) (certificate A table)

-- what an answer tells of the table: only one whose standing pairs are the largest simulation is accepted, and then it tells whether the new system replaces the old
abbrev pub Certifies : Arena → List ℕ → Result Certificate CertificateFault → Type 0
Certifies A table (Ok c) = Shows A table c.replaces
Certifies A table (Err fault) = Unit {0}

-- the number of each fault
abbrev pub fault_number : CertificateFault → ℕ
fault_number (Refused refusal) = refusal_number refusal
fault_number (Unfounded pair) = 13
fault_number (Loose pair) = 14
