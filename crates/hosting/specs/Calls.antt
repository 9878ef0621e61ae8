-- What the calls on an exchange answer, and what they leave in the table, by the first fault of what is lent, if it has one.
use Rattle.std.specs.Prelude.{ℕ, List, [], Some, None, Ok, Err, Option, Result}
use Rattle.systems.specs.Refused.{if_granted, unless}
use Rattle.arena.specs.Arena.{Arena}
use Rattle.arena.specs.Table.{highest}
use Rattle.docket.specs.Certificate.{certificate_says}
use Rattle.docket.specs.Decide.{decision}
use Rattle.docket.specs.Judge.{outcome_of}
use Rattle.docket.specs.Position.{closed, position}
use Rattle.docket.specs.Sweep.{Swept}
use Rattle.docket.specs.declared.certificate.Certificate.{Certificate}
use Rattle.docket.specs.declared.certificate.CertificateFault.{CertificateFault}
use Rattle.docket.specs.declared.outcome.Outcome.{Outcome}
use Rattle.ranking.specs.Rank.{ranked}
use Rattle.hosting.specs.declared.fault.CheckFault.{CheckFault}
use Rattle.hosting.specs.declared.fault.CheckFault.TheVariants.{Words, Table}
use Rattle.hosting.specs.declared.fault.WordsFault.{WordsFault}

-- where a decision of a new docket leads, and the strikes of its sweeps
abbrev pub decided : Arena → List ℕ → Swept
decided A table = decision A (position closed table) []

-- what a decision answers
abbrev pub decide_says : {F : Type 0} → Option F → Arena → List ℕ → Result Outcome F
decide_says fault A table = unless fault (outcome_of A (decided A table))

-- the table that it leaves
abbrev pub decide_does : {F : Type 0} → Option F → Arena → List ℕ → List ℕ
decide_does fault A table = if_granted fault (decided A table).position.table table

-- the fault of a table as that of a check
abbrev pub of_table : Result Certificate CertificateFault → Result Certificate CheckFault
of_table (Ok c) = Ok c
of_table (Err fault) = Err (Table fault)

-- the fault of the words if they have one, else what the check of the table finds
abbrev pub check_says_by : Option WordsFault → Result Certificate CertificateFault → Result Certificate CheckFault
check_says_by (Some fault) found = Err (Words fault)
check_says_by None found = of_table found

-- what a certificate check answers
abbrev pub check_says : Option WordsFault → Arena → List ℕ → Result Certificate CheckFault
check_says fault A table = check_says_by fault (certificate_says A table)

-- what a ranking answers: the highest rank
abbrev pub rank_says : {F : Type 0} → Option F → Arena → List ℕ → Result ℕ F
rank_says fault A table = unless fault (highest A (ranked A table))

-- the table that it leaves
abbrev pub rank_does : {F : Type 0} → Option F → Arena → List ℕ → List ℕ
rank_does fault A table = if_granted fault (ranked A table) table
