use Rattle.std.proofs.Common.{◌≡◌, None}
use Rattle.systems.specs.Bounded.{first_below}
use Rattle.docket.specs.Certificate.{first_fault_in}
use Rattle.docket.proofs.certificate.check_pairs.Given as goal

abbrev pub invariant-loop-column : goal.invariant-loop-column
invariant-loop-column g l = first_fault_in (g.A.Arena.view l.board.arena.now) l.board.table.now l.row l.column ≡ None

abbrev pub invariant-loop-row : goal.invariant-loop-row
invariant-loop-row g l =
    let A = g.A.Arena.view l.board.arena.now in
    first_below l.row (λ w. first_fault_in A l.board.table.now w A.new_states) ≡ None
