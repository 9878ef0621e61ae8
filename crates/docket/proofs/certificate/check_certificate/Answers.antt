use Rattle.std.proofs.Common.{sym, subst}
use Rattle.docket.proofs.Laws.{certificate_law}
use Rattle.docket.specs.Certificate.{Certifies}
use Rattle.docket.proofs.certificate.check_certificate.Goals as goal

pub returns : goal.returns
returns g c =
    let A = g.A.Arena.view c.args.arena.now in
    record {
      answer = c.examine.ensures;
      law = subst (λ r. Certifies A c.args.table.now r) (sym c.examine.ensures) (certificate_law A (g.A.Arena.closed c.args.arena.now) c.args.table.now);
    }
