use Rattle.std.proofs.Common.{◌≡◌, ◌++◌, drop, length, min, ap, ◌∙◌}
use Rattle.arena.proofs.Writing.{drop_most}
use Rattle.arena.specs.Held.{holding}
use Rattle.arena.specs.Table.{pairs}
use Rattle.arena.specs.Written.{all_standing}
use Rattle.arena.proofs.board_mut.BoardMut.clear.Goals as goal

pub returns-clause-table : goal.returns-clause-table
returns-clause-table g c =
    let A = g.A.Arena.view c.args.self.now.arena.now in
    let t = c.args.self.now.table.now in
    let most : c.min-entries.result ≡ min (pairs A) (length t) = c.min-entries.ensures ∙ ap (λ n. min n (length t)) c.number_of_pairs.ensures.number in
    ap (λ u. holding c.args.self.now.table u)
    (c.clear_first.ensures ∙ ap (λ n. all_standing n ++ drop n t) most ∙ ap (λ u. all_standing (min (pairs A) (length t)) ++ u) (drop_most t (pairs A)))
