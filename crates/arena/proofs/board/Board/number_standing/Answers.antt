use Rattle.std.proofs.Common.{◌≡◌, ◌+◌, ◌-◌, length, take, ap, subst, ◌∙◌, arith}
use Rattle.arena.specs.Bounds.{count_below}
use Rattle.arena.specs.Entry.{says_standing}
use Rattle.arena.specs.Table.{entry_at, pairs}
use Rattle.arena.proofs.Entries.{standing_in}
use Rattle.arena.proofs.board.Board.number_standing.Goals as goal

pub returns : goal.returns
returns g c =
    let A = g.A.Arena.view c.args.self.now.arena.now in
    let table = c.args.self.now.table.now in
    let entries = take (pairs A) table in
    let every : c.loop-entry.entry-index ≡ length entries =
    subst (λ shown. c.loop-entry.entry-index ≡ length shown) c.entries_of_pairs-entries.ensures (omega (arith, c.loop-entry-test.false, c.loop-entry.auto.entry-index-end)) in
    let counted : c.loop-entry.standing ≡ count_below (length entries) (λ i. says_standing (entry_at table i)) =
    c.loop-entry.invariant.counted ∙ ap (λ l. count_below l (λ i. says_standing (entry_at table i))) every in
    rw (c.entries_of_pairs-entries.ensures, c.number_of_pairs.ensures.number) (ap (λ s. s + (pairs A - length entries)) counted ∙ standing_in table (pairs A))
