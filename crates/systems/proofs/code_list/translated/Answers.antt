use Rattle.std.proofs.Common.{◌≡◌, to_z, of_z, w16, rules}
use Rattle.systems.proofs.Translated.{translated_found}
use Rattle.systems.proofs.code_list.translated.Goals as goal

pub returns : goal.returns
returns c =
    -- the reading that the search was handed is the one that was given
    let same : to_z w16 (of_z w16 c.args.reading) ≡ c.args.reading = search rules in
    search (rules, simp same at c.first_for.ensures, translated_found c.args.entries.now c.args.reading)
