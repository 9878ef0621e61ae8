-- The first entry for a reading, as the search over the entries finds it.
use Rattle.std.proofs.Common.{◌≡◌, true, false, List, [], ◌∷◌, Some, cond, refl}
use Rattle.std.specs.List.{find}
use Rattle.std.specs.Option.{option_map_or}
use Rattle.systems.specs.CodeList.{translated}
use Rattle.systems.specs.Meaning.{Reading, same_reading}
use Rattle.systems.specs.declared.codes.CodeEntry.{CodeEntry}

-- the entry that is found gives what is shown
pub translated_found : (entries : List CodeEntry) (x : Reading)
    → translated entries x ≡ option_map_or (λ entry. entry.to) (find (λ entry. same_reading entry.from x) entries) x
translated_found [] x = refl
translated_found (entry ∷ entries) x =
    let found = find (λ e. same_reading e.from x) entries in
    elim (same_reading entry.from x) as (λ t. cond t entry.to (translated entries x) ≡ option_map_or (λ e. e.to) (cond t (Some entry) found) x) [
      | true ↦ refl
      | false ↦ translated_found entries x
    ]
