-- The exchange of the systems that words hold.
use Rattle.std.specs.Prelude.{ℕ, List, Option, option_map}
use Rattle.std.specs.Result.{result_err}
use Rattle.systems.specs.Bounded.{or_else}
use Rattle.systems.specs.Layout.{layout, stored}
use Rattle.systems.specs.declared.layout.LayoutFault.{LayoutFault}
use Rattle.likeness.specs.Within.{first_too_wide, within}
use Rattle.arena.specs.Arena.{Arena}
use Rattle.arena.specs.Exchange.{exchange}
use Rattle.docket.specs.Refusals.{opening_refusal}
use Rattle.hosting.specs.declared.fault.WordsFault.{WordsFault}
use Rattle.hosting.specs.declared.fault.WordsFault.TheVariants.{Tolerance, OldWords, NewWords, Exchange}
use Rattle.hosting.specs.declared.held.Held.{Held}
use Rattle.hosting.specs.declared.stored.StoredExchange.{StoredExchange}

-- the exchange: the systems that the words hold, and the tolerances of the channels
abbrev pub stored_exchange : List ℕ → List ℕ → List ℕ → Arena
stored_exchange old_words new_words tolerances = exchange (stored old_words) (stored new_words) (within tolerances)

-- what is wrong with the layout of words, if anything is
abbrev pub layout_fault : List ℕ → Option LayoutFault
layout_fault words = result_err (layout words)

-- the first fault of the words and of what is lent with them: of the tolerances, of the old words, of the new words, or of an opening with a table of so many entries
abbrev pub words_fault : List ℕ → List ℕ → List ℕ → ℕ → Option WordsFault
words_fault old_words new_words tolerances entries =
    or_else (option_map (λ channel. Tolerance channel) (first_too_wide tolerances))
    (or_else (option_map (λ fault. OldWords fault) (layout_fault old_words))
    (or_else (option_map (λ fault. NewWords fault) (layout_fault new_words))
    (option_map (λ refusal. Exchange refusal) (opening_refusal (stored_exchange old_words new_words tolerances) entries))))

-- the exchange that is asked about
abbrev pub exchange_by : StoredExchange → Arena
exchange_by e = stored_exchange e.old_words.now e.new_words.now e.tolerances

-- the first fault of what is lent for it, with a table of so many entries
abbrev pub fault_by : StoredExchange → ℕ → Option WordsFault
fault_by e entries = words_fault e.old_words.now e.new_words.now e.tolerances entries

-- the exchange of two systems that are held
abbrev pub held_exchange : Held → Arena
held_exchange systems = stored_exchange systems.old.words.now systems.new.words.now systems.likeness.tolerances
