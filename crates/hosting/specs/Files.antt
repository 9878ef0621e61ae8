-- The exchange of the systems that two files describe.
use Rattle.std.specs.Prelude.{ℕ, List, Option, option_map}
use Rattle.codec.specs.Put.{put_at}
use Rattle.systems.specs.Bounded.{or_else}
use Rattle.likeness.specs.Within.{first_too_wide, within}
use Rattle.arena.specs.Arena.{Arena}
use Rattle.arena.specs.Exchange.{exchange}
use Rattle.docket.specs.Refusals.{opening_refusal}
use Rattle.files.specs.SystemFile.{described, file_fault}
use Rattle.systems.specs.Words.{system_words}
use Rattle.hosting.specs.declared.fault.FilesFault.{FilesFault}
use Rattle.hosting.specs.declared.fault.FilesFault.TheVariants.{Tolerance, OldFile, NewFile, Exchange}
use Rattle.hosting.specs.declared.filed.FiledExchange.{FiledExchange}

-- Two files, and the tolerance of each channel.
pub record Lent : Type 0 where
  pub old_file : List ℕ
  pub new_file : List ℕ
  pub tolerances : List ℕ

-- two files and the tolerances, by what they hold
abbrev pub lent : List ℕ → List ℕ → List ℕ → Lent
lent old_file new_file tolerances = record { old_file = old_file; new_file = new_file; tolerances = tolerances }

-- what an exchange of files is made of
abbrev pub lent_by : FiledExchange → Lent
lent_by e = lent e.old_file.now e.new_file.now e.tolerances

-- How many words are lent for each system, and how many entries.
pub record Room : Type 0 where
  pub old_words : ℕ
  pub new_words : ℕ
  pub entries : ℕ

-- room for so many
abbrev pub room : ℕ → ℕ → ℕ → Room
room old_words new_words entries = record { old_words = old_words; new_words = new_words; entries = entries }

-- the exchange: the systems of the two files, and the tolerances of the channels
abbrev pub filed : Lent → Arena
filed e = exchange (described e.old_file 0) (described e.new_file 0) (within e.tolerances)

-- the first fault of the files and of what is lent with them: of the tolerances, of the old file, of the new file, or of an opening
abbrev pub files_fault : Lent → Room → Option FilesFault
files_fault e room =
    or_else (option_map (λ channel. Tolerance channel) (first_too_wide e.tolerances))
    (or_else (option_map (λ fault. OldFile fault) (file_fault e.old_file 0 room.old_words))
    (or_else (option_map (λ fault. NewFile fault) (file_fault e.new_file 0 room.new_words))
    (option_map (λ refusal. Exchange refusal) (opening_refusal (filed e) room.entries))))

-- the words that are lent for a file, once its system is laid out in front
abbrev pub laid_out : List ℕ → List ℕ → List ℕ
laid_out bytes words = put_at words 0 (system_words (described bytes 0))
