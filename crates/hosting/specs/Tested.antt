-- Files that were tested and have no fault.
use Rattle.std.specs.Prelude.{◌≡◌, ℕ, ◌≤◌}
use Rattle.files.specs.SystemFile.{file_words}
use Rattle.hosting.specs.declared.filed.FiledExchange.{FiledExchange}
use Rattle.hosting.specs.declared.filed.Tested.{Tested}

-- The files and the tolerances of an exchange, tested for so many words.
pub record IsTested (e : FiledExchange) (old_words new_words : ℕ) (tested : Tested) : Type 0 where
  pub old_bytes : tested.old.bytes.now ≡ e.old_file.now
  pub old_place : tested.old.place ≡ 0
  pub old_room : file_words e.old_file.now 0 ≤ old_words
  pub new_bytes : tested.new.bytes.now ≡ e.new_file.now
  pub new_place : tested.new.place ≡ 0
  pub new_room : file_words e.new_file.now 0 ≤ new_words
  pub tolerances : tested.likeness.tolerances ≡ e.tolerances
