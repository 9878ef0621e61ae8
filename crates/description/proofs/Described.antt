-- What is described of a file that was tested, and of an input that was read.
use Rattle.std.proofs.Common.{◌≡◌, ℕ, List, length, None}
use Rattle.systems.specs.Meaning.{Meaning}
use Rattle.files.specs.SystemFile.{described, file_fault, file_read}
use Rattle.report.specs.Input.{list_place, new_system, old_system, tolerance}
use Rattle.description.specs.File.{description, file_text, most_words}
use Rattle.description.specs.Input.{input_text, parts_text, records_text}

-- the text of a file that has no fault
pub of_file : (bytes text : List ℕ) (room end : ℕ) (m : Meaning) → room ≡ most_words → end ≡ (file_read bytes 0).end → m ≡ described bytes 0 → file_fault bytes 0 room ≡ None → text ≡ file_text end (length bytes) m → (file_fault bytes 0 most_words ≡ None) × (text ≡ description bytes)
of_file bytes text room end m r e s fault told = (rw r at fault, rw (e, s) at told)

-- the text of an input
pub of_input : (input text : List ℕ) (t place : ℕ) (old new : Meaning) → t ≡ tolerance input → old ≡ old_system input → new ≡ new_system input → place ≡ list_place input → text ≡ parts_text t old new (records_text input place) → text ≡ input_text input
of_input input text t place old new a b c d told = rw (a, b, c, d) at told
