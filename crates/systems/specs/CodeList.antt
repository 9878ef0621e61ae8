-- A list of codes over a system, on one channel.
use Rattle.std.specs.Prelude.{ℕ, cond, ◌&&◌, List, [], ◌∷◌, ◌++◌, length, take, pos, Ok, Err, Result, ◌==◌, int_le, nat_lt}
use Rattle.systems.specs.Limits.{most_codes}
use Rattle.systems.specs.Meaning.{Meaning, Reading, same_reading}
use Rattle.systems.specs.declared.codes.CodeEntry.{CodeEntry}
use Rattle.systems.specs.declared.codes.Codes.{Codes}
use Rattle.systems.specs.declared.code_list.CodeFault.{CodeFault}
use Rattle.systems.specs.declared.code_list.CodeFault.TheVariants.{Full}

-- the entries in use: the first `count`
abbrev pub listed : Codes → List CodeEntry
listed codes = take codes.count codes.entries

-- what the entries make of a reading: `to` of the first of them that is from it, and itself where none is
abbrev pub translated : List CodeEntry → Reading → Reading
translated [] x = x
translated (entry ∷ entries) x = cond (same_reading entry.from x) entry.to (translated entries x)

-- readings below the cut stay, and all others become 0
abbrev pub below_cut : Reading → Reading → Reading
below_cut cut x = cond (int_le cut x) (pos 0) x

-- what is shown for a reading: what the entries make of it, and then the cut
abbrev pub shown : List CodeEntry → Reading → Reading → Reading
shown entries cut x = below_cut cut (translated entries x)

-- the system with what its channel shows; the 0 that answers out of range is never translated
abbrev pub code_list : Meaning → ℕ → List CodeEntry → Reading → Meaning
code_list m channel entries cut = record {
  states = m.states;
  channels = m.channels;
  reading = λ w k.
      cond (nat_lt w m.states && (nat_lt k m.channels && k == channel)) (shown entries cut (m.reading w k)) (m.reading w k);
  controller_moves = m.controller_moves;
  environment_moves = m.environment_moves;
  next = m.next;
}

-- the number of the refusal of an entry
abbrev pub code_refusal : CodeFault → ℕ
code_refusal Full = 26

-- what adding one more entry answers
abbrev pub add_answer : List CodeEntry → Result (Unit {0}) CodeFault
add_answer entries = cond (nat_lt (length entries) most_codes) (Ok tt) (Err Full)

-- the entries after that: the new one comes last, or nothing changes
abbrev pub added : List CodeEntry → CodeEntry → List CodeEntry
added entries entry = cond (nat_lt (length entries) most_codes) (entries ++ entry ∷ []) entries
