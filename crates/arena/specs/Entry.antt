-- What an entry of a table is: only here is it said how an entry tells that its pair stands, or as which number it was struck.
use Rattle.std.specs.Prelude.{ℕ, Bool, not, ◌&&◌, Some, None, Option, ◌==◌, nat_lt}

-- the entry of a pair that stands
abbrev pub standing_entry : ℕ
standing_entry = 0

-- the entry of a pair that was struck as a number from 1 on
abbrev pub struck_entry : ℕ → ℕ
struck_entry number = number

-- the number in an entry, 0 in that of a pair that stands
abbrev pub number_in : ℕ → ℕ
number_in entry = entry

-- whether an entry says that its pair stands
abbrev pub says_standing : ℕ → Bool
says_standing entry = entry == standing_entry

-- whether an entry counts as struck: any that does not stand, or, before a number, only one with a smaller number
abbrev pub counts : Option ℕ → ℕ → Bool
counts None entry = not (says_standing entry)
counts (Some number) entry = not (says_standing entry) && nat_lt (number_in entry) number
