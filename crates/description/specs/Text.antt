-- What a system looks like as text, for a person.
use Rattle.std.specs.Prelude.{ℕ, List, ◌++◌, codes, decimal}
use Rattle.std.specs.Fmt.{signed_decimal}
use Rattle.systems.specs.Bounded.{joined_below}
use Rattle.systems.specs.Meaning.{Meaning}

-- `NAME N` on a line of its own
abbrev pub count_line : List ℕ → ℕ → List ℕ
count_line name n = name ++ (codes " " ++ (decimal n ++ codes "\n"))

-- ` X`, what a channel shows
abbrev pub reading_text : Meaning → ℕ → ℕ → List ℕ
reading_text m w k = codes " " ++ signed_decimal (m.reading w k)

-- `  readings X X ..`, a reading for each channel
abbrev pub readings_line : Meaning → ℕ → List ℕ
readings_line m w = codes "  readings" ++ (joined_below m.channels (reading_text m w) ++ codes "\n")

-- `  move A against B leads to W`, the controller's move first
abbrev pub move_line : Meaning → ℕ → ℕ → ℕ → List ℕ
move_line m w a b = codes "  move " ++ (decimal a ++ (codes " against " ++ (decimal b ++ (codes " leads to " ++ (decimal (m.next w a b) ++ codes "\n")))))

-- where a controller move leads, a line for each environment move
abbrev pub move_lines : Meaning → ℕ → ℕ → List ℕ
move_lines m w a = joined_below (m.environment_moves w) (move_line m w a)

-- where each pair of moves leads, the environment's move fastest
abbrev pub moves_text : Meaning → ℕ → List ℕ
moves_text m w = joined_below (m.controller_moves w) (move_lines m w)

-- a state: its number, its readings, how many moves each side has, and where they lead
abbrev pub state_text : Meaning → ℕ → List ℕ
state_text m w =
    count_line (codes "state") w
    ++ (readings_line m w
    ++ (count_line (codes "  controller moves") (m.controller_moves w)
    ++ (count_line (codes "  environment moves") (m.environment_moves w)
    ++ moves_text m w)))

-- a system: how many states and channels it has, and then each state
abbrev pub system_text : Meaning → List ℕ
system_text m =
    count_line (codes "states") m.states
    ++ (count_line (codes "channels") m.channels
    ++ joined_below m.states (state_text m))
