-- Runs: calls made one after the other on a docket and its table.
use Rattle.std.specs.Prelude.{Bool, true, false, ◌||◌, List, [], ◌∷◌, Ok, Err, Result}
use Rattle.arena.specs.Arena.{Arena}
use Rattle.docket.specs.Position.{Position}
use Rattle.docket.specs.Settle.{settle_says}
use Rattle.docket.specs.Strikes.{open_does, open_says, strike_does, strike_says}
use Rattle.docket.specs.Sweep.{sweep_does, sweep_says}
use Rattle.docket.specs.declared.call.Call.{Call}
use Rattle.docket.specs.declared.call.Call.TheVariants.{Open, Strike, Sweep, Settle}
use Rattle.docket.specs.declared.call.Grant.{Grant}
use Rattle.docket.specs.declared.call.Grant.TheVariants.{Opened, Struck, Swept, Checked}
use Rattle.docket.specs.declared.refusal.Refusal.{Refusal}

-- the answer of a call, what it grants as a `Grant`
abbrev pub granted : {X : Type 0} → (X → Grant) → Result X Refusal → Result Grant Refusal
granted grant (Ok answer) = Ok (grant answer)
granted grant (Err refusal) = Err refusal

-- what a call answers
abbrev pub says : Arena → Position → Call → Result Grant Refusal
says A x Open = granted (λ n. Opened n) (open_says A x)
says A x (Strike strike) = granted (λ n. Struck n) (strike_says A x strike)
says A x (Sweep budget) = granted (λ n. Swept n) (sweep_says A x budget)
says A x Settle = granted (λ s. Checked s) (settle_says A x)

-- where a call leads
abbrev pub does : Arena → Position → Call → Position
does A x Open = open_does A x
does A x (Strike strike) = strike_does A x strike
does A x (Sweep budget) = sweep_does A x budget
does A x Settle = x

-- where the calls lead, each starting where the one before it ended
abbrev pub after : Arena → Position → List Call → Position
after A x [] = x
after A x (call ∷ calls) = after A (does A x call) calls

-- what the calls answer
abbrev pub answers : Arena → Position → List Call → List (Result Grant Refusal)
answers A x [] = []
answers A x (call ∷ calls) = says A x call ∷ answers A (does A x call) calls

-- whether the answer is that of a granted opening
abbrev pub opens : Result Grant Refusal → Bool
opens (Ok (Opened n)) = true
opens (Ok (Struck n)) = false
opens (Ok (Swept n)) = false
opens (Ok (Checked s)) = false
opens (Err refusal) = false

-- whether an opening among the calls was granted
abbrev pub was_opened : Arena → Position → List Call → Bool
was_opened A x [] = false
was_opened A x (call ∷ calls) = opens (says A x call) || was_opened A (does A x call) calls
