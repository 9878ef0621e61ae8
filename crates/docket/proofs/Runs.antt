-- The loop over the calls of a run.
use Rattle.std.proofs.Common.{◌≡◌, ℕ, ◌+◌, ◌<◌, ◌≤◌, List, [], ◌∷◌, ◌++◌, length, get_or, drop, Result, refl, sym, ap, ◌∙◌, append_assoc, append-nil}
use Rattle.std.proofs.lemmas.List.{at_drop_all, at_drop_more, get_or-map, length-map}
use Rattle.arena.specs.Arena.{Arena}
use Rattle.docket.specs.Decide.{proposals}
use Rattle.docket.specs.Position.{Position}
use Rattle.docket.specs.Run.{after, answers, does, says}
use Rattle.docket.specs.declared.call.Call.{Call}
use Rattle.docket.specs.declared.call.Call.TheVariants.{Open, Strike}
use Rattle.docket.specs.declared.call.Grant.{Grant}
use Rattle.docket.specs.declared.refusal.Refusal.{Refusal}
use Rattle.docket.specs.declared.strike.Strike.{Strike as Proposal}

module _ (A : Arena) (calls : List Call) (i : ℕ) (any : Call) where
  -- where the calls that are left lead, when one more is made
  pub after_next : (x y : Position) → i < length calls → y ≡ does A x (get_or calls i any) → after A y (drop (i + 1) calls) ≡ after A x (drop i calls)
  after_next x y l e =
      ap (λ z. after A z (drop (i + 1) calls)) e ∙ sym (at_drop_more (λ cs. after A x cs) calls i any l)

  -- the answers given and those to come
  pub answers_next : (x y : Position) (given more : List (Result Grant Refusal)) (answer : Result Grant Refusal) → i < length calls → y ≡ does A x (get_or calls i any) → answer ≡ says A x (get_or calls i any) → more ≡ given ++ answer ∷ [] → more ++ answers A y (drop (i + 1) calls) ≡ given ++ answers A x (drop i calls)
  answers_next x y given more answer l e s m =
      ap (λ all. all ++ answers A y (drop (i + 1) calls)) m
      ∙ append_assoc given (answer ∷ []) (answers A y (drop (i + 1) calls))
      ∙ ap (λ a. given ++ a ∷ answers A y (drop (i + 1) calls)) s
      ∙ ap (λ z. given ++ says A x (get_or calls i any) ∷ answers A z (drop (i + 1) calls)) e
      ∙ sym (at_drop_more (λ cs. given ++ answers A x cs) calls i any l)

-- the strikes that are proposed, as calls
pub proposal_at : (strikes : List Proposal) (i : ℕ) (any : Proposal) → i < length strikes → Strike (get_or strikes i any) ≡ get_or (proposals strikes) i Open
proposal_at strikes i any l = sym (get_or-map (λ s. Strike s) strikes i any Open l)

pub proposed : (strikes : List Proposal) → length (proposals strikes) ≡ length strikes
proposed strikes = length-map strikes (λ s. Strike s)

-- calls made behind others
module _ (A : Arena) where
  pub after_more : (x : Position) (calls more : List Call) → after A x (calls ++ more) ≡ after A (after A x calls) more
  after_more x [] more = refl
  after_more x (call ∷ calls) more = after_more (does A x call) calls more

  pub answers_more : (x : Position) (calls more : List Call) → answers A x (calls ++ more) ≡ answers A x calls ++ answers A (after A x calls) more
  answers_more x [] more = refl
  answers_more x (call ∷ calls) more = ap (λ rest. says A x call ∷ rest) (answers_more (does A x call) calls more)

-- no calls are left
pub after_all : (A : Arena) (calls : List Call) (i : ℕ) (x y : Position) → length calls ≤ i → after A y (drop i calls) ≡ x → y ≡ x
after_all A calls i x y l e = sym (at_drop_all (λ cs. after A y cs) calls i l) ∙ e

pub answers_all : (A : Arena) (calls : List Call) (i : ℕ) (x : Position) (given all : List (Result Grant Refusal)) → length calls ≤ i → given ++ answers A x (drop i calls) ≡ all → given ≡ all
answers_all A calls i x given all l e = sym (append-nil given) ∙ sym (at_drop_all (λ cs. given ++ answers A x cs) calls i l) ∙ e
