use Rattle.std.proofs.Common.{◌≡◌, ℕ}
use Rattle.arena.specs.Gathered.{Answers}
use Rattle.arena.proofs.gathered.write_numbers.Given as goal

abbrev pub invariant-loop-state : goal.invariant-loop-state
invariant-loop-state g l = (f : ℕ → ℕ) → ((w n : ℕ) → g.F.Fn.post l.moves_at (w, tt) n → n ≡ f w) → Answers f l.state l.slots
