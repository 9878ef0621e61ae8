use Rattle.std.proofs.Common.{◌≡◌, ℕ, ◌+◌, ◌*◌}
use Rattle.arena.specs.Gathered.{Answers, next_at}
use Rattle.arena.proofs.gathered.write_next_states.Given as goal

abbrev pub invariant-loop-environment : goal.invariant-loop-environment
invariant-loop-environment g l = (to : ℕ → ℕ → ℕ → ℕ) → ((w a b v : ℕ) → g.F.Fn.post l.next (w, (a, (b, tt))) v → v ≡ to w a b) → Answers (next_at to) (l.state * 256 + l.controller * 16 + l.environment) l.slots

abbrev pub invariant-loop-controller : goal.invariant-loop-controller
invariant-loop-controller g l = (to : ℕ → ℕ → ℕ → ℕ) → ((w a b v : ℕ) → g.F.Fn.post l.next (w, (a, (b, tt))) v → v ≡ to w a b) → Answers (next_at to) (l.state * 256 + l.controller * 16) l.slots

abbrev pub invariant-loop-state : goal.invariant-loop-state
invariant-loop-state g l = (to : ℕ → ℕ → ℕ → ℕ) → ((w a b v : ℕ) → g.F.Fn.post l.next (w, (a, (b, tt))) v → v ≡ to w a b) → Answers (next_at to) (l.state * 256) l.slots
