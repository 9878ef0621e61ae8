-- What is said of pairs of an old state w and a new state v.
use Rattle.std.specs.Prelude.{◌≡◌, ℕ, ◌<◌, Bool, true}
use Rattle.systems.specs.Bounded.{all_below}
use Rattle.arena.specs.Arena.{Arena}
use Rattle.arena.specs.Bounds.{any_below}

-- a relation between old and new states, by its characteristic function: there are finitely many pairs, so that every relation has one
abbrev pub Relation : Type 0
Relation = ℕ → ℕ → Bool

-- the reply of the new controller keeps the relation: whatever the new environment does, the old one can do something that leads to a related pair
abbrev pub Keeps : Arena → Relation → ℕ → ℕ → ℕ → ℕ → Type 0
Keeps A R w v a reply =
    (b' : ℕ) → b' < A.new_environment_moves v →
    (b : ℕ) × (b < A.old_environment_moves w) × (R (A.old_next w a b) (A.new_next v reply b') ≡ true)

-- An alternating simulation: related states are alike, and the new controller has a reply to each old controller's move.
pub record Simulation (A : Arena) (R : Relation) : Type 0 where
  pub in_range : (w v : ℕ) → R w v ≡ true → (w < A.old_states) × (v < A.new_states)
  pub alike : (w v : ℕ) → R w v ≡ true → A.alike w v ≡ true
  pub replies : (w v : ℕ) → R w v ≡ true → (a : ℕ) → a < A.old_controller_moves w → (reply : ℕ) × (reply < A.new_controller_moves v) × Keeps A R w v a reply

-- The largest alternating simulation: it contains every other.
pub record Largest (A : Arena) (R : Relation) : Type 0 where
  pub simulation : Simulation A R
  pub contains : (S : Relation) → Simulation A S → (w v : ℕ) → S w v ≡ true → R w v ≡ true

-- the new system replaces the old: the pair of start states is in the largest simulation
abbrev pub Replaces : Arena → Type 0
Replaces A = (R : Relation) × Largest A R × (R 0 0 ≡ true)

-- whether an environment move spoils the new controller's reply: wherever the old environment leads, the pair is gone
abbrev pub spoils : Arena → Relation → ℕ → ℕ → ℕ → ℕ → ℕ → Bool
spoils A gone w v a reply b' = all_below (A.old_environment_moves w) λ b. gone (A.old_next w a b) (A.new_next v reply b')

-- whether the new environment can spoil the reply
abbrev pub spoilt : Arena → Relation → ℕ → ℕ → ℕ → ℕ → Bool
spoilt A gone w v a reply = any_below (A.new_environment_moves v) λ b'. spoils A gone w v a reply b'

-- whether the old controller's move refutes the pair: every reply can be spoilt
abbrev pub refutes : Arena → Relation → ℕ → ℕ → ℕ → Bool
refutes A gone w v a = all_below (A.new_controller_moves v) λ reply. spoilt A gone w v a reply

-- whether some move refutes the pair
abbrev pub refuted : Arena → Relation → ℕ → ℕ → Bool
refuted A gone w v = any_below (A.old_controller_moves w) λ a. refutes A gone w v a
