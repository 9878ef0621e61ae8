-- Ranks: how soon each pair is refuted.
use Rattle.std.specs.Prelude.{◌≡◌, ℕ, zero, suc, ◌+◌, ◌<◌, ◌≤◌, true, false, cond, ◌&&◌, List, length, drop, Some, Ok, Result, ◌==◌}
use Rattle.systems.specs.Refused.{if_granted, unless}
use Rattle.arena.specs.Arena.{Arena}
use Rattle.arena.specs.Pairs.{Largest, refuted}
use Rattle.arena.specs.Table.{highest, number_of, pairs, standing, stands, struck}
use Rattle.arena.specs.Written.{with_standing, with_struck}
use Rattle.docket.specs.Certificate.{certificate, certificate_says}
use Rattle.docket.specs.Refusals.{opening_refusal}
use Rattle.docket.specs.declared.refusal.Refusal.{Refusal}

-- the rank of an unlike pair
abbrev pub sight_rank : ℕ
sight_rank = 1

-- the least rank of any other pair, and so the first round
abbrev pub first_round : ℕ
first_round = 2

-- The rule for one pair: an unlike pair has the rank of sight; any other has the least k from the first round on at which a move refutes it by the pairs with smaller numbers alone, and stands where no k will do.
pub record RankRule (A : Arena) (table : List ℕ) (w v : ℕ) : Type 0 where
  pub unlike : A.alike w v ≡ false → number_of A table w v ≡ sight_rank
  pub reached : A.alike w v ≡ true → stands A table w v ≡ false → (first_round ≤ number_of A table w v) × (refuted A (struck A table (Some (number_of A table w v))) w v ≡ true)
  pub least : A.alike w v ≡ true → (k : ℕ) → first_round ≤ k → refuted A (struck A table (Some k)) w v ≡ true → (stands A table w v ≡ false) × (number_of A table w v ≤ k)

-- the number of every pair is its rank
abbrev pub SolvesRanks : Arena → List ℕ → Type 0
SolvesRanks A table = (w v : ℕ) → w < A.old_states → v < A.new_states → RankRule A table w v

-- two tables tell the same number of every pair
abbrev pub SameNumbers : Arena → List ℕ → List ℕ → Type 0
SameNumbers A table other =
    (w v : ℕ) → w < A.old_states → v < A.new_states → number_of A table w v ≡ number_of A other w v

-- a pair by sight: an unlike one is struck, and any other stands
abbrev pub sight_pair : Arena → ℕ → ℕ → List ℕ → List ℕ
sight_pair A w v table = cond (A.alike w v) (with_standing A table w v) (with_struck A table w v sight_rank)

-- the first so many pairs of an old state's row, by sight
abbrev pub sight_row : Arena → ℕ → ℕ → List ℕ → List ℕ
sight_row A w zero table = table
sight_row A w (suc v) table = sight_pair A w v (sight_row A w v table)

-- the first so many rows, by sight
abbrev pub sight_rows : Arena → ℕ → List ℕ → List ℕ
sight_rows A zero table = table
sight_rows A (suc w) table = sight_row A w A.new_states (sight_rows A w table)

-- every pair by sight
abbrev pub sighted : Arena → List ℕ → List ℕ
sighted A table = sight_rows A A.old_states table

-- A round under way: where it has led, and how many ranks it has added.
pub record Ranking : Type 0 where
  pub table : List ℕ
  pub added : ℕ

-- a table in a round that has added so many ranks
abbrev pub ranking : List ℕ → ℕ → Ranking
ranking table added = record { table = table; added = added }

-- in round k a pair that stands is struck as k if it is refuted by the pairs with smaller numbers
abbrev pub rank_pair : Arena → ℕ → ℕ → ℕ → Ranking → Ranking
rank_pair A k w v y =
    cond (stands A y.table w v && refuted A (struck A y.table (Some k)) w v)
    (ranking (with_struck A y.table w v k) (y.added + 1))
    y

-- the first so many pairs of an old state's row, in turn
abbrev pub rank_row : Arena → ℕ → ℕ → ℕ → Ranking → Ranking
rank_row A k w zero y = y
rank_row A k w (suc v) y = rank_pair A k w v (rank_row A k w v y)

-- the first so many rows, in turn
abbrev pub rank_rows : Arena → ℕ → ℕ → Ranking → Ranking
rank_rows A k zero y = y
rank_rows A k (suc w) y = rank_row A k w A.new_states (rank_rows A k w y)

-- round k: the pairs by place
abbrev pub rank_round : Arena → ℕ → List ℕ → Ranking
rank_round A k table = rank_rows A k A.old_states (ranking table 0)

-- rounds from k on until one adds no rank, at most so many
abbrev pub rank_rounds : Arena → ℕ → ℕ → List ℕ → List ℕ
rank_rounds A zero k table = table
rank_rounds A (suc most) k table =
    cond ((rank_round A k table).added == 0)
    table
    (rank_rounds A most (k + 1) (rank_round A k table).table)

-- the ranks: every pair by sight, then the rounds from the first on; each round but the last ranks a pair, so that there are no more of them than pairs
abbrev pub ranked : Arena → List ℕ → List ℕ
ranked A table = rank_rounds A (pairs A) first_round (sighted A table)

-- a ranking answers the highest rank
abbrev pub rank_says : Arena → List ℕ → Result ℕ Refusal
rank_says A table = unless (opening_refusal A (length table)) (highest A (ranked A table))

-- what a ranking leaves
abbrev pub rank_does : Arena → List ℕ → List ℕ
rank_does A table = if_granted (opening_refusal A (length table)) (ranked A table) table

-- What a granted ranking leaves: the numbers are the ranks, and no other table has others; the standing pairs are the largest simulation, the certificate check accepts the table, and the entries behind those of the pairs are as before.
pub record RanksRight (A : Arena) (before after : List ℕ) : Type 0 where
  pub solves : SolvesRanks A after
  pub only : (other : List ℕ) → SolvesRanks A other → SameNumbers A other after
  pub largest : Largest A (standing A after)
  pub accepted : certificate_says A after ≡ Ok (certificate A after)
  pub rest : drop (pairs A) after ≡ drop (pairs A) before
