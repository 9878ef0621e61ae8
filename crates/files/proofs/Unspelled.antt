-- Bytes that spell a list are read to it, number by number.
use Rattle.std.proofs.Common.{◌≡◌, ℕ, zero, suc, ◌+◌, ◌-◌, ◌*◌, ◌<◌, List, [], ◌∷◌, length, drop, None, Ok, sym, ap, ◌∙◌, subst, suc-mul, zero-mul, below_more, arith}
use Rattle.codec.specs.Number.{number}
use Rattle.codec.proofs.Skips.{skip-skip}
use Rattle.codec.proofs.Spelled.{from_read, spells_split}
use Rattle.systems.specs.Bounded.{joined_below, listed_below}
use Rattle.codec.specs.Sequence.{value_at, after, skip, nth, Spells}
use Rattle.files.specs.SystemFile.{unread, unread_by}

-- the rest is what the bytes hold from the place on
pub record Here (bytes : List ℕ) (place : ℕ) (rest : List ℕ) : Type 0 where
  pub is : rest ≡ drop place bytes
  pub counts : place ≡ length bytes - length rest

-- a number that is spelled at a place
pub record One (bytes : List ℕ) (place w n : ℕ) (rest : List ℕ) : Type 0 where
  pub read : unread bytes place w ≡ None
  pub value : value_at bytes place ≡ n
  pub behind : Here bytes (after bytes place) rest

pub unspell_one : (bytes : List ℕ) (place w n : ℕ) (start rest : List ℕ) → Here bytes place start → number start ≡ Ok (n, rest) → One bytes place w n rest
unspell_one bytes place w n start rest here h =
    let at = from_read bytes place n rest (ap number (sym here.is) ∙ h) in
    record { read = ap (unread_by place w) at.0; value = at.1; behind = record { is = at.3; counts = at.2 } }

-- so many numbers
pub record Listed (bytes : List ℕ) (start w k : ℕ) (gives : ℕ → ℕ) (rest : List ℕ) : Type 0 where
  pub read : (j : ℕ) → j < k → unread bytes (skip bytes j start) w ≡ None
  pub value : (j : ℕ) → j < k → nth bytes j start ≡ gives j
  pub behind : Here bytes (skip bytes k start) rest

pub unspell_listed : (bytes : List ℕ) (start w k : ℕ) (gives : ℕ → ℕ) (from rest : List ℕ)
    → Here bytes start from → Spells (listed_below k gives) from rest → Listed bytes start w k gives rest
unspell_listed bytes start w zero gives from rest here h = record {
  read = λ j l. absurd (omega arith);
  value = λ j l. absurd (omega arith);
  behind = subst (Here bytes start) h here;
}
unspell_listed bytes start w (suc k) gives from rest here h =
    let s = spells_split (listed_below k gives) (gives k ∷ []) from rest h in
    let before = unspell_listed bytes start w k gives from s.0 here s.1 in
    let last = unspell_one bytes (skip bytes k start) w (gives k) s.0 s.2.0 before.behind s.2.1 in
    record {
      read = λ j l. grind (arith, before.read, last.read);
      value = λ j l. grind (arith, before.value, last.value);
      behind = subst (Here bytes (skip bytes (suc k) start)) s.2.2 last.behind;
    }

-- rows of q numbers each
pub record RowsOf (bytes : List ℕ) (start w q p : ℕ) (gives : ℕ → ℕ → ℕ) (rest : List ℕ) : Type 0 where
  pub read : (a b : ℕ) → a < p → b < q → unread bytes (skip bytes (a * q + b) start) w ≡ None
  pub value : (a b : ℕ) → a < p → b < q → nth bytes (a * q + b) start ≡ gives a b
  pub behind : Here bytes (skip bytes (p * q) start) rest

pub unspell_rows_of : (bytes : List ℕ) (start w q p : ℕ) (gives : ℕ → ℕ → ℕ) (from rest : List ℕ)
    → Here bytes start from → Spells (joined_below p λ a. listed_below q (gives a)) from rest → RowsOf bytes start w q p gives rest
unspell_rows_of bytes start w q zero gives from rest here h = record {
  read = λ a b l. absurd (omega arith);
  value = λ a b l. absurd (omega arith);
  behind = subst (λ k. Here bytes (skip bytes k start) rest) (sym (zero-mul q)) (subst (Here bytes start) h here);
}
unspell_rows_of bytes start w q (suc p) gives from rest here h =
    let s = spells_split (joined_below p λ a. listed_below q (gives a)) (listed_below q (gives p)) from rest h in
    let before = unspell_rows_of bytes start w q p gives from s.0 here s.1 in
    let mid = skip bytes (p * q) start in
    let last = unspell_listed bytes mid w q (gives p) s.0 rest before.behind s.2 in
    record {
      read = λ a b l m.
          below_more (λ i. unread bytes (skip bytes (i * q + b) start) w ≡ None) p (λ i h. before.read i b h m) (rw (skip-skip bytes (p * q) b start) (last.read b m)) a (omega arith);
      value = λ a b l m.
          below_more (λ i. nth bytes (i * q + b) start ≡ gives i b) p (λ i h. before.value i b h m) (rw (skip-skip bytes (p * q) b start) (last.value b m)) a (omega arith);
      behind = rw (suc-mul p q, skip-skip bytes (p * q) q start) last.behind;
    }
