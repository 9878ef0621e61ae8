-- Numbers of a file that were read one behind the other spell a list.
use Rattle.std.proofs.Common.{◌≡◌, ℕ, zero, suc, ◌+◌, ◌*◌, ◌<◌, true, is_ok, List, [], ◌∷◌, drop, None, Ok, Err, Result, sym, refl, ap, ◌∙◌, subst, suc-mul, zero-mul, arith}
use Rattle.codec.specs.Number.{number}
use Rattle.codec.specs.Sequence.{number_at, value_at, after, skip, nth, Spells}
use Rattle.codec.specs.declared.number.NumberFault.{NumberFault}
use Rattle.codec.proofs.Skips.{skip-skip}
use Rattle.codec.proofs.Spelled.{Spells-append, read_where_ok}
use Rattle.systems.specs.Bounded.{joined_below, listed_below}
use Rattle.files.specs.SystemFile.{unread, unread_by}

no_fault : (place w : ℕ) (r : Result (ℕ × ℕ) NumberFault) → unread_by place w r ≡ None → is_ok r ≡ true
no_fault place w (Ok found) h = refl
no_fault place w (Err why) h = absurd cc

-- a number without a fault is read off the bytes from its place on
pub read_at : (bytes : List ℕ) (place w : ℕ) → unread bytes place w ≡ None → number (drop place bytes) ≡ Ok (value_at bytes place, drop (after bytes place) bytes)
read_at bytes place w none = read_where_ok bytes place (no_fault place w (number_at bytes place) none)

-- one number
pub spells_one : (bytes : List ℕ) (place w n : ℕ) → unread bytes place w ≡ None → n ≡ value_at bytes place → Spells (n ∷ []) (drop place bytes) (drop (after bytes place) bytes)
spells_one bytes place w n none e =
    let with_value : ℕ → Result (ℕ × List ℕ) NumberFault = λ v. Ok (v, drop (after bytes place) bytes) in
    (drop (after bytes place) bytes, read_at bytes place w none ∙ ap with_value (sym e), refl)

-- so many numbers
pub spells_listed : (bytes : List ℕ) (w start k : ℕ) (gives : ℕ → ℕ)
    → ((j : ℕ) → j < k → (unread bytes (skip bytes j start) w ≡ None) × (gives j ≡ nth bytes j start))
    → Spells (listed_below k gives) (drop start bytes) (drop (skip bytes k start) bytes)
spells_listed bytes w start zero gives read = refl
spells_listed bytes w start (suc k) gives read =
    let last = read k (omega arith) in
    Spells-append (listed_below k gives) (gives k ∷ []) (drop start bytes) (drop (skip bytes k start) bytes) (drop (skip bytes (suc k) start) bytes)
    (spells_listed bytes w start k gives (λ j l. read j (omega arith))) (spells_one bytes (skip bytes k start) w (gives k) last.0 last.1)

-- rows of q numbers each
pub spells_rows_of : (bytes : List ℕ) (w start q p : ℕ) (gives : ℕ → ℕ → ℕ)
    → ((j : ℕ) → j < p * q → unread bytes (skip bytes j start) w ≡ None)
    → ((a b : ℕ) → a < p → b < q → gives a b ≡ nth bytes (a * q + b) start)
    → Spells (joined_below p λ a. listed_below q (gives a)) (drop start bytes) (drop (skip bytes (p * q) start) bytes)
spells_rows_of bytes w start q zero gives read same = rw (zero-mul q) refl
spells_rows_of bytes w start q (suc p) gives read same =
    let more : suc p * q ≡ p * q + q = suc-mul p q in
    let mid = skip bytes (p * q) start in
    rw (more, skip-skip bytes (p * q) q start)
    (Spells-append (joined_below p λ a. listed_below q (gives a)) (listed_below q (gives p)) (drop start bytes) (drop mid bytes) (drop (skip bytes q mid) bytes)
    (spells_rows_of bytes w start q p gives (λ j l. read j (omega arith)) (λ a b l h. same a b (omega arith) h))
    (spells_listed bytes w mid q (gives p) λ j l. (
      subst (λ place. unread bytes place w ≡ None) (skip-skip bytes (p * q) j start) (read (p * q + j) (omega arith)),
      same p j (omega arith) l ∙ ap (value_at bytes) (skip-skip bytes (p * q) j start),
    )))
