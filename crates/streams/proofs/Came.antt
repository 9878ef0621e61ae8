-- Bytes that came from a stream into the part of a buffer behind those before, or went to one from there.
use Rattle.std.proofs.Common.{◌≡◌, ℕ, ◌+◌, ◌-◌, ◌≤◌, List, [], ◌++◌, length, take, drop, Some, None, Option, sym, ap, ◌∙◌, append_assoc, arith, length-drop}
use borrow.Rule.Slice.PartMut.{post_of, put_mid}
use Rattle.std.proofs.Math.Seq.{take-add, take-append-add}
use Rattle.std.proofs.lemmas.List.{length-take-le, take-append-le, append-nil, take_all}
use Rattle.std.specs.Io.KnownBytes.{Appends, Consumes, Keeps}

-- the front of the buffer, with what came behind it
pub front_more : (filled count k : ℕ) (buffer part : List ℕ) → filled ≤ length buffer → count ≤ length part → take (filled + count) (put_mid filled k buffer part) ≡ take filled buffer ++ take count part
front_more filled count k buffer part inside room =
    let front : List ℕ = take filled buffer in
    let behind : List ℕ = part ++ post_of filled k buffer in
    let long : length front ≡ filled = length-take-le filled buffer inside in
    ap (λ n. take (n + count) (front ++ behind)) (sym long)
    ∙ take-append-add front behind count
    ∙ ap (λ rest. front ++ rest) (take-append-le count part (post_of filled k buffer) room)

-- known bytes lose what came first, and then what came next
pub consumes_more : (old middle new : Option (List ℕ)) (first next : List ℕ) → Consumes old middle first → Consumes middle new next → Consumes old new (first ++ next)
consumes_more None middle new first next a b = tt
consumes_more (Some xs) None new first next a b = absurd a
consumes_more (Some xs) (Some ys) None first next a b = absurd b
consumes_more (Some xs) (Some ys) (Some zs) first next a b = a ∙ ap (λ rest. first ++ rest) b ∙ sym (append_assoc first next zs)

-- and nothing more where they stay
pub consumes_same : (old middle new : Option (List ℕ)) (first : List ℕ) → Consumes old middle first → Keeps middle new → Consumes old new first
consumes_same None middle new first a b = tt
consumes_same (Some xs) None new first a b = absurd a
consumes_same (Some xs) (Some ys) None first a b = absurd b
consumes_same (Some xs) (Some ys) (Some zs) first a b = a ∙ ap (λ rest. first ++ rest) (sym b)

-- what was written first, and then what was written next
pub appends_more : (old middle new : Option (List ℕ)) (first next : List ℕ) → Appends old middle first → Appends middle new next → Appends old new (first ++ next)
appends_more None middle new first next a b = tt
appends_more (Some xs) None new first next a b = absurd a
appends_more (Some xs) (Some ys) None first next a b = absurd b
appends_more (Some xs) (Some ys) (Some zs) first next a b = b ∙ ap (λ front. front ++ next) a ∙ append_assoc xs first next

-- and nothing more where it stays
pub appends_same : (old middle new : Option (List ℕ)) (first : List ℕ) → Appends old middle first → Keeps middle new → Appends old new first
appends_same None middle new first a b = tt
appends_same (Some xs) None new first a b = absurd a
appends_same (Some xs) (Some ys) None first a b = absurd b
appends_same (Some xs) (Some ys) (Some zs) first a b = b ∙ a

-- before anything is written
pub appends_none : (old : Option (List ℕ)) → Appends old old []
appends_none None = tt
appends_none (Some xs) = sym (append-nil xs)

-- the front of the bytes, with what is written behind it
pub front_sent : (written count : ℕ) (bytes : List ℕ) → take (written + count) bytes ≡ take written bytes ++ take count (take (length bytes - written) (drop written bytes))
front_sent written count bytes =
    let rest : List ℕ = drop written bytes in
    let all : take (length bytes - written) rest ≡ rest = take_all (length bytes - written) rest (simp length-drop (omega arith)) in
    take-add written count bytes ∙ ap (λ part. take written bytes ++ take count part) (sym all)
