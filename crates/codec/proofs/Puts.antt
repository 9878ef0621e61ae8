-- Numbers put into bytes, one behind the other.
use Rattle.std.proofs.Common.{◌≡◌, ℕ, ◌+◌, ◌-◌, ◌*◌, ◌<◌, ◌≤◌, List, [], ◌∷◌, ◌++◌, length, take, drop, sym, refl, ap, ◌∙◌, append_assoc, arith, length-append}
use borrow.Rule.Slice.PartMut.{put_mid}
use Rattle.std.proofs.lemmas.Bool.Decides.{nat_tests}
use Rattle.std.proofs.lemmas.Grind.{common_steps}
use Rattle.std.proofs.lemmas.List.{drop-drop, take_at, drop_at, length-take-le}
use Rattle.std.specs.List.{AllByRecursion}
use Rattle.codec.specs.Number.{number, encoded}
use Rattle.codec.specs.Put.{last_place, place_behind, put_at, put_if_room, put_number, put_numbers}
use Rattle.codec.specs.Sequence.{Cursor, Spells, spelled}
use Rattle.codec.proofs.Encoded.{number-encoded}

-- what is written to a part that items are lent from
pub put_is : (memory ys zs : List ℕ) (at n : ℕ) → ys ≡ zs → n ≡ length zs → put_mid at (at + n - at) memory ys ≡ put_at memory at zs
put_is memory ys zs at n same long = grind (arith, common_steps, drop-drop)

-- the items from the place on
pub drop-put : (memory zs : List ℕ) (at : ℕ) → at ≤ length memory → drop at (put_at memory at zs) ≡ zs ++ drop (at + length zs) memory
drop-put memory zs at h = grind (arith, common_steps, drop_at, length-take-le)

-- two pieces, one behind the other, are one
put-put : (bytes x y : List ℕ) (place : ℕ) → place + length x ≤ length bytes → put_at (put_at bytes place x) (place + length x) y ≡ put_at bytes place (x ++ y)
put-put bytes x y place fits =
    let front : List ℕ = take place bytes ++ x in
    let end : ℕ = place + length x in
    let back : List ℕ = drop end bytes in
    let once : List ℕ = front ++ back in
    let group : put_at bytes place x ≡ once = sym (append_assoc (take place bytes) x back) in
    let long : length front ≡ end = length-append (take place bytes) x ∙ ap (λ n. n + length x) (length-take-le place bytes (omega arith)) in
    let rest : drop (end + length y) once ≡ drop (place + length (x ++ y)) bytes =
    sym (drop-drop (length y) end once) ∙ ap (drop (length y)) (drop_at front back end long) ∙ drop-drop (length y) end bytes
    ∙ ap (λ n. drop n bytes) (omega (arith, length-append x y)) in
    ap (λ b. put_at b end y) group
    ∙ ap (λ l. l ++ (y ++ drop (end + length y) once)) (take_at front back end long)
    ∙ ap (λ l. front ++ (y ++ l)) rest
    ∙ append_assoc (take place bytes) x (y ++ drop (place + length (x ++ y)) bytes)
    ∙ ap (λ l. take place bytes ++ l) (sym (append_assoc x y (drop (place + length (x ++ y)) bytes)))

pub put_numbers-append : (before : Cursor) (ns ms : List ℕ) → put_numbers before (ns ++ ms) ≡ put_numbers (put_numbers before ns) ms
put_numbers-append before [] ms = refl
put_numbers-append before (n ∷ ns) ms = put_numbers-append (put_number before n) ns ms

-- a number takes at most three bytes
pub encoded_short : (n : ℕ) → length (encoded n) ≤ 3
encoded_short n = grind (arith, nat_tests)

pub spelled_short : (ns : List ℕ) → length (spelled ns) ≤ 3 * length ns
spelled_short [] = omega arith
spelled_short (n ∷ ns) = omega (arith, encoded_short n, spelled_short ns, length-append (encoded n) (spelled ns))

-- places that saturate twice saturate once
behind_twice : (place x y : ℕ) → place_behind (place_behind place x) y ≡ place_behind place (x + y)
behind_twice place x y = grind arith

behind_here : (place : ℕ) → place ≤ last_place → place ≡ place_behind place 0
behind_here place low = grind arith

behind_low : (place x : ℕ) → place_behind place x ≤ last_place
behind_low place x = grind arith

-- the place behind numbers
pub numbers_place : (before : Cursor) (ns : List ℕ) → before.place ≤ last_place → (put_numbers before ns).place ≡ place_behind before.place (length (spelled ns))
numbers_place before [] low = behind_here before.place low
numbers_place before (n ∷ ns) low =
    numbers_place (put_number before n) ns (behind_low before.place (length (encoded n)))
    ∙ behind_twice before.place (length (encoded n)) (length (spelled ns))
    ∙ ap (place_behind before.place) (sym (length-append (encoded n) (spelled ns)))

-- numbers that have all the room that they want
pub numbers_stand : (before : Cursor) (ns : List ℕ) → before.place + length (spelled ns) ≤ length before.bytes → before.place + length (spelled ns) ≤ last_place
    → (put_numbers before ns).bytes ≡ put_at before.bytes before.place (spelled ns)
numbers_stand before [] room low = grind (arith, common_steps)
numbers_stand before (n ∷ ns) room low =
    let first : List ℕ = encoded n in
    let total = length-append first (spelled ns) in
    let bytes : put_if_room before.bytes before.place first ≡ put_at before.bytes before.place first = grind (arith, nat_tests, total) in
    let long : length (put_at before.bytes before.place first) ≡ length before.bytes = grind (arith, common_steps, length-take-le) in
    let place : place_behind before.place (length first) ≡ before.place + length first = grind (arith, total) in
    let behind = numbers_stand (put_number before n) ns (omega (arith, total, place, ap length bytes, long)) (omega (arith, total, place)) in
    behind
    ∙ ap (λ b. put_at b (place_behind before.place (length first)) (spelled ns)) bytes
    ∙ ap (λ p. put_at (put_at before.bytes before.place first) p (spelled ns)) place
    ∙ put-put before.bytes first (spelled ns) before.place (omega (arith, total))

-- what is spelled is read back
pub Spells-spelled : (ns rest : List ℕ) → AllByRecursion (λ n. n < 65536) ns → Spells ns (spelled ns ++ rest) rest
Spells-spelled [] rest small = refl
Spells-spelled (n ∷ ns) rest small =
    let back : List ℕ = spelled ns ++ rest in
    (back, ap number (append_assoc (encoded n) (spelled ns) rest) ∙ number-encoded n back small.0, Spells-spelled ns rest small.1)
