-- Numbers put into bytes list by list.
use Rattle.std.proofs.Common.{◌≡◌, ℕ, ◌+◌, ◌<◌, ◌^◌, List, [], ◌∷◌, ◌++◌, sym, ap, ◌∙◌, subst, add-one}
use Rattle.std.proofs.ByRecursion.{All-append}
use Rattle.codec.specs.Put.{put_numbers, written}
use Rattle.codec.specs.declared.writer.Writer.{Writer}
use Rattle.codec.proofs.Puts.{put_numbers-append}
use Rattle.systems.specs.Bounded.{joined_below, listed_below}
use Rattle.files.specs.Wrote.{Wrote}

pub put_then : {before mid after : Writer} (ns ms : List ℕ) → Wrote before ns mid → Wrote mid ms after → Wrote before (ns ++ ms) after
put_then {before} ns ms first second = record {
  same_bytes = second.same_bytes ∙ first.same_bytes;
  at = record {
    small = All-append (λ n. n < 2 ^ 16) ns ms first.at.small second.at.small;
    is = second.at.is ∙ ap (λ there. put_numbers there ms) first.at.is ∙ sym (put_numbers-append (written before) ns ms);
  };
}

pub put_first : {before mid after : Writer} (n : ℕ) (ns : List ℕ) → Wrote before (n ∷ []) mid → Wrote mid ns after → Wrote before (n ∷ ns) after
put_first n ns first second = put_then (n ∷ []) ns first second

-- a turn of a loop: the numbers of the next turn stand behind those of the turns before
pub put_joined : {before mid after : Writer} (k : ℕ) (lists : ℕ → List ℕ)
    → Wrote before (joined_below k lists) mid → Wrote mid (lists k) after → Wrote before (joined_below (k + 1) lists) after
put_joined k lists first second = rw add-one (put_then (joined_below k lists) (lists k) first second)

pub put_listed : {before mid after : Writer} {value : ℕ} (k : ℕ) (gives : ℕ → ℕ)
    → Wrote before (listed_below k gives) mid → Wrote mid (value ∷ []) after → value ≡ gives k → Wrote before (listed_below (k + 1) gives) after
put_listed {mid = mid} {after = after} k gives first second is =
    put_joined k (λ j. gives j ∷ []) first (subst (λ v. Wrote mid (v ∷ []) after) is second)
