-- Numbers that a system gave, put into bytes.
use Rattle.std.specs.Prelude.{◌≡◌, ℕ, ◌^◌, ◌<◌, List}
use Rattle.std.specs.List.{AllByRecursion}
use Rattle.codec.specs.Put.{put_numbers, written}
use Rattle.codec.specs.Sequence.{Cursor}
use Rattle.codec.specs.declared.writer.Writer.{Writer}

-- the numbers, which have 16 bits, were put one behind the other
pub record Put (before : Cursor) (numbers : List ℕ) (after : Cursor) : Type 0 where
  pub small : AllByRecursion (λ n. n < 2 ^ 16) numbers
  pub is : after ≡ put_numbers before numbers

-- the numbers were put by a writer, which still writes into the same bytes
pub record Wrote (before : Writer) (numbers : List ℕ) (after : Writer) : Type 0 where
  pub same_bytes : after.bytes.ghost_name ≡ before.bytes.ghost_name
  pub at : Put (written before) numbers (written after)
