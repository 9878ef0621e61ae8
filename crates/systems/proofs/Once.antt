-- That words have the layout in one way at most, so that a ghost field may hold it as it is.
use Rattle.std.specs.Prelude.{ℕ, List}
use Rattle.std.proofs.Math.Logic.{∥∥₁_elim}
use Rattle.std.proofs.Math.Bridge.{le_prop}
use Rattle.systems.specs.Layout.{LaidOut, RowLaidOut}

-- a row has it in one way at most
pub row_laid_out_prop : (words : List ℕ) (w : ℕ) → IsProp (RowLaidOut words w)
row_laid_out_prop words w x y = λ i.
    (le_prop x.0 y.0 i, le_prop x.1 y.1 i, le_prop x.2 y.2 i, le_prop x.3 y.3 i, λ a b p q. le_prop (x.4 a b p q) (y.4 a b p q) i)

-- and so have all the words
pub laid_out_prop : (words : List ℕ) → IsProp (LaidOut words)
laid_out_prop words x y = λ i.
    (le_prop x.0 y.0 i, le_prop x.1 y.1 i, le_prop x.2 y.2 i, le_prop x.3 y.3 i, le_prop x.4 y.4 i, λ w l. row_laid_out_prop words w (x.5 w l) (y.5 w l) i)

-- that they have it in some way is that they have it
pub laid_out : (words : List ℕ) → ∥ LaidOut words ∥₁ → LaidOut words
laid_out words ok = ∥∥₁_elim ok (laid_out_prop words) (λ h. h)
