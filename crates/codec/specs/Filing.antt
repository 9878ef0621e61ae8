-- How a reading is filed as a number.
use Rattle.std.specs.Prelude.{ℕ, ◌+◌, ◌*◌, ◌/◌, ◌%◌, cond, ℤ, pos, negsuc, ◌==◌}

-- a reading x is filed as 2x, or as -2x - 1 where it is negative; negsuc k is -(k + 1)
abbrev pub filed : ℤ → ℕ
filed (pos x) = 2 * x
filed (negsuc k) = 2 * k + 1

-- the reading that a number files: the even ones file 0, 1, 2 .., the odd ones -1, -2 ..
abbrev pub unfiled : ℕ → ℤ
unfiled n = cond (n % 2 == 0) (pos (n / 2)) (negsuc (n / 2))
