-- A number n as a square and what is left. Definitions only.
use Rattle.std.specs.Prelude.{ℕ, ◌+◌, ◌*◌, ◌≤◌, ◌≡◌}

-- root is the whole root of n: the next square is root * root + 2 * root + 1
pub record IsRoot (n root rest : ℕ) : Type 0 where
  pub sum : root * root + rest ≡ n
  pub below : rest ≤ 2 * root
