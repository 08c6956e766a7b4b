-- The numbers that stand for two doubles of at most 17 digits. Definitions only.
use Rattle.std.specs.Prelude.{◌≡◌, ℕ, ◌+◌, ◌-◌, ◌*◌, ◌/◌, ◌%◌, ◌^◌, ◌≤◌, ◌<◌}

-- the first 17 digits of a pattern's significand
abbrev pub leading17 : ℕ → ℕ
leading17 b = (b % 2 ^ 52 + 2 ^ 52) / 2 ^ 36

-- the larger of two, in units of the 17th digit of the smaller
abbrev pub aligned : ℕ → ℕ → ℕ
aligned larger smaller = leading17 larger * 2 ^ (larger / 2 ^ 52 - smaller / 2 ^ 52)

-- the sum of their squares in squares of that unit
abbrev pub short_squares : ℕ → ℕ → ℕ
short_squares larger smaller = aligned larger smaller * aligned larger smaller + leading17 smaller * leading17 smaller

-- r is the whole number nearest to the root of n, and has 53 digits: n is above the square of r - 1/2, and below that of r + 1/2
pub record NearestWhole (n r : ℕ) : Type 0 where
  pub least : 2 ^ 52 < r
  pub most : r < 2 ^ 53
  pub above : r * r < n + r
  pub below : n ≤ r * r + r

-- how far b is below the whole number nearest to the root of n, by e = n + b - b * b
pub data Steps (b e r : ℕ) : Type 0 where
  stay : e ≤ 2 * b → r ≡ 0 → Steps b e r
  next : 2 * b < e → e ≤ 4 * b + 2 → r ≡ 1 → Steps b e r
  second : 4 * b + 2 < e → r ≡ 2 → Steps b e r
