-- How the digits of a root become a bit pattern. Definitions only.
use Rattle.std.specs.Prelude.{◌≡◌, ◌⊎◌, ℕ, ◌+◌, ◌*◌, ◌%◌, ◌^◌, ◌<◌}

-- The pattern r of 53 leading digits q at the exponent k, or of q + 1: to the nearest, and at a tie to the even one. `part` is the digits below q, of which `half` is a half, and `extra` is 0
-- if nothing is below these. (In the pattern k * 2 ^ 52 + q the leading digit of q is one in the exponent's field.)
pub data Rounded (k q part half extra r : ℕ) : Type 0 where
  down : part < half → r ≡ k * 2 ^ 52 + q → Rounded k q part half extra r
  up : (half < part) ⊎ ((part ≡ half) × (0 < extra)) → r ≡ k * 2 ^ 52 + (q + 1) → Rounded k q part half extra r
  tie : part ≡ half → extra ≡ 0 → r ≡ k * 2 ^ 52 + (q + q % 2) → Rounded k q part half extra r
