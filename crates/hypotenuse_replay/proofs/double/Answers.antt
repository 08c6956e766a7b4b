-- `double` meets its contract: a pattern is a NaN's where, without its sign, it is above that of the infinity. Assumes nothing.
use mathlib.Core.Path.{◌≡◌, refl, sym, ◌∙◌, subst}
use mathlib.Core.Bool.{Bool, true, not, true≢false}
use Prim.Native.Nat.{ℕ, ◌*◌, ◌%◌, ◌^◌, ◌≤◌, ◌<◌}
use borrow.Author.Tests.{lt-ltb, le-ltb}
use lib.Dec.{T}
use lib.Ieee.{Float, nan, inf, fin, binary64, is_nan, of_bits, nan_bits}
use lib.Ieee.Bits.{nan_bits_is, nan_bits_above}
use Rattle.hypotenuse_replay.proofs.double.Goals as goal

is_nan_lem : (x : Float) → is_nan x ≡ true → nan ≡ x
unfolding is_nan
is_nan_lem nan h = refl
is_nan_lem (inf s) h = absurd (true≢false (sym h))
is_nan_lem (fin s m e) h = absurd (true≢false (sym h))

nan_bits_lem : (n : ℕ) → 2047 * 2 ^ 52 < n % 2 ^ 63 → nan ≡ of_bits binary64 n
nan_bits_lem n h = is_nan_lem (of_bits binary64 n) (sym (nan_bits_is binary64 n) ∙ nan_bits_above binary64 n ∙ lt-ltb (2047 * 2 ^ 52) (n % 2 ^ 63) h)

other-bits : (n : ℕ) → n % 2 ^ 63 ≤ 2047 * 2 ^ 52 → T (not (nan_bits binary64 n))
other-bits n h = subst (λ (t : Bool). T (not t)) (sym (nan_bits_above binary64 n ∙ le-ltb (2047 * 2 ^ 52) (n % 2 ^ 63) h)) tt

pub returns-then-bits-gt-INFINITY : goal.returns-then-bits-gt-INFINITY
unfolding of_bits
returns-then-bits-gt-INFINITY c = nan_bits_lem c.args.bits c.if-bits-gt-INFINITY.true

pub float_from_bits-result : goal.float_from_bits-result
float_from_bits-result c = other-bits c.args.bits c.if-bits-gt-INFINITY.false
