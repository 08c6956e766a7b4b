-- `patterns::near_pattern` meets its contract: its squares, its sum and its root are the numbers of `Close`, and its rounding is that of `root_of`. Assumes
-- nothing.
use mathlib.Core.Path.{◌≡◌, sym, ap, ◌∙◌}
use mathlib.Core.Logic.{inl, inr}
use Prim.Native.Nat.{ℕ, ◌+◌, ◌-◌, ◌*◌, ◌/◌, ◌%◌, ◌^◌, ◌≤◌, ◌<◌}
use native.Mathlib.Nat.{one-mul, pow-succ', lt_of_lt_of_le}
use native.Mathlib.Numerals.{add-one}
use native.Mathlib.Omega.{arith}
use lib.Ieee.{binary64, of_bits}
use lib.Pow.{pow_mono}
use Rattle.definitions.specs.Hypotenuse.{root_of}
use Rattle.laws.specs.NumberLaws.Comparisons.{le_or_lt}
use Rattle.hypotenuse.specs.Rounding.{Rounded}
use Rattle.hypotenuse.proofs.Close.{Near, total, double-le, high_le, powers, root_ge, root_lt, nearest-root}
use Rattle.hypotenuse.proofs.patterns.near_pattern.Goals as goal

-- what is known of the numbers of the code: the smaller square in the larger one's unit is `kept`, and `lost` what is below that
module _ (x y gap kept lost : ℕ) (x-hi : x < 2 ^ 53) (y-hi : y < 2 ^ 53) (cut_is : kept * 2 ^ (2 * gap) + lost ≡ 2 * y * (2 * y)) where
  sum_lt : 2 * x * (2 * x) + kept < 2 ^ 110
  sum_lt = omega (arith, double-le x x-hi, double-le y y-hi, high_le (2 * gap) kept lost (2 * y * (2 * y)) cut_is)

module _ {k x y gap kept lost F t rest : ℕ} (near : Near k x y gap kept lost F t rest) where
  extra_lt : gap ≤ 27 → rest + lost < 2 ^ 57
  extra_lt few_places =
      let few : lost < 2 ^ 54 = lt_of_lt_of_le near.lost_lt (pow_mono (twice gap few_places)) in
      omega (arith, root_lt near, near.rest_le)
    where
      twice : (gap : ℕ) → gap ≤ 27 → 2 * gap ≤ 54
      twice gap h = omega arith

  -- 54 digits are in half units of 2 ^ k, and 55 in quarters of 2 ^ (k + 1)
  rounded : (r : ℕ) → (t < 2 ^ 54 → Rounded k (t / 2) (t % 2) 1 (rest + lost) r) × (2 ^ 54 ≤ t → Rounded (k + 1) (t / 4) (t % 4) 2 (rest + lost) r) → (of_bits binary64 r ≡ root_of (total k x y gap)) × (r < 2047 * 2 ^ 52)
  rounded r s = elim (le_or_lt (2 ^ 54) t) [
    | inl h ↦ nearest-root near (t / 4) 2 (k + 1) (t % 4) r (omega arith) (omega (arith, root_lt near)) (omega (arith, near.k_lt)) double (omega arith) (omega arith) (s.1 h)
    | inr h ↦ nearest-root near (t / 2) 1 k (t % 2) r (omega (arith, root_ge near)) (omega arith) (omega (arith, near.k_lt)) single (omega arith) (omega arith) (s.0 h)
  ]
    where
      single : 2 ^ k ≡ 1 * (2 ^ gap * 2 ^ (k - gap))
      single = powers k gap near.gap-k ∙ sym (one-mul (2 ^ gap * 2 ^ (k - gap)))

      double : 2 ^ (k + 1) ≡ 2 * (2 ^ gap * 2 ^ (k - gap))
      double = ap (λ (z : ℕ). 2 ^ z) (add-one k) ∙ pow-succ' 2 k ∙ ap (λ (z : ℕ). 2 * z) (powers k gap near.gap-k)

pub floor_root-found-requires : goal.floor_root-found-requires
floor_root-found-requires c =
    let cut_is = c.shifted-cut.ensures.0 ∙ c.square.ensures in
    omega (arith, c.square-2.ensures, sum_lt c.args.x c.args.y c.args.gap c.shifted-cut.result.kept c.shifted-cut.result.lost c.requires.1 c.requires.2 cut_is)

pub overflow_add-found : goal.overflow_add-found
overflow_add-found c =
    let near : Near c.args.k c.args.x c.args.y c.args.gap c.shifted-cut.result.kept c.shifted-cut.result.lost (c.square-2.result + c.shifted-cut.result.kept) c.floor_root-found.result.root c.floor_root-found.result.rest =
    record {
      x-lo = c.requires.0;
      x-hi = c.requires.1;
      y-hi = c.requires.2;
      gap-k = c.requires.4;
      k_lt = c.requires.5;
      shifted = c.shifted-cut.ensures.0 ∙ c.square.ensures;
      lost_lt = c.shifted-cut.ensures.1;
      sum = ap (λ (z : ℕ). z + c.shifted-cut.result.kept) c.square-2.ensures;
      root = c.floor_root-found.ensures.sum;
      rest_le = c.floor_root-found.ensures.below;
    } in
    omega (arith, extra_lt near c.requires.3)

pub rounded_pattern-requires : goal.rounded_pattern-requires
rounded_pattern-requires c =
    let near : Near c.args.k c.args.x c.args.y c.args.gap c.shifted-cut.result.kept c.shifted-cut.result.lost (c.square-2.result + c.shifted-cut.result.kept) c.floor_root-found.result.root c.floor_root-found.result.rest =
    record {
      x-lo = c.requires.0;
      x-hi = c.requires.1;
      y-hi = c.requires.2;
      gap-k = c.requires.4;
      k_lt = c.requires.5;
      shifted = c.shifted-cut.ensures.0 ∙ c.square.ensures;
      lost_lt = c.shifted-cut.ensures.1;
      sum = ap (λ (z : ℕ). z + c.shifted-cut.result.kept) c.square-2.ensures;
      root = c.floor_root-found.ensures.sum;
      rest_le = c.floor_root-found.ensures.below;
    } in
    omega (arith, root_ge near, root_lt near, near.k_lt)

pub returns : goal.returns
returns c =
    let near : Near c.args.k c.args.x c.args.y c.args.gap c.shifted-cut.result.kept c.shifted-cut.result.lost (c.square-2.result + c.shifted-cut.result.kept) c.floor_root-found.result.root c.floor_root-found.result.rest =
    record {
      x-lo = c.requires.0;
      x-hi = c.requires.1;
      y-hi = c.requires.2;
      gap-k = c.requires.4;
      k_lt = c.requires.5;
      shifted = c.shifted-cut.ensures.0 ∙ c.square.ensures;
      lost_lt = c.shifted-cut.ensures.1;
      sum = ap (λ (z : ℕ). z + c.shifted-cut.result.kept) c.square-2.ensures;
      root = c.floor_root-found.ensures.sum;
      rest_le = c.floor_root-found.ensures.below;
    } in
    rounded near c.rounded_pattern.result c.rounded_pattern.ensures
