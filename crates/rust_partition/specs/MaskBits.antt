-- The bits of the Rust's cut masks: `edge_bit` of a step is the bit of its direction, seen from either cell (`edge_bit_lem`, `edge_bit-back`); a bit that the Rust sets is
-- set and one that it asks is asked (`bit-set`, `bit-asked`) in the words of the crate `flood`. The argument: the signed differences of a step's coordinates, moved
-- by 1, are the direction's. Assumes nothing.
use Rattle.std.specs.Prelude.{ℕ, zero, suc, ◌+◌, ◌-◌, ◌*◌, ◌/◌, ◌%◌, ◌^◌, ◌≤◌, ◌<◌, ◌≡◌, not, List, get_or, eqb, negsuc, ◌+ℤ◌, ◌*ℤ◌}
use Rattle.std.proofs.Common.{arith, zero-mul, pow-suc, sym, ap₂, ◌∙◌, pow_pos, ne_eqb}
use Rattle.std.proofs.Math.Path.{refl, ap}
use Rattle.std.proofs.Math.IntN.{pos, pos-+ℤ-pos, pos-*ℤ-pos}
use Rattle.std.specs.Int.Bits.{bit_and}
use Rattle.std.proofs.lemmas.Nat.Bits.{and_high}
use Rattle.definitions.specs.Grid.{Position, at, toward}
use Rattle.definitions.specs.Spans.{diff, nat_of}
use Rattle.laws.specs.NumberLaws.WholeNumbers.{diff-pos, diff_neg}
use Rattle.grid_steps.specs.Masks.{bit_of, opposite, cut_bit, with_bit}
use Rattle.grid_steps.proofs.MarkStep.{bit-opposite}
use Rattle.rust_partition.specs.Literal.CutMasks.{edge_bit, or_at, has_bit}

-- ---- one bit of a number

one_bit : (m k : ℕ) → bit_and m (2 ^ k) ≡ m / 2 ^ k % 2 * 2 ^ k
one_bit m k = ap (bit_and m) (sym alone) ∙ and_high m 1 k
  where
    twice : 2 ^ (1 + k) ≡ 2 ^ k * 2
    twice = ap (λ n. 2 ^ n) more ∙ pow-suc 2 k
      where
        more : 1 + k ≡ suc k
        more = omega arith

    alone : 2 ^ (1 + k) - 2 ^ k ≡ 2 ^ k
    alone = omega (arith, twice)

has_bit_lem : (m k : ℕ) → not (eqb (bit_and m (2 ^ k)) 0) ≡ eqb (m / 2 ^ k % 2) 1
has_bit_lem m k = ap (λ x. not (eqb x 0)) (one_bit m k) ∙ go (m / 2 ^ k % 2) (omega arith)
  where
    go : (b : ℕ) → b < 2 → not (eqb (b * 2 ^ k) 0) ≡ eqb b 1
    go zero h = ap (λ x. not (eqb x 0)) (zero-mul (2 ^ k))
    go (suc zero) h = ap not (ne_eqb (1 * 2 ^ k) 0 (λ e. omega (arith, pow_pos k)))
    go (suc (suc b)) h = absurd (omega arith)

module _ (masks : List ℕ) (c k : ℕ) where
  pub bit-asked : has_bit masks c (2 ^ k) ≡ cut_bit masks c k
  unfolding has_bit cut_bit
  bit-asked = has_bit_lem (get_or masks c 0) k

  pub bit-set : or_at masks c (2 ^ k) ≡ with_bit masks c k
  unfolding or_at with_bit
  bit-set = refl

-- ---- the bit of a step

moved : (n k : ℕ) → 1 ≤ n + k → k ≤ 2 → diff (n + k - 1) n +ℤ pos 1 ≡ pos k
moved n zero h l = ap (λ z. z +ℤ pos 1) (diff_neg {m = n + 0 - 1} {n = n} (omega arith) ∙ ap negsuc one)
  where
    one : n - suc (n + 0 - 1) ≡ 0
    one = omega arith
moved n (suc zero) h l = ap (λ z. z +ℤ pos 1) (diff-pos {m = n + 1 - 1} {n = n} (omega arith) ∙ ap pos none)
  where
    none : n + 1 - 1 - n ≡ 0
    none = omega arith
moved n (suc (suc zero)) h l = ap (λ z. z +ℤ pos 1) (diff-pos {m = n + 2 - 1} {n = n} (omega arith) ∙ ap pos one)
  where
    one : n + 2 - 1 - n ≡ 1
    one = omega arith
moved n (suc (suc (suc k))) h l = absurd (omega arith)

module _ (p d : Position) (near_x : d.x ≤ 2) (near_y : d.y ≤ 2) (right : 1 ≤ p.x + d.x) (down : 1 ≤ p.y + d.y) where
  pub edge_bit_lem : edge_bit p (toward p d) ≡ 2 ^ bit_of d
  unfolding edge_bit
  edge_bit_lem =
      (λ i. 2 ^ nat_of (moved p.y d.y down near_y i *ℤ pos 3 +ℤ moved p.x d.x right near_x i))
      ∙ ap (λ z. 2 ^ nat_of (z +ℤ pos d.x)) (pos-*ℤ-pos d.y 3)
      ∙ ap (λ z. 2 ^ nat_of z) (pos-+ℤ-pos (d.y * 3) d.x)

pub edge_bit-back : (p d : Position) → d.x ≤ 2 → d.y ≤ 2 → 1 ≤ p.x + d.x → 1 ≤ p.y + d.y → edge_bit (toward p d) p ≡ 2 ^ (8 - bit_of d)
edge_bit-back p d near_x near_y right down =
    ap (edge_bit (toward p d)) (ap₂ at home-x home-y) ∙ edge_bit_lem (toward p d) (opposite d) (omega arith) (omega arith) (omega arith) (omega arith) ∙ ap (λ k. 2 ^ k) (bit-opposite d near_x near_y)
  where
    home-x : p.x ≡ p.x + d.x - 1 + (2 - d.x) - 1
    home-x = omega arith

    home-y : p.y ≡ p.y + d.y - 1 + (2 - d.y) - 1
    home-y = omega arith
