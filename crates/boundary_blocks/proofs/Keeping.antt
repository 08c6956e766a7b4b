-- Blocks moved to the front of their list: those that are left of the first k stand there, one behind the other, and all else is as it was (`left_next`). What is still to be read
-- stands at its own place, since no more are left than were read. Assumes nothing.
use Prim.Native.Nat.{ℕ, zero, suc, ◌+◌, ◌*◌, ◌≤◌, ◌<◌}
use native.Mathlib.Omega.{arith}
use native.Mathlib.Nat.{mul-le-mul_left, mul-suc, mul-zero, mul-one, mul-add}
use native.Mathlib.Numerals.{add-one}
use mathlib.Core.Path.{◌≡◌, sym, ap, ap₂, ◌∙◌}
use mathlib.Core.Bool.{Bool, true, false, not, cond}
use mathlib.Core.List.{List, []}
use lib.ListN.{length, get_or, take, length-append}
use lib.Seq.{sets}
use Rattle.definitions.specs.Scan.{gather, count_below, bit}
use Rattle.definitions.specs.Lists.{overwrite}
use Rattle.laws.specs.ListLaws.Overwritten.{overwrite_more}
use Rattle.laws.specs.ListLaws.ScanSteps.{count-le}
use Rattle.rest.specs.Clearing.{beyond-stays}
use Rattle.boundary_blocks.specs.Blocks.{part, is_left, left_block, left_blocks, left_count}
use Rattle.boundary_blocks.proofs.Copying.{part_length}

-- block k + 1 begins where block k ends
pub block-end : (size k : ℕ) → size * (k + 1) ≡ size * k + size
block-end size k = ap (λ n. size * n) (add-one k) ∙ mul-suc size k

pub within : (size k count : ℕ) {n : ℕ} → k < count → size * count ≤ n → size * k + size ≤ n
within size k count h room = omega (arith, block-end size k, mul-le-mul_left {m = k + 1} {n = count} size (omega arith))

module _ (removed : List Bool) (size : ℕ) where
  -- ---- one block

  pub block-gone : (l : List ℕ) (k : ℕ) → get_or removed k false ≡ true → left_block removed size l k ≡ []
  block-gone l k e = ap (λ b. cond (not b) (part (size * k) size l) []) e

  pub block-stays : (l : List ℕ) (k : ℕ) → get_or removed k false ≡ false → left_block removed size l k ≡ part (size * k) size l
  block-stays l k e = ap (λ b. cond (not b) (part (size * k) size l) []) e

  block-length : (l : List ℕ) (k : ℕ) → size * k + size ≤ length l → length (left_block removed size l k) ≡ size * bit (is_left removed k)
  block-length l k h = go (is_left removed k)
    where
      go : (b : Bool) → length (cond b (part (size * k) size l) []) ≡ size * bit b
      go true = part_length (size * k) size l h ∙ sym (mul-one size)
      go false = sym (mul-zero size)

  -- ---- the first k

  module _ (l : List ℕ) (count : ℕ) (room : size * count ≤ length l) where
    pub left_length_lem : (k : ℕ) → k ≤ count → length (left_blocks removed size l k) ≡ size * left_count removed k
    unfolding left_blocks gather left_count count_below
    left_length_lem zero h = sym (mul-zero size)
    left_length_lem (suc k) h =
        length-append (gather k (left_block removed size l)) (left_block removed size l k)
        ∙ ap₂ ◌+◌ (left_length_lem k (omega arith)) (block-length l k (within size k count (omega arith) room))
        ∙ sym (mul-add size (count_below k (is_left removed)) (bit (is_left removed k)))

    pub left-few : (k : ℕ) → left_count removed k ≤ k
    unfolding left_count
    left-few k = count-le (is_left removed) k

    pub left-room : (k : ℕ) → size * left_count removed k ≤ size * k
    left-room k = mul-le-mul_left size (left-few k)

    -- a block that is still to be read is as it was
    behind : (k : ℕ) → k ≤ count → left_block removed size (overwrite (left_blocks removed size l k) l) k ≡ left_block removed size l k
    behind k h =
        ap (λ r. cond (is_left removed k) (take size r) [])
        (beyond-stays (size * k) (left_blocks removed size l k) l (omega (arith, left_length_lem k h, left-room k)))

    -- one block more
    pub left_next : (k : ℕ) → k < count
        → sets (overwrite (left_blocks removed size l k) l) (size * left_count removed k) (left_block removed size (overwrite (left_blocks removed size l k) l) k)
        ≡ overwrite (left_blocks removed size l (k + 1)) l
    unfolding left_blocks gather
    left_next k h =
        ap₂ (λ n b. sets (overwrite (left_blocks removed size l k) l) n b) (sym (left_length_lem k (omega arith))) (behind k (omega arith))
        ∙ overwrite_more (left_blocks removed size l k) (left_block removed size l k) l
        (omega (arith, left_length_lem k (omega arith), left-room k, block-length l k (within size k count h room), within size k count h room, bit-few (is_left removed k)))
        ∙ ap (λ n. overwrite (left_blocks removed size l n) l) (sym (add-one k))
      where
        bit-few : (b : Bool) → size * bit b ≤ size
        bit-few true = omega (arith, mul-one size)
        bit-few false = omega (arith, mul-zero size)

    pub count_next : (k : ℕ) → left_count removed k + bit (is_left removed k) ≡ left_count removed (k + 1)
    unfolding left_count count_below
    count_next k = ap (left_count removed) (sym (add-one k))
