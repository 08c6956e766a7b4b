-- The flag `has_ramp` of a region as context.rs makes it, cell by cell, and that it is a count of ramp cells above zero (document 02, request 6), so that where the renderings
-- of the passes write `has_ramp` as `has_ramp` of a record it is the Rust's own flag. Assumes nothing.
use Prim.Native.Nat.{ℕ, zero, suc, ◌+◌}
use Rattle.std.proofs.Common.{arith, add-zero, sym, ap, ◌∙◌, lt-ltb}
use Rattle.std.specs.Prelude.{◌≡◌, Bool, true, false, ◌&&◌, ◌||◌, cond, List, get_or, eqb, ltb}
use Rattle.std.proofs.Math.Path.{refl}
use Rattle.std.proofs.Math.Bool.{or-true, or-false}
use Rattle.definitions.specs.Scan.{count_below, bit}
use Rattle.definitions.specs.Grid.{Map, cell_count, cell_at, is_ramp}
use Rattle.definitions.specs.RegionRecord.{has_ramp, region_of}

-- ---- as the Rust writes it

-- the flag of region r once the first n cells are seen:
--     has_ramp: false,
--     ..
--     value.has_ramp |= cell.ramp;
unfoldable pub flag_after : Map → List ℕ → ℕ → ℕ → Bool
flag_after M ls r zero = false
flag_after M ls r (suc n) = cond (eqb (get_or ls n 0) r) (flag_after M ls r n || is_ramp (cell_at M n)) (flag_after M ls r n)

-- ---- and that it is the same

-- one cell more: whether it is the region's, and whether it is a ramp
above_more : (mine ramp : Bool) (k : ℕ) (flag : Bool) → ltb 0 k ≡ flag → ltb 0 (k + bit (mine && ramp)) ≡ cond mine (flag || ramp) flag
above_more true true k flag h = lt-ltb 0 (k + 1) (omega arith) ∙ sym (or-true flag)
above_more true false k flag h = ap (ltb 0) (add-zero k) ∙ h ∙ sym (or-false flag)
above_more false ramp k flag h = ap (ltb 0) (add-zero k) ∙ h

module _ (M : Map) (ls : List ℕ) (r : ℕ) where
  above_zero : (n : ℕ) → ltb 0 (count_below n (λ c. eqb (get_or ls c 0) r && is_ramp (cell_at M c))) ≡ flag_after M ls r n
  unfolding count_below flag_after
  above_zero zero = refl
  above_zero (suc n) = above_more (eqb (get_or ls n 0) r) (is_ramp (cell_at M n)) _ (flag_after M ls r n) (above_zero n)

  -- "The flag's sense is a count above zero"
  pub ramp_flag : has_ramp (region_of M ls r) ≡ flag_after M ls r (cell_count M)
  unfolding region_of
  ramp_flag = above_zero (cell_count M)
