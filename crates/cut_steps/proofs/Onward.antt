-- Which directions lead to cells of larger number: those whose bit is above 4, the bit of (1, 1), where there is a step (`onward-bit`). So four directions decide a
-- cell's mask (`mask_bits`). Assumes nothing.
use Prim.Native.Nat.{ℕ, zero, suc, ◌+◌, ◌*◌, ◌%◌, ◌^◌, ◌≤◌, ◌<◌}
use native.Mathlib.Omega.{arith}
use native.Mathlib.Nat.{zero-div}
use mathlib.Core.Path.{◌≡◌, refl, sym, ap, ◌∙◌}
use mathlib.Core.Bool.{Bool, true, false, ◌&&◌, and-false, true≢false}
use mathlib.Core.List.{[], ◌∷◌, map}
use lib.ListN.{get_or}
use lib.Dec.{eqb, ltb}
use borrow.Author.Tests.{lt-ltb, le-ltb}
use Rattle.definitions.specs.Scan.{run}
use Rattle.definitions.specs.Grid.{Map, Position, at, Segment, toward, index, is_step, walkable}
use Rattle.definitions.specs.Spans.{cuts}
use Rattle.grid_steps.specs.Masks.{bit_of}
use Rattle.grid_steps.proofs.Square.{four}
use Rattle.grid_steps.proofs.Onward.{onward-bit}
use Rattle.cut_steps.specs.CutSteps.{is_cut_onward, is_set}
use Rattle.cut_steps.specs.Cell.{CutBits, Uncut, onward_mask}

-- ---- one direction

module _ (M : Map) (g : Segment) (p d : Position) where
  pub blocked : is_step M p d ≡ false → false ≡ is_cut_onward M g p d
  unfolding is_cut_onward
  blocked e = rw e refl

  pub onward-cut : is_step M p d ≡ true → 4 < bit_of d → cuts g p (toward p d) ≡ is_cut_onward M g p d
  unfolding is_cut_onward
  onward-cut s b = rw (s, onward-bit M p d s ∙ lt-ltb 4 (bit_of d) b) refl

  -- a direction to smaller numbers, and none
  pub not-onward : bit_of d ≤ 4 → false ≡ is_cut_onward M g p d
  unfolding is_cut_onward
  not-onward b = go (is_step M p d) refl
    where
      go : (t : Bool) → is_step M p d ≡ t → false ≡ is_cut_onward M g p d
      go false e = rw e refl
      go true e = rw (e, onward-bit M p d e ∙ le-ltb 4 (bit_of d) b) refl

-- a position that is not walkable has no step
pub no_step : (M : Map) (g : Segment) (p : Position) → walkable M p ≡ false → (d : Position) → false ≡ is_cut_onward M g p d
no_step M g p w d = go (is_step M p d) refl
  where
    go : (t : Bool) → is_step M p d ≡ t → false ≡ is_cut_onward M g p d
    go false e = blocked M g p d e
    go true e = absurd (true≢false (sym (four M p d e).near ∙ w))

-- a step that the segment does not cut, walkable or not
pub clear_of : (M : Map) (g : Segment) (p d : Position) → Uncut g p d → false ≡ is_cut_onward M g p d
unfolding is_cut_onward
clear_of M g p d n = go (is_step M p d) refl
  where
    go : (t : Bool) → is_step M p d ≡ t → false ≡ is_cut_onward M g p d
    go false e = rw e refl
    go true e =
        let f = four M p d e in
        sym (ap (λ t. is_step M p d && ltb (index M p) (index M (toward p d)) && t) (n f.right f.down) ∙ and-false (is_step M p d && ltb (index M p) (index M (toward p d))))

-- a step to the next row asks for the cell to the south
pub no_south : (M : Map) (g : Segment) (p : Position) → walkable M (at p.x (p.y + 1)) ≡ false → (dx : ℕ) → false ≡ is_cut_onward M g p (at dx 2)
no_south M g p w dx = go (is_step M p (at dx 2)) refl
  where
    go : (t : Bool) → is_step M p (at dx 2) ≡ t → false ≡ is_cut_onward M g p (at dx 2)
    go false e = blocked M g p (at dx 2) e
    go true e = absurd (true≢false (sym (four M p (at dx 2) e).under ∙ ap (λ y. walkable M (at p.x y)) (omega arith) ∙ w))

-- ---- the mask

-- its nine bits
pub nine : (a b c d : Bool) → map (is_set (onward_mask a b c d)) (run 0 9) ≡ false ∷ false ∷ false ∷ false ∷ false ∷ a ∷ b ∷ c ∷ d ∷ []
unfolding run
nine true true true true = refl
nine true true true false = refl
nine true true false true = refl
nine true true false false = refl
nine true false true true = refl
nine true false true false = refl
nine true false false true = refl
nine true false false false = refl
nine false true true true = refl
nine false true true false = refl
nine false true false true = refl
nine false true false false = refl
nine false false true true = refl
nine false false true false = refl
nine false false false true = refl
nine false false false false = refl

pub zero_bit : (k : ℕ) → is_set 0 k ≡ false
zero_bit k = ap (λ m. eqb (m % 2) 1) (zero-div (2 ^ k))

module _ (M : Map) (g : Segment) (p : Position) where
  pub no_bits : ((d : Position) → false ≡ is_cut_onward M g p d) → CutBits M g p 0
  no_bits n d a b = zero_bit (bit_of d) ∙ n d

  pub mask_bits : {a b c d : Bool} → a ≡ is_cut_onward M g p (at 2 1) → b ≡ is_cut_onward M g p (at 0 2) → c ≡ is_cut_onward M g p (at 1 2) → d ≡ is_cut_onward M g p (at 2 2) → CutBits M g p (onward_mask a b c d)
  unfolding run
  mask_bits {a} {b} {c} {d} east south_west_lem south south_east_lem e = go e.x e.y
    where
      bit : (k : ℕ) → get_or (map (is_set (onward_mask a b c d)) (run 0 9)) k false ≡ get_or (false ∷ false ∷ false ∷ false ∷ false ∷ a ∷ b ∷ c ∷ d ∷ []) k false
      bit k = ap (λ l. get_or l k false) (nine a b c d)

      go : (x y : ℕ) → x ≤ 2 → y ≤ 2 → is_set (onward_mask a b c d) (y * 3 + x) ≡ is_cut_onward M g p (at x y)
      go zero zero i j = bit 0 ∙ not-onward M g p (at 0 0) (omega arith)
      go (suc zero) zero i j = bit 1 ∙ not-onward M g p (at 1 0) (omega arith)
      go (suc (suc zero)) zero i j = bit 2 ∙ not-onward M g p (at 2 0) (omega arith)
      go zero (suc zero) i j = bit 3 ∙ not-onward M g p (at 0 1) (omega arith)
      go (suc zero) (suc zero) i j = bit 4 ∙ not-onward M g p (at 1 1) (omega arith)
      go (suc (suc zero)) (suc zero) i j = bit 5 ∙ east
      go zero (suc (suc zero)) i j = bit 6 ∙ south_west_lem
      go (suc zero) (suc (suc zero)) i j = bit 7 ∙ south
      go (suc (suc zero)) (suc (suc zero)) i j = bit 8 ∙ south_east_lem
      go (suc (suc (suc x))) y i j = absurd (omega arith)
      go zero (suc (suc (suc y))) i j = absurd (omega arith)
      go (suc zero) (suc (suc (suc y))) i j = absurd (omega arith)
      go (suc (suc zero)) (suc (suc (suc y))) i j = absurd (omega arith)

pub mask_small : (a b c d : Bool) → onward_mask a b c d < 512
mask_small true true true true = omega arith
mask_small true true true false = omega arith
mask_small true true false true = omega arith
mask_small true true false false = omega arith
mask_small true false true true = omega arith
mask_small true false true false = omega arith
mask_small true false false true = omega arith
mask_small true false false false = omega arith
mask_small false true true true = omega arith
mask_small false true true false = omega arith
mask_small false true false true = omega arith
mask_small false true false false = omega arith
mask_small false false true true = omega arith
mask_small false false true false = omega arith
mask_small false false false true = omega arith
mask_small false false false false = omega arith
