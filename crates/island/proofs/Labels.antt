-- The island's labels, counted through, are the labels of the restricted map. Labels count roots in order, an island cell has the same root in both maps,
-- and the restricted map's roots are the map's roots in the island; so a label there counts the regions inside before it. Assumes `Island`.
use Prim.Native.Nat.{ℕ, zero, suc, ◌+◌, ◌≤◌, ◌<◌}
use native.Mathlib.Omega.{arith}
use Rattle.std.proofs.Common.{add-zero, add-one, ◌∙◌, true≢false}
use Rattle.std.specs.Prelude.{◌≡◌, Bool, true, false, get_or}
use Rattle.std.proofs.Math.Path.{refl, sym, ap, ap₂}
use Rattle.std.proofs.Math.Bool.{◌&&◌, and-true, and-false}
use Rattle.std.proofs.Math.Dec.{eqb}
use borrow.Author.Tests.{eqb-true, eq-eqb}
use Rattle.definitions.specs.Scan.{any_below_lem, count_below, bit}
use Rattle.definitions.specs.Grid.{Map, cell_count}
use Rattle.definitions.specs.Partition.{walkable_at, is_root, roots, labels, region_count}
use Rattle.laws.specs.OrderLaws.Ranks.{rank, rank-shift}
use Rattle.laws.specs.ListLaws.Below.{count_ext, below_at, below_none}
use Rattle.laws.specs.RegionLaws.Regions.{root, root_below, root-is_root, is_root-parts, root_one, label-walkable, label-blocked}
use Rattle.island.specs.Premises.{Island}
use Rattle.island.specs.Frame.{ren}
use Rattle.island.specs.Restrict.{restrict, walkable_at_lem}
use Rattle.island.proofs.Restrict.{root-side, root_same}

-- whether a cell is a root, and the label of a cell
abbrev is_root_cell : Map → ℕ → Bool
is_root_cell M = is_root M (roots M)

abbrev pub label_of : Map → ℕ → ℕ
label_of M c = get_or (labels M) c 0

-- regions inside, counted through by their labels, are counted through by their roots
label-rank : (root isl in_r : ℕ → Bool) → in_r 0 ≡ false → (n : ℕ) → ((c : ℕ) → c < n → root c ≡ true → in_r (suc (count_below c root)) ≡ isl c) → rank in_r (suc (count_below n root)) ≡ count_below n (λ c. root c && isl c)
unfolding count_below
label-rank root isl in_r z zero h = rw z refl
label-rank root isl in_r z (suc n) h = go (root n) refl (label-rank root isl in_r z n (λ c l. h c (omega arith)))
  where
    go : (b : Bool) → root n ≡ b → rank in_r (suc (count_below n root)) ≡ count_below n (λ c. root c && isl c) → rank in_r (suc (count_below n root + bit (root n))) ≡ count_below n (λ c. root c && isl c) + bit (root n && isl n)
    go true e ih = rw (e, add-one (count_below n root), ← (h n (omega arith) e)) (ap (λ m. m + bit (in_r (suc (count_below n root)))) ih)
    go false e ih = rw (e, add-zero (count_below n root), add-zero (count_below n (λ c. root c && isl c))) ih

module _ (M : Map) (isl : ℕ → Bool) where
  -- region r has a walkable cell in the island
  unfoldable pub in_r : ℕ → Bool
  unfolding any_below_lem labels cell_count
  in_r r = any_below_lem (cell_count M) (λ c. (isl c && walkable_at M c) && eqb (label_of M c) r)

  three_and : (a b d : Bool) → (a ≡ true → b ≡ true → d ≡ true → ⊥) → ((a && b) && d) ≡ false
  three_and true true true h = absurd (h refl refl refl)
  three_and true true false h = refl
  three_and true false d h = refl
  three_and false b d h = refl

  pub in_zero : in_r 0 ≡ false
  unfolding in_r
  in_zero = below_none (cell_count M) _ (λ c h. three_and (isl c) (walkable_at M c) _ (λ i w e. suc≢zero (sym (label-walkable M c h w) ∙ eqb-true _ _ e)))
    where
      suc≢zero : {n : ℕ} → suc n ≡ 0 → ⊥
      suc≢zero e = omega arith

  module _ (I : Island M isl) where
    -- ---- roots of the restricted map

    is_root_in : (c : ℕ) → c < cell_count M → is_root_cell (restrict M isl) c ≡ (is_root_cell M c && isl c)
    is_root_in c h = ap (λ b. b && eqb (root (restrict M isl) c) c) (walkable_at_lem M isl c h) ∙ go (isl c) refl
      where
        swap : (a b : Bool) → ((a && true) && b) ≡ ((a && b) && true)
        swap a b = ap (λ x. x && b) (and-true a) ∙ sym (and-true (a && b))

        none : (a b d : Bool) → ((a && false) && b) ≡ ((a && d) && false)
        none a b d = ap (λ x. x && b) (and-false a) ∙ sym (and-false (a && d))

        go : (b : Bool) → isl c ≡ b → ((walkable_at M c && b) && eqb (root (restrict M isl) c) c) ≡ ((walkable_at M c && eqb (root M c) c) && b)
        go true e = ap (λ r. (walkable_at M c && true) && eqb r c) (sym (root_same M isl I c h e)) ∙ swap (walkable_at M c) (eqb (root M c) c)
        go false e = none (walkable_at M c) (eqb (root (restrict M isl) c) c) (eqb (root M c) c)

    -- ---- a walkable cell's region lies where the cell does

    in_root : (c : ℕ) → c < cell_count M → is_root_cell M c ≡ true → in_r (suc (count_below c (is_root_cell M))) ≡ isl c
    unfolding in_r
    in_root c h r = go (isl c) refl
      where
        mine : label_of M c ≡ suc (count_below c (is_root_cell M))
        mine = label-walkable M c h (is_root-parts M c r).0 ∙ ap (λ x. suc (count_below x (is_root_cell M))) (is_root-parts M c r).1

        same_count : {m n : ℕ} → suc m ≡ suc n → m ≡ n
        same_count e = omega arith

        other : isl c ≡ false → (d : ℕ) → d < cell_count M → ((isl d && walkable_at M d) && eqb (label_of M d) (suc (count_below c (is_root_cell M)))) ≡ false
        other e d l =
            three_and (isl d) (walkable_at M d) _
            (λ i w q.
            true≢false
            (sym i ∙ sym (root-side M isl I d l)
            ∙ ap isl (root_one M (root M d) c (root-is_root M d l w) r (same_count (sym (label-walkable M d l w) ∙ eqb-true _ _ q))) ∙ e))

        go : (b : Bool) → isl c ≡ b → any_below_lem (cell_count M) (λ d. (isl d && walkable_at M d) && eqb (label_of M d) (suc (count_below c (is_root_cell M)))) ≡ b
        go true e = below_at (cell_count M) _ c h (rw (e, (is_root-parts M c r).0, mine) (eq-eqb (suc (count_below c (is_root_cell M))) (suc (count_below c (is_root_cell M))) refl))
        go false e = below_none (cell_count M) _ (other e)

    pub in_label : (c : ℕ) → c < cell_count M → walkable_at M c ≡ true → in_r (label_of M c) ≡ isl c
    in_label c h w = ap in_r (label-walkable M c h w) ∙ in_root (root M c) (root_below M c h) (root-is_root M c h w) ∙ root-side M isl I c h

    -- ---- labels of the restricted map

    counted : (n : ℕ) → n ≤ cell_count M → rank in_r (suc (count_below n (is_root_cell M))) ≡ count_below n (is_root_cell (restrict M isl))
    counted n l = label-rank (is_root_cell M) isl in_r in_zero n (λ c k r. in_root c (omega arith) r) ∙ sym (count_ext n _ _ (λ c k. is_root_in c (omega arith)))

    -- an island cell's label is its label's rank
    pub label_in : (c : ℕ) → c < cell_count M → walkable_at M c ≡ true → isl c ≡ true → label_of (restrict M isl) c ≡ ren in_r (label_of M c)
    unfolding cell_count
    label_in c h w i =
        label-walkable (restrict M isl) c h (walkable_at_lem M isl c h ∙ ap₂ ◌&&◌ w i)
        ∙ ap (λ x. suc (count_below x (is_root_cell (restrict M isl)))) (sym (root_same M isl I c h i))
        ∙ ap suc (sym (counted (root M c) (omega (arith, root_below M c h))) ∙ ap (rank in_r) (sym (label-walkable M c h w)))

    -- other cells have label 0
    pub label-out : (c : ℕ) → c < cell_count M → (walkable_at M c && isl c) ≡ false → label_of (restrict M isl) c ≡ 0
    unfolding cell_count
    label-out c h o = label-blocked (restrict M isl) c h (walkable_at_lem M isl c h ∙ o)

    pub regions_in_lem : region_count (restrict M isl) ≡ rank (λ k. in_r (suc k)) (region_count M)
    unfolding region_count cell_count
    regions_in_lem = sym (counted (cell_count M) (omega arith)) ∙ rank-shift in_r (count_below (cell_count M) (is_root_cell M)) in_zero
