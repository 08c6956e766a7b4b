-- Document 01's sentences on labels determine them: the labels of definitions meet the sentences (`labels-meet`), and any two lists that meet them are equal
-- (`labelling_unique`). First cells are the same under two labellings, since sharing a label is being joined under both; so the labels of first cells are
-- equal, and every walkable cell shares its label with the first cell of its region. Assumes nothing.
use Prim.Native.Nat.{ℕ, suc, ◌<◌}
use Rattle.std.proofs.Common.{arith, sym, ◌∙◌, ext_get_or, eqb-true, eq-eqb}
use Rattle.std.specs.Prelude.{◌≡◌, ◌↔◌, Bool, List, length, eqb}
use Rattle.std.proofs.Math.Path.{refl, ap, ap₂}
use Rattle.std.proofs.Math.Logic.Iff
use Rattle.std.proofs.Math.Bool.{true, false, not, ◌&&◌}
use Rattle.std.proofs.Math.ListN.{get_or}
use Rattle.std.proofs.lemmas.Bool.{eqb-false}
use Rattle.definitions.specs.Scan.{any_below_lem, count_below}
use Rattle.definitions.specs.Grid.{Map, cell_count}
use Rattle.definitions.specs.Partition.{Joined, uncut, roots, labels, walkable_at, is_root}
use Rattle.laws.specs.ListLaws.Tests.{both, eqb_same}
use Rattle.laws.specs.ListLaws.Below.{below_at, below_none, below_ext, count_ext, First, below_first}
use Rattle.laws.specs.RegionLaws.Regions.{root, roots-rooted, root_below, root-walkable, root-label, root_first, is_root-parts, label-walkable, label-blocked, labels-joined, labels_length}

-- cell c is walkable and has label r
abbrev pub shares_label : Map → List ℕ → ℕ → ℕ → Bool
shares_label M ls r c = walkable_at M c && eqb (get_or ls c 0) r

-- c is the first cell of its region, row by row: it is walkable, and no walkable cell before it has its label
unfoldable pub is_first : Map → List ℕ → ℕ → Bool
unfolding any_below_lem
is_first M ls c = walkable_at M c && not (any_below_lem c (shares_label M ls (get_or ls c 0)))

pub record Labelling (M : Map) (ls : List ℕ) : Type 0 where
  -- a label for each cell
  pub long : length ls ≡ cell_count M
  -- "Two walkable cells share a label exactly when uncut steps join them."
  pub shared : (c d : ℕ) → c < cell_count M → d < cell_count M → walkable_at M c ≡ true → walkable_at M d ≡ true → (get_or ls c 0 ≡ get_or ls d 0) ↔ Joined (uncut M) c d
  -- "Labels count from 1 by the first cell of each region, row by row.": a first cell's label is one more than the number of first cells before it
  pub counted : (c : ℕ) → c < cell_count M → is_first M ls c ≡ true → get_or ls c 0 ≡ suc (count_below c (is_first M ls))
  -- "Cells that aren't walkable have label 0."
  pub blocked : (c : ℕ) → c < cell_count M → walkable_at M c ≡ false → get_or ls c 0 ≡ 0

-- ---- the labels of definitions meet the sentences

module _ (M : Map) where
  first_root : (c : ℕ) → c < cell_count M → is_first M (labels M) c ≡ is_root M (roots M) c
  unfolding is_first
  first_root c h = go (walkable_at M c) refl
    where
      label : ℕ → ℕ
      label d = get_or (labels M) d 0

      before : walkable_at M c ≡ true → root M c ≡ c → (d : ℕ) → d < c → shares_label M (labels M) (label c) d ≡ false
      before w e d l = pick (walkable_at M d) refl (eqb (label d) (label c)) refl
        where
          pick : (a : Bool) → walkable_at M d ≡ a → (b : Bool) → eqb (label d) (label c) ≡ b → (a && b) ≡ false
          pick true v true q = absurd (root_first M c h (ap₂ ◌&&◌ w (eq-eqb (root M c) c e)) d l (eqb-true _ _ q))
          pick true v false q = refl
          pick false v b q = refl

      earlier : walkable_at M c ≡ true → (root M c ≡ c → ⊥) → any_below_lem c (shares_label M (labels M) (label c)) ≡ true
      earlier w n =
          below_at c (shares_label M (labels M) (label c)) (root M c) (omega (arith, (roots-rooted M).low c h, n))
          (ap₂ ◌&&◌ v (eq-eqb _ _ ((root-label M (root M c) c (root_below M c h) h v w).1 ((roots-rooted M).own c h))))
        where
          v : walkable_at M (root M c) ≡ true
          v = root-walkable M c h ∙ w

      same : walkable_at M c ≡ true → (b : Bool) → eqb (root M c) c ≡ b → not (any_below_lem c (shares_label M (labels M) (label c))) ≡ b
      same w true e = ap not (below_none c _ (before w (eqb-true _ _ e)))
      same w false e = ap not (earlier w (eqb-false _ _ e))

      go : (b : Bool) → walkable_at M c ≡ b → (b && not (any_below_lem c (shares_label M (labels M) (label c)))) ≡ (b && eqb (root M c) c)
      go true w = same w (eqb (root M c) c) refl
      go false w = refl

  pub labels-meet : Labelling M (labels M)
  labels-meet =
      record {
        long = labels_length M;
        shared = labels-joined M;
        counted = λ c h f.
            let p = is_root-parts M c (sym (first_root c h) ∙ f) in
            label-walkable M c h p.0 ∙ ap (λ r. suc (count_below r (is_root M (roots M)))) p.1
            ∙ ap suc (sym (count_ext c _ _ (λ d l. first_root d (omega arith))));
        blocked = label-blocked M;
      }

-- ---- no two lists meet them

module _ (M : Map) {ls ls' : List ℕ} (L : Labelling M ls) (L' : Labelling M ls') where
  shares_same : (c d : ℕ) → c < cell_count M → d < cell_count M → walkable_at M c ≡ true → shares_label M ls (get_or ls c 0) d ≡ shares_label M ls' (get_or ls' c 0) d
  shares_same c d h k w = go (walkable_at M d) refl
    where
      go : (b : Bool) → walkable_at M d ≡ b → (b && eqb (get_or ls d 0) (get_or ls c 0)) ≡ (b && eqb (get_or ls' d 0) (get_or ls' c 0))
      go true v = eqb_same _ _ _ _ (Iff.trans (L.shared d c k h v w) (Iff.symm (L'.shared d c k h v w)))
      go false v = refl

  first_same : (c : ℕ) → c < cell_count M → is_first M ls c ≡ is_first M ls' c
  unfolding is_first
  first_same c h = go (walkable_at M c) refl
    where
      go : (b : Bool) → walkable_at M c ≡ b → (b && not (any_below_lem c (shares_label M ls (get_or ls c 0)))) ≡ (b && not (any_below_lem c (shares_label M ls' (get_or ls' c 0))))
      go true w = ap not (below_ext c _ _ (λ d l. shares_same c d h (omega arith) w))
      go false w = refl

  label_of_first : (c : ℕ) → c < cell_count M → is_first M ls c ≡ true → get_or ls c 0 ≡ get_or ls' c 0
  label_of_first c h f =
      L.counted c h f ∙ ap suc (count_ext c _ _ (λ d l. first_same d (omega arith))) ∙ sym (L'.counted c h (sym (first_same c h) ∙ f))

  label_same : (c : ℕ) → c < cell_count M → get_or ls c 0 ≡ get_or ls' c 0
  unfolding is_first
  label_same c h = go (walkable_at M c) refl
    where
      own : walkable_at M c ≡ true → shares_label M ls (get_or ls c 0) c ≡ true
      own w = ap₂ ◌&&◌ w (eq-eqb (get_or ls c 0) (get_or ls c 0) refl)

      -- f is the first cell of the region of c
      through : walkable_at M c ≡ true → First (shares_label M ls (get_or ls c 0)) (suc c) → get_or ls c 0 ≡ get_or ls' c 0
      through w t = sym e ∙ label_of_first f below first ∙ (L'.shared f c below h v w).1 ((L.shared f c below h v w).0 e)
        where
          f : ℕ
          f = t.place

          below : f < cell_count M
          below = omega (arith, t.below)

          v : walkable_at M f ≡ true
          v = (both _ (eqb (get_or ls f 0) (get_or ls c 0)) t.found).0

          e : get_or ls f 0 ≡ get_or ls c 0
          e = eqb-true _ _ (both (walkable_at M f) _ t.found).1

          first : is_first M ls f ≡ true
          first = ap₂ ◌&&◌ v (ap (λ r. not (any_below_lem f (shares_label M ls r))) e ∙ ap not t.none)

      go : (b : Bool) → walkable_at M c ≡ b → get_or ls c 0 ≡ get_or ls' c 0
      go true w = through w (below_first (shares_label M ls (get_or ls c 0)) (suc c) (below_at (suc c) _ c (omega arith) (own w)))
      go false w = L.blocked c h w ∙ sym (L'.blocked c h w)

  pub labelling_unique : ls ≡ ls'
  labelling_unique = ext_get_or 0 ls ls' (L.long ∙ sym L'.long) (λ c h. label_same c (omega (arith, L.long)))
