-- Regions and labels of every map (SPECIFICATION 8): two walkable cells share a label exactly when uncut steps join them; a cell has label 0 exactly
-- when it is not walkable; and the labels of walkable cells are 1 to the number of regions, each taken. A cell's label is one more than the rank of its root
-- among the roots, ranks of different roots differ, and two cells have one root exactly when uncut steps join them (Chains). Assumes nothing.
use Prim.Native.Nat.{ℕ, zero, suc, ◌≤◌, ◌<◌}
use Rattle.std.proofs.Common.{arith, ap₂, ◌∙◌, eqb-true, eq-eqb}
use Rattle.std.specs.Prelude.{◌≡◌, refl, ◌↔◌, Bool, true, false, ◌&&◌, cond, length, get_or, eqb}
use Rattle.std.proofs.Math.Path.{sym, ap}
use Rattle.std.proofs.Math.ListN.{length-map, get_or-eq_default}
use Rattle.definitions.specs.Scan.{run, count_below}
use Rattle.definitions.specs.Grid.{Map, cell_count}
use Rattle.definitions.specs.Partition.{Joined, uncut, roots, labels, region_count, walkable_at, is_root}
use Rattle.laws.specs.ListLaws.Lists.{All, all_map, length_run, get_d_tab}
use Rattle.laws.specs.OrderLaws.Ranks.{rank_lt, rank-eqb}
use Rattle.laws.specs.RegionLaws.Merging.{Within, Rooted, rooted}
use Rattle.laws.specs.ListLaws.Tests.{both}
use Rattle.laws.specs.ListLaws.Below.{rank-taken}
use Rattle.laws.specs.RegionLaws.Chains.{joined_sym, joined_same, name-joined, same_name, class_least}
use Rattle.laws.specs.RegionLaws.Steps.{uncut-steps}

module _ (M : Map) where
  -- ---- roots

  -- the first cell of the region of c
  abbrev pub root : ℕ → ℕ
  root c = get_or (roots M) c 0

  pub uncut-within : All (Within (cell_count M)) (uncut M)
  uncut-within = all_map (λ e s. s.within) (uncut-steps M)

  pub roots-rooted : Rooted (cell_count M) (roots M)
  unfolding roots
  roots-rooted = rooted (cell_count M) uncut-within

  pub roots-joined : (c d : ℕ) → c < cell_count M → d < cell_count M → (root c ≡ root d) ↔ Joined (uncut M) c d
  unfolding roots
  roots-joined c d h k = same_name (cell_count M) uncut-within c d h k

  -- a set of cells that has c and is closed under uncut steps has the region of c
  pub region_least : (P : ℕ → Bool) → All (λ e. P e.lo ≡ P e.hi) (uncut M) → (c d : ℕ) → c < cell_count M → d < cell_count M → root d ≡ root c → P c ≡ true → P d ≡ true
  unfolding roots
  region_least P s c d h k e t = class_least (cell_count M) uncut-within P s c d h k e t

  pub root_below : (c : ℕ) → c < cell_count M → root c < cell_count M
  root_below c h = omega (arith, roots-rooted.low c h)

  -- a region's cells are all walkable or none is
  pub joined-walkable : {c d : ℕ} → Joined (uncut M) c d → walkable_at M c ≡ walkable_at M d
  joined-walkable j = joined_same (walkable_at M) (all_map (λ e s. s.low_walkable ∙ sym s.high_walkable) (uncut-steps M)) j

  pub root-walkable : (c : ℕ) → c < cell_count M → walkable_at M (root c) ≡ walkable_at M c
  unfolding roots
  root-walkable c h = joined-walkable (joined_sym (name-joined (cell_count M) uncut-within c h))

  pub root-is_root : (c : ℕ) → c < cell_count M → walkable_at M c ≡ true → is_root M (roots M) (root c) ≡ true
  root-is_root c h w = ap₂ ◌&&◌ (root-walkable c h ∙ w) (eq-eqb _ _ (roots-rooted.own c h))

  pub is_root-parts : (c : ℕ) → is_root M (roots M) c ≡ true → (walkable_at M c ≡ true) × (root c ≡ c)
  is_root-parts c h =
      let p = both (walkable_at M c) (eqb (root c) c) h in
      (p.0, eqb-true (root c) c p.1)

  -- roots with equally many before them are one
  pub root_one : (c d : ℕ) → is_root M (roots M) c ≡ true → is_root M (roots M) d ≡ true → count_below c (is_root M (roots M)) ≡ count_below d (is_root M (roots M)) → c ≡ d
  root_one c d h k e = eqb-true c d (rank-eqb (is_root M (roots M)) c d h k ∙ eq-eqb _ _ e)

  -- ---- labels

  label_of : ℕ → ℕ
  label_of c = cond (walkable_at M c) (suc (count_below (root c) (is_root M (roots M)))) 0

  pub labels_length : length (labels M) ≡ cell_count M
  unfolding labels label_of
  labels_length = length-map (run 0 (cell_count M)) label_of ∙ length_run 0 (cell_count M)

  label_at : (c : ℕ) → c < cell_count M → get_or (labels M) c 0 ≡ label_of c
  unfolding labels label_of
  label_at c h = get_d_tab label_of 0 (cell_count M) c h

  -- one more than the number of roots before the cell's own
  pub label-walkable : (c : ℕ) → c < cell_count M → walkable_at M c ≡ true → get_or (labels M) c 0 ≡ suc (count_below (root c) (is_root M (roots M)))
  unfolding label_of
  label-walkable c h w = label_at c h ∙ rw w

  pub label-blocked : (c : ℕ) → c < cell_count M → walkable_at M c ≡ false → get_or (labels M) c 0 ≡ 0
  unfolding label_of
  label-blocked c h w = label_at c h ∙ rw w

  pub label-beyond : (c : ℕ) → cell_count M ≤ c → get_or (labels M) c 0 ≡ 0
  label-beyond c h = get_or-eq_default (labels M) 0 (omega (arith, labels_length))

  -- "Cells that aren't walkable have label 0", and no others
  pub label-zero : (c : ℕ) → c < cell_count M → (get_or (labels M) c 0 ≡ 0) ↔ (walkable_at M c ≡ false)
  label-zero c h = (λ e. go (walkable_at M c) refl e, label-blocked c h)
    where
      go : (b : Bool) → walkable_at M c ≡ b → get_or (labels M) c 0 ≡ 0 → b ≡ false
      go true w e = absurd (omega (arith, label-walkable c h w))
      go false w e = refl

  pub root-label : (c d : ℕ) → c < cell_count M → d < cell_count M → walkable_at M c ≡ true → walkable_at M d ≡ true → (get_or (labels M) c 0 ≡ get_or (labels M) d 0) ↔ (root c ≡ root d)
  root-label c d h k w v = (
    λ e. root_one (root c) (root d) (root-is_root c h w) (root-is_root d k v) (ranks e),
    λ e. label-walkable c h w ∙ ap (λ r. suc (count_below r (is_root M (roots M)))) e ∙ sym (label-walkable d k v),
  )
    where
      ranks : get_or (labels M) c 0 ≡ get_or (labels M) d 0 → count_below (root c) (is_root M (roots M)) ≡ count_below (root d) (is_root M (roots M))
      ranks e = omega (arith, label-walkable c h w, label-walkable d k v)

  -- "Two walkable cells share a label exactly when uncut steps join them"
  pub labels-joined : (c d : ℕ) → c < cell_count M → d < cell_count M → walkable_at M c ≡ true → walkable_at M d ≡ true → (get_or (labels M) c 0 ≡ get_or (labels M) d 0) ↔ Joined (uncut M) c d
  labels-joined c d h k w v = (λ e. (roots-joined c d h k).0 ((root-label c d h k w v).0 e), λ j. (root-label c d h k w v).1 ((roots-joined c d h k).1 j))

  -- ---- the labels are 1 to the number of regions

  pub label-range : (c : ℕ) → c < cell_count M → walkable_at M c ≡ true → (1 ≤ get_or (labels M) c 0) × (get_or (labels M) c 0 ≤ region_count M)
  unfolding region_count
  label-range c h w =
      (omega (arith, label-walkable c h w), omega (arith, label-walkable c h w, rank_lt (is_root M (roots M)) (root c) (cell_count M) (root-is_root c h w) (root_below c h)))

  -- the first cell with label r
  pub record FirstCell (r : ℕ) : Type 0 where
    pub cell : ℕ
    pub below : cell < cell_count M
    pub is_walkable : walkable_at M cell ≡ true
    pub label : get_or (labels M) cell 0 ≡ r
    pub first : (d : ℕ) → d < cell → get_or (labels M) d 0 ≡ r → ⊥

  -- a root is the first cell with its label
  pub root_first : (c : ℕ) → c < cell_count M → is_root M (roots M) c ≡ true → (d : ℕ) → d < c → get_or (labels M) d 0 ≡ get_or (labels M) c 0 → ⊥
  root_first c h r d l e = go (walkable_at M d) refl
    where
      w : walkable_at M c ≡ true
      w = (is_root-parts c r).0

      go : (b : Bool) → walkable_at M d ≡ b → ⊥
      go true v = omega (arith, (root-label d c (omega arith) h v w).0 e, (is_root-parts c r).1, roots-rooted.low d (omega arith))
      go false v = omega (arith, label-blocked d (omega arith) v, (label-range c h w).0)

  pub label-taken : (r : ℕ) → 1 ≤ r → r ≤ region_count M → FirstCell r
  unfolding region_count
  label-taken zero l h = absurd (omega arith)
  label-taken (suc k) l h =
      let t = rank-taken (is_root M (roots M)) (cell_count M) k h in
      let p = is_root-parts t.place t.is_inside in
      let e = label-walkable t.place t.below p.0 ∙ ap (λ r. suc (count_below r (is_root M (roots M)))) p.1 ∙ ap suc t.rank_is in
      record {
        cell = t.place;
        below = t.below;
        is_walkable = p.0;
        label = e;
        first = λ d l q. root_first t.place t.below t.is_inside d l (q ∙ sym e);
      }
