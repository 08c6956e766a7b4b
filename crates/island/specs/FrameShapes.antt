-- The shapes of mouths and triangles, from lists of pairs: of pairs inside they are those of the renamed pairs, renamed; of pairs on one side they have their
-- regions there; and pairs of two sides make no triangle. Assumes nothing.
use Rattle.std.specs.Prelude.{ℕ, ◌≡◌, Bool, ◌&&◌, length, option_map, Option, None, Some}
use Rattle.std.proofs.Math.Path.{refl, sym, ap}
use Rattle.std.proofs.Common.{◌∙◌}
use Rattle.std.proofs.Math.Bool.{true, false, not, and-false}
use mathlib.Core.List.{List, [], ◌∷◌, map}
use Rattle.std.proofs.lemmas.List.{length-map}
use Rattle.std.proofs.Math.Dec.{eqb}
use Rattle.definitions.specs.Scan.{any, all, filter, only_if}
use Rattle.definitions.specs.Grid.{Pair, contains, pair_eq}
use Rattle.definitions.specs.MouthShapes.{MouthShape, single, star, distinct_regions, common_regions, star_from, mouth_shape, triangle_representative}
use Rattle.laws.specs.ListLaws.Lists.{All, done, more, all_filter, filter-ren, any-ren, all-ren}
use Rattle.laws.specs.ListLaws.Options.{OnO, absent, present, on_only, only_map}
use Rattle.island.specs.Frame.{ren, ren_p, ren-eqb, PairOn}
use Rattle.island.specs.RegionLists.{On, contains_in, pair_eq_in, any-contains_in, any-contains-split, distinct_regions_in, distinct_regions_on}

module _ (in_r : ℕ → Bool) where
  abbrev pub ren_shape : MouthShape → MouthShape
  ren_shape (single p) = single (ren_p in_r p)
  ren_shape (star o l) = star (ren in_r o) (map (ren in_r) l)

  abbrev pub ShapeOn : Bool → MouthShape → Type 0
  ShapeOn b (single p) = PairOn in_r b p
  ShapeOn b (star o l) = (in_r o ≡ b) × All (On in_r b) l

  -- ---- stars

  common_regions_in : {l : List Pair} → All (PairOn in_r true) l → map (ren in_r) (common_regions l) ≡ common_regions (map (ren_p in_r) l)
  unfolding common_regions
  common_regions_in done = refl
  common_regions_in (more {x = p} {l = l} h a) =
      filter-ren (ren in_r) (On in_r true) (λ r. all (contains r) (p ∷ l)) (λ r. all (contains r) (ren_p in_r p ∷ map (ren_p in_r) l))
      (λ r k. all-ren (ren_p in_r) (PairOn in_r true) (contains r) (contains (ren in_r r)) (λ q m. contains_in in_r r q k m) (more h a))
      (more h.lo (more h.hi done))

  common_regions_on : (b : Bool) {l : List Pair} → All (PairOn in_r b) l → All (On in_r b) (common_regions l)
  unfolding common_regions
  common_regions_on b done = done
  common_regions_on b (more {x = p} {l = l} h a) = all_filter (λ r. all (contains r) (p ∷ l)) (more h.lo (more h.hi done))

  star_from_in : {l : List Pair} {k : List ℕ} → All (PairOn in_r true) l → All (On in_r true) k → option_map ren_shape (star_from l k) ≡ star_from (map (ren_p in_r) l) (map (ren in_r) k)
  unfolding star_from
  star_from_in a done = refl
  star_from_in {l} a (more {x = o} h done) =
      ap {B = Option MouthShape} (λ m. Some (star (ren in_r o) m))
      (filter-ren (ren in_r) (On in_r true) (λ r. not (eqb r o)) (λ r. not (eqb r (ren in_r o))) (λ r k. ap not (ren-eqb in_r r o k h)) (distinct_regions_on in_r true a)
      ∙ ap (filter (λ r. not (eqb r (ren in_r o)))) (distinct_regions_in in_r a))
  star_from_in a (more h (more k b)) = refl

  star_from_on : (b : Bool) {l : List Pair} {k : List ℕ} → All (PairOn in_r b) l → All (On in_r b) k → OnO (ShapeOn b) (star_from l k)
  unfolding star_from
  star_from_on b a done = absent
  star_from_on b {l} a (more {x = o} h done) = present {x = star o (filter (λ r. not (eqb r o)) (distinct_regions l))} (h, all_filter (λ r. not (eqb r o)) (distinct_regions_on in_r b a))
  star_from_on b a (more h (more k c)) = absent

  pub mouth_shape_in : (c : Bool) {l : List Pair} → All (PairOn in_r true) l → option_map ren_shape (mouth_shape c l) ≡ mouth_shape c (map (ren_p in_r) l)
  unfolding mouth_shape
  mouth_shape_in false a = refl
  mouth_shape_in true done = refl
  mouth_shape_in true (more h done) = refl
  mouth_shape_in true (more {x = p} h (more {x = q} {l = l} k a)) =
      star_from_in (more h (more k a)) (common_regions_on true (more h (more k a))) ∙ ap (star_from (map (ren_p in_r) (p ∷ q ∷ l))) (common_regions_in (more h (more k a)))

  pub mouth_shape_on : (b c : Bool) {l : List Pair} → All (PairOn in_r b) l → OnO (ShapeOn b) (mouth_shape c l)
  unfolding mouth_shape
  mouth_shape_on b false a = absent
  mouth_shape_on b true done = absent
  mouth_shape_on b true (more h done) = present h
  mouth_shape_on b true (more h (more k a)) = star_from_on b (more h (more k a)) (common_regions_on b (more h (more k a)))

  -- ---- triangles

  -- the three regions of l, each in a pair of m, and one pair in both
  abbrev is_triangle_of : List Pair → List Pair → Bool
  is_triangle_of l m =
      eqb (length (distinct_regions l)) 3 && all (λ r. any (contains r) m) (distinct_regions l) && eqb (length (filter (λ e. any (pair_eq e) m) l)) 1

  is_triangle_of_in : {l m : List Pair} → All (PairOn in_r true) l → All (PairOn in_r true) m → is_triangle_of l m ≡ is_triangle_of (map (ren_p in_r) l) (map (ren_p in_r) m)
  is_triangle_of_in {l} {m} a b = λ t. eqb (many t) 3 && every t && eqb (shared t) 1
    where
      many : length (distinct_regions l) ≡ length (distinct_regions (map (ren_p in_r) l))
      many = sym (length-map (distinct_regions l) (ren in_r)) ∙ ap length (distinct_regions_in in_r a)

      every : all (λ r. any (contains r) m) (distinct_regions l) ≡ all (λ r. any (contains r) (map (ren_p in_r) m)) (distinct_regions (map (ren_p in_r) l))
      every =
          all-ren (ren in_r) (On in_r true) (λ r. any (contains r) m) (λ r. any (contains r) (map (ren_p in_r) m)) (λ r k. any-contains_in in_r r k b) (distinct_regions_on in_r true a)
          ∙ ap (all (λ r. any (contains r) (map (ren_p in_r) m))) (distinct_regions_in in_r a)

      shared : length (filter (λ e. any (pair_eq e) m) l) ≡ length (filter (λ e. any (pair_eq e) (map (ren_p in_r) m)) (map (ren_p in_r) l))
      shared =
          sym (length-map (filter (λ e. any (pair_eq e) m) l) (ren_p in_r))
          ∙ ap length
          (filter-ren (ren_p in_r) (PairOn in_r true) (λ e. any (pair_eq e) m) (λ e. any (pair_eq e) (map (ren_p in_r) m))
          (λ e k. any-ren (ren_p in_r) (PairOn in_r true) (pair_eq e) (pair_eq (ren_p in_r e)) (λ q n. pair_eq_in in_r e q k n) b)
          a)

  pub triangle_representative_in : {l m : List Pair} → All (PairOn in_r true) l → All (PairOn in_r true) m → option_map (map (ren in_r)) (triangle_representative l m) ≡ triangle_representative (map (ren_p in_r) l) (map (ren_p in_r) m)
  unfolding triangle_representative
  triangle_representative_in done b = refl
  triangle_representative_in (more h done) b = refl
  triangle_representative_in (more h (more k (more n a))) b = refl
  triangle_representative_in (more h (more k done)) done = refl
  triangle_representative_in (more h (more k done)) (more u done) = refl
  triangle_representative_in (more h (more k done)) (more u (more v (more w b))) = refl
  triangle_representative_in (more {x = p} h (more {x = q} k done)) (more {x = s} u (more {x = t} v done)) =
      sym (only_map (map (ren in_r)) (is_triangle_of (p ∷ q ∷ []) (s ∷ t ∷ [])) (distinct_regions (p ∷ q ∷ [])))
      ∙ (λ x. only_if (is_triangle_of_in (more {x = p} h (more {x = q} k done)) (more {x = s} u (more {x = t} v done)) x) (distinct_regions_in in_r (more {x = p} h (more {x = q} k done)) x))

  pub triangle_representative_on : (b : Bool) {l : List Pair} (m : List Pair) → All (PairOn in_r b) l → OnO (All (On in_r b)) (triangle_representative l m)
  unfolding triangle_representative
  triangle_representative_on b m done = absent
  triangle_representative_on b m (more h done) = absent
  triangle_representative_on b m (more h (more k (more n a))) = absent
  triangle_representative_on b [] (more h (more k done)) = absent
  triangle_representative_on b (s ∷ []) (more h (more k done)) = absent
  triangle_representative_on b (s ∷ t ∷ u ∷ m) (more h (more k done)) = absent
  triangle_representative_on b (s ∷ t ∷ []) (more {x = p} h (more {x = q} k done)) =
      on_only (is_triangle_of (p ∷ q ∷ []) (s ∷ t ∷ [])) (distinct_regions (p ∷ q ∷ [])) (distinct_regions_on in_r b (more h (more k done)))

  is_triangle_of-split : (b c : Bool) {rs : List ℕ} {m : List Pair} → All (On in_r b) rs → All (PairOn in_r (not b)) m → (eqb (length rs) 3 && all (λ r. any (contains r) m) rs && c) ≡ false
  unfolding all
  is_triangle_of-split b c done x = refl
  is_triangle_of-split b c {m = m} (more {x = r} {l = rs} h a) x =
      ap (λ z. eqb (length (r ∷ rs)) 3 && (z && all (λ r. any (contains r) m) rs) && c) (any-contains-split in_r b r h x)
      ∙ ap (λ z. z && c) (and-false (eqb (length (r ∷ rs)) 3))

  pub triangle_representative-split : (b : Bool) {l m : List Pair} → All (PairOn in_r b) l → All (PairOn in_r (not b)) m → triangle_representative l m ≡ None
  unfolding triangle_representative
  triangle_representative-split b done x = refl
  triangle_representative-split b (more h done) x = refl
  triangle_representative-split b (more h (more k (more n a))) x = refl
  triangle_representative-split b (more h (more k done)) done = refl
  triangle_representative-split b (more h (more k done)) (more u done) = refl
  triangle_representative-split b (more h (more k done)) (more u (more v (more w x))) = refl
  triangle_representative-split b (more {x = p} h (more {x = q} k done)) (more {x = s} u (more {x = t} v done)) =
      ap (λ c. only_if c (distinct_regions (p ∷ q ∷ [])))
      (is_triangle_of-split b (eqb (length (filter (λ e. any (pair_eq e) (s ∷ t ∷ [])) (p ∷ q ∷ []))) 1) (distinct_regions_on in_r b (more {x = p} h (more {x = q} k done)))
      (more {x = s} u (more {x = t} v done)))
