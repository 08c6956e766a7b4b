-- Regions, pairs of regions and lists of both, inside or outside: inside, each question of them is the same question of their new numbers; across, its answer
-- is no. All of it rests on `ren-eqb` (new numbers are equal where the numbers are) and `split` (numbers of two sides differ). Assumes nothing.
use Rattle.std.specs.Prelude.{ℕ, ◌≡◌, refl, Bool, false, not, ◌&&◌, ◌||◌, cond, List, [], ◌∷◌, map, eqb}
use Rattle.std.proofs.Math.Path.{ap}
use Rattle.std.proofs.Common.{ap₂, ◌∙◌}
use Rattle.std.proofs.Math.Bool.{true}
use Rattle.definitions.specs.Scan.{any, member, add_all}
use Rattle.definitions.specs.Grid.{Pair, contains, pair_eq}
use Rattle.definitions.specs.Context.{other_region}
use Rattle.definitions.specs.MouthShapes.{regions_of, distinct_regions}
use Rattle.definitions.specs.RampMouths.{meet}
use Rattle.laws.specs.ListLaws.Lists.{All, done, more, all_map, any-ren}
use Rattle.laws.specs.ListLaws.Members.{any-fails}
use Rattle.laws.specs.ListLaws.NumberLists.{all-add_all, member-ren, add_all-ren, meet-ren, split}
use Rattle.laws.specs.OrderLaws.ListOrder.{eqb_sym}
use Rattle.island.specs.Frame.{ren, ren_p, PairOn, ren-eqb}

module _ (in_r : ℕ → Bool) where
  -- region r lies inside, or outside, as b is true or false
  abbrev pub On : Bool → ℕ → Type 0
  On b r = in_r r ≡ b

  -- ---- one region and one pair

  pub contains_in : (r : ℕ) (p : Pair) → in_r r ≡ true → PairOn in_r true p → contains r p ≡ contains (ren in_r r) (ren_p in_r p)
  contains_in r p h k = ap₂ ◌||◌ (ren-eqb in_r p.lo r k.lo h) (ren-eqb in_r p.hi r k.hi h)

  pub contains-split : (b : Bool) (r : ℕ) (p : Pair) → in_r r ≡ b → PairOn in_r (not b) p → contains r p ≡ false
  contains-split b r p h k = ap₂ ◌||◌ (eqb_sym p.lo r ∙ split in_r b r p.lo h k.lo) (eqb_sym p.hi r ∙ split in_r b r p.hi h k.hi)

  pub pair_eq_in : (p q : Pair) → PairOn in_r true p → PairOn in_r true q → pair_eq p q ≡ pair_eq (ren_p in_r p) (ren_p in_r q)
  pair_eq_in p q h k = ap₂ ◌&&◌ (ren-eqb in_r p.lo q.lo h.lo k.lo) (ren-eqb in_r p.hi q.hi h.hi k.hi)

  -- one of the two
  pub pick_in : (p : Pair) (t : Bool) → ren in_r (cond t p.hi p.lo) ≡ cond t (ren in_r p.hi) (ren in_r p.lo)
  pick_in p true = refl
  pick_in p false = refl

  pub pick_on : (b : Bool) (p : Pair) → PairOn in_r b p → (t : Bool) → in_r (cond t p.hi p.lo) ≡ b
  pick_on b p k true = k.hi
  pick_on b p k false = k.lo

  pub other_region_in : (r : ℕ) (p : Pair) → in_r r ≡ true → PairOn in_r true p → ren in_r (other_region r p) ≡ other_region (ren in_r r) (ren_p in_r p)
  other_region_in r p h k = pick_in p (eqb p.lo r) ∙ ap (λ t. cond t (ren in_r p.hi) (ren in_r p.lo)) (ren-eqb in_r p.lo r k.lo h)

  pub other_region_on : (b : Bool) (r : ℕ) (p : Pair) → PairOn in_r b p → in_r (other_region r p) ≡ b
  other_region_on b r p k = pick_on b p k (eqb p.lo r)

  -- ---- a region in a list of pairs

  pub any-contains_in : (r : ℕ) {l : List Pair} → in_r r ≡ true → All (PairOn in_r true) l → any (contains r) l ≡ any (contains (ren in_r r)) (map (ren_p in_r) l)
  any-contains_in r h a = any-ren (ren_p in_r) (PairOn in_r true) (contains r) (contains (ren in_r r)) (λ p k. contains_in r p h k) a

  pub any-contains-split : (b : Bool) (r : ℕ) {l : List Pair} → in_r r ≡ b → All (PairOn in_r (not b)) l → any (contains r) l ≡ false
  any-contains-split b r h a = any-fails (contains r) (all_map (λ p k. contains-split b r p h k) a)

  -- ---- lists of regions

  pub member_in : (r : ℕ) {l : List ℕ} → in_r r ≡ true → All (On true) l → member r l ≡ member (ren in_r r) (map (ren in_r) l)
  member_in r h a = member-ren (ren in_r) (On true) (ren-eqb in_r) r h a

  pub add_all_in : {l m : List ℕ} → All (On true) l → All (On true) m → map (ren in_r) (add_all l m) ≡ add_all (map (ren in_r) l) (map (ren in_r) m)
  add_all_in a b = add_all-ren (ren in_r) (On true) (ren-eqb in_r) a b

  pub meet_in : {l m : List ℕ} → All (On true) l → All (On true) m → meet l m ≡ meet (map (ren in_r) l) (map (ren in_r) m)
  meet_in a b = meet-ren (ren in_r) (On true) (ren-eqb in_r) a b

  -- ---- the regions of a list of pairs

  pub regions_of_on : (b : Bool) {l : List Pair} → All (PairOn in_r b) l → All (On b) (regions_of l)
  regions_of_on b done = done
  regions_of_on b (more k a) = more k.lo (more k.hi (regions_of_on b a))

  pub regions_of_in : (l : List Pair) → map (ren in_r) (regions_of l) ≡ regions_of (map (ren_p in_r) l)
  regions_of_in [] = refl
  regions_of_in (p ∷ l) = ap {B = List ℕ} (λ k. ren in_r p.lo ∷ ren in_r p.hi ∷ k) (regions_of_in l)

  pub distinct_regions_on : (b : Bool) {l : List Pair} → All (PairOn in_r b) l → All (On b) (distinct_regions l)
  unfolding distinct_regions
  distinct_regions_on b a = all-add_all done (regions_of_on b a)

  pub distinct_regions_in : {l : List Pair} → All (PairOn in_r true) l → map (ren in_r) (distinct_regions l) ≡ distinct_regions (map (ren_p in_r) l)
  unfolding distinct_regions
  distinct_regions_in {l} a = add_all_in done (regions_of_on true a) ∙ ap (add_all []) (regions_of_in l)
