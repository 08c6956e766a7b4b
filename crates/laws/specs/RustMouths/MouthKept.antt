-- What the Rust's `retain` of pass 1 keeps of the proposals is what `is_local` keeps: every inner region is named by a pair, so it has a cell, statistics and
-- finite edges, and a corner is near one of the one or two centres. Assumes nothing.
use Rattle.std.specs.Prelude.{ℕ, ◌<◌, ◌≡◌, ◌&&◌, ◌||◌, cond, length, eqb, ltb, leb, Option, None, Some, option_map}
use Rattle.std.proofs.Math.Path.{refl, sym, ap}
use Rattle.std.proofs.Common.{ap₂, ◌∙◌, lt-ltb}
use Rattle.std.proofs.Math.Bool.{Bool, true, false, not, or-false}
use mathlib.Core.List.{List, [], ◌∷◌}
use Rattle.std.specs.Float.Ieee.{le, lt}
use Rattle.std.specs.Float.Ieee.Scale.{finite}
use Rattle.definitions.specs.Scan.{any, all, filter, to_list, only_if, concat_map}
use Rattle.definitions.specs.Sort.{sort}
use Rattle.definitions.specs.Grid.{Pair, contains}
use Rattle.definitions.specs.Geometry.{Point, center, distance}
use Rattle.definitions.specs.RegionRecord.{Region, corners}
use Rattle.definitions.specs.Context.{Context, full_cut}
use Rattle.definitions.specs.MouthShapes.{MouthShape, single, star, regions_of, distinct_regions, common_regions, star_from, mouth_shape}
use Rattle.definitions.specs.RampMouths.{MouthProposal, retain, max_mouth_distance, max_approach_radius, separation_of, approach_fits, single_mouth, star_mouth, shaped_mouth, triangle_mouth, corners_near_lem, is_local}
use Rattle.laws.specs.ListLaws.Lists.{All, done, more, all_filter}
use Rattle.laws.specs.ListLaws.NumberLists.{all-add_all}
use Rattle.laws.specs.ListLaws.SortedMembers.{all-tests-sort}
use Rattle.laws.specs.RustContext.SoundContext.{Sound}
use Rattle.laws.specs.RustContext.Incidents.{is_some_and}
use Rattle.laws.specs.RustMouths.MouthLoop.{MouthRust, centers_of, push_mouth, is_retained}
use Rattle.laws.specs.RustJunctions.Bridges.{stats_of}
use Rattle.laws.specs.ListLaws.KeptLists.{keep_if}
use Rattle.laws.specs.RustMouths.MouthFound.{head_of, inner_rust, union_rust, found_of}

-- a proposal of the definitions, as the Rust has it
abbrev pub rendered : Context → MouthProposal → MouthRust
rendered C p =
    record {
      mouth_index = p.mouth_index;
      ramp_index = p.ramp_index;
      outer = head_of p.outer;
      inner = inner_rust p;
      union = union_rust p;
      triangle = p.is_triangle;
      separation = p.separation;
      ramp_center = center (C.boundary p.ramp_index).endpoints;
      mouth_center = center (C.boundary p.mouth_index).endpoints;
      two_port_broad_approach = p.two_port_broad_approach;
    }

-- a region that some cell has
abbrev pub Inhabited : Context → ℕ → Type 0
Inhabited C r = 0 < (C.region r).cells

pub all-agree : {A : Type 0} {P : A → Type 0} (f g : A → Bool) {l : List A} → ((x : A) → P x → f x ≡ g x) → All P l → all f l ≡ all g l
unfolding all
all-agree f g h done = refl
all-agree f g h (more {x = x} k a) = ap₂ ◌&&◌ (h x k) (all-agree f g h a)

module _ (C : Context) (measured : (r : ℕ) → finite (C.region r).min_x_lem ≡ true) where
  -- ---- what is retained

  corner_is : (p : MouthProposal) (c : Point) → any (λ middle. le (distance c middle) max_approach_radius) (concat_map to_list (centers_of (rendered C p))) ≡ (le (distance c (center (C.boundary p.ramp_index).endpoints)) max_approach_radius || p.two_port_broad_approach && le (distance c (center (C.boundary p.mouth_index).endpoints)) max_approach_radius)
  unfolding any concat_map
  corner_is p c = go p.two_port_broad_approach
    where
      ramp : Point
      ramp = center (C.boundary p.ramp_index).endpoints

      mouth : Point
      mouth = center (C.boundary p.mouth_index).endpoints

      near : Point → Bool
      near middle = le (distance c middle) max_approach_radius

      go : (b : Bool) → any near (concat_map to_list (cond b (Some ramp ∷ Some mouth ∷ []) (Some ramp ∷ None ∷ []))) ≡ (near ramp || b && near mouth)
      go true = ap (λ b. near ramp || b) (or-false (near mouth))
      go false = refl

  retained_is : (p : MouthProposal) → All (Inhabited C) p.inner → is_retained C (rendered C p) ≡ corners_near_lem C p
  unfolding is_retained corners_near_lem
  retained_is p a = inside p.is_triangle ∙ all-agree _ _ at a
    where
      near : Region → Bool
      near stat = finite stat.min_x_lem && all (λ corner. any (λ middle. le (distance corner middle) max_approach_radius) (concat_map to_list (centers_of (rendered C p)))) (corners stat)

      F : ℕ → Bool
      F region = is_some_and (stats_of C region) near

      inside : (b : Bool) → all F (cond b (sort ltb p.inner) p.inner) ≡ all F p.inner
      inside true = all-tests-sort ltb F p.inner
      inside false = refl

      at : (r : ℕ) → Inhabited C r → F r ≡ all (λ c. le (distance c (center (C.boundary p.ramp_index).endpoints)) max_approach_radius || p.two_port_broad_approach && le (distance c (center (C.boundary p.mouth_index).endpoints)) max_approach_radius) (corners (C.region r))
      at r h =
          ap (λ b. is_some_and (only_if b (C.region r)) near) (lt-ltb 0 (C.region r).cells h) ∙ (λ i. measured r i && all (λ c. corner_is p c i) (corners (C.region r)))

  -- the regions of a mouth's shape
  abbrev pub ShapeIf : Option MouthShape → Type 0
  ShapeIf None = Unit {0}
  ShapeIf (Some (single p)) = Inhabited C p.lo × Inhabited C p.hi
  ShapeIf (Some (star outer inner)) = All (Inhabited C) inner

  -- ---- what holds of a proposal of ramp a and mouth m

  module _ (a m : ℕ) where
    pub record Made (p : MouthProposal) : Type 0 where
      pub mouth : p.mouth_index ≡ m
      pub ramp : p.ramp_index ≡ a
      pub apart : p.separation ≡ separation_of C m a
      pub inner : All (Inhabited C) p.inner

    abbrev pub MadeIf : Option MouthProposal → Type 0
    MadeIf None = Unit {0}
    MadeIf (Some p) = Made p

    made_if : (b : Bool) {p : MouthProposal} → Made p → MadeIf (only_if b p)
    made_if true h = h
    made_if false h = tt

    pub pushed_is : (o : Option MouthProposal) → MadeIf o → keep_if (is_retained C) (push_mouth C a m (found_of o)) ≡ option_map (rendered C) (retain (is_local C) o)
    unfolding push_mouth is_local separation_of
    pushed_is None h = refl
    pushed_is (Some p) h =
        (λ i.
        keep_if (is_retained C)
        (cond (lt max_mouth_distance (sym h.apart i)) None
        (Some
        (record {
          mouth_index = sym h.mouth i;
          ramp_index = sym h.ramp i;
          outer = head_of p.outer;
          inner = inner_rust p;
          union = union_rust p;
          triangle = p.is_triangle;
          separation = sym h.apart i;
          ramp_center = center (C.boundary (sym h.ramp i)).endpoints;
          mouth_center = center (C.boundary (sym h.mouth i)).endpoints;
          two_port_broad_approach = p.two_port_broad_approach;
        }))))
        ∙ go (lt max_mouth_distance p.separation) ∙ ap (λ b. option_map (rendered C) (only_if (not (lt max_mouth_distance p.separation) && b) p)) (retained_is p h.inner)
      where
        pass : (c : Bool) → only_if c (rendered C p) ≡ option_map (rendered C) (only_if c p)
        pass true = refl
        pass false = refl

        go : (b : Bool) → keep_if (is_retained C) (cond b None (Some (rendered C p))) ≡ option_map (rendered C) (only_if (not b && is_retained C (rendered C p)) p)
        go true = refl
        go false = pass (is_retained C (rendered C p))

    pub made-shape : (q : Option Pair) (shape : Option MouthShape) → ShapeIf shape → MadeIf (shaped_mouth C m a q shape)
    unfolding shaped_mouth
    made-shape None shape h = tt
    made-shape (Some q) None h = tt
    made-shape (Some q) (Some (single p)) h = go (filter (λ r. contains r q) (p.lo ∷ p.hi ∷ [])) (all_filter (λ r. contains r q) (more h.0 (more h.1 done)))
      where
        go : (l : List ℕ) → All (Inhabited C) l → MadeIf (single_mouth C m a p l)
        go [] k = tt
        go (r ∷ []) k = made_if (approach_fits C m a r (r ∷ []) true (C.anchored p.lo || C.anchored p.hi)) (record { mouth = refl; ramp = refl; apart = refl; inner = k })
        go (r ∷ s ∷ l) k = tt
    made-shape (Some q) (Some (star outer inner)) h = go (filter (λ r. contains r q) inner)
      where
        go : (l : List ℕ) → MadeIf (star_mouth C m a outer inner l)
        go [] = tt
        go (r ∷ []) = made_if (approach_fits C m a r inner false (any C.anchored inner)) (record { mouth = refl; ramp = refl; apart = refl; inner = h })
        go (r ∷ s ∷ l) = tt

    pub made-triangle : (rs : List ℕ) → All (Inhabited C) rs → MadeIf (triangle_mouth C m a rs)
    unfolding triangle_mouth
    made-triangle rs h = made_if (leb (length (filter C.anchored rs)) 1) (record { mouth = refl; ramp = refl; apart = refl; inner = all_filter (λ r. not (C.anchored r)) h })

  -- ---- the regions of a boundary

  module _ (sound : Sound C) where
    pub regions-inhabited : (i : ℕ) → All (Inhabited C) (regions_of (C.pairs i))
    regions-inhabited i = go (sound.inhabited i)
      where
        go : {l : List Pair} → All (λ p. (0 < (C.region p.lo).cells) × (0 < (C.region p.hi).cells)) l → All (Inhabited C) (regions_of l)
        go done = done
        go (more h a) = more h.0 (more h.1 (go a))

    pub distinct_inhabited : (i : ℕ) → All (Inhabited C) (distinct_regions (C.pairs i))
    unfolding distinct_regions
    distinct_inhabited i = all-add_all done (regions-inhabited i)

    shape-inhabited : (full : Bool) (l : List Pair) → All (Inhabited C) (regions_of l) → All (Inhabited C) (distinct_regions l) → ShapeIf (mouth_shape full l)
    unfolding mouth_shape star_from
    shape-inhabited false l h k = tt
    shape-inhabited true [] h k = tt
    shape-inhabited true (p ∷ []) (more x (more y done)) k = (x, y)
    shape-inhabited true (p ∷ q ∷ l) h k = go (common_regions (p ∷ q ∷ l))
      where
        go : (common : List ℕ) → ShapeIf (star_from (p ∷ q ∷ l) common)
        go [] = tt
        go (outer ∷ []) = all_filter (λ r. not (eqb r outer)) k
        go (u ∷ v ∷ w) = tt

    pub shape-made : (i : ℕ) → ShapeIf (mouth_shape (full_cut C i) (C.pairs i))
    shape-made i = shape-inhabited (full_cut C i) (C.pairs i) (regions-inhabited i) (distinct_inhabited i)
