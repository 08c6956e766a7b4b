-- The proposal that the Rust pushes from the ports of a component, if its `retain` leaves it, is `interior_from`'s: the two ends of a ramp are a set of two sides
-- exactly where they differ, the walk over the ports is `expand_port` twice (Leaves), and every region of an expansion is named by a pair, so that it has
-- statistics. Assumes nothing.
use Rattle.std.specs.Prelude.{ℕ, zero, suc, ◌<◌, ◌≤◌, ◌≡◌, ◌||◌, ltb, None, Some, option_map}
use Rattle.std.proofs.Common.{arith, ◌∙◌, true≢false, lt-ltb}
use Rattle.std.proofs.Math.Path.{refl, sym, ap, ap₂}
use Rattle.std.proofs.Math.Bool.{Bool, true, false, not, ◌&&◌, cond, or-false, and_assoc, not-not}
use mathlib.Core.List.{List, [], ◌∷◌, ◌++◌}
use Rattle.std.proofs.Math.Dec.{eqb}
use Rattle.std.specs.Float.Ieee.{le}
use Rattle.std.specs.Float.Ieee.Scale.{finite}
use Rattle.definitions.specs.Scan.{any, all, only_if, member}
use Rattle.definitions.specs.Grid.{Pair}
use Rattle.definitions.specs.Geometry.{center, distance}
use Rattle.definitions.specs.RegionRecord.{Region, has_ramp, corners}
use Rattle.definitions.specs.Context.{Context, no_ramp, full_cut, is_incident, incident_count}
use Rattle.definitions.specs.RampMouths.{max_approach_radius}
use Rattle.definitions.specs.RampInteriors.{InteriorProposal, Expansion, inside_count, exteriors, invalid, add_leaf, expand_pair, expand_pairs, expand_port, ports_fit, is_allowed_elevation, region_fits, interior_from}
use Rattle.laws.specs.ListLaws.Lists.{All, done, more, all_append}
use Rattle.laws.specs.RustContext.SoundContext.{Sound}
use Rattle.laws.specs.RustContext.CheckedContext.{Checked}
use Rattle.laws.specs.RustContext.FullCut.{full_cut_lem}
use Rattle.laws.specs.SetLaws.Sets.{set_insert, set_extend}
use Rattle.laws.specs.SetLaws.SetTests.{any_extend}
use Rattle.laws.specs.RustContext.Incidents.{is_some_and}
use Rattle.laws.specs.RustMouths.Triangles.{any-not}
use Rattle.laws.specs.RustMouths.MouthLiteral.{full_cut_at}
use Rattle.laws.specs.RustJunctions.Bridges.{stats_of}
use Rattle.laws.specs.RustMouths.MouthKept.{Inhabited, all-agree}
use Rattle.laws.specs.ListLaws.KeptLists.{keep_if}
use Rattle.laws.specs.RustContext.AllowedElevations.{none_else, each_allowed, mask_is}
use Rattle.laws.proofs.RustInteriors.Leaves.{ports-are}
use Rattle.laws.specs.RustInteriors.Selection2.{rendered}
use Rattle.laws.specs.RustInteriors.InteriorLiteral.{same_set, other_ends, push_interior, from_ramps, from_ports, region_retained, is_retained}

-- ---- the two ends

-- of two kinds that are ramps
ends-differ : (m n : ℕ) → eqb m 0 ≡ false → m ≤ 2 → eqb n 0 ≡ false → n ≤ 2 → other_ends m n ≡ eqb m n
unfolding other_ends same_set set_extend set_insert
ends-differ zero n h a k b = absurd (true≢false h)
ends-differ (suc zero) zero h a k b = absurd (true≢false k)
ends-differ (suc zero) (suc zero) h a k b = refl
ends-differ (suc zero) (suc (suc zero)) h a k b = refl
ends-differ (suc zero) (suc (suc (suc n))) h a k b = absurd (omega arith)
ends-differ (suc (suc zero)) zero h a k b = absurd (true≢false k)
ends-differ (suc (suc zero)) (suc zero) h a k b = refl
ends-differ (suc (suc zero)) (suc (suc zero)) h a k b = refl
ends-differ (suc (suc zero)) (suc (suc (suc n))) h a k b = absurd (omega arith)
ends-differ (suc (suc (suc m))) n h a k b = absurd (omega arith)

-- ---- tests of a set

all_extend : (f : ℕ → Bool) (l : List ℕ) → all f (set_extend [] l) ≡ all f l
unfolding any
all_extend f l =
    sym (not-not (all f (set_extend [] l))) ∙ ap not (sym (any-not f f (λ x. refl) (set_extend [] l)) ∙ any_extend (λ x. not (f x)) [] l ∙ any-not f f (λ x. refl) l) ∙ not-not (all f l)

any-agree : {A : Type 0} {P : A → Type 0} (f g : A → Bool) {l : List A} → ((x : A) → P x → f x ≡ g x) → All P l → any f l ≡ any g l
unfolding any
any-agree f g h done = refl
any-agree f g h (more {x = x} k a) = ap₂ ◌||◌ (h x k) (any-agree f g h a)

module _ (C : Context) (sound : Sound C) (checked : Checked C) where
  -- ---- every region of an expansion is inhabited

  leaf-inhabited : (i : ℕ) (s : Expansion) (leaf : ℕ) → Inhabited C leaf → All (Inhabited C) s.regions → All (Inhabited C) (add_leaf C i s leaf).regions
  unfolding add_leaf
  leaf-inhabited i s leaf h a = go (C.anchored leaf || not (eqb (incident_count C leaf) 1 && is_incident C i leaf))
    where
      go : (bad : Bool) → All (Inhabited C) (cond bad s.regions (s.regions ++ (leaf ∷ [])))
      go true = a
      go false = all_append a (more h done)

  pair-inhabited : (i : ℕ) (es : List ℕ) (s : Expansion) (p : Pair) → (0 < (C.region p.lo).cells) × (0 < (C.region p.hi).cells) → All (Inhabited C) s.regions → All (Inhabited C) (expand_pair C i es s p).regions
  unfolding expand_pair
  pair-inhabited i es s p h a = go (ltb 0 (inside_count s.regions p)) (eqb (inside_count es p) 1) (member p.lo es)
    where
      go : (b c d : Bool) → All (Inhabited C) (cond b s (cond c (add_leaf C i s (cond d p.hi p.lo)) (invalid s))).regions
      go true c d = a
      go false true true = leaf-inhabited i s p.hi h.1 a
      go false true false = leaf-inhabited i s p.lo h.0 a
      go false false d = a

  pairs-inhabited : (i : ℕ) (es : List ℕ) (s : Expansion) {ps : List Pair} → All (λ p. (0 < (C.region p.lo).cells) × (0 < (C.region p.hi).cells)) ps → All (Inhabited C) s.regions → All (Inhabited C) (expand_pairs C i es s ps).regions
  unfolding expand_pairs
  pairs-inhabited i es s done a = a
  pairs-inhabited i es s (more {x = p} h b) a = pairs-inhabited i es (expand_pair C i es s p) b (pair-inhabited i es s p h a)

  port-inhabited : (s : Expansion) (i : ℕ) → All (Inhabited C) s.regions → All (Inhabited C) (expand_port C s i).regions
  unfolding expand_port
  port-inhabited s i a = pairs-inhabited i (exteriors s.regions (C.pairs i)) s (sound.inhabited i) a

  -- ---- what is retained

  module _ (a b : ℕ) (ha : a < C.count) where
    region_is : (r : ℕ) → Inhabited C r → region_retained C (center (C.boundary a).endpoints ∷ center (C.boundary b).endpoints ∷ []) (C.boundary a) r ≡ region_fits C a b r
    unfolding region_retained region_fits is_allowed_elevation each_allowed any
    region_is r h =
        ap (λ t. is_some_and (only_if t (C.region r)) near) (lt-ltb 0 (C.region r).cells h)
        ∙ (λ i. checked.measured r i && mask_is (C.region r).elevations (C.boundary a).lower (C.boundary a).upper (checked.masks r) (checked.lowers a ha) (checked.uppers a ha) i
        && all (λ c. le (distance c (center (C.boundary a).endpoints)) max_approach_radius || or-false (le (distance c (center (C.boundary b).endpoints)) max_approach_radius) i) (corners (C.region r)))
      where
        near : Region → Bool
        near stat =
            finite stat.min_x_lem && none_else stat.elevations (C.boundary a).lower (C.boundary a).upper
            && all (λ corner. any (λ middle. le (distance corner middle) max_approach_radius) (center (C.boundary a).endpoints ∷ center (C.boundary b).endpoints ∷ [])) (corners stat)

    retained_is : (rs es : List ℕ) → All (Inhabited C) rs → is_retained C (rendered C (record { regions = rs; edges = es; first_port = a; second_port = b })) ≡ (any (λ q. has_ramp (C.region q)) rs && all (region_fits C a b) rs)
    unfolding is_retained any
    retained_is rs es h =
        ap₂ ◌&&◌ (any_extend (λ q. is_some_and (stats_of C q) (λ stat. has_ramp stat)) [] rs ∙ any-agree _ _ (λ q k. ap (λ t. is_some_and (only_if t (C.region q)) (λ stat. has_ramp stat)) (lt-ltb 0 (C.region q).cells k)) h)
        (all_extend (region_retained C (center (C.boundary a).endpoints ∷ center (C.boundary b).endpoints ∷ []) (C.boundary a)) rs ∙ all-agree _ _ region_is h)

    -- ---- two ports

    module _ (hb : b < C.count) (rs es : List ℕ) (h : All (Inhabited C) rs) where
      abbrev expanded : Expansion
      expanded = expand_port C (expand_port C (record { regions = rs; valid = true }) a) b

      abbrev proposal : InteriorProposal
      proposal = record { regions = expanded.regions; edges = es; first_port = a; second_port = b }

      -- the walk over the ports
      pushed_is : push_interior C (set_extend [] rs) es a b (C.boundary a) ≡ cond expanded.valid (Some (rendered C proposal)) None
      unfolding push_interior
      pushed_is = ap (λ s. cond s.valid (Some (record { regions = s.regions; edges = es; first_port = a; second_port = b; ramp_id = (C.boundary a).ramp_id })) None) (ports-are C a b ha hb (record { regions = rs; valid = true }))

      -- the tests of the ramps
      tests-are : no_ramp C a ≡ false → no_ramp C b ≡ false → (not (full_cut_at C a) || not (full_cut_at C b) || not (eqb (C.boundary a).ramp_id (C.boundary b).ramp_id) || other_ends (C.boundary a).kind (C.boundary b).kind) ≡ not (ports_fit C a b)
      unfolding ports_fit
      tests-are ra rb =
          (λ i. not (sym (full_cut_lem C sound a) i) || not (sym (full_cut_lem C sound b) i) || not (eqb (C.boundary a).ramp_id (C.boundary b).ramp_id) || ends-differ (C.boundary a).kind (C.boundary b).kind ra (checked.kinds a ha) rb (checked.kinds b hb) i)
          ∙ order (full_cut C a) (full_cut C b) (eqb (C.boundary a).ramp_id (C.boundary b).ramp_id) (eqb (C.boundary a).kind (C.boundary b).kind)
          ∙ (λ i. not (not (sym ra i) && not (sym rb i) && full_cut C a && full_cut C b && eqb (C.boundary a).ramp_id (C.boundary b).ramp_id && not (eqb (C.boundary a).kind (C.boundary b).kind)))
        where
          order : (f g d k : Bool) → (not f || not g || not d || k) ≡ not (f && g && d && not k)
          order true true true k = sym (not-not k)
          order true true false k = refl
          order true false d k = refl
          order false g d k = refl

      -- without a ramp there is nothing
      unfit : (x y : Bool) → no_ramp C a ≡ x → no_ramp C b ≡ y → (not x && not y) ≡ false → ports_fit C a b ≡ false
      unfolding ports_fit
      unfit x y ra rb e =
          ap (λ t. t && full_cut C a && full_cut C b && eqb (C.boundary a).ramp_id (C.boundary b).ramp_id && not (eqb (C.boundary a).kind (C.boundary b).kind)) ((λ i. not (ra i) && not (rb i)) ∙ e)

      kept : (v : Bool) → keep_if (is_retained C) (cond v (Some (rendered C proposal)) None) ≡ option_map (rendered C) (only_if (v && (any (λ q. has_ramp (C.region q)) expanded.regions && all (region_fits C a b) expanded.regions)) proposal)
      kept false = refl
      kept true = ap (λ t. only_if t (rendered C proposal)) (retained_is expanded.regions es (port-inhabited (expand_port C (record { regions = rs; valid = true }) a) b (port-inhabited (record { regions = rs; valid = true }) a h))) ∙ pass (any (λ q. has_ramp (C.region q)) expanded.regions && all (region_fits C a b) expanded.regions)
        where
          pass : (t : Bool) → only_if t (rendered C proposal) ≡ option_map (rendered C) (only_if t proposal)
          pass true = refl
          pass false = refl

      two_ports_lem : keep_if (is_retained C) (from_ports C (set_extend [] rs) es (a ∷ b ∷ [])) ≡ option_map (rendered C) (interior_from C rs es (a ∷ b ∷ []))
      unfolding from_ports from_ramps interior_from
      two_ports_lem = go (no_ramp C a) refl (no_ramp C b) refl
        where
          valid : Bool
          valid = expanded.valid

          ramped : Bool
          ramped = any (λ q. has_ramp (C.region q)) expanded.regions

          fits : Bool
          fits = all (region_fits C a b) expanded.regions

          pick : (p : Bool) → keep_if (is_retained C) (cond (not p) None (cond valid (Some (rendered C proposal)) None)) ≡ option_map (rendered C) (only_if (p && valid && ramped && fits) proposal)
          pick true = kept valid ∙ ap (λ t. option_map (rendered C) (only_if t proposal)) (sym (and_assoc valid ramped fits))
          pick false = refl

          nothing : ports_fit C a b ≡ false → None ≡ option_map (rendered C) (only_if (ports_fit C a b && valid && ramped && fits) proposal)
          nothing e = λ i. option_map (rendered C) (only_if (sym e i && valid && ramped && fits) proposal)

          go : (x : Bool) → no_ramp C a ≡ x → (y : Bool) → no_ramp C b ≡ y → keep_if (is_retained C) (from_ramps C (set_extend [] rs) es a b (cond x None (Some (C.boundary a))) (cond y None (Some (C.boundary b)))) ≡ option_map (rendered C) (only_if (ports_fit C a b && valid && ramped && fits) proposal)
          go true ra y rb = nothing (unfit true y ra rb refl)
          go false ra true rb = nothing (unfit false true ra rb refl)
          go false ra false rb = (λ i. keep_if (is_retained C) (cond (tests-are ra rb i) None (pushed_is i))) ∙ pick (ports_fit C a b)

  -- the proposal of the ports, whatever they are
  pub interior_is : (rs es ports : List ℕ) → All (Inhabited C) rs → All (λ i. i < C.count) ports → keep_if (is_retained C) (from_ports C (set_extend [] rs) es ports) ≡ option_map (rendered C) (interior_from C rs es ports)
  unfolding from_ports interior_from
  interior_is rs es [] h l = refl
  interior_is rs es (a ∷ []) h l = refl
  interior_is rs es (a ∷ b ∷ []) h (more ha (more hb done)) = two_ports_lem a b ha hb rs es h
  interior_is rs es (a ∷ b ∷ c ∷ m) h l = refl
