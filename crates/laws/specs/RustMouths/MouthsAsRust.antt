-- Pass 1 whole as the Rust writes it, `replace_ramp_mouths` of ramp_boundaries.rs from its steps in the files before, and that the boundaries it removes are those
-- of the definitions. The argument: the proposals are the definitions' (MouthChain), separations compare as their bits (Separations) and endpoints as their
-- keys (Ranking), so that the sorted lists agree, and the selection is Selection1. Assumes a sound and checked context whose pairs ascend.
use Prim.Native.Nat.{ℕ, Ordering}
use native.Mathlib.Omega.{arith}
use Rattle.std.specs.Prelude.{◌≡◌, Bool, ◌&&◌, ◌||◌, length, Option, None, Some}
use Rattle.std.proofs.Math.Path.{refl, sym, ap}
use Rattle.std.proofs.Common.{◌∙◌, leb-true}
use Rattle.std.proofs.Math.Bool.{true, false, not}
use mathlib.Core.List.{List, [], ◌∷◌}
use Rattle.std.proofs.Math.Dec.{leb}
use Rattle.std.specs.Float.Ieee.{binary64, to_bits}
use Rattle.definitions.specs.Scan.{any, filter, member, collect, only_if}
use Rattle.definitions.specs.Sort.{sort}
use Rattle.definitions.specs.Grid.{Pair, contains}
use Rattle.definitions.specs.Context.{Context, no_ramp, full_cut, full_pair, endpoints_key}
use Rattle.definitions.specs.MouthShapes.{MouthShape, single, star, mouth_shape}
use Rattle.definitions.specs.RampMouths.{MouthProposal, retain, broad_mouth, nearby_representative, overlay_representative, separation_of, approach_fits, single_mouth, star_mouth, shaped_mouth, triangle_mouth, triangle, triangle_or, is_local, mouth_proposal, proposals, key, ranks_before, taken, removed}
use Rattle.laws.specs.ListLaws.Lists.{All, all_map}
use Rattle.laws.specs.ListLaws.Options.{OnO, absent, present, on_only, on_cond, on_list}
use Rattle.laws.specs.OrderLaws.Ranks.{collect-all, gather-all}
use Rattle.laws.specs.OrderLaws.StableSort.{map-sort, all-sort}
use Rattle.laws.specs.OrderLaws.PairOrder.{Ascending}
use Rattle.laws.specs.RustContext.SoundContext.{Sound}
use Rattle.laws.specs.RustContext.CheckedContext.{Checked}
use Rattle.laws.specs.SetLaws.Sets.{set_extend, member_extend}
use Rattle.laws.specs.OrderLaws.Orderings.{is_less, then_with, list_compare, list_compare_lem, list-append}
use Rattle.laws.specs.RustContext.CompareBoundaries.{compare_boundaries, endpoints_compare}
use Rattle.laws.specs.RustMouths.Separations.{Apart, partial_cmp, or_equal, partial_is, separation-apart}
use Rattle.laws.specs.RustMouths.MouthLoop.{MouthRust, proposals_rust}
use Rattle.laws.specs.RustMouths.MouthKept.{rendered}
use Rattle.laws.specs.RustMouths.MouthChain.{proposals-are}
use Rattle.laws.specs.RustMouths.Selection1.{OneOuter, removed_rust, selection}

-- ---- as the Rust writes it

module _ (C : Context) where
  --     left.separation
  --         .partial_cmp(&right.separation)
  --         .unwrap_or(Ordering::Equal)
  --         .then_with(|| {
  --             endpoints(&boundaries[left.mouth_index])
  --                 .cmp(&endpoints(&boundaries[right.mouth_index]))
  --         })
  --         .then_with(|| {
  --             endpoints(&boundaries[left.ramp_index])
  --                 .cmp(&endpoints(&boundaries[right.ramp_index]))
  --         })
  unfoldable pub compare_mouths : MouthRust → MouthRust → Ordering
  compare_mouths left right =
      then_with
      (then_with (or_equal (partial_cmp left.separation right.separation)) (compare_boundaries (C.boundary left.mouth_index).endpoints (C.boundary right.mouth_index).endpoints))
      (compare_boundaries (C.boundary left.ramp_index).endpoints (C.boundary right.ramp_index).endpoints)

  --     proposals.sort_by(|left, right| ..);
  unfoldable pub sort_mouths : List MouthRust → List MouthRust
  sort_mouths l = sort (λ left right. is_less (compare_mouths left right)) l

  -- the boundaries that the pass removes
  unfoldable pub removed_set : List ℕ
  removed_set = removed_rust C (sort_mouths (proposals_rust C))

-- ---- and that it is the same

module _ (C : Context) where
  -- what holds of a proposal: at most one outer region, and a separation that compares as its bits
  abbrev Good : MouthProposal → Type 0
  Good p = OneOuter p × Apart p.separation

  compared : (p q : MouthProposal) → Apart p.separation → Apart q.separation → compare_mouths C (rendered C p) (rendered C q) ≡ list_compare (key C p) (key C q)
  unfolding compare_mouths key list_compare
  compared p q a b =
      (λ i. then_with (then_with (partial_is p.separation q.separation a b i) (endpoints_compare (C.boundary p.mouth_index).endpoints (C.boundary q.mouth_index).endpoints i)) (endpoints_compare (C.boundary p.ramp_index).endpoints (C.boundary q.ramp_index).endpoints i))
      ∙ sym (list-append (to_bits binary64 p.separation ∷ endpoints_key (C.boundary p.mouth_index).endpoints) (to_bits binary64 q.separation ∷ endpoints_key (C.boundary q.mouth_index).endpoints) (endpoints_key (C.boundary p.ramp_index).endpoints) (endpoints_key (C.boundary q.ramp_index).endpoints) refl)

  rank_is : (p q : MouthProposal) → Good p → Good q → ranks_before C p q ≡ is_less (compare_mouths C (rendered C p) (rendered C q))
  unfolding ranks_before
  rank_is p q g h = sym (ap is_less (compared p q g.1 h.1) ∙ list_compare_lem (key C p) (key C q))

  -- ---- every proposal is good

  module _ (a m : ℕ) where
    apart : Apart (separation_of C m a)
    unfolding separation_of
    apart = separation-apart (C.boundary m).endpoints (C.boundary a).endpoints

    good-shape : (q : Option Pair) (shape : Option MouthShape) → OnO Good (shaped_mouth C m a q shape)
    unfolding shaped_mouth
    good-shape None shape = absent
    good-shape (Some q) None = absent
    good-shape (Some q) (Some (single p)) = go (filter (λ r. contains r q) (p.lo ∷ p.hi ∷ []))
      where
        go : (l : List ℕ) → OnO Good (single_mouth C m a p l)
        go [] = absent
        go (r ∷ []) = on_only (approach_fits C m a r (r ∷ []) true (C.anchored p.lo || C.anchored p.hi)) _ (omega arith, apart)
        go (r ∷ s ∷ l) = absent
    good-shape (Some q) (Some (star outer inner)) = go (filter (λ r. contains r q) inner)
      where
        go : (l : List ℕ) → OnO Good (star_mouth C m a outer inner l)
        go [] = absent
        go (r ∷ []) = on_only (approach_fits C m a r inner false (any C.anchored inner)) _ (omega arith, apart)
        go (r ∷ s ∷ l) = absent

    good-triangle : (rs : List ℕ) → OnO Good (triangle_mouth C m a rs)
    unfolding triangle_mouth
    good-triangle rs = go (leb (length (filter C.anchored rs)) 1) refl
      where
        go : (b : Bool) → leb (length (filter C.anchored rs)) 1 ≡ b → OnO Good (only_if b (record { mouth_index = m; ramp_index = a; outer = filter C.anchored rs; inner = filter (λ r. not (C.anchored r)) rs; is_triangle = true; two_port_broad_approach = false; separation = separation_of C m a }))
        go true e = present (leb-true (length (filter C.anchored rs)) 1 e, apart)
        go false e = absent

    good_retained : {o : Option MouthProposal} → OnO Good o → OnO Good (retain (is_local C) o)
    good_retained absent = absent
    good_retained (present {x = p} h) = on_only (is_local C p) p h

    good-mouth : OnO Good (mouth_proposal C a m)
    unfolding mouth_proposal triangle_or
    good-mouth = on_cond (not (no_ramp C a) && full_cut C a && no_ramp C m && (broad_mouth C m a || nearby_representative C m a || overlay_representative C m a)) (good_retained (go (triangle C m a))) absent
      where
        go : (T : Option (List ℕ)) → OnO Good (triangle_or C T m a (shaped_mouth C m a (full_pair C a) (mouth_shape (full_cut C m) (C.pairs m))))
        go None = good-shape (full_pair C a) (mouth_shape (full_cut C m) (C.pairs m))
        go (Some rs) = good-triangle rs

  proposals-good : All Good (proposals C)
  unfolding proposals
  proposals-good = gather-all Good (λ a. collect C.count (mouth_proposal C a)) C.count (λ a. collect-all Good (mouth_proposal C a) C.count (λ m. on_list (good-mouth a m)))

  -- ---- the whole

  module _ (sound : Sound C) (checked : Checked C) (ascending : (i : ℕ) → Ascending (C.pairs i)) where
    -- the set that the Rust fills is the set of the boundaries that the definitions remove
    pub removed_set_lem : removed_set C ≡ set_extend [] (removed C)
    unfolding removed_set sort_mouths removed taken
    removed_set_lem =
        ap (λ l. removed_rust C (sort (λ left right. is_less (compare_mouths C left right)) l)) (proposals-are C sound ascending checked.measured)
        ∙ ap (removed_rust C) (sym (map-sort (rendered C) Good (ranks_before C) (λ left right. is_less (compare_mouths C left right)) rank_is proposals-good))
        ∙ selection C (all_map (λ p g. g.0) (all-sort Good (ranks_before C) proposals-good))

    -- so it removes what they remove
    pub removed-member : (j : ℕ) → member j (removed_set C) ≡ member j (removed C)
    unfolding member any
    removed-member j = ap (member j) removed_set_lem ∙ member_extend j [] (removed C)
