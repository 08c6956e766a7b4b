-- The proposals of pass 1: those that the Rust's double loop pushes and its `retain` leaves are the proposals of the definitions, one by one and in order.
-- Besides what is found of a mouth and a ramp (MouthFound) and what is kept (MouthKept) this needs that a test made of a list as a whole can be made of each
-- element as it is put there. Assumes nothing.
use Prim.Native.Nat.{ℕ, ◌<◌}
use Rattle.std.specs.Prelude.{◌≡◌, ◌&&◌, ◌||◌, length, option_map, Option, None, Some}
use Rattle.std.proofs.Math.Path.{refl, sym, ap}
use Rattle.std.proofs.Common.{◌∙◌}
use Rattle.std.proofs.Math.Bool.{Bool, true, false, not, cond, and-false}
use mathlib.Core.List.{List, [], ◌∷◌, map}
use Rattle.std.proofs.Math.Dec.{eqb}
use Rattle.std.specs.Float.Ieee.Scale.{finite}
use Rattle.definitions.specs.Scan.{any, all, filter, collect, only_if}
use Rattle.definitions.specs.Grid.{Pair, contains, pair_eq}
use Rattle.definitions.specs.Context.{Context, no_ramp, full_cut, full_pair}
use Rattle.definitions.specs.MouthShapes.{MouthShape, distinct_regions, mouth_shape, triangle_representative}
use Rattle.definitions.specs.RampMouths.{MouthProposal, retain, broad_mouth, nearby_representative, overlay_representative, shaped_mouth, triangle_mouth, triangle, triangle_or, is_local, mouth_proposal, proposals}
use Rattle.laws.specs.ListLaws.Lists.{All}
use Rattle.laws.specs.RustContext.SoundContext.{Sound}
use Rattle.laws.specs.RustContext.FullCut.{full_cut_lem, full_pair_lem}
use Rattle.laws.specs.OrderLaws.PairOrder.{Ascending}
use Rattle.laws.specs.RustMouths.Stars.{star_rust, star_is}
use Rattle.laws.specs.RustMouths.Triangles.{triangle_rust, sorted_regions, triangle_is}
use Rattle.laws.specs.RustMouths.MouthLiteral.{is_none, full_cut_at, ramp_of, nearby, overlay, broad, found_mouth}
use Rattle.laws.specs.RustMouths.MouthLoop.{MouthRust, push_mouth, mouth_body, ramp_body, pushed_rust, is_retained, proposals_rust}
use Rattle.laws.specs.RustMouths.MouthKept.{Inhabited, rendered, MadeIf, pushed_is, made-shape, made-triangle, distinct_inhabited, shape-made}
use Rattle.laws.specs.ListLaws.KeptLists.{keep_if, filter-collect, collect_none, filter-gather}
use Rattle.laws.specs.RustMouths.MouthFound.{found_of, found_is}

module _ (C : Context) (sound : Sound C) (ascending : (i : ℕ) → Ascending (C.pairs i)) (measured : (r : ℕ) → finite (C.region r).min_x_lem ≡ true) where
  module _ (a m : ℕ) where
    shape_is : star_rust (full_cut_at C m) (C.pairs m) ≡ mouth_shape (full_cut C m) (C.pairs m)
    shape_is = star_is (full_cut_at C m) (C.pairs m) ∙ ap (λ b. mouth_shape b (C.pairs m)) (sym (full_cut_lem C sound m))

    triangle_at : cond (nearby C a m) (triangle_rust (full_cut_at C m) (full_cut_at C a) (C.pairs m) (C.pairs a)) None ≡ sorted_regions (triangle C m a)
    unfolding triangle nearby_representative
    triangle_at = (λ i. cond (nearby C a m) (triangle_rust (sym (full_cut_lem C sound m) i) (sym (full_cut_lem C sound a) i) (C.pairs m) (C.pairs a)) None) ∙ ap (λ o. cond (nearby C a m) o None) (triangle_is (full_cut C m) (full_cut C a) (C.pairs m) (C.pairs a) (sound.ordered m) (ascending m) (sound.ordered a) (ascending a)) ∙ go (nearby C a m) (full_cut C m) (full_cut C a)
      where
        go : (n f g : Bool) → cond n (sorted_regions (cond (f && g) (triangle_representative (C.pairs m) (C.pairs a)) None)) None ≡ sorted_regions (cond (n && f && g) (triangle_representative (C.pairs m) (C.pairs a)) None)
        go true true true = refl
        go true true false = refl
        go true false g = refl
        go false f g = refl

    -- before `retain`
    abbrev made : Option MouthProposal
    made = triangle_or C (triangle C m a) m a (shaped_mouth C m a (full_pair C a) (mouth_shape (full_cut C m) (C.pairs m)))

    guarded : (x y : Bool) (T : Option (List ℕ)) (q : Option Pair) (S : Option MouthShape)
        → cond (not (is_none (cond x None (Some (C.boundary m)))) || (is_none S && is_none (sorted_regions T)) || not y) None (push_mouth C a m (found_of (triangle_or C T m a (shaped_mouth C m a q S))))
        ≡ cond (x && y) (push_mouth C a m (found_of (triangle_or C T m a (shaped_mouth C m a q S)))) None
    unfolding triangle_or shaped_mouth push_mouth
    guarded false y T q S = refl
    guarded true y (Some rs) q S = rw (and-false (is_none S)) (turn y)
      where
        turn : (y : Bool) → cond (not y) None (push_mouth C a m (found_of (triangle_mouth C m a rs))) ≡ cond y (push_mouth C a m (found_of (triangle_mouth C m a rs))) None
        turn true = refl
        turn false = refl
    guarded true y None q (Some shape) = turn y
      where
        turn : (y : Bool) → cond (not y) None (push_mouth C a m (found_of (shaped_mouth C m a q (Some shape)))) ≡ cond y (push_mouth C a m (found_of (shaped_mouth C m a q (Some shape)))) None
        turn true = refl
        turn false = refl
    guarded true true None None None = refl
    guarded true true None (Some q) None = refl
    guarded true false None None None = refl
    guarded true false None (Some q) None = refl

    abbrev near : Bool
    near = broad_mouth C m a || nearby_representative C m a || overlay_representative C m a

    body_is : a < C.count → m < C.count → mouth_body C a m ≡ cond (no_ramp C m && near) (push_mouth C a m (found_of made)) None
    unfolding mouth_body broad_mouth nearby_representative overlay_representative
    body_is ha hm =
        (λ i.
        cond (not (is_none (ramp_of C m)) || (is_none (shape_is i) && is_none (triangle_at i)) || not-any (broad C a m) (nearby C a m) (overlay C a m) i) None
        (push_mouth C a m (found_mouth C a m (triangle_at i) (sym (full_pair_lem C sound a) i) (shape_is i))))
        ∙ ap (λ o. cond (not (is_none (ramp_of C m)) || (is_none (mouth_shape (full_cut C m) (C.pairs m)) && is_none (sorted_regions (triangle C m a))) || not near) None (push_mouth C a m o)) (found_is C a m ha hm (triangle C m a) (full_pair C a) (mouth_shape (full_cut C m) (C.pairs m)))
        ∙ guarded (no_ramp C m) near (triangle C m a) (full_pair C a) (mouth_shape (full_cut C m) (C.pairs m))
      where
        not-any : (x y z : Bool) → (not x && not y && not z) ≡ not (x || y || z)
        not-any true y z = refl
        not-any false true z = refl
        not-any false false z = refl

    abbrev AllIf : Option (List ℕ) → Type 0
    AllIf None = Unit {0}
    AllIf (Some rs) = All (Inhabited C) rs

    triangle-regions : (l k : List Pair) → All (Inhabited C) (distinct_regions l) → AllIf (triangle_representative l k)
    unfolding triangle_representative
    triangle-regions [] k h = tt
    triangle-regions (p ∷ []) k h = tt
    triangle-regions (p ∷ q ∷ r ∷ l) k h = tt
    triangle-regions (p ∷ q ∷ []) [] h = tt
    triangle-regions (p ∷ q ∷ []) (s ∷ []) h = tt
    triangle-regions (p ∷ q ∷ []) (s ∷ t ∷ u ∷ k) h = tt
    triangle-regions (p ∷ q ∷ []) (s ∷ t ∷ []) h =
        all_if (eqb (length rs) 3 && all (λ r. any (contains r) (s ∷ t ∷ [])) rs && eqb (length (filter (λ e. any (pair_eq e) (s ∷ t ∷ [])) (p ∷ q ∷ []))) 1)
      where
        rs : List ℕ
        rs = distinct_regions (p ∷ q ∷ [])

        all_if : (b : Bool) → AllIf (only_if b rs)
        all_if true = h
        all_if false = tt

    made-made : MadeIf C measured a m made
    unfolding triangle triangle_or
    made-made = go (triangle C m a) (all_if (nearby_representative C m a && full_cut C m && full_cut C a))
      where
        all_if : (b : Bool) → AllIf (cond b (triangle_representative (C.pairs m) (C.pairs a)) None)
        all_if true = triangle-regions (C.pairs m) (C.pairs a) (distinct_inhabited C measured sound m)
        all_if false = tt

        go : (T : Option (List ℕ)) → AllIf T → MadeIf C measured a m (triangle_or C T m a (shaped_mouth C m a (full_pair C a) (mouth_shape (full_cut C m) (C.pairs m))))
        go None h = made-shape C measured a m (full_pair C a) (mouth_shape (full_cut C m) (C.pairs m)) (shape-made C measured sound m)
        go (Some rs) h = made-triangle C measured a m rs h

    passed_over : (not (no_ramp C a) && full_cut C a) ≡ false → mouth_proposal C a m ≡ None
    unfolding mouth_proposal
    passed_over h = λ i. cond (h i && no_ramp C m && near) (retain (is_local C) made) None

    -- one mouth of a ramp that the loop does not pass over
    mouth_is : a < C.count → m < C.count → no_ramp C a ≡ false → full_cut C a ≡ true → keep_if (is_retained C) (mouth_body C a m) ≡ option_map (rendered C) (mouth_proposal C a m)
    unfolding mouth_proposal
    mouth_is ha hm hr hf = ap (keep_if (is_retained C)) (body_is ha hm) ∙ go (no_ramp C m && near)
        ∙ (λ i. option_map (rendered C) (cond (not (sym hr i) && sym hf i && no_ramp C m && near) (retain (is_local C) made) None))
      where
        go : (b : Bool) → keep_if (is_retained C) (cond b (push_mouth C a m (found_of made)) None) ≡ option_map (rendered C) (cond b (retain (is_local C) made) None)
        go true = pushed_is C measured a m made made-made
        go false = refl

  ramp_is : (a : ℕ) → a < C.count → filter (is_retained C) (ramp_body C a) ≡ map (rendered C) (collect C.count (mouth_proposal C a))
  unfolding ramp_body filter
  ramp_is a ha = ap (λ c. filter (is_retained C) (loop (no_ramp C a) c)) (sym (full_cut_lem C sound a)) ∙ go (no_ramp C a) refl (full_cut C a) refl
    where
      loop : Bool → Bool → List MouthRust
      loop b c = cond (is_none (cond b None (Some (C.boundary a)))) [] (cond (not c) [] (collect C.count (mouth_body C a)))

      out : (b c : Bool) → no_ramp C a ≡ b → full_cut C a ≡ c → (not b && c) ≡ false → [] ≡ map (rendered C) (collect C.count (mouth_proposal C a))
      out b c e f h = collect_none (rendered C) C.count (mouth_proposal C a) (λ m. passed_over a m ((λ i. not (e i) && f i) ∙ h))

      go : (b : Bool) → no_ramp C a ≡ b → (c : Bool) → full_cut C a ≡ c → filter (is_retained C) (loop b c) ≡ map (rendered C) (collect C.count (mouth_proposal C a))
      go true e c f = out true c e f refl
      go false e false f = out false false e f refl
      go false e true f = filter-collect (is_retained C) (rendered C) C.count (mouth_body C a) (mouth_proposal C a) (λ m hm. mouth_is a m ha hm e f)

  -- the proposals that the Rust sorts
  pub proposals-are : proposals_rust C ≡ map (rendered C) (proposals C)
  unfolding proposals_rust pushed_rust proposals
  proposals-are = filter-gather (is_retained C) (rendered C) C.count (ramp_body C) (λ a. collect C.count (mouth_proposal C a)) ramp_is
