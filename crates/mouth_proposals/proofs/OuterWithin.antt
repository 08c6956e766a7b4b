-- What is found of a mouth and a ramp is made of the regions of the mouth's pairs, by `proposal_of` or as a triangle; the region outside is a region of the map. Assumes
-- nothing.
use Rattle.mouth_proposals.specs.declared.mouths.MouthKind.{MouthKind}
use Prim.Native.Nat.{ℕ, ◌≤◌}
use mathlib.Core.Path.{◌≡◌, refl, sym, ap, subst}
use mathlib.Core.Bool.{Bool, true, false, not, ◌&&◌, ◌||◌, cond}
use Rattle.std.specs.Prelude.{Option, None, Some}
use mathlib.Core.List.{List, [], ◌∷◌}
use lib.ListN.{length}
use lib.Dec.{eqb, leb}
use Rattle.definitions.specs.Scan.{to_list, any, all, filter, only_if}
use Rattle.definitions.specs.Grid.{Pair, contains, pair_eq}
use Rattle.definitions.specs.MouthShapes.{distinct_regions, mouth_shape, triangle_representative}
use Rattle.definitions.specs.Context.{Context, full_cut, full_pair, incident_count, no_ramp}
use Rattle.definitions.specs.RampMouths.{MouthProposal, broad_mouth, nearby_representative, overlay_representative, overlay_only, separation_of, shaped_mouth, triangle_mouth, triangle, triangle_or}
use Rattle.laws.specs.ListLaws.Lists.{All, done, more, all_filter}
use Rattle.laws.specs.ListLaws.Options.{OnO, absent, present, on_only, on_cond}
use Rattle.laws.specs.ListLaws.NumberLists.{all-add_all}
use Rattle.mouth_proposals.specs.Candidates.{Within, approach_of, Numbered, broad, plain, single_fits, star_fits, proposal_of, approach_mouth, found_mouth}
use Rattle.mouth_proposals.specs.declared.approaches.Approach.{Approach}
use Rattle.mouth_proposals.specs.declared.approaches.Approach.TheVariants as approach
use Rattle.mouth_proposals.proofs.ApproachLaws.{Named}
use Rattle.mouth_proposals.proofs.Fitting.{all-named-regions}
use Rattle.mouth_proposals.proofs.Within.{approach_within}
use Rattle.mouth_proposals.proofs.ShapedMouths.{shaped_is}

-- the mouth's own regions as a triangle
abbrev pub triangle_of : Context → ℕ → ℕ → MouthProposal
triangle_of C a m =
    record {
      mouth_index = m;
      ramp_index = a;
      outer = filter C.anchored (distinct_regions (C.pairs m));
      inner = filter (λ r. not (C.anchored r)) (distinct_regions (C.pairs m));
      is_triangle = true;
      two_port_broad_approach = false;
      separation = separation_of C m a;
    }

module _ (C : Context) (a m : ℕ) (named : All (Named C.regions) (C.pairs m)) where
  abbrev OwnRegions : Option (List ℕ) → Type 0
  OwnRegions None = Unit {0}
  OwnRegions (Some rs) = rs ≡ distinct_regions (C.pairs m)

  own-regions : (l k : List Pair) → l ≡ C.pairs m → OwnRegions (triangle_representative l k)
  unfolding triangle_representative
  own-regions [] k e = tt
  own-regions (p ∷ []) k e = tt
  own-regions (p ∷ q ∷ r ∷ l) k e = tt
  own-regions (p ∷ q ∷ []) [] e = tt
  own-regions (p ∷ q ∷ []) (s ∷ []) e = tt
  own-regions (p ∷ q ∷ []) (s ∷ t ∷ u ∷ k) e = tt
  own-regions (p ∷ q ∷ []) (s ∷ t ∷ []) e =
      only (eqb (length (distinct_regions (p ∷ q ∷ []))) 3 && all (λ r. any (contains r) (s ∷ t ∷ [])) (distinct_regions (p ∷ q ∷ [])) && eqb (length (filter (λ e. any (pair_eq e) (s ∷ t ∷ [])) (p ∷ q ∷ []))) 1)
    where
      only : (b : Bool) → OwnRegions (only_if b (distinct_regions (p ∷ q ∷ [])))
      only true = ap distinct_regions e
      only false = tt

  -- what holds of both forms
  module _ {P : MouthProposal → Type 0} (formed : (outer : Option ℕ) (kind : MouthKind) → Numbered C.regions outer → P (proposal_of C m a outer kind)) (three : P (triangle_of C a m)) where
    approach_on : (A : Option Approach) → Within C.regions A → OnO P (approach_mouth C m a A)
    unfolding approach_mouth
    approach_on None w = absent
    approach_on (Some (approach.Single s)) w =
        let kind = cond ((broad_mouth C m a || overlay_only C m a) && eqb (incident_count C s.approach) 2) broad plain in
        on_only (single_fits C m a s.outer s.approach) (proposal_of C m a (Some s.outer) kind) (formed (Some s.outer) kind w.0)
    approach_on (Some (approach.Star s)) w =
        let kind = cond (broad_mouth C m a) broad plain in
        on_only (star_fits C m a s.outer s.approach) (proposal_of C m a (Some s.outer) kind) (formed (Some s.outer) kind w.0)

    shaped_on : (b : Bool) → OnO P (shaped_mouth C m a (full_pair C a) (mouth_shape b (C.pairs m)))
    shaped_on true = subst (OnO P) (sym (shaped_is C m a named)) (approach_on (approach_of (full_pair C a) (mouth_shape true (C.pairs m))) (approach_within (C.pairs m) named (full_pair C a)))
    shaped_on false = go (full_pair C a)
      where
        go : (o : Option Pair) → OnO P (shaped_mouth C m a o (mouth_shape false (C.pairs m)))
        go None = unfold shaped_mouth in absent
        go (Some q) = unfold mouth_shape in (unfold shaped_mouth in absent)

    triangle_on : OnO P (triangle_mouth C m a (distinct_regions (C.pairs m)))
    unfolding triangle_mouth
    triangle_on = on_only (leb (length (filter C.anchored (distinct_regions (C.pairs m)))) 1) (triangle_of C a m) three

    either_on : (T : Option (List ℕ)) → OwnRegions T → OnO P (triangle_or C T m a (shaped_mouth C m a (full_pair C a) (mouth_shape (full_cut C m) (C.pairs m))))
    unfolding triangle_or
    either_on None h = shaped_on (full_cut C m)
    either_on (Some rs) h = subst (λ rs. OnO P (triangle_mouth C m a rs)) (sym h) triangle_on

    pub found_on : OnO P (found_mouth C a m)
    unfolding found_mouth triangle
    found_on = on_cond (not (no_ramp C a) && full_cut C a && no_ramp C m && (broad_mouth C m a || nearby_representative C m a || overlay_representative C m a)) (either_on (triangle C m a) (own (nearby_representative C m a && full_cut C m && full_cut C a))) absent
      where
        own : (b : Bool) → OwnRegions (cond b (triangle_representative (C.pairs m) (C.pairs a)) None)
        own true = own-regions (C.pairs m) (C.pairs a) refl
        own false = tt

  abbrev Inside : MouthProposal → Type 0
  Inside p = All (λ r. (1 ≤ r) × (r ≤ C.regions)) p.outer

  proposal-inside : (outer : Option ℕ) (kind : MouthKind) → Numbered C.regions outer → Inside (proposal_of C m a outer kind)
  unfolding proposal_of
  proposal-inside None kind h = done
  proposal-inside (Some outer) kind h = more h done

  triangle-inside : Inside (triangle_of C a m)
  unfolding distinct_regions
  triangle-inside = all_filter C.anchored (all-add_all done (all-named-regions named))

  pub outer-inside : (outer : Option ℕ) (kind : MouthKind) → Some (proposal_of C m a outer kind) ≡ found_mouth C a m → Numbered C.regions outer
  outer-inside outer kind e = head (subst (OnO Inside) (sym e) (found_on proposal-inside triangle-inside))
    where
      first : (outer : Option ℕ) → All (λ r. (1 ≤ r) × (r ≤ C.regions)) (to_list outer) → Numbered C.regions outer
      first None a = tt
      first (Some r) (more h t) = h

      head : OnO Inside (Some (proposal_of C m a outer kind)) → Numbered C.regions outer
      head (present h) = unfold proposal_of in first outer h
