-- What is found of a mouth and a ramp, by the tests in the order in which the code makes them. Assumes nothing.
use Prim.Native.Nat.{ℕ, ◌+◌, ◌*◌, ◌<◌}
use mathlib.Core.Path.{◌≡◌, refl, sym, ap, ◌∙◌}
use mathlib.Core.Bool.{Bool, true, false, not, ◌&&◌, ◌||◌, cond, false≢true}
use Rattle.std.specs.Prelude.{Option, None, Some, is_some}
use mathlib.Core.List.{List}
use lib.ListN.{get_or}
use lib.Dec.{eqb}
use borrow.Author.Tests.{not-false}
use Rattle.definitions.specs.Limits.{numbers_per_boundary}
use Rattle.definitions.specs.Scan.{only_if}
use Rattle.definitions.specs.Grid.{Pair}
use Rattle.definitions.specs.MouthShapes.{distinct_regions, mouth_shape, triangle_representative}
use Rattle.definitions.specs.Context.{Context, full_cut, full_pair, no_ramp}
use Rattle.definitions.specs.RampMouths.{MouthProposal, broad_mouth, nearby_representative, overlay_representative, shaped_mouth, triangle_mouth, triangle, triangle_or}
use Rattle.laws.specs.ListLaws.Lists.{All}
use Rattle.mouth_proposals.specs.Rows.{rows_of, TriangleOf}
use Rattle.mouth_proposals.specs.declared.shapes.Edges.{Edges}
use Rattle.mouth_proposals.specs.Lent.{Shows}
use Rattle.mouth_proposals.specs.Candidates.{Measured, approach_of, approach_mouth, found_mouth}
use Rattle.mouth_proposals.specs.declared.measures.Measures.{Measures}
use Rattle.mouth_proposals.specs.declared.approaches.Approach.{Approach}
use Rattle.mouth_proposals.proofs.ApproachLaws.{Named}
use Rattle.mouth_proposals.proofs.SafeLists.{kind-shown, triangle-shown}
use Rattle.mouth_proposals.proofs.ShapedMouths.{shaped_is}

module _ (C : Context) (a m : ℕ) where
  abbrev near : Bool
  near = broad_mouth C m a || nearby_representative C m a || overlay_representative C m a

  abbrev rest : Option MouthProposal
  rest = triangle_or C (triangle C m a) m a (shaped_mouth C m a (full_pair C a) (mouth_shape (full_cut C m) (C.pairs m)))

  module _ (ramp : no_ramp C a ≡ false) (cut : full_cut C a ≡ true) where
    reached : {b : Bool} → no_ramp C m ≡ b → found_mouth C a m ≡ cond (b && near) rest None
    unfolding found_mouth
    reached e = λ i. cond (not (ramp i) && cut i && e i && near) rest None

    pub has_ramp_lem : no_ramp C m ≡ false → None ≡ found_mouth C a m
    has_ramp_lem e = sym (reached e)

    pub not_full : no_ramp C m ≡ true → full_cut C m ≡ false → None ≡ found_mouth C a m
    not_full plain e = sym (reached plain ∙ both near rest nothing)
      where
        shapeless : (q : Option Pair) → shaped_mouth C m a q None ≡ None
        shapeless None = unfold shaped_mouth in refl
        shapeless (Some q) = unfold shaped_mouth in refl

        flat : mouth_shape false (C.pairs m) ≡ None
        flat = unfold mouth_shape in refl

        none_found : triangle C m a ≡ None
        none_found = unfold triangle in (ap (λ b. cond (nearby_representative C m a && b && full_cut C a) (triangle_representative (C.pairs m) (C.pairs a)) None) e ∙ go (nearby_representative C m a))
          where
            go : (b : Bool) → cond (b && false && full_cut C a) (triangle_representative (C.pairs m) (C.pairs a)) None ≡ None
            go true = refl
            go false = refl

        passed_on : (d : Option MouthProposal) → triangle_or C None m a d ≡ d
        passed_on d = unfold triangle_or in refl

        nothing : rest ≡ None
        nothing =
            (λ i. triangle_or C (none_found i) m a (shaped_mouth C m a (full_pair C a) (mouth_shape (e i) (C.pairs m))))
            ∙ passed_on (shaped_mouth C m a (full_pair C a) (mouth_shape false (C.pairs m))) ∙ ap (shaped_mouth C m a (full_pair C a)) flat ∙ shapeless (full_pair C a)

        both : (b : Bool) (o : Option MouthProposal) → o ≡ None → cond b o None ≡ None
        both true o h = h
        both false o h = refl

-- what the first tests have shown: a ramp and a mouth, both full cuts, with what was found of their triangle and of the mouth's approach
pub record Tried (C : Context) (a m : ℕ) (t : Bool) (A : Option Approach) : Type 0 where
  pub ramp : no_ramp C a ≡ false
  pub cut : full_cut C a ≡ true
  pub plain : no_ramp C m ≡ true
  pub full : full_cut C m ≡ true
  pub named : All (Named C.regions) (C.pairs m)
  pub three : triangle_representative (C.pairs m) (C.pairs a) ≡ only_if t (distinct_regions (C.pairs m))
  pub by : A ≡ approach_of (full_pair C a) (mouth_shape true (C.pairs m))

-- from the lists; k says whether the mouth has a ramp
pub tried : {boundaries pairs starts counts marks : List ℕ} {count : ℕ} {C : Context} → Shows boundaries pairs starts counts marks count C → {m a : ℕ} → m < C.count → a < C.count → no_ramp C a ≡ false → full_cut C a ≡ true
    → {k : Bool} → k ≡ not (eqb (get_or boundaries (numbers_per_boundary * m + 5) 0) 0) → k ≡ false → full_cut C m ≡ true
    → (o : Option Edges) → TriangleOf (rows_of pairs starts m) (rows_of pairs starts a) o
    → {A : Option Approach} → A ≡ approach_of (full_pair C a) (mouth_shape true (C.pairs m)) → Tried C a m (is_some o) A
tried S {m} {a} lm la ramp cut e z full o h by =
    record {
      ramp = ramp;
      cut = cut;
      plain = kind-shown S.bounds m lm ∙ not-false _ (sym e ∙ z);
      full = full;
      named = S.rows.named m lm;
      three = triangle-shown S.rows m a lm la o h;
      by = by;
    }

module _ {C : Context} {a m : ℕ} {t : Bool} {A : Option Approach} (T : Tried C a m t A) where
  abbrev three : Option (List ℕ)
  three = only_if t (distinct_regions (C.pairs m))

  triangle_by : {b : Bool} → nearby_representative C m a ≡ b → triangle C m a ≡ cond b three None
  unfolding triangle
  triangle_by {b} e = (λ i. cond (e i && T.full i && T.cut i) (T.three i) None) ∙ go b
    where
      go : (b : Bool) → cond (b && true && true) three None ≡ cond b three None
      go true = refl
      go false = refl

  found_by : {b : Bool} → nearby_representative C m a ≡ b → {g : Bool} → near C a m ≡ g → found_mouth C a m ≡ cond g (triangle_or C (cond b three None) m a (approach_mouth C m a A)) None
  found_by {b} e {g} f =
      reached C a m T.ramp T.cut T.plain ∙ (λ i. cond (f i) (triangle_or C (triangle_by e i) m a (shaped_mouth C m a (full_pair C a) (mouth_shape (T.full i) (C.pairs m)))) None)
      ∙ ap (λ p. cond g (triangle_or C (cond b three None) m a p) None) (shaped_is C m a T.named ∙ ap (approach_mouth C m a) (sym T.by))

  -- neither a triangle nor an approach
  pub no_shape : t ≡ false → A ≡ None → None ≡ found_mouth C a m
  no_shape e k =
      sym (found_by {b = nearby_representative C m a} refl {g = near C a m} refl
      ∙ (λ i. cond (near C a m) (triangle_or C (cond (nearby_representative C m a) (only_if (e i) (distinct_regions (C.pairs m))) None) m a (approach_mouth C m a (k i))) None)
      ∙ go (near C a m) (nearby_representative C m a))
    where
      go : (g b : Bool) → cond g (triangle_or C (cond b None None) m a (approach_mouth C m a None)) None ≡ None
      go true true = unfold triangle_or in (unfold approach_mouth in refl)
      go true false = unfold triangle_or in (unfold approach_mouth in refl)
      go false b = refl

  module _ {s : Measures} (M : Measured C m a s) where
    measured : near C a m ≡ ((s.broad || s.nearby) || s.overlay)
    measured = sym (λ i. M.broad i || M.nearby i || M.overlay i) ∙ go s.broad s.nearby
      where
        go : (x y : Bool) → (x || y || s.overlay) ≡ ((x || y) || s.overlay)
        go true y = refl
        go false true = refl
        go false false = refl

    pub too_far : ((s.broad || s.nearby) || s.overlay) ≡ false → None ≡ found_mouth C a m
    too_far h = sym (found_by (sym M.nearby) (measured ∙ h))

    pub by_triangle : (s.nearby && t) ≡ true → triangle_mouth C m a (distinct_regions (C.pairs m)) ≡ found_mouth C a m
    by_triangle h = sym (found_by (sym M.nearby) measured ∙ go s.nearby t s.broad h)
      where
        go : (b t w : Bool) → (b && t) ≡ true → cond ((w || b) || s.overlay) (triangle_or C (cond b (only_if t (distinct_regions (C.pairs m))) None) m a (approach_mouth C m a A)) None ≡ triangle_mouth C m a (distinct_regions (C.pairs m))
        go true true true h = unfold triangle_or in refl
        go true true false h = unfold triangle_or in refl
        go true false w h = absurd (false≢true h)
        go false t w h = absurd (false≢true h)

    pub by_approach : ((s.broad || s.nearby) || s.overlay) ≡ true → (s.nearby && t) ≡ false → approach_mouth C m a A ≡ found_mouth C a m
    by_approach k h = sym (found_by (sym M.nearby) (measured ∙ k) ∙ go s.nearby t h)
      where
        go : (b t : Bool) → (b && t) ≡ false → triangle_or C (cond b (only_if t (distinct_regions (C.pairs m))) None) m a (approach_mouth C m a A) ≡ approach_mouth C m a A
        go true true h = absurd (false≢true (sym h))
        go true false h = unfold triangle_or in refl
        go false t h = unfold triangle_or in refl
