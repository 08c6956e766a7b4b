-- The anchored regions of a triangle as the code finds them, from the marks. Assumes nothing.
use Prim.Native.Nat.{ℕ}
use mathlib.Core.Path.{◌≡◌, refl, sym, ap, ◌∙◌}
use mathlib.Core.Bool.{Bool, cond}
use mathlib.Core.List.{List}
use Rattle.definitions.specs.Scan.{filter}
use Rattle.definitions.specs.MouthShapes.{distinct_regions}
use Rattle.definitions.specs.Context.{Context}
use Rattle.context.specs.Rows.{pair_form}
use Rattle.context.specs.Shown.{ShownAnchored}
use Rattle.mouth_proposals.specs.Rows.{EdgesWithin, edges_form}
use Rattle.mouth_proposals.specs.Outers.{mark_at, outers_of, with_region}
use Rattle.context.specs.declared.found_regions.FoundRegions.{FoundRegions}
use Rattle.context.specs.declared.found_regions.FoundRegions.TheVariants as outers
use Rattle.mouth_proposals.specs.declared.shapes.Edges.{Edges}
use Rattle.mouth_proposals.proofs.TriangleMouths.{four-steps}

next : {b c : Bool} {o o' y : FoundRegions} (x : ℕ) → b ≡ c → o ≡ o' → y ≡ cond b (with_region o x) o → y ≡ cond c (with_region o' x) o'
next x e f g = g ∙ (λ i. cond (e i) (with_region (f i) x) (f i))

-- o, t, h and f are what is found after each region of the edges of mouth m
pub found_in : {C : Context} {marks : List ℕ} → ShownAnchored C marks → {e : Edges} → EdgesWithin C.regions e → {m : ℕ} → C.pairs m ≡ edges_form e → {o t h f : FoundRegions}
    → o ≡ cond (mark_at marks e.first.lo) (with_region outers.None e.first.lo) outers.None → t ≡ cond (mark_at marks e.first.hi) (with_region o e.first.hi) o
    → h ≡ cond (mark_at marks e.second.lo) (with_region t e.second.lo) t → f ≡ cond (mark_at marks e.second.hi) (with_region h e.second.hi) h
    → outers_of (filter C.anchored (distinct_regions (C.pairs m))) ≡ f
found_in {C} A {e} w rows d g k j =
    ap (λ l. outers_of (filter C.anchored (distinct_regions l))) rows
    ∙ sym (next e.second.hi (sym (A.at e.second.hi w.1.1.0 w.1.1.1))
    (next e.second.lo (sym (A.at e.second.lo w.1.0.0 w.1.0.1))
    (next e.first.hi (sym (A.at e.first.hi w.0.1.0 w.0.1.1)) (next {o = outers.None} e.first.lo (sym (A.at e.first.lo w.0.0.0 w.0.0.1)) refl d) g) k) j
    ∙ four-steps C.anchored (pair_form e.first) (pair_form e.second))
