-- `mouths::mouth_candidate` meets its contract: each return by the tests that led there. Assumes nothing.
use mathlib.Core.Path.{◌≡◌, refl, sym, ap, ◌∙◌}
use mathlib.Core.Bool.{true, false, not, ◌&&◌, and-false, false≢true}
use borrow.Author.Tests.{not-true, not-false}
use Rattle.std.specs.Prelude.{Option, None, Some, is_some}
use Rattle.definitions.specs.MouthShapes.{mouth_shape}
use Rattle.definitions.specs.Context.{full_pair}
use Rattle.laws.specs.ListLaws.Tests.{both}
use Rattle.mouth_proposals.proofs.FoundMouths.{has_ramp_lem, not_full, tried, no_shape, too_far, by_triangle, by_approach}
use Rattle.mouth_proposals.proofs.SafeLists.{below, stretch_at, named-both, kind-shown, named_in, edges-shown, edges_within, approach_named}
use Rattle.mouth_proposals.proofs.Within.{edges_more}
use Rattle.mouth_proposals.proofs.KnownEnds.{approach_known}
use Rattle.mouth_proposals.proofs.mouths.mouth_candidate.Goals as goal
use Rattle.mouth_proposals.proofs.mouths.mouth_candidate.Goals.{then-has_ramp-via-then-has_ramp, then-has_ramp-via-else-has_ramp+then-not-full_cut, in_default-via-in-Some+else-measures, in_default-via-in_default}

none_of : {A : Type 0} (o : Option A) → is_some o ≡ false → o ≡ None
none_of None e = refl
none_of (Some x) e = absurd (false≢true (sym e))

pub returns-then-has_ramp : goal.returns-then-has_ramp
returns-then-has_ramp c =
    λ C S T ramp cut E.
    let lm = below S.counted c.requires.places.0 in
    let a = c.args.ramp.boundary in
    elim c.then-has_ramp.branch [
      | then-has_ramp-via-then-has_ramp w ↦ has_ramp_lem C a c.args.m ramp cut (kind-shown S.bounds c.args.m lm ∙ not-true _ (sym c.has_ramp.ensures ∙ w.if-has_ramp.true))
      | then-has_ramp-via-else-has_ramp+then-not-full_cut w ↦ not_full C a c.args.m ramp cut (kind-shown S.bounds c.args.m lm ∙ not-false _ (sym c.has_ramp.ensures ∙ w.if-has_ramp.false)) (sym (w.full_cut.ensures C T lm) ∙ w.if-not-full_cut.true)
    ]

pub triangle_representative-triangle-requires : goal.triangle_representative-triangle-requires
triangle_representative-triangle-requires c =
    (stretch_at c.requires.shown c.requires.places.0, stretch_at c.requires.shown c.requires.places.1)

pub approach_of-approach-requires-clause-stretch : goal.approach_of-approach-requires-clause-stretch
approach_of-approach-requires-clause-stretch c =
    (stretch_at c.requires.shown c.requires.places.0, stretch_at c.requires.shown c.requires.places.1)

pub returns-then-is_none : goal.returns-then-is_none
returns-then-is_none c =
    λ C S T ramp cut E.
    let lm = below S.counted c.requires.places.0 in
    let la = below S.counted c.requires.places.1 in
    let h = both c.is_none.result c.is_none-2.result c.if-is_none.true in
    no_shape (tried S lm la ramp cut c.has_ramp.ensures c.if-has_ramp.false (sym (c.full_cut.ensures C T lm) ∙ c.if-not-full_cut.false) _ c.triangle_representative-triangle.ensures (c.approach_of-approach.ensures C T S.rows lm la)) (c.is_none.ensures ∙ ap not h.0) (none_of _ (c.is_none-2.ensures ∙ ap not h.1))

pub returns-then-not-any : goal.returns-then-not-any
returns-then-not-any c =
    λ C S T ramp cut E.
    let lm = below S.counted c.requires.places.0 in
    let la = below S.counted c.requires.places.1 in
    too_far (tried S lm la ramp cut c.has_ramp.ensures c.if-has_ramp.false (sym (c.full_cut.ensures C T lm) ∙ c.if-not-full_cut.false) _ c.triangle_representative-triangle.ensures (c.approach_of-approach.ensures C T S.rows lm la)) (c.of-measures.ensures C S.bounds lm la) (sym c.any.ensures ∙ c.if-not-any.true)

pub triangle_mouth-requires : goal.triangle_mouth-requires
triangle_mouth-requires c =
    let L = c.requires.shown in
    let lm = below L.shows.counted c.requires.places.0 in
    edges_more L.shows.anchored.long c.in-Some.edges
    (edges_within L.shows.rows c.args.m lm (edges-shown L.shows.rows c.args.m lm _ c.triangle_representative-triangle.ensures c.in-Some.is))

pub returns-in-Some : goal.returns-in-Some
returns-in-Some c =
    λ C S T ramp cut E.
    let lm = below S.counted c.requires.places.0 in
    let la = below S.counted c.requires.places.1 in
    let rows = edges-shown S.rows c.args.m lm _ c.triangle_representative-triangle.ensures c.in-Some.is in
    c.triangle_mouth.ensures C c.args.m c.args.ramp.boundary S.anchored (edges_within S.rows c.args.m lm rows) rows
    ∙ by_triangle (tried S lm la ramp cut c.has_ramp.ensures c.if-has_ramp.false (sym (c.full_cut.ensures C T lm) ∙ c.if-not-full_cut.false) _ c.triangle_representative-triangle.ensures (c.approach_of-approach.ensures C T S.rows lm la)) (c.of-measures.ensures C S.bounds lm la) (λ i. c.if-measures.true i && is_some (c.in-Some.is i))

pub approach_mouth-requires : goal.approach_mouth-requires
approach_mouth-requires c =
    record {
      stretch = stretch_at c.requires.shown c.requires.places.0;
      named_rows = named-both c.requires.shown c.requires.places.0;
      approach_within = named_in c.requires.shown c.requires.places.0 (full_pair c.requires.shown.context c.args.ramp.boundary)
          (c.approach_of-approach.ensures c.requires.shown.context c.requires.shown.cuts c.requires.shown.shows.rows (below c.requires.shown.shows.counted c.requires.places.0) (below c.requires.shown.shows.counted c.requires.places.1));
    }

pub returns-in_default : goal.returns-in_default
returns-in_default c =
    λ C S T ramp cut E.
    let lm = below S.counted c.requires.places.0 in
    let la = below S.counted c.requires.places.1 in
    let a = c.args.ramp.boundary in
    let M = c.of-measures.ensures C S.bounds lm la in
    let k = c.approach_of-approach.ensures C T S.rows lm la in
    let no_triangle : (c.of-measures.result.nearby && is_some c.triangle_representative-triangle.result) ≡ false =
    elim c.in_default.branch [
      | in_default-via-in-Some+else-measures w ↦ ap (λ b. b && is_some c.triangle_representative-triangle.result) w.if-measures.false
      | in_default-via-in_default w ↦ ap (λ o. c.of-measures.result.nearby && is_some o) w.in_default.is ∙ and-false c.of-measures.result.nearby
    ]
    in
    c.approach_mouth.ensures C a S.rows S.incidents S.anchored lm (approach_named S.rows c.args.m lm (full_pair C a) k) (approach_known C a c.args.ramp.ends E (mouth_shape true (C.pairs c.args.m)) k) M
    ∙ by_approach (tried S lm la ramp cut c.has_ramp.ensures c.if-has_ramp.false (sym (c.full_cut.ensures C T lm) ∙ c.if-not-full_cut.false) _ c.triangle_representative-triangle.ensures (c.approach_of-approach.ensures C T S.rows lm la)) M (sym c.any.ensures ∙ c.if-not-any.false) no_triangle
