-- `walk_between` meets its contract. The loop's invariant: the cut steps of the columns, or rows, from the first to the one before k are visited (`Passing`), and `before`
-- and `here` are the first places past the line in the one before k and in k. Assumes nothing.
use Prim.Native.Nat.{ℕ, ◌-◌, ◌≤◌, ◌<◌}
use native.Mathlib.Nat.{le_refl}
use mathlib.Core.Path.{◌≡◌, refl, subst⁻¹}
use Rattle.definitions.specs.Limits.{max_side}
use Rattle.span_geometry.specs.declared.SpanGeometry.{SpanGeometry}
use Rattle.span_geometry.specs.declared.strips.Strip.{Strip}
use Rattle.span_geometry.specs.Shapes.{Sound, segment_of}
use Rattle.span_geometry.specs.Strips.{Usable, strip_of}
use Rattle.line_crossings.specs.Crossings.{Crossing, NextAsked, Gentle, tie_of}
use Rattle.cut_steps.specs.Crossed.{Inside}
use Rattle.cut_steps.specs.Columns.{column_in}
use Rattle.cut_steps.specs.Walks.{walk_map, column_steps}
use Rattle.cut_steps.proofs.Across.{tie-few}
use Rattle.cut_steps.proofs.Passing.{passing-start, passing-more, passing-done, ready_at}
use Rattle.cut_steps.proofs.SpanParts.{column-asked, from_some, between-before, between_first, between_at, between-after, one_before, gentle_of, next_from, now-before, follows-in}
use Rattle.cut_steps.proofs.walk.walk_between.Goals as goal

-- what is asked of the line
line : {t : Strip} {g : SpanGeometry} {tie : ℕ} → Usable t → t ≡ strip_of (segment_of g) → Sound g → tie ≡ tie_of (segment_of g) → Usable t × Gentle t × (tie ≤ 1)
line {g = g} usable strip sound tie = (usable, gentle_of (segment_of g) strip sound.ordered, subst⁻¹ (λ n. n ≤ 1) tie (tie-few (segment_of g)))

-- what is asked of the place before the first, and of each
asked_first : {t : Strip} {tie from to m rest : ℕ} → tie ≤ 1 → Inside t from to → from < to → Crossing t tie (from - 1) m rest → NextAsked t tie (from - 1) m rest
asked_first {t} {from = from} {to} few inside some crossing =
    record { few = few; here = between-before t from to inside some; next = between_first t from to inside some; crossing = crossing }

asked_at : {t : Strip} {tie from to k m rest : ℕ} → tie ≤ 1 → Inside t from to → from < to → from ≤ k → k < to → Crossing t tie k m rest → NextAsked t tie k m rest
asked_at {t} {from = from} {to} few inside some a b crossing =
    record { few = few; here = between_at t from to inside some a b; next = between-after t from to inside some a b; crossing = crossing }

pub first_place-before-requires : goal.first_place-before-requires
first_place-before-requires g c =
    let asked = c.requires.asked in
    let p = c.requires.between in
    let f = c.args.from in
    let l = line asked.1.usable p.0.strip asked.0.sound c.tie_of-tie.ensures in
    let column = column_in asked.0.narrow asked.0.short (column-asked asked.1 (le_refl f) p.1) in
    (l.0, between-before c.args.walk.strip f c.args.to p.0.inside p.1, l.2, one_before column)

pub overflow_sub-from : goal.overflow_sub-from
overflow_sub-from g c =
    let p = c.requires.between in
    from_some c.args.walk.strip c.args.from c.args.to p.0.inside p.1

pub next_place-here-requires : goal.next_place-here-requires
next_place-here-requires g c =
    let asked = c.requires.asked in
    let p = c.requires.between in
    let l = line asked.1.usable p.0.strip asked.0.sound c.tie_of-tie.ensures in
    record { line = (l.0, l.1); some = (c.tie_of-tie.result, c.args.from - 1, asked_first l.2 p.0.inside p.1 c.first_place-before.ensures) }

pub loop-k-init : goal.loop-k-init
loop-k-init g c =
    let a = c.args in
    let walk = a.walk in
    let asked = c.requires.asked in
    let p = c.requires.between in
    let l = line asked.1.usable p.0.strip asked.0.sound c.tie_of-tie.ensures in
    let some : 1 ≤ a.from = from_some walk.strip a.from a.to p.0.inside p.1 in
    let here = c.next_place-here.ensures.crossing c.tie_of-tie.result (a.from - 1) (asked_first l.2 p.0.inside p.1 c.first_place-before.ensures) in
    (passing-start g.met.V.StepVisitor.laws (walk_map walk) (column_steps walk) max_side a.from a.to, c.first_place-before.ensures, next_from some here, c.next_place-here.ensures.close)

pub next_place-after-requires : goal.next_place-after-requires
next_place-after-requires g c =
    let asked = c.requires.asked in
    let p = c.requires.between in
    let i = c.loop-k.invariant in
    let l = line asked.1.usable p.0.strip asked.0.sound c.tie_of-tie.ensures in
    record { line = (l.0, l.1); some = (c.tie_of-tie.result, c.loop-k.k, asked_at l.2 p.0.inside p.1 i.0.from_k c.loop-k-test.true i.2) }

pub walk_crossing-requires : goal.walk_crossing-requires
walk_crossing-requires g c =
    let a = c.args in
    let walk = a.walk in
    let asked = c.requires.asked in
    let p = c.requires.between in
    let i = c.loop-k.invariant in
    let l = line asked.1.usable p.0.strip asked.0.sound c.tie_of-tie.ensures in
    let after = c.next_place-after.ensures.crossing c.tie_of-tie.result c.loop-k.k (asked_at l.2 p.0.inside p.1 i.0.from_k c.loop-k-test.true i.2) in
    record {
      asked = (asked.0, column-asked asked.1 i.0.from_k c.loop-k-test.true);
      axis = c.requires.axis;
      follows = follows-in c.requires.between.0 asked.1.usable c.tie_of-tie.ensures i.0.from_k c.loop-k-test.true i.1 i.2 after i.3 c.next_place-after.ensures.close;
      is_ready = ready_at g.met.V.StepVisitor.laws (walk_map walk) (column_steps walk) max_side a.from a.to i.0 refl (le_refl _) c.requires.is_ready c.loop-k-test.true;
    }

pub loop-k-preserved : goal.loop-k-preserved
loop-k-preserved g c =
    let a = c.args in
    let walk = a.walk in
    let asked = c.requires.asked in
    let p = c.requires.between in
    let i = c.loop-k.invariant in
    let l = line asked.1.usable p.0.strip asked.0.sound c.tie_of-tie.ensures in
    let after = c.next_place-after.ensures.crossing c.tie_of-tie.result c.loop-k.k (asked_at l.2 p.0.inside p.1 i.0.from_k c.loop-k-test.true i.2) in (
      passing-more g.met.V.StepVisitor.laws (walk_map walk) (column_steps walk) max_side a.from a.to i.0 c.loop-k-test.true c.walk_crossing.ensures,
      now-before i.2,
      after,
      c.next_place-after.ensures.close,
    )

pub returns : goal.returns
returns g c =
    let a = c.args in
    let walk = a.walk in
    passing-done g.met.V.StepVisitor.laws (walk_map walk) (column_steps walk) max_side a.from a.to c.loop-k.invariant.0 c.loop-k-test.false (le_refl _)
