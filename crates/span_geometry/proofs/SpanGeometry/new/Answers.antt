-- `SpanGeometry::new` meets its contract: the lesser endpoint and the greater are those of `canonical`. Assumes nothing.
use mathlib.Core.Path.{◌≡◌, refl, subst⁻¹}
use mathlib.Core.Bool.{Bool, true, false, cond}
use Prim.Native.Nat.{◌≤◌}
use native.Mathlib.Omega.{arith}
use Rattle.definitions.specs.Grid.{Segment, position_lt, canonical}
use Rattle.laws.specs.FloatLaws.Pixels.{PixelSegment, canonical-pixel}
use Rattle.span_geometry.specs.Shapes.{segment_form}
use Rattle.span_geometry.proofs.Canonical.{before-x, not-before-x}
use Rattle.span_geometry.proofs.SpanGeometry.new.Goals as goal

ordered : (s : Segment) → (canonical s).a.x ≤ (canonical s).b.x
unfolding canonical
ordered s = go (position_lt s.b s.a) refl
  where
    go : (t : Bool) → position_lt s.b s.a ≡ t → (cond t (record { a = s.b; b = s.a }) s).a.x ≤ (cond t (record { a = s.b; b = s.a }) s).b.x
    go true e = before-x s.b s.a e
    go false e = not-before-x s.b s.a e

pub returns : goal.returns
returns c =
    let s : Segment = segment_form c.args.ends in
    let given : PixelSegment s = record { first = record { x-le = c.requires.0.x_in; y-le = c.requires.0.y_in }; second = record { x-le = c.requires.1.x_in; y-le = c.requires.1.y_in } } in
    let made = subst⁻¹ PixelSegment c.canonical-ends.ensures (canonical-pixel given) in
    let o = subst⁻¹ (λ (t : Segment). t.a.x ≤ t.b.x) c.canonical-ends.ensures (ordered s) in
    record {
      segment = c.canonical-ends.ensures;
      sound = record {
        a_in = record { x_in = made.first.x-le; y_in = made.first.y-le };
        b_in = record { x_in = made.second.x-le; y_in = made.second.y-le };
        ordered = o;
        min-x = omega (arith, o);
        max-x = omega (arith, o);
        min-y = c.min.ensures;
        max-y = c.max.ensures;
      };
    }
