-- `walk_crossing` meets its contract. The loop's invariant: the cut steps of the cells before j are visited; the four are all of the column, or row (`four-joined`). Assumes
-- nothing.
use Prim.Native.Nat.{ℕ, ◌+◌, ◌-◌, ◌*◌, ◌≤◌}
use native.Mathlib.Omega.{arith}
use mathlib.Core.Path.{◌≡◌, refl, sym, ap, ◌∙◌, subst}
use Rattle.definitions.specs.Limits.{max_side}
use Rattle.definitions.specs.Grid.{Segment}
use Rattle.span_geometry.specs.declared.strips.Strip.{Strip}
use Rattle.span_geometry.specs.Shapes.{segment_of}
use Rattle.line_crossings.proofs.Moving.{small}
use Rattle.cut_steps.specs.Crossed.{changes_at, FollowsIn}
use Rattle.cut_steps.specs.Walks.{walk_map, across_steps}
use Rattle.cut_steps.proofs.Across.{tie-few, crossing_at}
use Rattle.cut_steps.proofs.Passing.{Passing, visited_as, passing-start, passing-more, passing-done, ready_at}
use Rattle.cut_steps.proofs.Walks.{four-joined}
use Rattle.cut_steps.proofs.walk.walk_crossing.Goals as goal

-- the first places are small numbers, and near each other
record Sizes (before here after : ℕ) : Type 0 where
  before_small : before ≤ 134300000
  here_small : here ≤ 134300000
  after_small : after ≤ 134300000
  back : before + 2 - here ≤ 3
  ahead : after + 2 - here ≤ 3

sizes : {g : Segment} {t : Strip} {k before here after : ℕ} → FollowsIn t g k before here after → Sizes before here after
sizes {g} follows =
    let F = follows.follows in
    let few = tie-few g in
    record {
      before_small = small F.usable F.between-before few F.was.1;
      here_small = small F.usable F.between few F.is.1;
      after_small = small F.usable F.between-after few F.next.1;
      back = omega (arith, F.close-before.down);
      ahead = omega (arith, F.close-after.up);
    }

-- four cells are no more than a column has
four_few : (here : ℕ) → 1 * (here + 4 - here) ≤ max_side
four_few here = omega arith

pub overflow_add-back : goal.overflow_add-back
overflow_add-back g c = omega (arith, (sizes c.requires.follows).before_small)

pub overflow_add-ahead : goal.overflow_add-ahead
overflow_add-ahead g c = omega (arith, (sizes c.requires.follows).after_small)

pub loop-j-init : goal.loop-j-init
loop-j-init g c =
    let a = c.args in
    let walk = a.walk in
    let M = walk_map walk in
    let P : Passing g.V.StepVisitor.visited M (across_steps walk a.k) 1 a.here (a.here + 4) a.visitor.now a.visitor.now a.here = passing-start g.met.V.StepVisitor.laws M (across_steps walk a.k) 1 a.here (a.here + 4) in
    let e : a.here ≡ a.here + 0 = omega arith in
    (omega arith, subst (Passing g.V.StepVisitor.visited M (across_steps walk a.k) 1 a.here (a.here + 4) a.visitor.now a.visitor.now) e P)

pub overflow_add-here : goal.overflow_add-here
overflow_add-here g c = omega (arith, (sizes c.requires.follows).here_small, c.loop-j-test.true)

pub walk_across-requires : goal.walk_across-requires
walk_across-requires g c =
    let a = c.args in
    let walk = a.walk in
    let M = walk_map walk in
    let joined = four-joined walk.grid.width walk.grid.height walk.grid.cells.now (segment_of walk.g) c.requires.asked.1 c.requires.follows in
    record {
      asked = c.requires.asked;
      axis = c.requires.axis;
      changes = crossing_at c.requires.follows c.loop-j.j refl
          (c.side_changes-changes.ensures ∙ ap (λ t. changes_at t (a.before + 2 - a.here) 2 (a.after + 2 - a.here) c.loop-j.j) c.requires.axis);
      is_ready = ready_at g.met.V.StepVisitor.laws M (across_steps walk a.k) 1 a.here (a.here + 4) c.loop-j.invariant.1 joined (four_few a.here) c.requires.is_ready (omega (arith, c.loop-j-test.true));
    }

pub loop-j-preserved : goal.loop-j-preserved
loop-j-preserved g c =
    let a = c.args in
    let walk = a.walk in
    let M = walk_map walk in
    let j = c.loop-j.j in
    let e : a.here + j + 1 ≡ a.here + (j + 1) = omega arith in
    let P = passing-more g.met.V.StepVisitor.laws M (across_steps walk a.k) 1 a.here (a.here + 4) c.loop-j.invariant.1 (omega (arith, c.loop-j-test.true)) c.walk_across.ensures in
    (omega (arith, c.loop-j-test.true), subst (Passing g.V.StepVisitor.visited M (across_steps walk a.k) 1 a.here (a.here + 4) a.visitor.now c.walk_across.new.visitor) e P)

pub returns : goal.returns
returns g c =
    let a = c.args in
    let walk = a.walk in
    let M = walk_map walk in
    let joined = four-joined walk.grid.width walk.grid.height walk.grid.cells.now (segment_of walk.g) c.requires.asked.1 c.requires.follows in
    visited_as g.met.V.StepVisitor.laws M (sym joined) (passing-done g.met.V.StepVisitor.laws M (across_steps walk a.k) 1 a.here (a.here + 4) c.loop-j.invariant.1 (omega (arith, c.loop-j-test.false)) (four_few a.here))
