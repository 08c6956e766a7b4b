-- `walk_span` meets its contract. The loop's invariant: the cut steps of the parts before k are visited (`Passing`). Assumes nothing.
use Prim.Native.Nat.{◌≤◌, ◌<◌}
use mathlib.Core.Path.{sym}
use native.Mathlib.Omega.{arith}
use Rattle.definitions.specs.Limits.{max_side}
use Rattle.span_geometry.specs.Shapes.{segment_of}
use Rattle.grid_steps.specs.Grids.{terrain_of}
use Rattle.cut_steps.specs.Columns.{cut_column, some_side}
use Rattle.cut_steps.proofs.Beyond.{parts-joined}
use Rattle.cut_steps.proofs.Passing.{visited_as, passing-start, passing-further, passing-done, ready-further}
use Rattle.cut_steps.proofs.SpanParts.{limit-small, columns-asked, part-within, part-asked}
use Rattle.cut_steps.proofs.Walks.{parts-few}
use Rattle.cut_steps.proofs.walk.walk_span.Goals as goal

pub loop-k-init : goal.loop-k-init
loop-k-init g c =
    let M = terrain_of c.args.grid in
    let r = c.parts_of-parts.result in
    passing-start g.met.V.StepVisitor.laws M (cut_column M (segment_of c.args.g) c.new.result) max_side r.first r.end

pub part_end-next-requires : goal.part_end-next-requires
part_end-next-requires g c =
    let p = c.requires.asked.grid_sound in
    omega (arith, c.parts_of-parts.ensures.below c.loop-k.k c.loop-k.invariant.from_k c.loop-k-test.true, limit-small c.new.result p.narrow p.short c.length.ensures)

pub walk_part-requires : goal.walk_part-requires
walk_part-requires g c =
    let p = c.requires.asked in
    let t = c.new.result in
    let s = segment_of c.args.g in
    let M = terrain_of c.args.grid in
    let P = c.parts_of-parts.ensures in
    let r = c.parts_of-parts.result in
    let i = c.loop-k.invariant in
    let within : (c.loop-k.k < c.part_end-next.result) × (c.part_end-next.result ≤ c.parts_of-parts.result.end) = part-within c.parts_of-parts.ensures c.loop-k-test.true c.part_end-next.ensures in
    let joined = parts-joined M s r.first r.end p.grid_sound.sound.ordered c.new.ensures.0 c.length.ensures P.numbers in
    let few = parts-few P (limit-small t p.grid_sound.narrow p.grid_sound.short c.length.ensures) in
    record {
      asked = (p.grid_sound, columns-asked c.new.ensures.1 c.length.ensures (some_side t.columns p.tall p.wide) P.below i.from_k within.1);
      part = part-asked c.new.ensures.0 P c.part_end-next.ensures within.0;
      is_ready = ready-further g.met.V.StepVisitor.laws M (cut_column M s t) max_side r.first r.end i (sym joined) few c.requires.is_ready (omega (arith, within.0)) within.1;
    }

pub loop-k-smaller : goal.loop-k-smaller
loop-k-smaller g c =
    let within : (c.loop-k.k < c.part_end-next.result) × (c.part_end-next.result ≤ c.parts_of-parts.result.end) = part-within c.parts_of-parts.ensures c.loop-k-test.true c.part_end-next.ensures in
    omega (arith, within, c.loop-k-test.true)

pub loop-k-preserved : goal.loop-k-preserved
loop-k-preserved g c =
    let M = terrain_of c.args.grid in
    let r = c.parts_of-parts.result in
    let within : (c.loop-k.k < c.part_end-next.result) × (c.part_end-next.result ≤ c.parts_of-parts.result.end) = part-within c.parts_of-parts.ensures c.loop-k-test.true c.part_end-next.ensures in
    passing-further g.met.V.StepVisitor.laws M (cut_column M (segment_of c.args.g) c.new.result) max_side r.first r.end c.loop-k.invariant within.0 within.1 c.walk_part.ensures

pub returns : goal.returns
returns g c =
    let p = c.requires.asked in
    let t = c.new.result in
    let s = segment_of c.args.g in
    let M = terrain_of c.args.grid in
    let P = c.parts_of-parts.ensures in
    let r = c.parts_of-parts.result in
    let joined = parts-joined M s r.first r.end p.grid_sound.sound.ordered c.new.ensures.0 c.length.ensures P.numbers in
    let few = parts-few P (limit-small t p.grid_sound.narrow p.grid_sound.short c.length.ensures) in
    visited_as g.met.V.StepVisitor.laws M joined (passing-done g.met.V.StepVisitor.laws M (cut_column M s t) max_side r.first r.end c.loop-k.invariant c.loop-k-test.false few)
