-- `boundary_blocks::start::start_lists` meets its contract: with no mark set, the rows of all boundaries are written, and the three lists are read from them. Assumes nothing.
use Prim.Native.Nat.{◌/◌, ◌≤◌}
use native.Mathlib.Omega.{arith}
use mathlib.Core.Path.{ap, ◌∙◌}
use lib.ListN.{length, replicate}
use lib.Seq.{length-take-le}
use Rattle.definitions.specs.Lists.{overwrite}
use Rattle.boundary_blocks.specs.Start.{numbers_of, ends_of_lem, turned_of}
use Rattle.boundary_blocks.proofs.Placing.{held-read, held_named}
use Rattle.boundary_blocks.proofs.start.start_lists.Goals as goal

pub put_boundaries-requires : goal.put_boundaries-requires
put_boundaries-requires c =
    let given = c.args in
    let few : given.count ≤ length c.canonical_output.new.output / 5 = omega (arith, c.canonical_output.auto.output, c.requires.sizes.0) in (
      omega (arith, length-take-le given.count c.as_chunks.result.0.now (omega (arith, few, c.as_chunks.ensures.front_len)), c.requires.room.2),
      held_named given.lent.now given.count 256 (replicate 1280 0) c.canonical_output.ensures.output c.as_chunks.ensures.front few c.requires.sizes.1,
    )

pub returns : goal.returns
returns c =
    let given = c.args in
    let few : given.count ≤ length c.canonical_output.new.output / 5 = omega (arith, c.canonical_output.auto.output, c.requires.sizes.0) in
    let read = held-read given.lent.now given.count 256 (replicate 1280 0) c.canonical_output.ensures.output c.as_chunks.ensures.front few in
    record {
      numbers = c.put_numbers.ensures ∙ ap (λ r. overwrite (numbers_of r) given.numbers.now) read;
      spans = c.put_spans.ensures ∙ ap (λ r. overwrite (ends_of_lem r) given.spans.now) read;
      boundaries = c.put_boundaries.ensures ∙ ap (λ r. overwrite (turned_of given.lent.now r) given.boundaries.now) read;
    }
