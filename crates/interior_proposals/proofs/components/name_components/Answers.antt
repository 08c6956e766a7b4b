-- `components::name_components` meets its contract, from what its three calls ensure. Assumes nothing.
use Prim.Native.Nat.{suc}
use mathlib.Core.Path.{ap, ◌∙◌}
use Rattle.definitions.specs.RampInteriors.{components}
use Rattle.interior_proposals.proofs.Preparing.{components-parented, components-size, components-beyond}
use Rattle.laws.specs.ListLaws.Beyond.{beyond-then}
use Rattle.interior_proposals.proofs.components.name_components.Goals as goal

pub flatten-requires : goal.flatten-requires
flatten-requires c =
    let C = c.requires.0 in
    let L = c.requires.1 in
    let m = c.join_cuts.ensures C L.given L.counted (c.prepare.ensures.prepared C L.labelled L.anchored L.incidents).parented in
    (components C, (components-parented C m, components-size C ∙ ap suc L.labelled))

pub returns : goal.returns
returns c =
    let L = c.requires.1 in
    let was = c.prepare.ensures in record {
      known = λ C M.
          let r = was.prepared C M.labelled M.anchored M.incidents in
          let m = c.join_cuts.ensures C M.given M.counted r.parented in
          record { marked = r.marked; named = c.flatten.ensures.named (components C) (components-parented C m) (components-size C ∙ ap suc M.labelled) };
      beyond = (was.beyond.0, beyond-then was.beyond.1 (beyond-then (components-beyond c.requires.0 (c.join_cuts.ensures c.requires.0 L.given L.counted (was.prepared c.requires.0 L.labelled L.anchored L.incidents).parented) L.labelled) c.flatten.ensures.beyond));
    }
