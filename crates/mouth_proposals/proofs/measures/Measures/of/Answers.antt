-- `measures::Measures::of` meets its contract, from what its callees ensure. Assumes nothing.
use mathlib.Core.Path.{◌∙◌}
use Rattle.mouth_proposals.proofs.Measured.{broad_is}
use Rattle.mouth_proposals.proofs.measures.Measures.of.Goals as goal

pub returns : goal.returns
returns c =
    λ C S hm ha. record {
      broad = c.is_twice_as_wide.ensures ∙ broad_is S c.args.m c.args.a hm ha;
      nearby = c.nearby_representative.ensures C S hm ha;
      overlay = c.overlay_representative.ensures C S hm ha;
    }
