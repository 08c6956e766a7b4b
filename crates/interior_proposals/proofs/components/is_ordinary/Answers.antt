-- `components::is_ordinary` meets its contract: the lists show the boundary's kind and its tallies. Assumes nothing.
use mathlib.Core.Path.{sym, ap, ap₂, ◌∙◌}
use mathlib.Core.Bool.{not, ◌&&◌, not-not}
use lib.Dec.{eqb}
use Rattle.definitions.specs.RampInteriors.{is_ordinary}
use Rattle.interior_proposals.proofs.components.is_ordinary.Goals as goal

pub returns : goal.returns
unfolding is_ordinary
returns c =
    λ C B T l. ap₂ (λ k f. k && f) (ap not c.has_ramp.ensures ∙ not-not _ ∙ sym (ap (λ b. eqb b.kind 0) (B.at c.args.i l))) (c.full_cut.ensures C T l)
