-- `ramp_geometry::length` meets its contract: the differences of endpoints within the limits are in range. Assumes nothing.
use mathlib.Core.Path.{◌∙◌}
use Rattle.definitions.specs.Hypotenuse.{hypot_value}
use Rattle.laws.specs.FloatLaws.InRange.{range-value}
use Rattle.laws.specs.FloatLaws.PassRange.{length-in_range}
use Rattle.geometry.specs.Forms.{segment_form}
use Rattle.geometry.specs.Representatives.{dx_of, dy_of}
use Rattle.geometry.proofs.ramp_geometry.length.Goals as goal

pub returns : goal.returns
returns c =
    let s = segment_form c.args.s in
    c.hypot.ensures ∙ (λ i. hypot_value (c.difference.ensures i) (c.difference-2.ensures i)) ∙ range-value (dx_of s) (dy_of s) (length-in_range c.requires)
