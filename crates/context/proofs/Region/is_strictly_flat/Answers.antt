-- `Region::is_strictly_flat` meets its contract: the ones of a mask of eight bits are those among its lowest eight digits. Assumes nothing.
use mathlib.Core.Path.{ap, ◌∙◌}
use borrow.Author.Rules.{rules}
use lib.Bits.{bit_or, or_lt}
use lib.Dec.{eqb}
use Rattle.laws.specs.RustContext.ElevationMasks.{strictly_flat_mask, strictly_flat_is}
use Rattle.context.specs.Records.{record_of}
use Rattle.context.proofs.Ones.{ones_in_lem}
use Rattle.context.proofs.Region.is_strictly_flat.Goals as goal

pub returns : goal.returns
unfolding strictly_flat_mask
returns c =
    let s = record_of c.args.self in
    let t = record_of c.args.other in
    ap (λ n. eqb n 1) (ones_in_lem 8 (bit_or s.elevations t.elevations) (or_lt 8 s.elevations t.elevations (search rules) (search rules))) ∙ strictly_flat_is s t
