-- `sheet::put_endpoints` meets its contract: the first four numbers of a boundary stand in the place of a span. Assumes nothing.
use Prim.Native.Nat.{◌*◌}
use native.Mathlib.Omega.{arith}
use mathlib.Core.Path.{◌∙◌}
use Rattle.definitions.specs.Grid.{segment_at}
use Rattle.definitions.specs.Sheet.{endpoints}
use Rattle.sheet.proofs.Endpoints.{endpoints-taken}
use Rattle.sheet.proofs.PutParts.{put_part}
use Rattle.sheet.proofs.put_endpoints.Goals as goal

pub returns : goal.returns
returns c =
    let given = c.args in
    let boundary = given.boundary.now in
    put_part given.spans.now (endpoints (segment_at boundary 0)) (4 * given.i) _ (omega arith) (omega arith) (c.copy_from_slice.ensures.after ∙ endpoints-taken boundary 0 (omega (arith, c.told-boundary)))
