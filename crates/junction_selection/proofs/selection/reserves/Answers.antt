-- `junction_selection::selection::reserves` meets its contract, from what its callees ensure, if the row's boundary is compared by its number. Assumes nothing.
use native.Mathlib.Omega.{arith}
use mathlib.Core.Bool.{not, ◌&&◌, ◌||◌}
use mathlib.Core.Path.{ap, ◌∙◌}
use lib.Dec.{eqb}
use Rattle.junction_proposals.specs.Ports.{names}
use Rattle.junction_selection.specs.Ranks.{reserves_at}
use Rattle.junction_selection.proofs.selection.reserves.Goals as goal

pub returns : goal.returns
unfolding reserves_at names
returns c =
    let named = c.names_region-first.result || c.is_union-union.result && c.names_region-second.result in
    ap (λ k. named && not (c.is_union-union.result && eqb c.args.j k)) (omega arith)
    ∙ λ t. (c.names_region-first.ensures t || c.is_union-union.ensures t && c.names_region-second.ensures t)
    && not (c.is_union-union.ensures t && eqb c.args.j c.args.row.index)
