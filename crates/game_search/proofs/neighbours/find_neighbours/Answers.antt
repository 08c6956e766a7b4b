-- `neighbours::find_neighbours` meets its contract. The loop's invariant (`Joined`): the first edges are joined, and every region is to itself. Assumes
-- nothing.
use Rattle.std.proofs.Common.{◌≡◌, suc, ◌-◌, ◌&&◌, ◌||◌, List, ℕ, [], get_or, subst, ◌∙◌, rules}
use Rattle.std.proofs.lemmas.List.{get_or_default}
use Rattle.game.specs.Game.{is_region}
use Rattle.game.specs.Graph.{joins}
use Rattle.game_sets.specs.Words.{bit_at}
use Rattle.game_search.proofs.Stepping.{joined_none, joined_more, joined-near}
use Rattle.game_search.proofs.neighbours.find_neighbours.Goals as goal

pub loop-edge-init : goal.loop-edge-init
loop-edge-init g c = joined_none _ _ _ _ _ c.selves-near.ensures

pub loop-edge-preserved : goal.loop-edge-preserved
loop-edge-preserved g c =
    let n = g.row.N in
    let here : c.edge-item.result ≡ get_or c.args.edges.now c.loop-edge.edge-index [] =
    c.edge-item.is ∙ get_or_default c.args.edges.now c.loop-edge.edge-index c.edge-item.result [] c.loop-edge-test.true in
    joined_more _ _ _ _ _ _ _ c.loop-edge.invariant c.loop-edge-test.true
    (λ i j a b.
    subst
    (λ (edge : List ℕ).
    bit_at c.join_pair.new.near i j
    ≡ (bit_at c.loop-edge.near i j
    || (is_region c.args.regions (get_or edge (n - 2) 0) && is_region c.args.regions (get_or edge (n - 1) 0) && joins (get_or edge (n - 2) 0) (get_or edge (n - 1) 0) (suc i) (suc j))))
    here (c.join_pair.ensures i j a b))

pub returns : goal.returns
returns g c = λ goal. joined-near _ _ _ _ _ _ goal c.loop-edge.invariant (search rules)
