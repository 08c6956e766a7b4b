-- `search::search` meets its contract. The loop's invariant (`Searched`): the sets have the places won within fewer than `moves` moves, and just these have
-- ranks. Assumes nothing.
use Rattle.std.proofs.Common.{sym, ◌∙◌, rules}
use Rattle.std.proofs.lemmas.Slice.Eq.{bytes_eq-Decides}
use Rattle.laws.specs.ListLaws.Tests.{both}
use Rattle.game_search.proofs.Searching.{searching_starts, searching_more, searching_still, searching_ends}
use Rattle.game_search.proofs.search.Goals as goal

pub loop-moves-init : goal.loop-moves-init
loop-moves-init c = searching_starts _ _ _ _ c.requires.few (search rules)

pub returns-then-eq : goal.returns-then-eq
returns-then-eq c =
    let same = both _ _ (sym c.eq.ensures ∙ c.if-eq.true) in
    searching_still _ _ _ _ _ _ _ _ _ c.requires.few c.loop-moves.invariant c.sweep-next.ensures ((bytes_eq-Decides _ _).0 same.0) ((bytes_eq-Decides _ _).0 same.1)

pub loop-moves-preserved : goal.loop-moves-preserved
loop-moves-preserved c =
    searching_more _ _ _ _ _ _ _ _ _ _ c.requires.few c.loop-moves.invariant (search rules) c.sweep-next.ensures (search rules) (search rules) c.put_ranks.ensures (search rules)

pub returns : goal.returns
returns c = searching_ends _ _ _ _ _ _ _ c.requires.few c.loop-moves.invariant (search rules)
