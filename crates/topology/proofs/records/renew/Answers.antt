-- The records are filled over what `clear_records` left, which is as long as before (`renewed`).
use Rattle.std.proofs.Common.{◌≡◌, ℕ, List, length, sym, subst}
use Rattle.definitions.specs.Grid.{Map}
use Rattle.context.specs.declared.Region.{Region}
use Rattle.topology.specs.Filled.{Fills, Filled, Emptied, Renewed}
use Rattle.topology.proofs.Emptying.{renewed}
use Rattle.topology.proofs.records.renew.Goals as goal

-- the records that are filled are as many as those that were lent
room : {M : Map} {was now regions width : ℕ} {cells labels queue : List ℕ} → now ≡ was → Fills M was regions width cells labels queue → Fills M now regions width cells labels queue
room {M} {regions = regions} {width = width} {cells = cells} {labels = labels} {queue = queue} l h = subst (λ n. Fills M n regions width cells labels queue) (sym l) h

done : {was empty rs : List Region} {first regions width : ℕ} {cells labels queue : List ℕ} → length empty ≡ length was → Emptied first was empty
    → ((M : Map) → Fills M (length empty) regions width cells labels queue → Filled M empty rs)
    → (M : Map) → Fills M (length was) regions width cells labels queue → Renewed M first was rs
done l E F M h = renewed E (F M (room l h))

pub fill-requires : goal.fill-requires
fill-requires c = (_, room c.clear_records.auto.records c.requires.map_shown.1)

pub returns : goal.returns
returns c = done c.clear_records.auto.records c.clear_records.ensures c.fill.ensures
