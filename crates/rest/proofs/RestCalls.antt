-- The contract of the call that runs to rest (`RestRan`), and what follows of calls that met it. Of one: its output holds the printed rows
-- (`rest_rows-held`), and its rounds are those of the request, at most 257 (`rest-rounds`). Of two: the island's rows are alike (`rest-island_calls`,
-- `rest-island-lent_calls`). Nothing is assumed of the lists that the calls fill.
use Rattle.std.specs.Prelude.{ℕ, ◌≡◌, Bool, List}
use Rattle.std.proofs.Common.{sym}
use Rattle.std.proofs.Math.Path.{subst}
use Rattle.definitions.specs.Grid.{Map}
use Rattle.definitions.specs.RegionRecord.{Region}
use Rattle.definitions.specs.Rows.{Row}
use Rattle.definitions.specs.Verdict.{Lent, map_in}
use Rattle.laws.specs.ListLaws.FlatRows.{rows_in_lem}
use Rattle.island.specs.Premises.{Alike}
use Rattle.rest_definitions.specs.RowOrder.{start_map}
use Rattle.rest_definitions.specs.Rest.{rest_rows}
use Rattle.rest_definitions.specs.RestVerdict.{RestAnswer}
use Rattle.rest.proofs.LentIsland.{rest-island-lent}
use Rattle.rest.proofs.PrintedIsland.{rest-island-printed}
use Rattle.rest.proofs.KeptAlike.{rest-kept, rest-kept-lent}
use Rattle.rest.specs.RestCalls.{RestRan, rest_rows-held, SameAtRest, SameAsLent}

module _
    {L : Lent} {a : RestAnswer} {l m q t p : List ℕ} {s : List Region} {o : List ℕ}
    {L' : Lent} {a' : RestAnswer} {l' m' q' t' p' : List ℕ} {s' : List Region} {o' : List ℕ}
    (ran : RestRan L a l m q t p s o) (ran' : RestRan L' a' l' m' q' t' p' s' o')
    (success : a.number ≡ 0) (success' : a'.number ≡ 0) (isl : ℕ → Bool) where
  abbrev M : Map
  M = map_in L

  abbrev M' : Map
  M' = map_in L'

  abbrev rows : List Row
  rows = rows_in_lem a.value o

  abbrev rows' : List Row
  rows' = rows_in_lem a'.value o'

  -- "under the mission's premises for the starting map, taken in row order with canonical endpoints"
  pub rest-island_calls : Alike (start_map M) (start_map M') isl → SameAtRest M M' isl rows rows'
  rest-island_calls A =
      subst (λ r. SameAtRest M M' isl r rows') (sym (rest_rows-held ran success))
      (subst (λ r. SameAtRest M M' isl (rest_rows M) r) (sym (rest_rows-held ran' success'))
      (record { alike = rest-island-printed M M' isl A; kept = rest-kept M M' isl A }))

  -- the corollary: the premises of the maps as lent
  pub rest-island-lent_calls : Alike M M' isl → SameAsLent M M' isl rows rows'
  rest-island-lent_calls A =
      subst (λ r. SameAsLent M M' isl r rows') (sym (rest_rows-held ran success))
      (subst (λ r. SameAsLent M M' isl (rest_rows M) r) (sym (rest_rows-held ran' success'))
      (record { alike = rest-island-lent M M' isl A; kept = rest-kept-lent M M' isl A }))
