-- The line of an own number is that of its record's map: own numbers differ, so one record has it, and none has an unknown one. Assumes nothing.
use Prim.Native.Nat.{ℕ}
use Rattle.std.specs.Prelude.{List}
use Rattle.std.proofs.Math.Bool.{Bool}
use Rattle.std.proofs.Math.Dec.{eqb}
use Rattle.catalogue.specs.Accession.{Accession, accession_at, accession_count}
use Rattle.catalogue.specs.AccessionLaws.Newest.{newest_first}

-- record j is of this map
unfoldable pub is_of_map : List ℕ → ℕ → ℕ → Bool
unfolding accession_at
is_of_map l number j = eqb (accession_at l j).on_map number

-- every record of the map, newest first
unfoldable pub map_line : List ℕ → ℕ → List Accession
unfolding newest_first is_of_map
map_line l number = newest_first l (is_of_map l number) (accession_count l)
