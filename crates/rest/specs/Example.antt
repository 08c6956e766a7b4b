-- The premises of the island of a run to rest are met by maps that differ and that need different numbers of rounds, computed. Assumes nothing.
use Rattle.std.specs.Prelude.{ℕ, ◌≡◌, refl, Bool, [], ◌∷◌, ◌++◌, leb}
use Rattle.definitions.specs.Scan.{filter}
use Rattle.definitions.specs.Verdict.{Lent, map_in}
use Rattle.definitions.specs.CaseJ.{row}
use Rattle.island.specs.Premises.{cuts_island, rank_of, Alike, island_only}
use Rattle.island.specs.Decide.{is_alike}
use Rattle.island.proofs.Decide.{alike}
use Rattle.rest_definitions.specs.Rest.{rounds_of, rest_rows}
use Rattle.rest_definitions.specs.RestExamples.{plain, ramp, input_of}

-- Behind four cells and a blocked one stands the proved case "three cells in a row". In the first map the four cells are the corridor, in the second they
-- have a ramp that comes first in the list and nothing else; so the first takes three rounds and the second two.
unfoldable pub longer : Lent
unfolding input_of
longer =
    input_of 8 1 (1 ∷ 1 ∷ 1 ∷ 1 ∷ 0 ∷ 1 ∷ 1 ∷ 1 ∷ []) (plain 48 0 48 8 ++ ramp 1 3 24 8 24 0 ++ ramp 1 7 56 0 56 8 ++ plain 16 0 16 8 ++ plain 8 0 8 8) []

unfoldable pub shorter : Lent
unfolding input_of
shorter = input_of 8 1 (5 ∷ 1 ∷ 0 ∷ 1 ∷ 0 ∷ 1 ∷ 1 ∷ 1 ∷ []) (ramp 2 9 8 0 8 8 ++ plain 48 0 48 8 ++ ramp 1 7 56 0 56 8) (0 ∷ 0 ∷ [])

abbrev pub behind_five : ℕ → Bool
behind_five c = leb 5 c

pub longer-rounds : rounds_of (map_in longer) ≡ 3
unfolding rounds_of map_in longer
longer-rounds = refl

pub shorter-rounds : rounds_of (map_in shorter) ≡ 2
unfolding rounds_of map_in shorter
shorter-rounds = refl

pub premises-hold : Alike (map_in longer) (map_in shorter) behind_five
unfolding is_alike map_in longer shorter
premises-hold = alike (map_in longer) (map_in shorter) behind_five refl

-- the row of the island has rank 1 in both, as number 2 of the first list and of the second
pub longer-island : island_only (map_in longer) behind_five (rest_rows (map_in longer)) ≡ row 1 56 0 56 8 ∷ []
unfolding rest_rows map_in longer cuts_island rank_of filter
longer-island = refl
