-- The premises of the island of a run to rest are met by maps that differ and that need different numbers of rounds, computed. Assumes nothing.
use Rattle.std.specs.Prelude.{◌≡◌, [], ◌∷◌}
use Rattle.std.proofs.Common.{sym, ◌∙◌}
use Rattle.definitions.specs.Verdict.{map_in}
use Rattle.definitions.specs.CaseJ.{row}
use Rattle.island.specs.Premises.{island_only}
use Rattle.rest_definitions.specs.Rest.{rest_rows}
use Rattle.rest.proofs.LentIsland.{rest-island-lent}
use Rattle.rest.specs.Example.{longer, shorter, behind_five, premises-hold, longer-island}

pub shorter-island : island_only (map_in shorter) behind_five (rest_rows (map_in shorter)) ≡ row 1 56 0 56 8 ∷ []
shorter-island = sym (rest-island-lent (map_in longer) (map_in shorter) behind_five premises-hold) ∙ longer-island
