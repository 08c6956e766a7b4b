-- The premises of demand 3 are met by maps that differ and of which a pass removes a boundary of the island: for each pass two inputs, computed.
-- Outside the island they differ in cells, anchors and boundaries, so that its boundaries have other numbers and its regions other labels. Assumes nothing.
use Rattle.std.specs.Prelude.{refl, [], ◌∷◌}
use Rattle.std.proofs.Common.{ap}
use Rattle.definitions.specs.Scan.{any_below_lem, filter, member}
use Rattle.definitions.specs.Rows.{rows_from}
use Rattle.definitions.specs.Verdict.{map_in, verdict}
use Rattle.definitions.specs.CaseJ.{row}
use Rattle.island.specs.Premises.{cuts_island, rank_of, island_only}
use Rattle.island.specs.Decide.{is_same_list, is_alike}
use Rattle.island.proofs.Decide.{alike}
use Rattle.island.specs.Example.{island_labels, Shown, removed_from, rows-without, mouth, mouth', behind_four, mouth-removes, mouth'-removes, interior, interior', interior-removes, interior'-removes, junction, junction', first_four, junction-removes, junction'-removes}

pub mouth-shown : Shown 1 mouth mouth' behind_four 0 1 (row 1 48 0 48 8 ∷ [])
unfolding mouth mouth' map_in verdict is_alike is_same_list any_below_lem island_labels cuts_island rank_of filter rows_from member
mouth-shown =
    record {
      pass_is = refl;
      pass_is' = refl;
      accepted = refl;
      accepted' = refl;
      premises = alike (map_in mouth) (map_in mouth') behind_four refl;
      cells_differ = refl;
      anchors_differ = refl;
      boundaries_differ = refl;
      labels_differ = refl;
      numbers_differ = refl;
      cuts = refl;
      cuts' = refl;
      ranks_agree = refl;
      removed = removed_from 1 (map_in mouth) mouth-removes _ refl;
      removed' = removed_from 1 (map_in mouth') mouth'-removes _ refl;
      rows_are_lem = ap (island_only (map_in mouth) behind_four) (rows-without 1 (map_in mouth) mouth-removes);
      rows_are' = ap (island_only (map_in mouth') behind_four) (rows-without 1 (map_in mouth') mouth'-removes);
    }

pub interior-shown : Shown 2 interior interior' behind_four 1 2 (row 0 40 0 40 8 ∷ row 2 56 0 56 8 ∷ [])
unfolding interior interior' map_in verdict is_alike is_same_list any_below_lem island_labels cuts_island rank_of filter rows_from member
interior-shown =
    record {
      pass_is = refl;
      pass_is' = refl;
      accepted = refl;
      accepted' = refl;
      premises = alike (map_in interior) (map_in interior') behind_four refl;
      cells_differ = refl;
      anchors_differ = refl;
      boundaries_differ = refl;
      labels_differ = refl;
      numbers_differ = refl;
      cuts = refl;
      cuts' = refl;
      ranks_agree = refl;
      removed = removed_from 2 (map_in interior) interior-removes _ refl;
      removed' = removed_from 2 (map_in interior') interior'-removes _ refl;
      rows_are_lem = ap (island_only (map_in interior) behind_four) (rows-without 2 (map_in interior) interior-removes);
      rows_are' = ap (island_only (map_in interior') behind_four) (rows-without 2 (map_in interior') interior'-removes);
    }

pub junction-shown : Shown 3 junction junction' first_four 0 1 (row 1 8 8 8 16 ∷ row 2 8 8 16 8 ∷ row 4 16 16 24 16 ∷ row 3 24 8 24 16 ∷ [])
unfolding junction junction' map_in verdict is_alike is_same_list any_below_lem island_labels cuts_island rank_of filter rows_from member
junction-shown =
    record {
      pass_is = refl;
      pass_is' = refl;
      accepted = refl;
      accepted' = refl;
      premises = alike (map_in junction) (map_in junction') first_four refl;
      cells_differ = refl;
      anchors_differ = refl;
      boundaries_differ = refl;
      labels_differ = refl;
      numbers_differ = refl;
      cuts = refl;
      cuts' = refl;
      ranks_agree = refl;
      removed = removed_from 3 (map_in junction) junction-removes _ refl;
      removed' = removed_from 3 (map_in junction') junction'-removes _ refl;
      rows_are_lem = ap (island_only (map_in junction) first_four) (rows-without 3 (map_in junction) junction-removes);
      rows_are' = ap (island_only (map_in junction') first_four) (rows-without 3 (map_in junction') junction'-removes);
    }
