-- The cut steps of one cell, direction by direction. Definitions only; assumes nothing.
use Rattle.std.specs.Prelude.{Bool, ◌&&◌, cond, List, [], ◌∷◌, map, ltb}
use Rattle.definitions.specs.Scan.{filter, concat_map}
use Rattle.definitions.specs.Grid.{Map, Position, Segment, Pair, directions, toward, is_step, index, edge}
use Rattle.definitions.specs.Spans.{cuts, candidate_positions}
pub use Rattle.grid_steps.specs.Masks.{is_set}

-- the step from p in direction d leads to a cell of larger number, and the canonical segment g cuts it
unfoldable pub is_cut_onward : Map → Segment → Position → Position → Bool
unfolding is_step cuts
is_cut_onward M g p d = is_step M p d && ltb (index M p) (index M (toward p d)) && cuts g p (toward p d)

-- the steps from p that g cuts, in the order of directions
unfoldable pub cut_from : Map → Segment → Position → List Pair
unfolding filter is_cut_onward
cut_from M g p = map (λ d. edge M p (toward p d)) (filter (is_cut_onward M g p) directions)

-- the cut steps of a canonical segment
abbrev pub cut_span : Map → Segment → List Pair
cut_span M g = concat_map (cut_from M g) (candidate_positions M.width M.height g)

-- the step from p in direction d, where g cuts it
unfoldable pub cut_toward : Map → Segment → Position → Position → List Pair
unfolding is_cut_onward
cut_toward M g p d = cond (is_cut_onward M g p d) (edge M p (toward p d) ∷ []) []
