-- A map restricted to an island: its cut steps are those of the spans that cut the island, its uncut steps are the island's, and so an island cell has the root
-- that it has in the map. The argument: no step leaves the island, so that each cut step lies whole on one side; a span with a step in the island has none outside
-- by the premise, and one with none in the island has all outside. Assumes the premises of an island (`Island`).
use Rattle.std.specs.Prelude.{ℕ, ◌<◌, ◌≡◌, Bool, ◌&&◌, cond}
use Rattle.std.proofs.Math.Path.{sym, ap}
use Rattle.std.proofs.Common.{◌∙◌}
use Rattle.std.proofs.Math.Bool.{true, false, and-true, and-false}
use mathlib.Core.List.{map}
use Rattle.std.proofs.Math.Dec.{ltb}
use borrow.Author.Tests.{ltb-true}
use Rattle.definitions.specs.Scan.{run}
use Rattle.definitions.specs.Grid.{Map, cell_count, cell_at, is_walkable, span_count, span_of, boundary_of}
use Rattle.laws.specs.ListLaws.Lists.{get_d_tab}
use Rattle.laws.specs.OrderLaws.Ranks.{rank}
use Rattle.laws.specs.ListLaws.Scans.{picked, picked-length}
use Rattle.laws.specs.ListLaws.Tests.{both}
use Rattle.island.specs.Premises.{cuts_island, has_anchor}

module _ (M : Map) (isl : ℕ → Bool) where
  -- The same sides; every cell outside the island 0; the boundaries that cut the island, and their spans; the island cells with an anchor, each once, ascending.
  abbrev pub restrict : Map
  restrict =
      record {
        width = M.width;
        height = M.height;
        cells = map (λ c. cond (isl c) (cell_at M c) 0) (run 0 (cell_count M));
        spans = picked (cuts_island M isl) (span_of M) (span_count M);
        boundaries = picked (cuts_island M isl) (boundary_of M) (span_count M);
        anchors = picked (λ c. isl c && has_anchor M c) (λ c. c) (cell_count M);
      }

  pub cells_at : (c : ℕ) → c < cell_count M → cell_at restrict c ≡ cond (isl c) (cell_at M c) 0
  cells_at c h = get_d_tab (λ c. cond (isl c) (cell_at M c) 0) 0 (cell_count M) c h

  pub walkable_at_lem : (c : ℕ) → c < cell_count M → is_walkable (cell_at restrict c) ≡ (is_walkable (cell_at M c) && isl c)
  walkable_at_lem c h = ap is_walkable (cells_at c h) ∙ go (isl c) (cell_at M c)
    where
      go : (b : Bool) (v : ℕ) → is_walkable (cond b v 0) ≡ (is_walkable v && b)
      go true v = sym (and-true (is_walkable v))
      go false v = sym (and-false (is_walkable v))

  pub count_in : span_count restrict ≡ rank (cuts_island M isl) (span_count M)
  unfolding span_count
  count_in = picked-length (cuts_island M isl) (span_of M) (span_count M)

  pub cuts_lt : (i : ℕ) → cuts_island M isl i ≡ true → i < span_count M
  unfolding cuts_island
  cuts_lt i h = ltb-true _ _ (both (ltb i (span_count M)) _ h).0
