-- The partition reads neither boundaries nor anchors: labels, tallies, pairs and records of a map are those of its terrain. Step by step, since the whole unfolded at once is
-- slow to compare. Assumes nothing.
use Rattle.std.specs.Prelude.{ℕ, suc, ◌*◌, ◌≡◌, get_or}
use Rattle.std.proofs.Math.Path.{refl}
use Rattle.std.proofs.Math.Bool.{not, cond}
use mathlib.Core.List.{List, [], ◌∷◌, map}
use Rattle.std.proofs.Math.ListN.{length}
use Rattle.definitions.specs.Scan.{any, filter, gather, run, count_below, concat_map}
use Rattle.definitions.specs.Grid.{Map, Position, pair_eq, map_of, walkable, is_step, neighbors, onward, cell_count, span_count, span_of, edge, position_of}
use Rattle.definitions.specs.Spans.{cut_steps}
use Rattle.definitions.specs.Partition.{all_steps, cut_all_lem, uncut, merge_all, roots, is_root, walkable_at, labels, region_count, pairs_of, is_separated}
use Rattle.definitions.specs.RegionRecord.{region_of}
use Rattle.definitions.specs.Context.{context_of}
use Rattle.definitions.specs.Verdict.{pair_rows_of}
use Rattle.definitions.specs.AtExit.{tallies_of, records_of}

module _ (w h : ℕ) (cells spans boundaries anchors : List ℕ) where
  abbrev M : Map
  M = map_of w h cells spans boundaries anchors

  abbrev T : Map
  T = map_of w h cells spans [] []

  -- ---- steps, and those that spans cut

  onward_same : (p : Position) → onward M p ≡ onward T p
  unfolding map_of onward neighbors is_step walkable
  onward_same p = refl

  cuts_same : (s : ℕ) → cut_steps M s ≡ cut_steps T s
  unfolding map_of cut_steps span_of onward neighbors is_step walkable
  cuts_same s = refl

  all_same : all_steps M ≡ all_steps T
  unfolding map_of all_steps cell_count
  all_same = λ i. gather (h * w) (λ c. map (edge T (position_of T c)) (onward_same (position_of T c) i))

  gone_same : cut_all_lem M ≡ cut_all_lem T
  unfolding map_of cut_all_lem span_count
  gone_same = λ i. gather (length T.spans) (λ s. cuts_same s i)

  uncut_same : uncut M ≡ uncut T
  unfolding uncut
  uncut_same = λ i. filter (λ e. not (any (pair_eq e) (gone_same i))) (all_same i)

  roots_same : roots M ≡ roots T
  unfolding map_of roots cell_count
  roots_same = λ i. merge_all (run 0 (h * w)) (uncut_same i)

  -- ---- regions and labels

  pub regions_same : region_count M ≡ region_count T
  unfolding map_of region_count cell_count
  regions_same = λ i. count_below (h * w) (is_root T (roots_same i))

  pub labels_same : labels M ≡ labels T
  unfolding map_of labels cell_count
  labels_same = λ i. map (λ c. cond (walkable_at T c) (suc (count_below (get_or (roots_same i) c 0) (is_root T (roots_same i)))) 0) (run 0 (h * w))

  -- ---- the assessment of each span

  cut_list : map (cut_steps M) (run 0 (span_count M)) ≡ map (cut_steps T) (run 0 (span_count T))
  unfolding map_of span_count
  cut_list = λ i. map (λ s. cuts_same s i) (run 0 (length T.spans))

  pub rows_same : pair_rows_of (context_of M) ≡ pair_rows_of (context_of T)
  unfolding map_of pair_rows_of context_of span_count
  rows_same = λ i. gather (length T.spans) (λ s. concat_map (λ p. s ∷ p.lo ∷ p.hi ∷ []) (get_or (map (pairs_of (labels_same i)) (cut_list i)) s []))

  pub tallies_same : tallies_of (context_of M) ≡ tallies_of (context_of T)
  unfolding map_of tallies_of context_of span_count
  tallies_same = λ i.
      gather (length T.spans) (λ s. length (get_or (cut_list i) s []) ∷ length (filter (is_separated (labels_same i)) (get_or (cut_list i) s [])) ∷ [])

  -- ---- records

  region_same : (ls : List ℕ) (r : ℕ) → region_of M ls r ≡ region_of T ls r
  unfolding map_of region_of cell_count
  region_same ls r = refl

  pub records_same : records_of (context_of M) ≡ records_of (context_of T)
  unfolding map_of records_of context_of
  records_same = λ i. map (λ r. region_same (labels_same i) r i) (run 1 (regions_same i))
