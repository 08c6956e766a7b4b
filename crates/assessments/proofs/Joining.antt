-- The rows and tallies that the code makes of the lent lists are those of the context of every map with these cells, spans and labels. Labels are looked up
-- at the cells of steps alone, which are cells of the grid. Assumes nothing.
use Prim.Native.Nat.{ℕ, ◌*◌, ◌/◌, ◌<◌, min, max}
use mathlib.Core.Path.{◌≡◌, sym, ap, ap₂, ◌∙◌}
use mathlib.Core.Bool.{not}
use mathlib.Core.List.{List, [], ◌∷◌, map}
use native.Mathlib.Omega.{arith}
use lib.ListN.{length, get_or}
use lib.Dec.{eqb}
use Rattle.definitions.specs.Limits.{numbers_per_span}
use Rattle.definitions.specs.Scan.{gather, filter}
use Rattle.definitions.specs.Grid.{Map, cell_count, Pair}
use Rattle.definitions.specs.Spans.{cut_steps}
use Rattle.definitions.specs.Partition as partition
use Rattle.definitions.specs.Partition.{is_separated, label_pair, add_pairs, pairs_of}
use Rattle.definitions.specs.Context.{context_of}
use Rattle.definitions.specs.Verdict.{pair_rows_of}
use Rattle.definitions.specs.AtExit.{tallies_of}
use Rattle.laws.specs.ListLaws.Lists.{All, all_map, all_filter}
use Rattle.laws.specs.ListLaws.Scans.{filter_ext, map_ext}
use Rattle.laws.specs.RegionLaws.Steps.{cut_steps-steps}
use Rattle.laws.specs.RegionLaws.PairLaws.{cut_of_at, pairs_at}
use Rattle.cut_steps.specs.Contract.{SpanMap}
use Rattle.cut_steps.proofs.CutLaws.{span_count_lem, cut_steps-span}
use Rattle.cut_steps.specs.Prefixes.{gather_ext}
use Rattle.cut_steps.proofs.Spans.{cut_listed}
use Rattle.laws.specs.RegionLaws.PairRows.{rows_for}
use Rattle.assessments.specs.Contract.{Labelled}

-- ---- labels that agree at the cells of steps

-- at both cells of a step
pub record Agree (l m : List ℕ) (e : Pair) : Type 0 where
  pub lo : get_or l e.lo 0 ≡ get_or m e.lo 0
  pub hi : get_or l e.hi 0 ≡ get_or m e.hi 0

module _ {l m : List ℕ} where
  separated-agree : {es : List Pair} → All (Agree l m) es → filter (is_separated l) es ≡ filter (is_separated m) es
  separated-agree a = filter_ext (all_map (λ e h. ap₂ (λ x y. not (eqb x y)) h.lo h.hi) a)

  pairs-agree : {es : List Pair} → All (Agree l m) es → pairs_of l es ≡ pairs_of m es
  unfolding pairs_of
  pairs-agree {es} a =
      ap (add_pairs []) (map_ext (all_map (λ e h. ap₂ (λ x y. record { lo = min x y; hi = max x y }) h.lo h.hi) (all_filter (is_separated l) a)) ∙ ap (map (label_pair m)) (separated-agree a))

-- ---- a map with these cells and spans

module _ {w h : ℕ} {cells spans : List ℕ} {M : Map} (S : SpanMap w h cells spans M) where
  module _ (labels : List ℕ) (L : Labelled (h * w) labels M) where
    steps-agree : (s : ℕ) → All (Agree labels (partition.labels M)) (cut_steps M s)
    unfolding cell_count
    steps-agree s =
        let e : cell_count M ≡ h * w = ap₂ ◌*◌ S.height S.width in
        all_map (λ d p. record { lo = L d.lo (omega (arith, p.within.lo, e)); hi = L d.hi (omega (arith, p.within.hi, e)) }) (cut_steps-steps M s)

    -- ---- span by span

    pairs_same : (s : ℕ) → s < length spans / numbers_per_span → (context_of M).pairs s ≡ pairs_of labels (cut_listed w h cells spans s)
    pairs_same s l = pairs_at M s (omega (arith, span_count_lem S)) ∙ sym (pairs-agree (steps-agree s)) ∙ ap (pairs_of labels) (cut_steps-span S s l)

    removed_same : (s : ℕ) → s < length spans / numbers_per_span → (context_of M).removed_edges s ≡ length (cut_listed w h cells spans s)
    unfolding context_of
    removed_same s l = ap length (cut_of_at M s (omega (arith, span_count_lem S)) ∙ cut_steps-span S s l)

    separated_same : (s : ℕ) → s < length spans / numbers_per_span → (context_of M).separated_edges s ≡ length (filter (is_separated labels) (cut_listed w h cells spans s))
    unfolding context_of
    separated_same s l =
        ap (λ es. length (filter (is_separated (partition.labels M)) es)) (cut_of_at M s (omega (arith, span_count_lem S))) ∙ ap length (sym (separated-agree (steps-agree s)))
        ∙ ap (λ es. length (filter (is_separated labels) es)) (cut_steps-span S s l)

    -- ---- all spans

    pub rows_same : pair_rows_of (context_of M) ≡ gather (length spans / numbers_per_span) (λ s. rows_for s (pairs_of labels (cut_listed w h cells spans s)))
    unfolding pair_rows_of context_of rows_for
    rows_same =
        ap (λ n. gather n (λ s. rows_for s ((context_of M).pairs s))) (span_count_lem S)
        ∙ gather_ext (length spans / numbers_per_span) (λ s. rows_for s ((context_of M).pairs s)) (λ s. rows_for s (pairs_of labels (cut_listed w h cells spans s))) (λ s l. ap (rows_for s) (pairs_same s l))

    pub tallies_same : tallies_of (context_of M) ≡ gather (length spans / numbers_per_span) (λ s. length (cut_listed w h cells spans s) ∷ length (filter (is_separated labels) (cut_listed w h cells spans s)) ∷ [])
    unfolding tallies_of context_of
    tallies_same =
        ap (λ n. gather n (λ s. (context_of M).removed_edges s ∷ (context_of M).separated_edges s ∷ [])) (span_count_lem S)
        ∙ gather_ext (length spans / numbers_per_span) (λ s. (context_of M).removed_edges s ∷ (context_of M).separated_edges s ∷ []) (λ s. length (cut_listed w h cells spans s) ∷ length (filter (is_separated labels) (cut_listed w h cells spans s)) ∷ [])
        (λ s l. ap₂ (λ a b. a ∷ b ∷ []) (removed_same s l) (separated_same s l))
