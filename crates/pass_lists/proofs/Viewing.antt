-- What the parts of `view` ask holds of the partitioned lists, and what they leave shows the context: marks and counts are made from zeros, by ones alone in
-- the marks. Both, and the zeros, reach no further than there are regions, of which a map has no more than cells. Assumes nothing.
use Prim.Native.Nat.{ℕ, zero, suc, ◌+◌, ◌-◌, ◌*◌, ◌/◌, ◌≤◌, ◌<◌}
use native.Mathlib.Omega.{arith}
use mathlib.Core.Path.{◌≡◌, refl, sym, ap, ◌∙◌, subst}
use mathlib.Core.Bool.{Bool, true, false, cond}
use mathlib.Core.List.{List, [], ◌∷◌}
use Rattle.std.specs.Prelude.{Option}
use lib.ListN.{length, get_or, set, drop, length-append}
use lib.Seq.{drop-drop}
use lib.Dec.{eqb}
use Rattle.definitions.specs.Limits.{max_entries, numbers_per_anchor, numbers_per_pair, tallies_per_span}
use Rattle.definitions.specs.Lists.{zeroed}
use Rattle.definitions.specs.Grid.{Map, cell_count}
use Rattle.definitions.specs.Partition.{labels, roots, is_root, region_count, walkable_at}
use Rattle.definitions.specs.Context.{Context, context_of}
use Rattle.definitions.specs.Verdict.{pair_rows_of}
use Rattle.laws.specs.ListLaws.Lists.{All, all-run}
use Rattle.laws.specs.RegionLaws.Regions.{label-range, label-blocked}
use Rattle.laws.specs.ListLaws.Beyond.{Beyond}
use Rattle.laws.specs.ListLaws.ScanSteps.{count-le}
use Rattle.areas.proofs.Labelling.{zeroed_at, zeroed_rest}
use Rattle.region_pairs.specs.declared.Pair.{Pair}
use Rattle.context.specs.Anchors.{anchor_cell, anchor_cells, mark_label, mark_cells, AnchorsFit}
use Rattle.context.proofs.AnchorLaws.{marked-beyond, marked-shown}
use Rattle.context.specs.Rows.{Stretch, NamedRows}
use Rattle.context.specs.Shown.{ShownTallies, ShownPairs, ShownFullPairs, ShownAnchored, ShownIncidents}
use Rattle.context.proofs.ShownLaws.{shown-stretch, shown-rows}
use Rattle.pass_lists.specs.Contract.{Partitioned, FreshMarks, Viewed}

module _ (M : Map) where
  -- no more regions than cells
  pub regions-few : region_count M ≤ cell_count M
  unfolding region_count
  regions-few = count-le (is_root M (roots M)) (cell_count M)

  label-few : (c : ℕ) → c < cell_count M → get_or (labels M) c 0 ≤ region_count M
  label-few c l = go (walkable_at M c) refl
    where
      go : (b : Bool) → walkable_at M c ≡ b → get_or (labels M) c 0 ≤ region_count M
      go true e = (label-range M c l e).1
      go false e = omega (arith, label-blocked M c l e)

-- marking an entry leaves all below 2
set-fresh : (marks : List ℕ) (i k : ℕ) → get_or marks k 0 < 2 → get_or (set marks i 1) k 0 < 2
set-fresh [] i k h = h
set-fresh (x ∷ l) zero zero h = omega arith
set-fresh (x ∷ l) zero (suc k) h = h
set-fresh (x ∷ l) (suc i) zero h = h
set-fresh (x ∷ l) (suc i) (suc k) h = set-fresh l i k h

cells-fresh : (ls marks cs : List ℕ) (k : ℕ) → get_or marks k 0 < 2 → get_or (mark_cells ls marks cs) k 0 < 2
unfolding mark_cells
cells-fresh ls marks [] k h = h
cells-fresh ls marks (c ∷ cs) k h = cells-fresh ls (mark_label marks (get_or ls c 0)) cs k (one (eqb (get_or ls c 0) 0))
  where
    one : (b : Bool) → get_or (cond b marks (set marks (get_or ls c 0 - 1) 1)) k 0 < 2
    one true = h
    one false = set-fresh marks (get_or ls c 0 - 1) k h

module _ (M : Map) {w needed : ℕ} {ls anchors : List ℕ} {regions rows count : ℕ} {tallies pairs : List ℕ} {masks queue : ℕ} (P : Partitioned M w needed ls anchors regions rows count tallies pairs masks queue) where
  abbrev C : Context
  C = context_of M

  -- ---- what the parts ask

  pub scratch_long_lem : (regions ≤ masks) × (regions ≤ queue)
  scratch_long_lem = (omega (arith, P.regions_are, regions-few M, P.masks_long), omega (arith, P.regions_are, regions-few M, P.queue_long_lem))

  pub pairs_long_lem : numbers_per_pair * rows ≤ length pairs
  pairs_long_lem = omega (arith, P.paired.all, ap length P.paired.filled, length-append (pair_rows_of C) (drop (length (pair_rows_of C)) P.paired.old))

  pub count-few : count ≤ max_entries
  count-few = omega (arith, P.paired.counted, P.tallied.few)

  pub tallies_long_lem : tallies_per_span * count ≤ length tallies
  tallies_long_lem = omega (arith, P.paired.counted, P.tallied.long)

  anchor-label : (i : ℕ) → i < length anchors / numbers_per_anchor → get_or ls (anchor_cell w anchors i) 0 ≤ cell_count M
  anchor-label i l =
      let c = P.on_grid i l in
      omega (arith, P.labelled (anchor_cell w anchors i) c, label-few M (anchor_cell w anchors i) c, regions-few M)

  pub anchors-fit : {n : ℕ} → n ≡ masks → AnchorsFit w ls anchors n
  anchors-fit e =
      record {
        narrow = P.narrow;
        column = P.column;
        row = P.row;
        cell = λ i l. omega (arith, P.on_grid i l, P.labels_long);
        label = λ i l. omega (arith, anchor-label i l, P.masks_long, e);
      }

  pub regions-within : regions ≤ needed
  regions-within = omega (arith, P.regions_are, P.cells, regions-few M)

  module _ {starts : List ℕ} (S : ShownPairs C pairs starts) where
    pub stretches : (i : ℕ) → i < count → Stretch pairs starts i
    stretches i l = shown-stretch S i (omega (arith, P.paired.counted, l))

    pub rows_named : NamedRows pairs starts count regions
    unfolding context_of
    rows_named = subst (NamedRows pairs starts count) (sym P.regions_are) (subst (λ n. NamedRows pairs starts n (region_count M)) P.paired.counted (shown-rows S))

  -- from a cleared list
  pub zeros : (q : List ℕ) {q₁ : List ℕ} → q₁ ≡ zeroed regions q → (k : ℕ) → k < regions → get_or q₁ k 0 ≡ 0
  zeros q e k l = ap (λ z. get_or z k 0) e ∙ zeroed_at regions q k l

  -- ---- what they leave

  cells-all : {Q : ℕ → Type 0} → ((i : ℕ) → i < length anchors / numbers_per_anchor → Q (anchor_cell w anchors i)) → All Q (anchor_cells w anchors (length anchors / numbers_per_anchor))
  unfolding anchor_cells
  cells-all h = all-run (anchor_cell w anchors) 0 (length anchors / numbers_per_anchor) (λ i l. h i (omega arith))

  further : (n : ℕ) (was l : List ℕ) → n ≤ needed → drop n l ≡ drop n was → drop needed l ≡ drop needed was
  further n was l h e =
      let s : n + (needed - n) ≡ needed = omega arith in
      ap (λ k. drop k l) (sym s) ∙ sym (drop-drop (needed - n) n l) ∙ ap (drop (needed - n)) e ∙ drop-drop (needed - n) n was ∙ ap (λ k. drop k was) s

  -- clearing reaches no further than there are regions
  cleared-rest : (q : List ℕ) {q₁ : List ℕ} → q₁ ≡ zeroed regions q → drop needed q₁ ≡ drop needed q
  cleared-rest q {q₁} e = further regions q q₁ regions-within (ap (drop regions) e ∙ zeroed_rest regions q)

  module _ (m : List ℕ) {m₁ m' : List ℕ} (em : m₁ ≡ zeroed regions m) (lm : length m₁ ≡ length m) (room : length m ≡ masks) where
    marks-are : m' ≡ mark_cells ls m₁ (anchor_cells w anchors (length anchors / numbers_per_anchor)) → ShownAnchored C m' × Beyond needed m m'
    marks-are e = (
      subst (ShownAnchored C) (sym e) (marked-shown M ls m₁ (anchor_cells w anchors (length anchors / numbers_per_anchor)) P.anchored (cells-all (λ i l. P.labelled (anchor_cell w anchors i) (P.on_grid i l))) (omega (arith, regions-few M, P.masks_long, lm, room)) (λ k l. zeros m em k (omega (arith, l, P.regions_are)))),
      record { long = ap length e ∙ kept.long ∙ lm; rest = ap (drop needed) e ∙ kept.rest ∙ cleared-rest m em },
    )
      where
        kept : Beyond needed m₁ (mark_cells ls m₁ (anchor_cells w anchors (length anchors / numbers_per_anchor)))
        kept = marked-beyond ls needed m₁ (anchor_cells w anchors (length anchors / numbers_per_anchor)) (cells-all (λ i l. omega (arith, anchor-label i l, P.cells)))

    marks-fresh : m' ≡ mark_cells ls m₁ (anchor_cells w anchors (length anchors / numbers_per_anchor)) → FreshMarks C m'
    unfolding context_of
    marks-fresh e r a l =
        subst (λ z. get_or z (r - 1) 0 < 2) (sym e)
        (cells-fresh ls m₁ (anchor_cells w anchors (length anchors / numbers_per_anchor)) (r - 1) (omega (arith, zeros m em (r - 1) (omega (arith, a, l, P.regions_are)))))

    pub viewed : (q : List ℕ) {q₁ q' starts : List ℕ} {full : List (Option Pair)} → q₁ ≡ zeroed regions q → length q₁ ≡ length q →
        ShownPairs C pairs starts → (C.count ≡ count → ShownTallies C tallies → ShownPairs C pairs starts → ShownFullPairs C full) → m' ≡ mark_cells ls m₁ (anchor_cells w anchors (length anchors / numbers_per_anchor))
        → (C.count ≡ count → C.regions ≡ regions → ShownPairs C pairs starts → ShownIncidents C q') → Beyond regions q₁ q' → Viewed M needed pairs m q m' q' starts full
    unfolding context_of
    viewed q {q₁} {q'} eq lq S F e I B =
        record {
          shown_pairs = S;
          shown_full = F P.paired.counted P.tallied S;
          shown_anchored = (marks-are e).0;
          fresh = marks-fresh e;
          shown_incidents = I P.paired.counted (sym P.regions_are) S;
          masks = (marks-are e).1;
          queue = record { long = B.long ∙ lq; rest = further regions q₁ q' regions-within B.rest ∙ cleared-rest q eq };
        }
