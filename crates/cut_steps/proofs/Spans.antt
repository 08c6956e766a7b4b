-- The loop over the spans: what the calls for one span ask, one span more (`spans_more`), and what all spans come to: masks as labelling asks, of every map with these
-- cells and spans (`spans-done`). Assumes nothing.
use Prim.Native.Nat.{ℕ, ◌+◌, ◌*◌, ◌/◌, ◌≤◌, ◌<◌}
use native.Mathlib.Omega.{arith}
use native.Mathlib.Numerals.{add-one}
use mathlib.Core.Path.{◌≡◌, sym, ap, ap₂, ◌∙◌, subst}
use mathlib.Core.Bool.{true, ◌&&◌, ◌||◌}
use mathlib.Core.List.{List, ◌++◌}
use lib.ListN.{length, get_or}
use lib.Dec.{leb}
use borrow.Author.Tests.{leb-true}
use Rattle.definitions.specs.Limits.{max_side, numbers_per_span}
use Rattle.definitions.specs.Scan.{any, gather}
use Rattle.definitions.specs.Grid.{Map, Position, Pair, pair_eq, canonical, segment_at, cell_count, is_step, walkable}
use Rattle.definitions.specs.Spans.{pixels_per_walk_cell}
use Rattle.definitions.specs.Partition.{cut_all_lem}
use Rattle.definitions.specs.Refusals.{is_on_map, endpoints_differ}
use Rattle.laws.specs.ListLaws.Tests.{both}
use Rattle.laws.specs.ListLaws.Lists.{any-gather}
use Rattle.laws.specs.ListLaws.Below.{below_at}
use Rattle.span_geometry.specs.declared.SpanGeometry.{SpanGeometry}
use Rattle.span_geometry.specs.Shapes.{max_pixel, segment_of, Made}
use Rattle.span_geometry.proofs.Canonical.{canonical-differ}
use Rattle.grid_steps.specs.declared.grid.TerrainGrid.{TerrainGrid}
use Rattle.grid_steps.specs.Masks.{bit_of, step_pair, is_onward, is_onward_in, OnwardBits}
use Rattle.grid_steps.specs.Walk.{grid_of}
use Rattle.grid_steps.proofs.Bits.{no_bit}
use Rattle.cut_steps.specs.CutSteps.{cut_span}
use Rattle.cut_steps.specs.Contract.{SpanMap, Checked}
use Rattle.cut_steps.proofs.CutLaws.{cut_all-spans}
use Rattle.cut_steps.specs.Walks.{SpanIn}
use Rattle.cut_steps.specs.Marking.{SpanAtAsked, Marked, Shown, SpansMarked}
use Rattle.cut_steps.specs.MarkVisits.{marked_as, marked-then}

-- the cut steps of span i of the list
abbrev pub cut_listed : ℕ → ℕ → List ℕ → List ℕ → ℕ → List Pair
cut_listed w h cells spans i = cut_span (grid_of w h cells) (canonical (segment_at spans (numbers_per_span * i)))

-- ---- one span

on_map_lem : (w h : ℕ) (p : Position) → w ≤ max_side → h ≤ max_side → is_on_map w h p ≡ true → (p.x ≤ max_pixel) × (p.y ≤ max_pixel)
on_map_lem w h p a b e =
    let t = both (leb p.x (pixels_per_walk_cell * w)) (leb p.y (pixels_per_walk_cell * h)) e in
    (omega (arith, leb-true p.x (pixels_per_walk_cell * w) t.0), omega (arith, leb-true p.y (pixels_per_walk_cell * h) t.1))

module _ {w h : ℕ} {cells spans : List ℕ} (C : Checked w h cells spans) {i : ℕ} (l : i < length spans / numbers_per_span) where
  pub span_at-asked : SpanAtAsked spans i
  span_at-asked =
      let s = segment_at spans (numbers_per_span * i) in
      let t = both (is_on_map w h s.a) (is_on_map w h s.b) (C.on_map i l) in
      let a = on_map_lem w h s.a C.narrow C.short t.0 in
      let b = on_map_lem w h s.b C.narrow C.short t.1 in
      record { there = l; x0 = a.0; y0 = a.1; x1 = b.0; y1 = b.1 }

  module _ {g : SpanGeometry} (G : Made (segment_at spans (numbers_per_span * i)) g) where
    pub differs : endpoints_differ (segment_of g) ≡ true
    differs = ap endpoints_differ G.segment ∙ canonical-differ (segment_at spans (numbers_per_span * i)) ∙ C.differ i l

    pub spans_more : {was now next : List ℕ} → Marked (grid_of w h cells) was now (gather i (cut_listed w h cells spans)) → Marked (grid_of w h cells) now next (cut_span (grid_of w h cells) (segment_of g)) → Marked (grid_of w h cells) was next (gather (i + 1) (cut_listed w h cells spans))
    unfolding gather
    spans_more m a =
        marked_as (ap (λ s. gather i (cut_listed w h cells spans) ++ cut_span (grid_of w h cells) s) G.segment ∙ ap (λ n. gather n (cut_listed w h cells spans)) (sym (add-one i))) (marked-then m a)

pub span-asked : (grid : TerrainGrid) {spans : List ℕ} → Checked grid.width grid.height grid.cells.now spans → {i : ℕ} → i < length spans / numbers_per_span → {g : SpanGeometry} → Made (segment_at spans (numbers_per_span * i)) g → SpanIn grid g
span-asked grid C l G =
    record { grid_sound = record { narrow = C.narrow; short = C.short; cells_long = C.cells_long; sound = G.sound }; wide = C.wide; tall = C.tall; differ = differs C l G }

-- ---- all spans

-- the bits depend on the sides and the cells alone
bits-grid : {w h : ℕ} {cells spans : List ℕ} {M : Map} → SpanMap w h cells spans M → (masks : List ℕ) (E : List Pair) → OnwardBits (grid_of w h cells) masks E → OnwardBits M masks E
unfolding is_step walkable cell_count
bits-grid {w} {h} {cells} {spans} {M} S masks E m =
    subst (λ x. OnwardBits (grid_of x M.height M.cells) masks E) (sym S.width)
    (subst (λ x. OnwardBits (grid_of w x M.cells) masks E) (sym S.height) (subst (λ x. OnwardBits (grid_of w h x) masks E) (sym S.cells) m))

module _ {w h : ℕ} {cells : List ℕ} (spans : List ℕ) {was now : List ℕ} (long : h * w ≤ length was) (z : (c : ℕ) → c < h * w → get_or was c 0 ≡ 0) (n : ℕ) (m : Marked (grid_of w h cells) was now (gather n (cut_listed w h cells spans))) where
  bits : OnwardBits (grid_of w h cells) now (gather n (cut_listed w h cells spans))
  unfolding cell_count
  bits c d l a b = m.bits c d l a b ∙ ap (λ t. t || is_onward_in (grid_of w h cells) (gather n (cut_listed w h cells spans)) c d) (no_bit was c (bit_of d) (z c l))

  shown : (i : ℕ) → i < n → Shown (grid_of w h cells) now (cut_listed w h cells spans i)
  unfolding cell_count
  shown i l =
      record {
        long = omega (arith, long, m.long);
        steps = λ c d j a b e. (both (is_onward (grid_of w h cells) c d) (any (pair_eq (step_pair (grid_of w h cells) c d)) (gather n (cut_listed w h cells spans))) (sym (bits c d j a b) ∙ e)).0;
        bits = λ c d j a b e.
            let f = pair_eq (step_pair (grid_of w h cells) c d) in
            let t = both (is_onward (grid_of w h cells) c d) (any f (cut_listed w h cells spans i)) e in
            bits c d j a b ∙ ap₂ ◌&&◌ t.0 (any-gather f n (cut_listed w h cells spans) ∙ below_at n (λ i. any f (cut_listed w h cells spans i)) i l t.1);
      }

  pub spans-done : n ≡ length spans / numbers_per_span → SpansMarked w h cells spans was now
  spans-done e =
      record {
        maps = λ M S.
            record {
              width = S.width;
              height = S.height;
              cells = S.cells;
              bits = bits-grid S now (cut_all_lem M) (subst (OnwardBits (grid_of w h cells) now) (ap (λ n. gather n (cut_listed w h cells spans)) e ∙ sym (cut_all-spans S)) bits);
            };
        shown = λ i l. shown i (omega (arith, l, e));
        long = m.long;
        rest = m.rest;
      }
