-- Anchors one by one: their cells' numbers fit, and each marks one label more. Assumes nothing.
use Prim.Native.Nat.{ℕ, ◌+◌}
use native.Mathlib.Omega.{arith}
use native.Mathlib.Numerals.{add-one}
use mathlib.Core.Path.{◌≡◌, refl, sym, ap, ◌∙◌}
use mathlib.Core.List.{List, [], ◌∷◌, ◌++◌, map}
use lib.ListN.{get_or}
use Rattle.definitions.specs.Scan.{run}
use Rattle.laws.specs.ListLaws.Lists.{map-append, run_last}
use Rattle.context.specs.Anchors.{anchor_cell, anchor_cells, mark_label, mark_cells}

module _ (ls : List ℕ) where
  cells_last : (marks cs : List ℕ) (c : ℕ) → mark_cells ls marks (cs ++ (c ∷ [])) ≡ mark_label (mark_cells ls marks cs) (get_or ls c 0)
  unfolding mark_cells
  cells_last marks [] c = refl
  cells_last marks (d ∷ cs) c = cells_last (mark_label marks (get_or ls d 0)) cs c

  module _ (w : ℕ) (anchors marks : List ℕ) where
    pub mark_none : marks ≡ mark_cells ls marks (anchor_cells w anchors 0)
    unfolding mark_cells anchor_cells run
    mark_none = refl

    anchors_more : (i : ℕ) → anchor_cells w anchors (i + 1) ≡ anchor_cells w anchors i ++ (anchor_cell w anchors i ∷ [])
    unfolding anchor_cells
    anchors_more i =
        ap (λ n. map (anchor_cell w anchors) (run 0 n)) (add-one i) ∙ ap (map (anchor_cell w anchors)) (run_last 0 i)
        ∙ map-append (anchor_cell w anchors) (run 0 i) ((0 + i) ∷ []) ∙ ap (λ k. map (anchor_cell w anchors) (run 0 i) ++ (anchor_cell w anchors k ∷ [])) (plus i)
      where
        plus : (i : ℕ) → 0 + i ≡ i
        plus i = omega arith

    pub mark_more : (i : ℕ) {l m : List ℕ} {c v : ℕ} → l ≡ mark_cells ls marks (anchor_cells w anchors i) → c ≡ anchor_cell w anchors i → v ≡ get_or ls c 0 → m ≡ mark_label l v
        → m ≡ mark_cells ls marks (anchor_cells w anchors (i + 1))
    mark_more i {l} e h k f =
        f ∙ ap (mark_label l) (k ∙ ap (λ c. get_or ls c 0) h) ∙ ap (λ l. mark_label l (get_or ls (anchor_cell w anchors i) 0)) e
        ∙ sym (cells_last marks (anchor_cells w anchors i) (anchor_cell w anchors i)) ∙ ap (mark_cells ls marks) (sym (anchors_more i))
