-- Where masks show the cut steps of a cell between a span's ends, the bits that its changes of sides and its mask have in common are its cut directions
-- (`shown-directions`). Assumes nothing.
use Prim.Native.Nat.{ℕ, ◌+◌, ◌*◌, ◌≤◌, ◌<◌}
use native.Mathlib.Nat.{lt_of_le_of_lt}
use mathlib.Core.Path.{◌≡◌, refl, sym, ap, ap₂, ◌∙◌, subst}
use mathlib.Core.Bool.{true, ◌&&◌}
use mathlib.Core.List.{List}
use lib.ListN.{get_or}
use lib.Arith.{digits_lt}
use lib.Bits.{bit_and, and_le_l}
use lib.Dec.{ltb}
use borrow.Author.Tests.{ltb-true, lt-ltb, eq-eqb}
use Rattle.definitions.specs.Grid.{Map, Position, at, Pair, Segment, cell_count, index, toward, position_of, is_step}
use Rattle.laws.specs.ListLaws.Tests.{both, same_test}
use Rattle.bit_laws.specs.Bits.{and_bit}
use Rattle.grid_steps.specs.Masks.{bit_of, cut_bit, reached}
use Rattle.grid_steps.specs.Walk.{grid_of}
use Rattle.grid_steps.proofs.Square.{four, position-index}
use Rattle.grid_steps.proofs.Onward.{onward-bit}
use Rattle.cut_steps.specs.CutSteps.{is_cut_onward, cut_from, is_set}
use Rattle.cut_steps.specs.Cell.{CutDirections}
use Rattle.cut_steps.specs.Crossed.{Crossed}
use Rattle.cut_steps.specs.Marking.{Shown}
use Rattle.cut_steps.proofs.Onward.{onward-cut}
use Rattle.cut_steps.proofs.Marks.{cut_step, cut-among}

module _ {M : Map} {masks : List ℕ} where
  pub shown_as : {E F : List Pair} → E ≡ F → Shown M masks E → Shown M masks F
  shown_as e S = subst (Shown M masks) e S

-- ---- the cut directions of a cell

pub shown-directions : {w h : ℕ} {cells masks : List ℕ} {g : Segment} {x y changes r : ℕ} → x < w → y < h → Crossed g (at x y) changes → Shown (grid_of w h cells) masks (cut_from (grid_of w h cells) g (at x y)) → r ≡ bit_and changes (get_or masks (y * w + x) 0) → CutDirections w h cells g x y r
unfolding cell_count cut_bit
shown-directions {w} {h} {cells} {masks} {g} {x} {y} {changes} {r} in_x in_y C S f = subst (CutDirections w h cells g x y) (sym f) (record { small = lt_of_le_of_lt (and_le_l changes (get_or masks c 0)) C.small; bits = bits })
  where
    M : Map
    M = grid_of w h cells

    p : Position
    p = at x y

    c : ℕ
    c = y * w + x

    inside : c < h * w
    inside = digits_lt in_y in_x

    here : position_of M c ≡ p
    here = position-index M p in_x

    -- a step that leads onward is cut where its sides change
    cut_as : (d : Position) → d.x ≤ 2 → d.y ≤ 2 → is_step M p d ≡ true → index M p < index M (toward p d) → is_set changes (bit_of d) ≡ is_cut_onward M g p d
    cut_as d hx hy s l =
        let larger = ltb-true 4 (bit_of d) (sym (onward-bit M p d s) ∙ lt-ltb _ _ l) in
        let q = four M p d s in
        C.cut d hx hy larger q.right q.down ∙ onward-cut M g p d s larger

    bits : (d : Position) → d.x ≤ 2 → d.y ≤ 2 → is_set (bit_and changes (get_or masks c 0)) (bit_of d) ≡ is_cut_onward M g p d
    bits d hx hy = and_bit changes (get_or masks c 0) (bit_of d) ∙ same_test is_cut is_shown
      where
        is_cut : (is_set changes (bit_of d) && is_set (get_or masks c 0) (bit_of d)) ≡ true → is_cut_onward M g p d ≡ true
        is_cut e =
            let t = both (is_set changes (bit_of d)) (is_set (get_or masks c 0) (bit_of d)) e in
            let o = both (is_step M (position_of M c) d) (ltb c (reached M c d)) (S.steps c d inside hx hy t.1) in
            let l = subst (λ p. c < index M (toward p d)) here (ltb-true c (reached M c d) o.1) in
            sym (cut_as d hx hy (sym (ap (λ p. is_step M p d) here) ∙ o.0) l) ∙ t.0

        is_shown : is_cut_onward M g p d ≡ true → (is_set changes (bit_of d) && is_set (get_or masks c 0) (bit_of d)) ≡ true
        is_shown e =
            let k = cut_step M g p d e in
            ap₂ ◌&&◌ (cut_as d hx hy k.step k.onward ∙ e) (S.bits c d inside hx hy (cut-among M g p in_x c d hx hy ∙ ap₂ ◌&&◌ (eq-eqb c c refl) e))
