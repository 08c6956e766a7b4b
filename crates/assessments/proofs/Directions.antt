-- The steps from a cell in the directions of a mask: where the mask is that of a span, the four to cells of larger number are the steps that it cuts. Assumes nothing.
use Prim.Native.Nat.{ℕ, ◌+◌, ◌≤◌, ◌<◌}
use mathlib.Core.Path.{◌≡◌, sym, ap, ◌∙◌, subst}
use mathlib.Core.Bool.{true, ◌&&◌, cond}
use mathlib.Core.List.{List, [], ◌∷◌, ◌++◌}
use native.Mathlib.Omega.{arith}
use lib.Dec.{ltb}
use borrow.Author.Tests.{ltb-true, leb-true}
use Rattle.definitions.specs.Limits.{max_side}
use Rattle.definitions.specs.Grid.{Map, Position, at, Segment, index, cell_at, is_walkable, toward, edge, walkable, is_step}
use Rattle.definitions.specs.Spans.{cuts}
use Rattle.laws.specs.ListLaws.Tests.{both}
use Rattle.laws.specs.RegionLaws.Steps.{step-parts}
use Rattle.grid_steps.specs.Masks.{bit_of}
use Rattle.grid_steps.specs.Walk.{grid_of}
use Rattle.grid_steps.specs.Inner.{Inside}
use Rattle.cut_steps.specs.CutSteps.{is_set, is_cut_onward, cut_from, cut_toward}
use Rattle.cut_steps.specs.Cell.{CutBits, CutDirections}
use Rattle.cut_steps.proofs.Marks.{four-cut, no_cut}
use Rattle.assessments.specs.Assess.{step_in_lem, Leads}

module _ {w h : ℕ} {cells : List ℕ} {g : Segment} {x y mask : ℕ} (C : CutDirections w h cells g x y mask) where
  step_cut : (d : Position) → (d.x ≤ 2) × (d.y ≤ 2) → step_in_lem w x y mask d ≡ cut_toward (grid_of w h cells) g (at x y) d
  unfolding step_in_lem cut_toward
  step_cut d n = ap (λ t. cond t (edge (grid_of w h cells) (at x y) (toward (at x y) d) ∷ []) []) (C.bits d n.0 n.1)

  pub steps-four :
      ((step_in_lem w x y mask (at 2 1) ++ step_in_lem w x y mask (at 1 2)) ++ step_in_lem w x y mask (at 0 2)) ++ step_in_lem w x y mask (at 2 2) ≡ cut_from (grid_of w h cells) g (at x y)
  steps-four =
      (λ i. ((step_cut (at 2 1) (omega arith) i ++ step_cut (at 1 2) (omega arith) i) ++ step_cut (at 0 2) (omega arith) i) ++ step_cut (at 2 2) (omega arith) i)
      ∙ four-cut (grid_of w h cells) g (at x y)

  pub steps_none : mask ≡ 0 → [] ≡ cut_from (grid_of w h cells) g (at x y)
  steps_none e = sym (no_cut (grid_of w h cells) g (at x y) (subst (CutBits (grid_of w h cells) g (at x y)) e C.bits))

  -- a direction of the mask has a step, so that it leads to a cell of the grid
  pub leads-cut : w ≤ max_side → h ≤ max_side → x < w → y < h → Leads w h x y mask
  unfolding is_cut_onward walkable
  leads-cut narrow short in_x in_y = record { narrow = narrow; short = short; in_x = in_x; in_y = in_y; lands = lands }
    where
      M : Map
      M = grid_of w h cells

      lands : (d : Position) → d.x ≤ 2 → d.y ≤ 2 → is_set mask (bit_of d) ≡ true → Inside w h x y d.x d.y
      lands d near_x near_y e =
          let q = toward (at x y) d in
          let b = both (is_step M (at x y) d && ltb (index M (at x y)) (index M q)) (cuts g (at x y) q) (sym (C.bits d near_x near_y) ∙ e) in
          let f = step-parts M (at x y) d (both (is_step M (at x y) d) (ltb (index M (at x y)) (index M q)) b.0).0 in
          let k = both (ltb q.x w && ltb q.y h) (is_walkable (cell_at M (index M q))) f.far in
          let j = both (ltb q.x w) (ltb q.y h) k.0 in
          let left = leb-true 1 (x + d.x) f.right in
          let up = leb-true 1 (y + d.y) f.down in
          record { left = left; up = up; right = omega (arith, left, ltb-true q.x w j.0); down = omega (arith, up, ltb-true q.y h j.1) }
