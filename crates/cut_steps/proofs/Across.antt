-- The cells across a column, or row, between a span's ends: the cell at two less than a number, if there is one (`is_placed_as`, `none_there`, `one_there`), its changes
-- of sides (`crossing_at`, `unchanged`), and the four of them joined (`column-crossed`). Assumes nothing.
use Prim.Native.Nat.{ℕ, ◌+◌, ◌-◌, ◌≤◌, ◌<◌}
use native.Mathlib.Omega.{arith}
use Rattle.std.specs.Prelude.{Option, None, Some}
use mathlib.Core.Path.{◌≡◌, refl, sym, ap, ◌∙◌, subst, subst⁻¹}
use mathlib.Core.Bool.{Bool, true, false, ◌&&◌, cond}
use mathlib.Core.List.{List, [], ◌++◌}
use lib.Dec.{leb, ltb}
use borrow.Author.Tests.{leb-true, ltb-true}
use Rattle.definitions.specs.Grid.{Map, at, Segment}
use Rattle.span_geometry.specs.declared.strips.Strip.{Strip}
use Rattle.span_geometry.specs.Strips.{by_columns, line_of}
use Rattle.span_geometry.specs.Candidates.{cell_of, minor_side}
use Rattle.laws.specs.ListLaws.Tests.{both}
use Rattle.line_crossings.specs.Crossings.{tie_of}
use Rattle.line_crossings.proofs.NearLine.{near-line}
use Rattle.grid_steps.specs.Masks.{bit_of}
use Rattle.grid_steps.specs.Walk.{grid_of}
use Rattle.cut_steps.specs.CutSteps.{cut_from}
use Rattle.cut_steps.specs.Cell.{Far}
use Rattle.cut_steps.specs.Columns.{ColumnAsked, cut_across, cut_column, cell_in, cell_at}
use Rattle.cut_steps.specs.Crossed.{Crossed, changes_at, CrossedAt, cut_two_back, FollowsIn}
use Rattle.cut_steps.proofs.Trimmed.{places-joined}
use Rattle.cut_steps.specs.Prefixes.{concat_map_lem}
use Rattle.cut_steps.proofs.Onward.{zero_bit}
use Rattle.cut_steps.proofs.Cells.{far-directions}
use Rattle.cut_steps.proofs.Changes.{follows_at, follows-far}
use Rattle.cut_steps.proofs.Marks.{no_cut}

-- ---- whether there is a cell

pub is_placed_as : (t : Strip) (w h b : ℕ) {n : ℕ} {r v : Bool} → n ≡ cond t.columns h w → r ≡ (leb 2 b && ltb (b - 2) n) → r ≡ v → (leb 2 b && ltb (b - 2) (minor_side t w h)) ≡ v
is_placed_as t w h b e f g = ap (λ n. leb 2 b && ltb (b - 2) n) (sym e) ∙ sym f ∙ g

-- what `place_before` answers
none_some : {m : ℕ} → None ≡ Some m → ⊥
none_some e = let z : ◌≡◌ {A = ℕ} 0 1 = cc in omega arith

pub is_placed : (v : Bool) (x m : ℕ) {r : Option ℕ} → r ≡ cond v (Some x) None → r ≡ Some m → (v ≡ true) × (m ≡ x)
is_placed true x m e f = (refl, ap (λ o. elim o [ None ↦ m | Some y ↦ y ]) (sym f ∙ e))
is_placed false x m e f = absurd (none_some (sym e ∙ f))

pub not_placed : (v : Bool) (x : ℕ) {r : Option ℕ} → r ≡ cond v (Some x) None → ((m : ℕ) → r ≡ Some m → ⊥) → v ≡ false
not_placed true x e f = absurd (f x e)
not_placed false x e f = refl

placed : (b limit : ℕ) → (leb 2 b && ltb (b - 2) limit) ≡ true → (2 ≤ b) × (b - 2 < limit)
placed b limit e =
    let p = both (leb 2 b) (ltb (b - 2) limit) e in
    (leb-true 2 b p.0, ltb-true (b - 2) limit p.1)

module _ (M : Map) (g : Segment) (t : Strip) (k b : ℕ) where
  pub none_there : (leb 2 b && ltb (b - 2) (minor_side t M.width M.height)) ≡ false → cut_two_back M g t k b ≡ []
  none_there e = ap (λ v. cond v (cut_across M g t.columns k (b - 2)) []) e

  pub one_there : {x y : ℕ} → (leb 2 b && ltb (b - 2) (minor_side t M.width M.height)) ≡ true → x ≡ cond t.columns k (b - 2) → y ≡ cond t.columns (b - 2) k → cut_from M g (at x y) ≡ cut_two_back M g t k b
  one_there e i j = ap (cut_from M g) (cell_at t.columns k (b - 2) i j) ∙ sym (ap (λ v. cond v (cut_across M g t.columns k (b - 2)) []) e)

pub across-crossed : (g : Segment) (t : Strip) (k b : ℕ) {changes x y : ℕ} → CrossedAt g t k b changes → 2 ≤ b → x ≡ cond t.columns k (b - 2) → y ≡ cond t.columns (b - 2) k → Crossed g (at x y) changes
across-crossed g t k b {changes} C h i j = subst⁻¹ (λ p. Crossed g p changes) (cell_at t.columns k (b - 2) i j) (C h)

-- the cell at two less than b, where there is one
pub record Placed (w h : ℕ) (t : Strip) (k b x y : ℕ) : Type 0 where
  pub back : 2 ≤ b
  pub is_in : (leb 2 b && ltb (b - 2) (minor_side t w h)) ≡ true
  pub in_x : x < w
  pub in_y : y < h

pub placed_cell : {w h : ℕ} {t : Strip} {k : ℕ} (b : ℕ) {x y n : ℕ} {r : Bool} → ColumnAsked w h t k → n ≡ minor_side t w h → r ≡ (leb 2 b && ltb (b - 2) n) → r ≡ true → x ≡ cond t.columns k (b - 2) → y ≡ cond t.columns (b - 2) k → Placed w h t k b x y
placed_cell {w} {h} {t} b C e f r i j =
    let is_in = is_placed_as t w h b e f r in
    let place = placed b (minor_side t w h) is_in in
    let inside = cell_in t.columns i j C.column place.1 in
    record { back = place.0; is_in = is_in; in_x = inside.0; in_y = inside.1 }

-- a cell without a change of sides has no cut step
pub unchanged : (w h : ℕ) (cells : List ℕ) (g : Segment) (t : Strip) (k b : ℕ) {changes : ℕ} → CrossedAt g t k b changes → changes ≡ 0 → [] ≡ cut_two_back (grid_of w h cells) g t k b
unchanged w h cells g t k b C e = go (leb 2 b && ltb (b - 2) (minor_side t w h)) refl
  where
    M : Map
    M = grid_of w h cells

    far : Crossed g (cell_of t k (b - 2)) 0 → Far g (cell_of t k (b - 2))
    far X d i j l m n = sym (X.cut d i j l m n) ∙ zero_bit (bit_of d)

    none : (v : Bool) → Far g (cond v (at k (b - 2)) (at (b - 2) k)) → [] ≡ cut_from M g (cond v (at k (b - 2)) (at (b - 2) k))
    none true f = sym (no_cut M g (at k (b - 2)) (far-directions w h cells g k (b - 2) f).bits)
    none false f = sym (no_cut M g (at (b - 2) k) (far-directions w h cells g (b - 2) k f).bits)

    go : (v : Bool) → (leb 2 b && ltb (b - 2) (minor_side t w h)) ≡ v → [] ≡ cond v (cut_from M g (cell_of t k (b - 2))) []
    go false i = refl
    go true i = none t.columns (far (subst (Crossed g (cell_of t k (b - 2))) e (C (placed b (minor_side t w h) i).0)))

-- ---- the changes of sides

pub tie-few : (s : Segment) → tie_of s ≤ 1
tie-few s = go (by_columns s) (leb s.a.y s.b.y)
  where
    go : (t u : Bool) → cond t 0 (cond u 1 0) ≤ 1
    go true u = omega arith
    go false true = omega arith
    go false false = omega arith

pub crossing_at : {t : Strip} {g : Segment} {k before here after : ℕ} → FollowsIn t g k before here after → (j : ℕ) {b changes : ℕ} → b ≡ here + j → changes ≡ changes_at t.columns (before + 2 - here) 2 (after + 2 - here) j → CrossedAt g t k b changes
crossing_at {t} {g} {k} {before} {here} {after} F j {b} e f h = subst⁻¹ (Crossed g (cell_of t k (b - 2))) f (follows_at g k before here after (b - 2) F j (omega arith))

-- ---- four cells are all

pub column-crossed :
    (w h : ℕ) (cells : List ℕ) {t : Strip} (g : Segment) {k before here after : ℕ} → ColumnAsked w h t k → FollowsIn t g k before here after
    → ((cut_two_back (grid_of w h cells) g t k here ++ cut_two_back (grid_of w h cells) g t k (here + 1)) ++ cut_two_back (grid_of w h cells) g t k (here + 2)) ++ cut_two_back (grid_of w h cells) g t k (here + 3)
    ≡ cut_column (grid_of w h cells) g t k
column-crossed w h cells {t} g {k} {before} {here} {after} C F =
    places-joined (cut_across M g t.columns k) (minor_side t w h) here (line_of t k) C.some (near-line F.follows.usable F.follows.between (tie-few g) F.follows.is.1) (λ i l o. none i t.columns (follows-far g k before here after i F o))
    ∙ sym (concat_map_lem (cut_from M g) (cell_of t k) _)
  where
    M : Map
    M = grid_of w h cells

    none : (i : ℕ) (v : Bool) → Far g (cond v (at k i) (at i k)) → cut_from M g (cond v (at k i) (at i k)) ≡ []
    none i true f = no_cut M g (at k i) (far-directions w h cells g k i f).bits
    none i false f = no_cut M g (at i k) (far-directions w h cells g i k f).bits
