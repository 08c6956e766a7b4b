-- The record of a region's cells before cell c (`region_up_to`): at the first cell it is empty, behind the last it is the region's, cells of other regions do not
-- change it, and the cells of a run of the region are added one by one (`add_run`). Assumes nothing.
use Prim.Native.Nat.{ℕ, zero, suc, ◌+◌, ◌*◌, ◌/◌, ◌%◌, ◌≤◌, ◌<◌, zero-le}
use native.Mathlib.Omega.{arith}
use native.Mathlib.Nat.{add-zero, div-add-mod'}
use mathlib.Core.Path.{◌≡◌, refl, sym, ap, ap₂, ◌∙◌}
use mathlib.Core.Bool.{Bool, true, false}
use mathlib.Core.List.{List}
use lib.ListN.{get_or, take, length-take, get_or-eq_default}
use lib.Seq.{get_or-take}
use lib.Arith.{digits_div, digits_mod, lt_of_le-ne}
use lib.Dec.{eqb, ltb}
use borrow.Author.Tests.{ltb-true, ltb-false, eq-eqb, ne_eqb}
use Rattle.definitions.specs.Limits.{is_side}
use Rattle.definitions.specs.Scan.{count_below, bit}
use Rattle.definitions.specs.Grid.{Map, cell_count, cell_at, elevation}
use Rattle.definitions.specs.RegionRecord.{empty_region, region_of}
use Rattle.laws.specs.ListLaws.ScanSteps.{count-le}
use Rattle.laws.specs.ListLaws.Flags.{bit_le}
use Rattle.laws.specs.RegionLaws.OneMore.{OneMore}
use Rattle.context.specs.Cells.{add_cell, add_cell_of, add_run}
use Rattle.context.proofs.RecordLaws.{record_where, region_where, where_ext, where_none, where_more}
use Rattle.stretches.specs.Stretches.{region_up_to}

-- ---- labels up to a cell

take_past : (l : List ℕ) (c d : ℕ) → c ≤ d → get_or (take c l) d 0 ≡ 0
take_past l c d h = get_or-eq_default (take c l) 0 (omega (arith, length-take c l))

module _ (l : List ℕ) (r : ℕ) (some : 1 ≤ r) where
  -- cell d is of the region, and stands before cell c
  abbrev pub is_of : ℕ → ℕ → Bool
  is_of c d = eqb (get_or (take c l) d 0) r

  past : (c d : ℕ) → c ≤ d → is_of c d ≡ false
  past c d h = ne_eqb (get_or (take c l) d 0) r (λ e. omega (arith, take_past l c d h, e))

  before : (c d : ℕ) → d < c → is_of c d ≡ eqb (get_or l d 0) r
  before c d h = ap (λ k. eqb k r) (get_or-take c l d 0 h)

  -- where the cells between are of other regions, it is the same up to either
  same : (c e : ℕ) → c ≤ e → ((d : ℕ) → c ≤ d → d < e → get_or l d 0 ≡ r → ⊥) → (d : ℕ) → is_of c d ≡ is_of e d
  same c e h other d = go (ltb d c) refl (ltb d e) refl
    where
      go : (a : Bool) → ltb d c ≡ a → (b : Bool) → ltb d e ≡ b → is_of c d ≡ is_of e d
      go true a b t = before c d (ltb-true d c a) ∙ sym (before e d (omega (arith, ltb-true d c a)))
      go false a true t = past c d (ltb-false d c a) ∙ sym (before e d (ltb-true d e t) ∙ ne_eqb (get_or l d 0) r (other d (ltb-false d c a) (ltb-true d e t)))
      go false a false t = past c d (ltb-false d c a) ∙ sym (past e d (ltb-false d e t))

  one : (c : ℕ) → get_or l c 0 ≡ r → OneMore (is_of c) (is_of (suc c)) c
  one c mine =
      record {
        before = past c c (omega arith);
        after = before (suc c) c (omega arith) ∙ eq-eqb (get_or l c 0) r mine;
        rest = λ d h. sym (same_but d h);
      }
    where
      same_but : (d : ℕ) → (d ≡ c → ⊥) → is_of c d ≡ is_of (suc c) d
      same_but d h = go (ltb d c) refl
        where
          go : (a : Bool) → ltb d c ≡ a → is_of c d ≡ is_of (suc c) d
          go true a = before c d (ltb-true d c a) ∙ sym (before (suc c) d (omega (arith, ltb-true d c a)))
          go false a = past c d (ltb-false d c a) ∙ sym (past (suc c) d (lt_of_le-ne (ltb-false d c a) (λ e. h (sym e))))

  -- no more cells than stand before cell c
  pub up-few : (c n : ℕ) → count_below n (is_of c) ≤ c
  unfolding count_below
  up-few c zero = zero-le
  up-few c (suc n) = go (ltb n c) refl (up-few c n)
    where
      go : (a : Bool) → ltb n c ≡ a → count_below n (is_of c) ≤ c → count_below n (is_of c) + bit (is_of c n) ≤ c
      go true a h = omega (arith, count-le (is_of c) n, bit_le (is_of c n), ltb-true n c a)
      go false a h = rw (past c n (ltb-false n c a)) (omega (arith, h))

  -- ---- the record

  module _ (M : Map) where
    pub up_where : (c : ℕ) → region_up_to M l r c ≡ record_where M (is_of c)
    unfolding region_up_to
    up_where c = sym (region_where M (take c l) r)

    pub up_none : region_up_to M l r 0 ≡ empty_region
    up_none = up_where 0 ∙ where_ext M (is_of 0) (λ c. false) (λ c h. past 0 c (omega arith)) ∙ where_none M

    pub up-all : region_up_to M l r (cell_count M) ≡ region_of M l r
    up-all = up_where (cell_count M) ∙ where_ext M (is_of (cell_count M)) (λ d. eqb (get_or l d 0) r) (λ d h. before (cell_count M) d h) ∙ region_where M l r

    pub up-other : (c e : ℕ) → c ≤ e → ((d : ℕ) → c ≤ d → d < e → get_or l d 0 ≡ r → ⊥) → region_up_to M l r c ≡ region_up_to M l r e
    up-other c e h other = up_where c ∙ where_ext M (is_of c) (is_of e) (λ d k. same c e h other d) ∙ sym (up_where e)

    -- ---- a run

    module _ (hw : is_side M.width ≡ true) (hh : is_side M.height ≡ true) (c : ℕ) where
      -- a further cell of the row
      column : (n : ℕ) → c + n < (c / M.width + 1) * M.width → ((c + n) % M.width ≡ c % M.width + n) × ((c + n) / M.width ≡ c / M.width)
      column n h = (ap (λ k. k % M.width) split ∙ digits_mod (c / M.width) narrow, ap (λ k. k / M.width) split ∙ digits_div (c / M.width) narrow)
        where
          place : c / M.width * M.width + c % M.width ≡ c
          place = div-add-mod' c M.width

          next : (c / M.width + 1) * M.width ≡ c / M.width * M.width + M.width
          next = omega arith

          split : c + n ≡ c / M.width * M.width + (c % M.width + n)
          split = omega (arith, place)

          narrow : c % M.width + n < M.width
          narrow = omega (arith, place, next, h)

      pub up_run : (n : ℕ) → c + n ≤ cell_count M → c + n ≤ (c / M.width + 1) * M.width
          → ((d : ℕ) → c ≤ d → d < c + n → get_or l d 0 ≡ r) → ((d : ℕ) → c ≤ d → d < c + n → elevation (cell_at M d) < 4)
          → add_run (region_up_to M l r c) (c % M.width) (c / M.width) M.cells c n ≡ region_up_to M l r (c + n)
      unfolding add_run add_cell_of
      up_run zero inside row mine low = ap (region_up_to M l r) (sym (add-zero c))
      up_run (suc n) inside row mine low =
          ap (λ s. add_cell s (c % M.width + n) (c / M.width) (cell_at M (c + n))) (up_run n (omega arith) (omega arith) (λ d h k. mine d h (omega arith)) (λ d h k. low d h (omega arith)))
          ∙ ap₂ (λ x y. add_cell (region_up_to M l r (c + n)) x y (cell_at M (c + n))) (sym (column n (omega arith)).0) (sym (column n (omega arith)).1)
          ∙ ap (λ s. add_cell_of M s (c + n)) (up_where (c + n))
          ∙ where_more M hw hh (one (c + n) (mine (c + n) (omega arith) (omega arith))) (omega arith) (low (c + n) (omega arith) (omega arith))
          ∙ sym (up_where (suc (c + n)))
          ∙ ap (region_up_to M l r) (later c n)
        where
          later : (c n : ℕ) → suc (c + n) ≡ c + suc n
          later c n = omega arith
