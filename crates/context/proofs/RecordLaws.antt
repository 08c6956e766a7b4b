-- The definition's record of the cells that pass a test: with one cell more it is `add_cell` of it, field by field, of no cell it is the empty record, and with the test of a
-- label it is `region_of`. Assumes nothing.
use Prim.Native.Nat.{ℕ, zero, suc, ◌+◌, ◌*◌, ◌/◌, ◌%◌, ◌^◌, ◌≤◌, ◌<◌, min, max}
use native.Mathlib.Omega.{arith}
use native.Mathlib.Nat.{le_trans, add-zero, mod-lt, div-lt_iff_lt-mul}
use mathlib.Core.Path.{◌≡◌, refl, sym, ap, ap₂, ◌∙◌}
use mathlib.Core.Bool.{Bool, true, false, not, ◌&&◌, ◌||◌, cond}
use mathlib.Core.List.{List, [], ◌∷◌, map}
use lib.ListN.{get_or, set}
use lib.Dec.{eqb, ltb}
use lib.Bits.{bit_or}
use lib.Ieee.{lt}
use borrow.Author.Tests.{eqb-true, ltb-true, ltb-false}
use Rattle.definitions.specs.Scan.{any_below_lem, all_below, count_below, bit}
use Rattle.definitions.specs.Limits.{is_side, max_side}
use Rattle.definitions.specs.Grid.{Map, cell_count, cell_at, is_ramp, elevation}
use Rattle.definitions.specs.Spans.{pixels_per_walk_cell}
use Rattle.definitions.specs.Geometry.{float}
use Rattle.definitions.specs.RegionRecord.{Region, empty_region, least, most, mask_of, region_of}
use Rattle.laws.specs.ListLaws.Below.{below_ext, below_none, count_ext, all_below_at}
use Rattle.laws.specs.RegionLaws.Edges.{least_le, most_le, least_ext, most_ext}
use Rattle.laws.specs.FloatLaws.WholeDoubles.{lt_float}
use Rattle.laws.specs.FloatLaws.MapPixels.{side-bounds}
use Rattle.context.specs.Cells.{lesser_edge, greater_edge, add_cell, add_cell_of}
use Rattle.laws.specs.RegionLaws.OneMore.{OneMore, count_more, least_more, most_more, count-both, any-both, any-counted, most_none, least_none}
use Rattle.laws.specs.ListLaws.FourFlags.{every_bool, every_four, four_at, mask_of_bits}

-- ---- edges

module _ (a b : ℕ) (ha : a ≤ 2 ^ 53) (hb : b ≤ 2 ^ 53) where
  pub float_min : cond (lt (float b) (float a)) (float b) (float a) ≡ float (min a b)
  float_min = ap (λ t. cond t (float b) (float a)) (lt_float b a hb ha) ∙ go (ltb b a) refl
    where
      go : (t : Bool) → ltb b a ≡ t → cond t (float b) (float a) ≡ float (min a b)
      go true e = ap float (omega (arith, ltb-true b a e))
      go false e = ap float (omega (arith, ltb-false b a e))

  pub float_max : cond (lt (float a) (float b)) (float b) (float a) ≡ float (max a b)
  float_max = ap (λ t. cond t (float b) (float a)) (lt_float a b ha hb) ∙ go (ltb a b) refl
    where
      go : (t : Bool) → ltb a b ≡ t → cond t (float b) (float a) ≡ float (max a b)
      go true e = ap float (omega (arith, ltb-true a b e))
      go false e = ap float (omega (arith, ltb-false a b e))

module _ {p q : ℕ → Bool} {c : ℕ} (one : OneMore p q c) (f : ℕ → ℕ) (n : ℕ) (below : c < n) (small : (d : ℕ) → d < n → f d ≤ 2 ^ 53) where
  lesser_more : {m : ℕ} → m ≡ f c → lesser_edge (eqb (count_below n p) 0) (float (least n p f)) (float m) ≡ float (least n q f)
  lesser_more e =
      ap₂ (λ t m. lesser_edge t (float (least n p f)) (float m)) (any-counted p n) e
      ∙ go (any_below_lem n p)
      ∙ ap float (sym (least_more one f n below))
    where
      go : (t : Bool) → lesser_edge (not t) (float (least n p f)) (float (f c)) ≡ float (cond t (min (least n p f) (f c)) (f c))
      go true = float_min (least n p f) (f c) (least_le n p f (2 ^ 53) small) (small c below)
      go false = refl

  greater_more : {m : ℕ} → m ≡ f c → greater_edge (eqb (count_below n p) 0) (float (most n p f)) (float m) ≡ float (most n q f)
  greater_more e =
      ap₂ (λ t m. greater_edge t (float (most n p f)) (float m)) (any-counted p n) e
      ∙ go (any_below_lem n p) refl
      ∙ ap float (sym (most_more one f n below))
    where
      go : (t : Bool) → any_below_lem n p ≡ t → greater_edge (not t) (float (most n p f)) (float (f c)) ≡ float (max (most n p f) (f c))
      go true k = float_max (most n p f) (f c) (most_le n p f (2 ^ 53) small) (small c below)
      go false k = ap float (omega (arith, most_none p f n k))

-- ---- the mask and the counts

-- a further digit set
abbrev sets_bit : Bool → Bool → Bool → Bool → ℕ → Bool
sets_bit a b c d k = eqb (bit_or (mask_of_bits a b c d) (2 ^ k)) (mask_of_bits (a || eqb k 0) (b || eqb k 1) (c || eqb k 2) (d || eqb k 3))

pub mask_more : (f : ℕ → Bool) (k : ℕ) → k < 4 → bit_or (mask_of f) (2 ^ k) ≡ mask_of (λ e. f e || eqb k e)
unfolding every_four every_bool all_below
mask_more f k h =
    eqb-true _ _ (all_below_at 4 (sets_bit (f 0) (f 1) (f 2) (f 3)) (four_at (λ a b c d. all_below 4 (sets_bit a b c d)) refl (f 0) (f 1) (f 2) (f 3)) k h)

-- the four counts of f
abbrev pub counts_of : (ℕ → ℕ) → List ℕ
counts_of f = map f (0 ∷ 1 ∷ 2 ∷ 3 ∷ [])

kept : (m : ℕ) → m ≡ m + 0
kept m = sym (add-zero m)

pub counts_more : (f : ℕ → ℕ) (k : ℕ) → k < 4 → set (counts_of f) k (get_or (counts_of f) k 0 + 1) ≡ counts_of (λ e. f e + bit (eqb k e))
counts_more f zero h = λ i. (f 0 + 1) ∷ kept (f 1) i ∷ kept (f 2) i ∷ kept (f 3) i ∷ []
counts_more f (suc zero) h = λ i. kept (f 0) i ∷ (f 1 + 1) ∷ kept (f 2) i ∷ kept (f 3) i ∷ []
counts_more f (suc (suc zero)) h = λ i. kept (f 0) i ∷ kept (f 1) i ∷ (f 2 + 1) ∷ kept (f 3) i ∷ []
counts_more f (suc (suc (suc zero))) h = λ i. kept (f 0) i ∷ kept (f 1) i ∷ kept (f 2) i ∷ (f 3 + 1) ∷ []
counts_more f (suc (suc (suc (suc k)))) h = absurd (omega arith)

pub counts_ext : (f g : ℕ → ℕ) → ((e : ℕ) → f e ≡ g e) → counts_of f ≡ counts_of g
counts_ext f g h = λ i. h 0 i ∷ h 1 i ∷ h 2 i ∷ h 3 i ∷ []

pub mask_ext : (f g : ℕ → Bool) → ((e : ℕ) → f e ≡ g e) → mask_of f ≡ mask_of g
mask_ext f g h = λ i. mask_of_bits (h 0 i) (h 1 i) (h 2 i) (h 3 i)

-- ---- the record of the cells that pass a test

unfoldable pub record_where : Map → (ℕ → Bool) → Region
unfolding cell_count count_below least most any_below_lem float
record_where M p =
    let n = cell_count M in
    record {
      cells = count_below n p;
      min_x_lem = float (least n p (λ c. c % M.width * pixels_per_walk_cell));
      min_y_lem = float (least n p (λ c. c / M.width * pixels_per_walk_cell));
      max_x_lem = float (most n p (λ c. c % M.width * pixels_per_walk_cell + pixels_per_walk_cell));
      max_y_lem = float (most n p (λ c. c / M.width * pixels_per_walk_cell + pixels_per_walk_cell));
      ramp_cells_lem = count_below n (λ c. p c && is_ramp (cell_at M c));
      elevations = mask_of (λ e. any_below_lem n (λ c. p c && eqb (elevation (cell_at M c)) e));
      elevation_counts_lem = map (λ e. count_below n (λ c. p c && eqb (elevation (cell_at M c)) e)) (0 ∷ 1 ∷ 2 ∷ 3 ∷ []);
    }

pub region_where : (M : Map) (ls : List ℕ) (r : ℕ) → record_where M (λ c. eqb (get_or ls c 0) r) ≡ region_of M ls r
unfolding record_where region_of
region_where M ls r = refl

pub where_ext : (M : Map) (p q : ℕ → Bool) → ((c : ℕ) → c < cell_count M → p c ≡ q c) → record_where M p ≡ record_where M q
unfolding record_where
where_ext M p q h =
    λ i.
    record {
      cells = count_ext (cell_count M) p q h i;
      min_x_lem = float (least_ext (cell_count M) p q (λ c. c % M.width * pixels_per_walk_cell) h i);
      min_y_lem = float (least_ext (cell_count M) p q (λ c. c / M.width * pixels_per_walk_cell) h i);
      max_x_lem = float (most_ext (cell_count M) p q (λ c. c % M.width * pixels_per_walk_cell + pixels_per_walk_cell) h i);
      max_y_lem = float (most_ext (cell_count M) p q (λ c. c / M.width * pixels_per_walk_cell + pixels_per_walk_cell) h i);
      ramp_cells_lem = count_ext (cell_count M) _ _ (among (λ c. is_ramp (cell_at M c))) i;
      elevations = mask_ext _ _ (λ e. below_ext (cell_count M) _ _ (among (λ c. eqb (elevation (cell_at M c)) e))) i;
      elevation_counts_lem = counts_ext _ _ (λ e. count_ext (cell_count M) _ _ (among (λ c. eqb (elevation (cell_at M c)) e))) i;
    }
  where
    among : (g : ℕ → Bool) (c : ℕ) → c < cell_count M → (p c && g c) ≡ (q c && g c)
    among g c l = ap (λ b. b && g c) (h c l)

-- of no cell it is the empty record
pub where_none : (M : Map) → record_where M (λ c. false) ≡ empty_region
unfolding record_where empty_region
where_none M =
    λ i.
    record {
      cells = nothing i;
      min_x_lem = float (least_none (λ c. false) (λ c. c % M.width * pixels_per_walk_cell) (cell_count M) never i);
      min_y_lem = float (least_none (λ c. false) (λ c. c / M.width * pixels_per_walk_cell) (cell_count M) never i);
      max_x_lem = float (most_none (λ c. false) (λ c. c % M.width * pixels_per_walk_cell + pixels_per_walk_cell) (cell_count M) never i);
      max_y_lem = float (most_none (λ c. false) (λ c. c / M.width * pixels_per_walk_cell + pixels_per_walk_cell) (cell_count M) never i);
      ramp_cells_lem = nothing i;
      elevations = mask_ext (λ e. any_below_lem (cell_count M) (λ c. false)) (λ e. false) (λ e. never) i;
      elevation_counts_lem = counts_ext (λ e. count_below (cell_count M) (λ c. false)) (λ e. 0) (λ e. nothing) i;
    }
  where
    never : any_below_lem (cell_count M) (λ c. false) ≡ false
    never = below_none (cell_count M) (λ c. false) (λ c l. refl)

    nothing : count_below (cell_count M) (λ c. false) ≡ 0
    nothing = eqb-true _ _ (any-counted (λ c. false) (cell_count M) ∙ ap not never)

module _ (M : Map) (hw : is_side M.width ≡ true) (hh : is_side M.height ≡ true) where
  column : (c : ℕ) → c % M.width < max_side
  column c =
      let s = side-bounds M.width hw in
      le_trans (mod-lt c s.0) s.1

  row : (c : ℕ) → c < cell_count M → c / M.width < max_side
  unfolding cell_count
  row c l = le_trans ((div-lt_iff_lt-mul (side-bounds M.width hw).0).1 l) (side-bounds M.height hh).1

  start : {k : ℕ} → k < max_side → k * pixels_per_walk_cell ≤ 2 ^ 53
  start h = omega arith

  end : {k : ℕ} → k < max_side → k * pixels_per_walk_cell + pixels_per_walk_cell ≤ 2 ^ 53
  end h = omega arith

  next : (k : ℕ) → (k + 1) * pixels_per_walk_cell ≡ k * pixels_per_walk_cell + pixels_per_walk_cell
  next k = omega arith

  -- one cell more
  pub where_more : {p q : ℕ → Bool} {c : ℕ} → OneMore p q c → c < cell_count M → elevation (cell_at M c) < 4 → add_cell_of M (record_where M p) c ≡ record_where M q
  unfolding record_where add_cell_of add_cell
  where_more {p} {q} {c} one below fits =
      λ i.
      record {
        cells = sym (count_more one n below) i;
        min_x_lem = lesser_more one (λ c. c % M.width * pixels_per_walk_cell) n below (λ d l. start (column d)) refl i;
        min_y_lem = lesser_more one (λ c. c / M.width * pixels_per_walk_cell) n below (λ d l. start (row d l)) refl i;
        max_x_lem = greater_more one (λ c. c % M.width * pixels_per_walk_cell + pixels_per_walk_cell) n below (λ d l. end (column d)) (next (c % M.width)) i;
        max_y_lem = greater_more one (λ c. c / M.width * pixels_per_walk_cell + pixels_per_walk_cell) n below (λ d l. end (row d l)) (next (c / M.width)) i;
        ramp_cells_lem = sym (count-both one (λ c. is_ramp (cell_at M c)) n below) i;
        elevations = masks i;
        elevation_counts_lem = counts i;
      }
    where
      n : ℕ
      n = cell_count M

      e : ℕ
      e = elevation (cell_at M c)

      masks : bit_or (mask_of (λ e. any_below_lem n (λ c. p c && eqb (elevation (cell_at M c)) e))) (2 ^ e) ≡ mask_of (λ e. any_below_lem n (λ c. q c && eqb (elevation (cell_at M c)) e))
      masks =
          mask_more (λ e. any_below_lem n (λ c. p c && eqb (elevation (cell_at M c)) e)) e fits
          ∙ mask_ext _ _ (λ e. sym (any-both one (λ c. eqb (elevation (cell_at M c)) e) n below))

      counts : set (counts_of (λ e. count_below n (λ c. p c && eqb (elevation (cell_at M c)) e))) e (get_or (counts_of (λ e. count_below n (λ c. p c && eqb (elevation (cell_at M c)) e))) e 0 + 1)
          ≡ counts_of (λ e. count_below n (λ c. q c && eqb (elevation (cell_at M c)) e))
      counts =
          counts_more (λ e. count_below n (λ c. p c && eqb (elevation (cell_at M c)) e)) e fits
          ∙ counts_ext _ _ (λ e. sym (count-both one (λ c. eqb (elevation (cell_at M c)) e) n below))
