-- What `with_run` puts together is the record with the run's cells added one by one (`add_run`): each field by induction on the cells. The edges to the left and to
-- the right are whole pixels, so that their order is that of numbers. Assumes nothing.
use Prim.Native.Nat.{ℕ, zero, suc, ◌+◌, ◌*◌, ◌/◌, ◌%◌, ◌^◌, ◌≤◌, ◌<◌, min, max}
use native.Mathlib.Omega.{arith}
use native.Mathlib.Nat.{add-zero, add_assoc}
use mathlib.Core.Path.{◌≡◌, refl, sym, ap, ap₂, ◌∙◌}
use mathlib.Core.Bool.{Bool, true, false, cond}
use mathlib.Core.List.{List, [], ◌∷◌, map}
use lib.ListN.{length, get_or, set}
use lib.Seq.{ext_get_or}
use lib.Arith.{bin_ind}
use lib.Dec.{eqb}
use lib.Bits.{bit_or, or_step, or_zero_r}
use lib.Ieee.{Float, lt}
use borrow.Author.Tests.{ne_eqb}
use Rattle.definitions.specs.Limits.{max_side}
use Rattle.definitions.specs.Scan.{any_below_lem, count_below, bit}
use Rattle.definitions.specs.Grid.{elevation}
use Rattle.definitions.specs.Spans.{pixels_per_walk_cell}
use Rattle.definitions.specs.Geometry.{float}
use Rattle.definitions.specs.RegionRecord.{Region, mask_of}
use Rattle.context.specs.Cells.{lesser_edge, greater_edge, add_cell, add_run}
use Rattle.context.specs.Runs.{elevation_among, ramps_among}
use Rattle.context.proofs.RecordLaws.{counts_of, counts_more, counts_ext, mask_more, float_min, float_max}

-- ---- masks and counts

or_half : (a b : ℕ) → (bit_or a b / 2 ≡ bit_or (a / 2) (b / 2)) × (bit_or a b % 2 ≡ max (a % 2) (b % 2))
or_half a b = (omega (arith, or_step a b), omega (arith, or_step a b))

or_assoc : (a b c : ℕ) → bit_or (bit_or a b) c ≡ bit_or a (bit_or b c)
or_assoc =
    bin_ind (λ (n : ℕ). (b c : ℕ) → bit_or (bit_or n b) c ≡ bit_or n (bit_or b c)) (λ b c. refl)
    (λ n ih b c. or_step (bit_or n b) c ∙ rw ((or_half n b).0, (or_half n b).1, ih (b / 2) (c / 2)) (sym (or_step n (bit_or b c) ∙ rw ((or_half b c).0, (or_half b c).1) (digits (bit_or (n / 2) (bit_or (b / 2) (c / 2))) (n % 2) (b % 2) (c % 2)))))
  where
    digits : (m x y z : ℕ) → m * 2 + max x (max y z) ≡ m * 2 + max (max x y) z
    digits m x y z = omega arith

-- four counts, by their places
pub four : (l : List ℕ) → length l ≡ 4 → map (λ k. get_or l k 0) (0 ∷ 1 ∷ 2 ∷ 3 ∷ []) ≡ l
four l h = ext_get_or 0 (map (λ k. get_or l k 0) (0 ∷ 1 ∷ 2 ∷ 3 ∷ [])) l (sym h) same
  where
    same : (i : ℕ) → i < 4 → get_or (map (λ k. get_or l k 0) (0 ∷ 1 ∷ 2 ∷ 3 ∷ [])) i 0 ≡ get_or l i 0
    same zero k = refl
    same (suc zero) k = refl
    same (suc (suc zero)) k = refl
    same (suc (suc (suc zero))) k = refl
    same (suc (suc (suc (suc i)))) k = absurd (omega arith)

-- ---- edges

-- an edge that a cell has moved is not moved by a further one that has the same
stays : (t : Bool) (e : Float) → cond t e e ≡ e
stays true e = refl
stays false e = refl

lesser-again : (first : Bool) (old e : Float) → lesser_edge false (lesser_edge first old e) e ≡ lesser_edge first old e
lesser-again true old e = stays (lt e e) e
lesser-again false old e = go (lt e old) refl
  where
    go : (t : Bool) → lt e old ≡ t → lesser_edge false (cond t e old) e ≡ cond t e old
    go true h = stays (lt e e) e
    go false h = ap (λ t. cond t e old) h

greater-again : (first : Bool) (old e : Float) → greater_edge false (greater_edge first old e) e ≡ greater_edge first old e
greater-again true old e = stays (lt e e) e
greater-again false old e = go (lt old e) refl
  where
    go : (t : Bool) → lt old e ≡ t → greater_edge false (cond t e old) e ≡ cond t e old
    go true h = stays (lt e e) e
    go false h = ap (λ t. cond t e old) h

-- as numbers
lesser_of : Bool → ℕ → ℕ → ℕ
lesser_of first old new = cond first new (min old new)

greater_of : Bool → ℕ → ℕ → ℕ
greater_of first old new = cond first new (max old new)

lesser_of-le : (first : Bool) (a m : ℕ) → lesser_of first a m ≤ m
unfolding lesser_of
lesser_of-le true a m = omega arith
lesser_of-le false a m = omega arith

greater_of-le : (first : Bool) (a m b : ℕ) → a ≤ b → m ≤ b → greater_of first a m ≤ b
unfolding greater_of
greater_of-le true a m b h k = k
greater_of-le false a m b h k = omega arith

greater_of_more : (first : Bool) (a m n : ℕ) → m ≤ n → max (greater_of first a m) n ≡ greater_of first a n
unfolding greater_of
greater_of_more true a m n h = omega arith
greater_of_more false a m n h = omega arith

lesser-whole : (first : Bool) (a m : ℕ) → a ≤ 2 ^ 53 → m ≤ 2 ^ 53 → lesser_edge first (float a) (float m) ≡ float (lesser_of first a m)
unfolding lesser_of
lesser-whole true a m h k = refl
lesser-whole false a m h k = float_min a m h k

greater-whole : (first : Bool) (a m : ℕ) → a ≤ 2 ^ 53 → m ≤ 2 ^ 53 → greater_edge first (float a) (float m) ≡ float (greater_of first a m)
unfolding greater_of
greater-whole true a m h k = refl
greater-whole false a m h k = float_max a m h k

-- ---- the fields

module _ (s : Region) (x y : ℕ) (bytes : List ℕ) (c : ℕ) where
  run-cells : (n : ℕ) → (add_run s x y bytes c n).cells ≡ s.cells + n
  unfolding add_run add_cell
  run-cells zero = omega arith
  run-cells (suc n) = omega (arith, run-cells n)

  further : (n : ℕ) → eqb (add_run s x y bytes c (suc n)).cells 0 ≡ false
  further n = ne_eqb (add_run s x y bytes c (suc n)).cells 0 (λ z. omega (arith, run-cells (suc n), z))

  run-ramps : (n : ℕ) → (add_run s x y bytes c n).ramp_cells_lem ≡ s.ramp_cells_lem + ramps_among bytes c n
  unfolding add_run add_cell count_below
  run-ramps zero = omega arith
  run-ramps (suc n) = omega (arith, run-ramps n)

  run_mask : (n : ℕ) → ((i : ℕ) → i < n → elevation (get_or bytes (c + i) 0) < 4)
      → (add_run s x y bytes c n).elevations ≡ bit_or s.elevations (mask_of (λ e. any_below_lem n (λ i. eqb (elevation (get_or bytes (c + i) 0)) e)))
  unfolding add_run add_cell any_below_lem
  run_mask zero low = sym (or_zero_r s.elevations)
  run_mask (suc n) low =
      let k = elevation (get_or bytes (c + n) 0) in
      let f : ℕ → Bool = λ e. any_below_lem n (λ i. eqb (elevation (get_or bytes (c + i) 0)) e) in
      ap (λ m. bit_or m (2 ^ k)) (run_mask n (λ i h. low i (omega arith))) ∙ or_assoc s.elevations (mask_of f) (2 ^ k) ∙ ap (bit_or s.elevations) (mask_more f k (low n (omega arith)))

  run-counts : length s.elevation_counts_lem ≡ 4 → (n : ℕ) → ((i : ℕ) → i < n → elevation (get_or bytes (c + i) 0) < 4)
      → (add_run s x y bytes c n).elevation_counts_lem ≡ counts_of (λ e. get_or s.elevation_counts_lem e 0 + elevation_among bytes c n e)
  unfolding add_run add_cell count_below
  run-counts long zero low = sym (counts_ext (λ e. get_or s.elevation_counts_lem e 0 + 0) (λ e. get_or s.elevation_counts_lem e 0) (λ e. add-zero (get_or s.elevation_counts_lem e 0)) ∙ four s.elevation_counts_lem long)
  run-counts long (suc n) low =
      let k = elevation (get_or bytes (c + n) 0) in
      ap (λ l. set l k (get_or l k 0 + 1)) (run-counts long n (λ i h. low i (omega arith)))
      ∙ counts_more (λ e. get_or s.elevation_counts_lem e 0 + elevation_among bytes c n e) k (low n (omega arith))
      ∙ counts_ext (λ e. get_or s.elevation_counts_lem e 0 + elevation_among bytes c n e + bit (eqb k e)) (λ e. get_or s.elevation_counts_lem e 0 + (elevation_among bytes c n e + bit (eqb k e)))
      (λ e. add_assoc (get_or s.elevation_counts_lem e 0) (elevation_among bytes c n e) (bit (eqb k e)))

  run-top : (n : ℕ) → (add_run s x y bytes c (suc n)).min_y_lem ≡ lesser_edge (eqb s.cells 0) s.min_y_lem (float (y * pixels_per_walk_cell))
  unfolding add_run add_cell
  run-top zero = refl
  run-top (suc n) = ap₂ (λ t v. lesser_edge t v (float (y * pixels_per_walk_cell))) (further n) (run-top n) ∙ lesser-again (eqb s.cells 0) s.min_y_lem (float (y * pixels_per_walk_cell))

  run-bottom : (n : ℕ) → (add_run s x y bytes c (suc n)).max_y_lem ≡ greater_edge (eqb s.cells 0) s.max_y_lem (float ((y + 1) * pixels_per_walk_cell))
  unfolding add_run add_cell
  run-bottom zero = refl
  run-bottom (suc n) = ap₂ (λ t v. greater_edge t v (float ((y + 1) * pixels_per_walk_cell))) (further n) (run-bottom n) ∙ greater-again (eqb s.cells 0) s.max_y_lem (float ((y + 1) * pixels_per_walk_cell))

  module _ (a : ℕ) (small : a ≤ 2 ^ 53) where
    run_left_lem : s.min_x_lem ≡ float a → (n : ℕ) → x + suc n ≤ max_side → (add_run s x y bytes c (suc n)).min_x_lem ≡ float (lesser_of (eqb s.cells 0) a (x * pixels_per_walk_cell))
    unfolding add_run add_cell
    run_left_lem e zero h =
        ap₂ (λ v k. lesser_edge (eqb s.cells 0) v (float (k * pixels_per_walk_cell))) e (add-zero x) ∙ lesser-whole (eqb s.cells 0) a (x * pixels_per_walk_cell) small (omega arith)
    run_left_lem e (suc n) h =
        let m = lesser_of (eqb s.cells 0) a (x * pixels_per_walk_cell) in
        let low : m ≤ x * pixels_per_walk_cell = lesser_of-le (eqb s.cells 0) a (x * pixels_per_walk_cell) in
        let kept : min m ((x + suc n) * pixels_per_walk_cell) ≡ m = omega arith in
        ap₂ (λ t v. lesser_edge t v (float ((x + suc n) * pixels_per_walk_cell))) (further n) (run_left_lem e n (omega arith))
        ∙ float_min m ((x + suc n) * pixels_per_walk_cell) (omega arith) (omega arith)
        ∙ ap float kept

    run-right : s.max_x_lem ≡ float a → (n : ℕ) → x + suc n ≤ max_side → (add_run s x y bytes c (suc n)).max_x_lem ≡ float (greater_of (eqb s.cells 0) a ((x + suc n) * pixels_per_walk_cell))
    unfolding add_run add_cell
    run-right e zero h =
        ap₂ (λ v k. greater_edge (eqb s.cells 0) v (float ((k + 1) * pixels_per_walk_cell))) e (add-zero x) ∙ greater-whole (eqb s.cells 0) a ((x + 1) * pixels_per_walk_cell) small (omega arith)
    run-right e (suc n) h =
        let m = greater_of (eqb s.cells 0) a ((x + suc n) * pixels_per_walk_cell) in
        let few : m ≤ 2 ^ 53 = greater_of-le (eqb s.cells 0) a ((x + suc n) * pixels_per_walk_cell) (2 ^ 53) small (omega arith) in
        ap₂ (λ t v. greater_edge t v (float ((x + suc n + 1) * pixels_per_walk_cell))) (further n) (run-right e n (omega arith))
        ∙ ap (λ k. greater_edge false (float m) (float (k * pixels_per_walk_cell))) (next x n)
        ∙ float_max m ((x + suc (suc n)) * pixels_per_walk_cell) few (omega arith)
        ∙ ap float (greater_of_more (eqb s.cells 0) a ((x + suc n) * pixels_per_walk_cell) ((x + suc (suc n)) * pixels_per_walk_cell) (omega arith))
      where
        next : (x n : ℕ) → x + suc n + 1 ≡ x + suc (suc n)
        next x n = omega arith

-- ---- the record

module _ (s : Region) (x y : ℕ) (bytes : List ℕ) (c : ℕ) {ramps mask : ℕ} {counts : List ℕ} {left top right bottom : Float} where
  pub run-added : (n : ℕ) → 1 ≤ n → x + n ≤ max_side → ((i : ℕ) → i < n → elevation (get_or bytes (c + i) 0) < 4) → length s.elevation_counts_lem ≡ 4
      → (k : ℕ) × ((k ≤ 2 ^ 53) × (s.min_x_lem ≡ float k)) → (k : ℕ) × ((k ≤ 2 ^ 53) × (s.max_x_lem ≡ float k))
      → ramps ≡ ramps_among bytes c n
      → mask ≡ mask_of (λ e. any_below_lem n (λ i. eqb (elevation (get_or bytes (c + i) 0)) e))
      → counts ≡ counts_of (λ e. get_or s.elevation_counts_lem e 0 + elevation_among bytes c n e)
      → left ≡ lesser_edge (eqb s.cells 0) s.min_x_lem (float (x * pixels_per_walk_cell))
      → top ≡ lesser_edge (eqb s.cells 0) s.min_y_lem (float (y * pixels_per_walk_cell))
      → right ≡ greater_edge (eqb s.cells 0) s.max_x_lem (float ((x + n) * pixels_per_walk_cell))
      → bottom ≡ greater_edge (eqb s.cells 0) s.max_y_lem (float ((y + 1) * pixels_per_walk_cell))
      → ◌≡◌ {A = Region}
      (record {
        cells = s.cells + n;
        min_x_lem = left;
        min_y_lem = top;
        max_x_lem = right;
        max_y_lem = bottom;
        ramp_cells_lem = s.ramp_cells_lem + ramps;
        elevations = bit_or s.elevations mask;
        elevation_counts_lem = counts;
      })
      (add_run s x y bytes c n)
  unfolding add_run add_cell
  run-added zero some columns low long left right hr hm hc hl ht hx hb = absurd (omega arith)
  run-added (suc n) some columns low long (a, (small, ea)) (b, (fits, eb)) hr hm hc hl ht hx hb =
      λ i.
      record {
        cells = sym (run-cells s x y bytes c (suc n)) i;
        min_x_lem = (hl ∙ ap (λ v. lesser_edge first v (float (x * pixels_per_walk_cell))) ea ∙ lesser-whole first a (x * pixels_per_walk_cell) small (omega arith) ∙ sym (run_left_lem s x y bytes c a small ea n columns)) i;
        min_y_lem = (ht ∙ sym (run-top s x y bytes c n)) i;
        max_x_lem = (hx ∙ ap (λ v. greater_edge first v (float ((x + suc n) * pixels_per_walk_cell))) eb ∙ greater-whole first b ((x + suc n) * pixels_per_walk_cell) fits (omega arith) ∙ sym (run-right s x y bytes c b fits eb n columns)) i;
        max_y_lem = (hb ∙ sym (run-bottom s x y bytes c n)) i;
        ramp_cells_lem = (ap (λ m. s.ramp_cells_lem + m) hr ∙ sym (run-ramps s x y bytes c (suc n))) i;
        elevations = (ap (bit_or s.elevations) hm ∙ sym (run_mask s x y bytes c (suc n) low)) i;
        elevation_counts_lem = (hc ∙ sym (run-counts s x y bytes c long (suc n) low)) i;
      }
    where
      first : Bool
      first = eqb s.cells 0
