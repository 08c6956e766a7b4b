-- Where the rows of a list of separations stand, and that an accepted call has room for them and boundaries on a map. The argument: a row has five numbers,
-- column j has j rows, and the columns before it have j * (j - 1) / 2. Assumes nothing.
use Rattle.std.specs.Prelude.{◌≡◌, refl, ◌&&◌, List, [], ◌∷◌, ◌++◌, ℕ, zero, suc, ◌+◌, ◌-◌, ◌*◌, ◌/◌, ◌≤◌, ◌<◌, leb, length, get_or, Option, None, Some}
use Rattle.std.proofs.Common.{sym, ap, ◌∙◌, subst, inl, inr, mul-le-mul, arith, length-append, get_or-append-add, leb-true}
use Rattle.std.proofs.Math.ListN.{get_or-append}
use Rattle.definitions.specs.Limits.{is_side, numbers_per_boundary}
use Rattle.definitions.specs.Grid.{Segment, boundary_at}
use Rattle.definitions.specs.Refusals.{unless, sides_fault, is_whole, boundary_fits, boundaries_fault}
use Rattle.definitions.specs.Verdict.{refusal, first_refusal}
use Rattle.laws.specs.NumberLaws.Comparisons.{le_or_lt}
use Rattle.laws.specs.ListLaws.Tests.{both}
use Rattle.laws.specs.ListLaws.NoFault.{no_fault_lem, none_faulty}
use Rattle.laws.specs.TableLaws.AcceptedCalls.{fits-parts}
use Rattle.laws.specs.FloatLaws.Pixels.{PixelSegment}
use Rattle.laws.specs.FloatLaws.MapPixels.{segment-pixel}
use Rattle.separations.specs.Listing.{numbers_per_separation, boundary_count, ends_of_lem, separation_row, column, separation_rows, pair_count, list_verdict}

-- ---- lengths

row-length : (s t : Segment) (i j : ℕ) → length (separation_row s t i j) ≡ 5
unfolding separation_row
row-length s t i j = refl

abbrev row_of : List ℕ → ℕ → ℕ → List ℕ
row_of boundaries i j = separation_row (ends_of_lem boundaries i) (ends_of_lem boundaries j) i j

pub column-length : (boundaries : List ℕ) (j n : ℕ) → length (column boundaries j n) ≡ 5 * n
unfolding column
column-length boundaries j zero = refl
column-length boundaries j (suc n) =
    length-append (column boundaries j n) (row_of boundaries n j)
    ∙ omega (arith, column-length boundaries j n, row-length (ends_of_lem boundaries n) (ends_of_lem boundaries j) n j)

-- twice the rows of n boundaries are n * (n - 1)
rows-twice : (boundaries : List ℕ) (n : ℕ) → 2 * length (separation_rows boundaries n) + 5 * n ≡ 5 * (n * n)
unfolding separation_rows
rows-twice boundaries zero = refl
rows-twice boundaries (suc n) =
    by n (length (separation_rows boundaries (suc n))) (length (separation_rows boundaries n)) (length (column boundaries n n))
    (length-append (separation_rows boundaries n) (column boundaries n n)) (rows-twice boundaries n) (column-length boundaries n n)
  where
    by : (n w u v : ℕ) → w ≡ u + v → 2 * u + 5 * n ≡ 5 * (n * n) → v ≡ 5 * n → 2 * w + 5 * suc n ≡ 5 * (suc n * suc n)
    by n w u v e h k = omega arith

pub rows-length : (boundaries : List ℕ) (n : ℕ) → length (separation_rows boundaries n) ≡ 5 * pair_count n
rows-length boundaries n = by n (length (separation_rows boundaries n)) (rows-twice boundaries n)
  where
    by : (n l : ℕ) → 2 * l + 5 * n ≡ 5 * (n * n) → l ≡ 5 * (n * (n - 1) / 2)
    by zero l h = omega arith
    by (suc k) l h = half (suc k * k) l (omega arith) ∙ ap (λ (z : ℕ). 5 * (suc k * z / 2)) less
      where
        half : (m l : ℕ) → 2 * l ≡ 5 * m → l ≡ 5 * (m / 2)
        half m l e = go (l - 2 * m) (omega arith)
          where
            go : (t : ℕ) → m ≡ 2 * t → l ≡ 5 * (m / 2)
            go t f = let q : m / 2 ≡ t = omega arith in omega (arith, q)

        less : k ≡ suc k - 1
        less = omega arith

-- the rows of n boundaries have room for column j
pub rows-room : (boundaries : List ℕ) (j n : ℕ) → j < n → length (separation_rows boundaries j) + 5 * j ≤ length (separation_rows boundaries n)
rows-room boundaries j n h =
    by (n - 1) (length (separation_rows boundaries j)) (length (separation_rows boundaries n)) (omega arith) (omega arith) (rows-twice boundaries j) (rows-twice boundaries n)
  where
    by : (m u v : ℕ) → j ≤ m → n ≡ suc m → 2 * u + 5 * j ≡ 5 * (j * j) → 2 * v + 5 * n ≡ 5 * (n * n) → u + 5 * j ≤ v
    by m u v l e f g =
        let q : j * suc j ≤ m * suc m = mul-le-mul l (omega arith) in
        let g' : 2 * v + 5 * suc m ≡ 5 * (suc m * suc m) = subst (λ (n : ℕ). 2 * v + 5 * n ≡ 5 * (n * n)) e g in
        omega arith

-- ---- the entries of a row

column_at : (boundaries : List ℕ) (j n i k : ℕ) → i < n → k < 5 → get_or (column boundaries j n) (5 * i + k) 0 ≡ get_or (row_of boundaries i j) k 0
unfolding column
column_at boundaries j zero i k h l = absurd (omega arith)
column_at boundaries j (suc n) i k h l = elim (le_or_lt n i) [
  | inl z ↦
      let e : i ≡ n = omega arith in
      let p : 5 * i + k ≡ length (column boundaries j n) + k = omega (arith, column-length boundaries j n) in
      ap (λ (p : ℕ). get_or (column boundaries j n ++ row_of boundaries n j) p 0) p
      ∙ get_or-append-add (column boundaries j n) (row_of boundaries n j) k 0
      ∙ ap (λ (m : ℕ). get_or (row_of boundaries m j) k 0) (sym e)
  | inr z ↦
      get_or-append (column boundaries j n) (row_of boundaries n j) 0 (5 * i + k) (omega (arith, column-length boundaries j n))
      ∙ column_at boundaries j n i k z l
]

rows_at : (boundaries : List ℕ) (n i j k : ℕ) → i < j → j < n → k < 5
    → get_or (separation_rows boundaries n) (length (separation_rows boundaries j) + (5 * i + k)) 0 ≡ get_or (row_of boundaries i j) k 0
unfolding separation_rows
rows_at boundaries zero i j k h l m = absurd (omega arith)
rows_at boundaries (suc n) i j k h l m = elim (le_or_lt n j) [
  | inl z ↦
      let e : n ≡ j = omega arith in
      ap (λ (q : ℕ). get_or (separation_rows boundaries q ++ column boundaries q q) (length (separation_rows boundaries j) + (5 * i + k)) 0) e
      ∙ get_or-append-add (separation_rows boundaries j) (column boundaries j j) (5 * i + k) 0
      ∙ column_at boundaries j j i k h m
  | inr z ↦
      get_or-append (separation_rows boundaries n) (column boundaries n n) 0 (length (separation_rows boundaries j) + (5 * i + k)) (omega (arith, rows-room boundaries j n z))
      ∙ rows_at boundaries n i j k h z m
]

-- entry k of the row of boundaries i and j, and that it stands within the rows
module _ (boundaries : List ℕ) (n i j k : ℕ) (h : i < j) (l : j < n) (m : k < 5) where
  pub row_at_lem : get_or (separation_rows boundaries n) (numbers_per_separation * (pair_count j + i) + k) 0 ≡ get_or (row_of boundaries i j) k 0
  row_at_lem =
      let e : numbers_per_separation * (pair_count j + i) + k ≡ length (separation_rows boundaries j) + (5 * i + k) = place (pair_count j) (length (separation_rows boundaries j)) (rows-length boundaries j) in
      ap (λ (p : ℕ). get_or (separation_rows boundaries n) p 0) e ∙ rows_at boundaries n i j k h l m
    where
      place : (c r : ℕ) → r ≡ 5 * c → 5 * (c + i) + k ≡ r + (5 * i + k)
      place c r e = omega arith

  pub row_within : numbers_per_separation * (pair_count j + i) + k < length (separation_rows boundaries n)
  row_within = by (pair_count j) (length (separation_rows boundaries j)) (rows-length boundaries j) (rows-room boundaries j n l)
    where
      by : (c r : ℕ) → r ≡ 5 * c → r + 5 * j ≤ length (separation_rows boundaries n) → 5 * (c + i) + k < length (separation_rows boundaries n)
      by c r e f = omega arith

-- ---- an accepted call

none_found : (a b c d : Option ℕ) (n : ℕ) → (first_refusal (refusal 1 a ∷ refusal 3 b ∷ refusal 7 c ∷ refusal 10 d ∷ []) n).number ≡ 0
    → (a ≡ None) × (c ≡ None) × (d ≡ None) × ((first_refusal (refusal 1 a ∷ refusal 3 b ∷ refusal 7 c ∷ refusal 10 d ∷ []) n).value ≡ n)
none_found None None None None n h = (refl, refl, refl, refl)
none_found None None None (Some p) n h = absurd (omega arith)
none_found None None (Some p) d n h = absurd (omega arith)
none_found None (Some p) c d n h = absurd (omega arith)
none_found (Some p) b c d n h = absurd (omega arith)

module _ (w h : ℕ) (boundaries : List ℕ) (room : ℕ) (success : (list_verdict w h boundaries room).number ≡ 0) where
  abbrev count : ℕ
  count = pair_count (boundary_count boundaries)

  found : (sides_fault w h ≡ None) × (boundaries_fault w h boundaries ≡ None) × (unless (leb (numbers_per_separation * count) room) ≡ None) × ((list_verdict w h boundaries room).value ≡ count)
  unfolding list_verdict
  found =
      none_found (sides_fault w h) (unless (is_whole numbers_per_boundary boundaries)) (boundaries_fault w h boundaries) (unless (leb (numbers_per_separation * count) room))
      count success

  pub listed-pixel : (i : ℕ) → i < boundary_count boundaries → PixelSegment (ends_of_lem boundaries i)
  listed-pixel i l =
      let sides = both (is_side w) (is_side h) (no_fault_lem (is_side w && is_side h) 0 found.0) in
      let fits = none_faulty (λ k. boundary_fits w h (boundary_at boundaries (numbers_per_boundary * k))) (boundary_count boundaries) (unfold boundaries_fault in found.1) i l in
      segment-pixel w h sides.0 sides.1 (ends_of_lem boundaries i) (fits-parts w h (boundary_at boundaries (numbers_per_boundary * i)) fits).0

  pub listed-room : numbers_per_separation * count ≤ room
  listed-room = leb-true (numbers_per_separation * count) room (no_fault_lem (leb (numbers_per_separation * count) room) 0 found.2)

  pub listed-count : (list_verdict w h boundaries room).value ≡ count
  listed-count = found.3
