-- Rows stored one behind the other: a row behind a column, a column behind the rows. The invariants of the two loops say how far the list is filled
-- (`ColumnFilled`, `RowsFilled`); each is kept because a list that is filled up to a place and then from that place on is filled with both. Assumes nothing.
use Prim.Native.Nat.{ℕ, suc, ◌+◌, ◌*◌, ◌≤◌, ◌<◌, zero-le}
use native.Mathlib.Nat.{zero-add, le_antisymm}
use native.Mathlib.Omega.{arith}
use mathlib.Core.Path.{◌≡◌, refl, sym, ap, ◌∙◌, subst}
use mathlib.Core.Bool.{not}
use mathlib.Core.List.{List, [], ◌∷◌}
use lib.Dec.{T}
use lib.ListN.{length}
use lib.Seq.{sets}
use lib.Ieee.{Float, binary64, to_bits, is_nan}
use Rattle.definitions.specs.Grid.{Segment}
use Rattle.definitions.specs.RampGeometry.{segment_distance}
use Rattle.laws.specs.ListLaws.Overwritten.{sets_append}
use Rattle.laws.specs.FloatLaws.Pixels.{PixelSegment}
use Rattle.laws.specs.FloatLaws.FiniteSeparations.{separation-clear}
use Rattle.separations.specs.Distance.{Fraction, exact_square}
use Rattle.separations.specs.Listing.{ends_of_lem, separation_row, column, separation_rows, pair_count}
use Rattle.separations.specs.ListingLaws.{column-length, rows-length, rows-room}

-- what is stored for a pair
pub row_is : {s t s' t' : Segment} {x : Float} {f : Fraction} (i j : ℕ) → x ≡ segment_distance s t → f ≡ exact_square s t → s ≡ s' → t ≡ t'
    → (i ∷ j ∷ to_bits binary64 x ∷ f.num ∷ f.den ∷ []) ≡ separation_row s' t' i j
unfolding separation_row
row_is {s} {t} i j ex ef es et =
    (λ k. i ∷ j ∷ to_bits binary64 (ex k) ∷ (ef k).num ∷ (ef k).den ∷ [])
    ∙ (λ k. i ∷ j ∷ to_bits binary64 (segment_distance (es k) (et k)) ∷ (exact_square (es k) (et k)).num ∷ (exact_square (es k) (et k)).den ∷ [])

-- a separation is no NaN
pub no_nan : {s t : Segment} {x : Float} → PixelSegment s → PixelSegment t → x ≡ segment_distance s t → T (not (is_nan x))
unfolding is_nan
no_nan {s} {t} hs ht e = subst (λ (x : Float). T (not (is_nan x))) (sym (e ∙ (separation-clear hs ht).sign.2)) tt

-- ---- a column

abbrev row_of : List ℕ → ℕ → ℕ → List ℕ
row_of boundaries i j = separation_row (ends_of_lem boundaries i) (ends_of_lem boundaries j) i j

-- one row more behind the first n of a column
column_more : (boundaries output : List ℕ) (k j n : ℕ) → sets (sets output k (column boundaries j n)) (k + n * 5) (row_of boundaries n j) ≡ sets output k (column boundaries j (suc n))
unfolding column
column_more boundaries output k j n =
    let e : k + n * 5 ≡ k + length (column boundaries j n) = omega (arith, column-length boundaries j n) in
    ap (λ p. sets (sets output k (column boundaries j n)) p (row_of boundaries n j)) e ∙ sym (sets_append output k (column boundaries j n) (row_of boundaries n j))

-- rows are stored from k on, those of the first i so far
pub record ColumnFilled (boundaries output₀ : List ℕ) (k j : ℕ) (output : List ℕ) (i : ℕ) : Type 0 where
  pub upto : i ≤ j
  pub is : output ≡ sets output₀ k (column boundaries j i)
  pub long : length output ≡ length output₀

pub column-starts : (boundaries output : List ℕ) (k j : ℕ) → ColumnFilled boundaries output k j output 0
unfolding column
column-starts boundaries output k j = record { upto = zero-le; is = refl; long = refl }

pub column-goes_on : {boundaries output₀ output output' : List ℕ} {k j i : ℕ} → ColumnFilled boundaries output₀ k j output i → i < j
    → output' ≡ sets output (k + i * 5) (row_of boundaries i j) → length output' ≡ length output → ColumnFilled boundaries output₀ k j output' (i + 1)
column-goes_on {boundaries} {output₀} {output} {output'} {k} {j} {i} h l e s =
    record {
      upto = omega arith;
      is =
          e ∙ ap (λ o. sets o (k + i * 5) (row_of boundaries i j)) h.is ∙ column_more boundaries output₀ k j i
          ∙ ap (λ n. sets output₀ k (column boundaries j n)) next;
      long = s ∙ h.long;
    }
  where
    next : suc i ≡ i + 1
    next = omega arith

-- ---- the rows

-- a column more
rows_more : (boundaries output : List ℕ) (n at : ℕ) → at ≡ length (separation_rows boundaries n)
    → sets (sets output 0 (separation_rows boundaries n)) at (column boundaries n n) ≡ sets output 0 (separation_rows boundaries (suc n))
unfolding separation_rows
rows_more boundaries output n at e =
    ap (λ p. sets (sets output 0 (separation_rows boundaries n)) p (column boundaries n n)) (e ∙ sym (zero-add (length (separation_rows boundaries n))))
    ∙ sym (sets_append output 0 (separation_rows boundaries n) (column boundaries n n))

-- the rows of the first j boundaries are stored
pub record RowsFilled (boundaries output₀ : List ℕ) (n : ℕ) (output : List ℕ) (j : ℕ) : Type 0 where
  pub upto : j ≤ n
  pub is : output ≡ sets output₀ 0 (separation_rows boundaries j)
  pub long : length output ≡ length output₀

pub rows_start : (boundaries output : List ℕ) (n : ℕ) → RowsFilled boundaries output n output 0
unfolding separation_rows
rows_start boundaries output n = record { upto = zero-le; is = refl; long = refl }

pub next_room : {boundaries output₀ output : List ℕ} {n j k : ℕ} → RowsFilled boundaries output₀ n output j → j < n → length (separation_rows boundaries n) ≤ length output₀
    → k ≡ pair_count j → 5 * k + 5 * j ≤ length output
next_room {boundaries} {output₀} {output} {n} {j} {k} h l r e = omega (arith, h.long, e, rows-length boundaries j, rows-room boundaries j n l)

pub rows-go_on : {boundaries output₀ output output' : List ℕ} {n j k : ℕ} → RowsFilled boundaries output₀ n output j → j < n → k ≡ pair_count j
    → output' ≡ sets output (5 * k) (column boundaries j j) → length output' ≡ length output → RowsFilled boundaries output₀ n output' (j + 1)
rows-go_on {boundaries} {output₀} {output} {output'} {n} {j} {k} h l c e s =
    record {
      upto = omega arith;
      is =
          e ∙ ap (λ o. sets o (5 * k) (column boundaries j j)) h.is ∙ rows_more boundaries output₀ j (5 * k) (ap (λ m. 5 * m) c ∙ sym (rows-length boundaries j))
          ∙ ap (λ m. sets output₀ 0 (separation_rows boundaries m)) next;
      long = s ∙ h.long;
    }
  where
    next : suc j ≡ j + 1
    next = omega arith

pub rows_end : {boundaries output₀ output : List ℕ} {n j : ℕ} → RowsFilled boundaries output₀ n output j → n ≤ j → output ≡ sets output₀ 0 (separation_rows boundaries n)
rows_end {boundaries} {output₀} {output} {n} {j} h l =
    let e : j ≡ n = le_antisymm h.upto l in
    h.is ∙ ap (λ m. sets output₀ 0 (separation_rows boundaries m)) e
