-- Request 13, one accepted run: boundaries in are kept and removed together, and the squared lengths of its rows are few. The arguments: every boundary's number is among the
-- removed or gives one row; a row's line lies on the map, whose sides are at most 8,192 pixels, and sorting alters no sum. Assumes nothing.
use Prim.Native.Nat.{ℕ, zero, suc, ◌+◌, ◌*◌, ◌-◌, ◌≤◌}
use native.Mathlib.Omega.{arith}
use Rattle.std.proofs.Common.{mul-le-mul, ◌∙◌}
use Rattle.std.specs.Prelude.{◌≡◌, Bool, not, cond, leb}
use Rattle.std.proofs.Math.Path.{refl, ap₂}
use Rattle.std.proofs.Math.Bool.{true, false}
use mathlib.Core.List.{List, [], ◌∷◌, ◌++◌}
use Rattle.std.proofs.Math.ListN.{length, length-append}
use Rattle.definitions.specs.Scan.{bit, count_below, collect, to_list, only_if, member}
use Rattle.definitions.specs.Sort.{insert, sort_onto, sort, list_lt}
use Rattle.definitions.specs.Grid.{Map, Segment, canonical, boundary_of}
use Rattle.definitions.specs.Context.{context_of}
use Rattle.definitions.specs.Rows.{Row, row_key, rows_from, removed_of, rows_of}
use Rattle.laws.specs.ListLaws.SortedMembers.{length-sort}
use Rattle.laws.specs.FloatLaws.Pixels.{max_pixel, PixelSegment, canonical-pixel}
use Rattle.laws.specs.FloatLaws.MapPixels.{OnMap, map-pixel}
use Rattle.report.specs.Runs.{square_apart, squared_length, squared_lengths, figures_from, figures_of}

-- ---- "and equals their sum"

module _ {A : Type 0} (keep : ℕ → Bool) (f : ℕ → A) where
  length-picked : (n : ℕ) → length (collect n (λ i. only_if (keep i) (f i))) ≡ count_below n keep
  unfolding collect count_below
  length-picked zero = refl
  length-picked (suc n) = length-append (collect n (λ i. only_if (keep i) (f i))) (to_list (only_if (keep n) (f n))) ∙ ap₂ ◌+◌ (length-picked n) (one (keep n))
    where
      one : (b : Bool) → length (to_list (only_if b (f n))) ≡ bit b
      one true = refl
      one false = refl

count-both : (n : ℕ) (gone : ℕ → Bool) → count_below n (λ i. not (gone i)) + count_below n gone ≡ n
unfolding count_below
count-both zero gone = refl
count-both (suc n) gone = go (gone n) (count-both n gone)
  where
    go : (b : Bool) → count_below n (λ i. not (gone i)) + count_below n gone ≡ n → count_below n (λ i. not (gone i)) + bit (not b) + (count_below n gone + bit b) ≡ suc n
    go true h = omega arith
    go false h = omega arith

-- "Boundaries in [..] equals their sum": of one run
pub in_is_sum : (pass : ℕ) (M : Map) → (figures_of pass M).boundaries ≡ (figures_of pass M).kept + (figures_of pass M).removed
unfolding figures_of figures_from rows_of rows_from
in_is_sum pass M =
    let gone : ℕ → Bool = λ i. member i (removed_of pass M) in
    let row : ℕ → Row = λ i. record { number = i; line = canonical (boundary_of M i).endpoints } in
    omega (
      arith,
      length-sort (λ r s. list_lt (row_key r) (row_key s)) (collect (length M.boundaries) (λ i. only_if (not (gone i)) (row i))),
      length-picked (λ i. not (gone i)) row (length M.boundaries),
      count-both (length M.boundaries) gone,
    )

-- ---- squared lengths

-- the most of one row, 2^27: two sides of 8,192 pixels
abbrev pub max_square : ℕ
max_square = 2 * (max_pixel * max_pixel)

apart-few : (a b : ℕ) → a ≤ max_pixel → b ≤ max_pixel → square_apart a b ≤ max_pixel * max_pixel
apart-few a b h k = go (leb a b)
  where
    go : (t : Bool) → cond t ((b - a) * (b - a)) ((a - b) * (a - b)) ≤ max_pixel * max_pixel
    go true =
        let d : b - a ≤ max_pixel = omega arith in
        mul-le-mul d d
    go false =
        let d : a - b ≤ max_pixel = omega arith in
        mul-le-mul d d

length-few : (s : Segment) → PixelSegment s → squared_length s ≤ max_square
length-few s h =
    omega (arith, apart-few s.a.x s.b.x h.first.x-le h.second.x-le, apart-few s.a.y s.b.y h.first.y-le h.second.y-le)

pub squared-append : (l m : List Row) → squared_lengths (l ++ m) ≡ squared_lengths l + squared_lengths m
unfolding squared_lengths
squared-append [] m = omega arith
squared-append (r ∷ l) m = omega (arith, squared-append l m)

module _ (lt : Row → Row → Bool) where
  squared-insert : (r : Row) (l : List Row) → squared_lengths (insert lt r l) ≡ squared_length r.line + squared_lengths l
  unfolding insert squared_lengths
  squared-insert r [] = refl
  squared-insert r (s ∷ l) = go (lt r s) (squared-insert r l)
    where
      go : (b : Bool) → squared_lengths (insert lt r l) ≡ squared_length r.line + squared_lengths l
          → squared_lengths (cond b (r ∷ s ∷ l) (s ∷ insert lt r l)) ≡ squared_length r.line + (squared_length s.line + squared_lengths l)
      go true h = refl
      go false h = omega arith

  squared-onto : (acc l : List Row) → squared_lengths (sort_onto lt acc l) ≡ squared_lengths acc + squared_lengths l
  unfolding sort_onto squared_lengths
  squared-onto acc [] = omega arith
  squared-onto acc (r ∷ l) = omega (arith, squared-onto (insert lt r acc) l, squared-insert r acc)

  squared-sort : (l : List Row) → squared_lengths (sort lt l) ≡ squared_lengths l
  unfolding sort squared_lengths
  squared-sort l = omega (arith, squared-onto [] l)

squared-collect : (keep : ℕ → Bool) (row : ℕ → Row) → ((i : ℕ) → squared_length (row i).line ≤ max_square) → (n : ℕ)
    → squared_lengths (collect n (λ i. only_if (keep i) (row i))) ≤ n * max_square
unfolding collect squared_lengths
squared-collect keep row h zero = omega arith
squared-collect keep row h (suc n) =
    omega (arith, squared-append (collect n (λ i. only_if (keep i) (row i))) (to_list (only_if (keep n) (row n))), squared-collect keep row h n, one (keep n))
  where
    one : (b : Bool) → squared_lengths (to_list (only_if b (row n))) ≤ max_square
    one true = omega (arith, h n)
    one false = omega arith

pub squared-few : (pass : ℕ) (M : Map) → OnMap M → squared_lengths (rows_of pass M) ≤ length M.boundaries * max_square
unfolding rows_of rows_from context_of
squared-few pass M h =
    let keep : ℕ → Bool = λ i. not (member i (removed_of pass M)) in
    let row : ℕ → Row = λ i. record { number = i; line = canonical (boundary_of M i).endpoints } in
    omega (
      arith,
      squared-sort (λ r s. list_lt (row_key r) (row_key s)) (collect (length M.boundaries) (λ i. only_if (keep i) (row i))),
      squared-collect keep row (λ i. length-few (row i).line (canonical-pixel ((map-pixel h).ends i))) (length M.boundaries),
    )
