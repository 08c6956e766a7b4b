-- The ranked list as its numbers, six for a row: how many there are, and rows are written one behind the other. Assumes nothing.
use Prim.Native.Nat.{ℕ, ◌+◌, ◌-◌, ◌*◌, ◌≤◌, ◌<◌}
use native.Mathlib.Numerals.{add-one}
use native.Mathlib.Omega.{arith}
use mathlib.Core.Path.{◌≡◌, refl, sym, ap, ap₂, ◌∙◌}
use mathlib.Core.List.{List, [], ◌∷◌, ◌++◌}
use Rattle.std.proofs.lemmas.List.{take_all}
use lib.ListN.{length, take, drop, length-append, length-drop}
use lib.Seq.{sets, take-suc, length-take-le}
use borrow.Rule.Slice.PartMut.{put_mid}
use Rattle.definitions.specs.Lists.{overwrite}
use Rattle.definitions.specs.Junctions.{Proposal}
use Rattle.laws.specs.ListLaws.Overwritten.{overwrite_more}
use Rattle.ranked_list.specs.RankedList.{Listed, flat_ranked}
use Rattle.ranked_rows.specs.declared.RankedRow.{RankedRow}
use Rattle.ranked_rows.specs.Contract.{row_numbers, row_of}
use Rattle.ranked_rows.proofs.Judging.{row_copied}
use Rattle.ranked_rows.proofs.Numbers.{numbers_append, numbers-length}

pub flat-length : (l : List (Listed Proposal)) → length (flat_ranked l) ≡ 6 * length l
unfolding flat_ranked
flat-length [] = refl
flat-length (r ∷ l) = omega (arith, flat-length l)

-- those of n rows are their first 6 n numbers
pub all_numbers : (rows : List RankedRow) → take (6 * length rows) (row_numbers rows) ≡ row_numbers rows
all_numbers rows = take_all (6 * length rows) (row_numbers rows) (omega (arith, numbers-length rows))

-- ---- row by row

-- the first k rows are written
abbrev pub WrittenTo : List RankedRow → List ℕ → List ℕ → ℕ → Type 0
WrittenTo rows was lent k = lent ≡ overwrite (row_numbers (take k rows)) was

pub written_none : (rows : List RankedRow) (was : List ℕ) → WrittenTo rows was was 0
unfolding row_numbers
written_none rows was = refl

pub written_more : (rows : List RankedRow) (was lent : List ℕ) (k : ℕ) {part : List ℕ} → WrittenTo rows was lent k → k < length rows → 6 * length rows ≤ length was
    → part ≡ row_numbers (row_of rows k ∷ []) → WrittenTo rows was (put_mid (6 * k) (6 * k + 6 - 6 * k) lent part) (k + 1)
written_more rows was lent k {part} h l room e =
    ap (λ n. put_mid (6 * k) (6 * k + n - 6 * k) lent part) (sym six)
    ∙ row_copied lent row (6 * k) (omega (arith, room, long, six)) e
    ∙ ap₂ (λ l n. sets l n row) h place
    ∙ overwrite_more before row was (omega (arith, place, room, six))
    ∙ ap (λ f. overwrite f was) (sym (numbers_append (take k rows) (row_of rows k ∷ [])) ∙ ap row_numbers (sym grown))
  where
    row : List ℕ
    row = row_numbers (row_of rows k ∷ [])

    before : List ℕ
    before = row_numbers (take k rows)

    six : length row ≡ 6
    six = numbers-length (row_of rows k ∷ [])

    place : 6 * k ≡ length before
    place = omega (arith, numbers-length (take k rows), length-take-le k rows (omega arith))

    long : length lent ≡ length was
    long = omega (arith, ap length h, length-append before (drop (length before) was), length-drop (length before) was, place, room)

    grown : take (k + 1) rows ≡ take k rows ++ (row_of rows k ∷ [])
    grown = ap (λ n. take n rows) (add-one k) ∙ take-suc rows k _ l
