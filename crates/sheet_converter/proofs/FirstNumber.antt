-- The kind that the bytes begin with, and which reading is then the converter's. Assumes nothing.
use Prim.Native.Nat.{ℕ}
use mathlib.Core.Path.{◌≡◌, refl, sym, ap, ◌∙◌}
use mathlib.Core.Bool.{Bool, true, false, not, cond}
use mathlib.Core.List.{List}
use lib.Dec.{eqb}
use borrow.Author.Tests.{eqb-true, not-false}
use Rattle.definitions.specs.SheetNumber.{Read, found, failed, number}
use Rattle.definitions.specs.Sheet.{give, and_then, judged, is_map_kind, kind, Reading, refused, read_sheet, plain_cell_limit}
use Rattle.laws.specs.SheetReading.SheetLaws.{not_found}
use Rattle.sheet.specs.Parts.{Opening, opening}
use Rattle.map_sheets.specs.Converting.{of_kind1, read_kind1}
use Rattle.sheets_equal.proofs.ReaderBytes.{judged_is}
use Rattle.sheets_equal.proofs.SheetsEqual.{kind_in}
use Rattle.sheet_converter.specs.Contract.{is_other}

-- ---- the reading

by_kind : (r : Read ℕ) (s : Reading) → of_kind1 r s ≡ cond (is_other r) (refused 14 0) s
by_kind (found value next rest) s = go (eqb value 1)
  where
    go : (t : Bool) → cond t s (refused 14 0) ≡ cond (not t) (refused 14 0) s
    go true = refl
    go false = refl
by_kind (failed refusal place) s = refl

pub read-other : (bytes : List ℕ) → is_other (number 0 bytes) ≡ true → read_kind1 bytes ≡ refused 14 0
unfolding read_kind1
read-other bytes h = by_kind (number 0 bytes) (read_sheet plain_cell_limit bytes) ∙ ap (λ t. cond t (refused 14 0) (read_sheet plain_cell_limit bytes)) h

pub read_same : (bytes : List ℕ) → is_other (number 0 bytes) ≡ false → read_kind1 bytes ≡ read_sheet plain_cell_limit bytes
unfolding read_kind1
read_same bytes h = by_kind (number 0 bytes) (read_sheet plain_cell_limit bytes) ∙ ap (λ t. cond t (refused 14 0) (read_sheet plain_cell_limit bytes)) h

-- ---- the kind that was found

pub opening-number : (bytes : List ℕ) {o : Opening} {at : ℕ} {rest : List ℕ} → opening 0 bytes ≡ found o at rest → kind_in (number 0 bytes) ≡ o.kind
unfolding opening kind
opening-number bytes {o} {at} {rest} h = outer (kind 0 bytes) refl h
  where
    inner : (written : ℕ) (r : Read ℕ) → and_then r (λ pass. give (record { kind = written; pass = pass })) ≡ found o at rest → written ≡ o.kind
    inner written (found pass next more) q =
        let same : record { kind = written; pass = pass } ≡ o = cc in
        ap (λ (p : Opening). p.kind) same
    inner written (failed refusal place) q = absurd (not_found q)

    outer : (r : Read ℕ) → kind 0 bytes ≡ r
        → and_then r (λ written o r. and_then (number o r) (λ pass. give (record { kind = written; pass = pass }))) ≡ found o at rest → kind_in (number 0 bytes) ≡ o.kind
    outer (found written next more) e q = ap kind_in (judged_is is_map_kind 0 bytes e).0 ∙ inner written (number next more) q
    outer (failed refusal place) e q = absurd (not_found q)

pub opened_1 : (bytes : List ℕ) {o : Opening} {at : ℕ} {rest : List ℕ} → opening 0 bytes ≡ found o at rest → is_other (number 0 bytes) ≡ false → o.kind ≡ 1
unfolding opening kind judged
opened_1 bytes {o} {at} {rest} h n = go (number 0 bytes) refl
  where
    go : (r : Read ℕ) → number 0 bytes ≡ r → o.kind ≡ 1
    go (found value next more) e =
        let one : eqb value 1 ≡ true = not-false (eqb value 1) (sym (ap is_other e) ∙ n) in
        sym (opening-number bytes h) ∙ ap kind_in e ∙ eqb-true value 1 one
    go (failed refusal place) e = absurd (not_found (sym (fails e) ∙ h))
      where
        fails : number 0 bytes ≡ failed refusal place → opening 0 bytes ≡ failed refusal place
        fails e = rw e refl
