-- "Old kind 1 sheets with equal lists convert to kind 3 and give equal rows" (document 02, request 12), over the definitions: the conversion states the same pass, sides
-- and lists, for any limit of cells, so that every answer to it is the same. Assumes nothing.
use Rattle.std.specs.Prelude.{ℕ, zero, suc, ◌*◌, ◌^◌, ◌<◌, ◌≤◌, ◌≡◌, refl, true, ◌&&◌, List, [], ◌∷◌, leb, eqb, length}
use Rattle.std.proofs.Common.{arith, ap, subst, ◌∙◌, leb-true, eqb-true}
use Rattle.std.proofs.lemmas.Bool.{false≢true}
use Rattle.definitions.specs.Limits.{is_side, max_entries, numbers_per_boundary, numbers_per_anchor}
use Rattle.definitions.specs.SheetNumber.{Read, found, failed, number}
use Rattle.definitions.specs.Sheet.{Reader, give, check, and_then, times, judged, kind, cell, area, entries, has_spans, spans_held, endpoints_of, end, Sheet, well_formed, reading, sheet, read_sheet}
use Rattle.laws.specs.ListLaws.Lists.{All, done, more}
use Rattle.laws.specs.ListLaws.Tests.{both}
use Rattle.laws.specs.SheetReading.SheetLaws.{not_found, number-below, times-length}
use Rattle.laws.specs.SheetReading.SheetSizes.{Gives, gives_any, gives_value, gives_check, gives_then}
use Rattle.results.proofs.WrittenReads.{Words}
use Rattle.map_sheets.specs.SheetBytes.{sheet_bytes}
use Rattle.map_sheets.specs.Converting.{same_numbers, is_one_list}
use Rattle.map_sheets.proofs.WrittenReads.{Writable, written-reads}

-- ---- a sheet that was read can be written

gives_number : Gives number (λ n. n < 2 ^ 64)
gives_number = record { holds = λ offset bytes h. number-below offset bytes h }

gives_cell : Gives cell (λ n. n ≤ 255)
unfolding cell judged
gives_cell = record { holds = λ offset bytes h. outer offset (number offset bytes) h }
  where
    outer : (offset : ℕ) (r : Read ℕ) {value next : ℕ} {rest : List ℕ} → and_then r (λ v. check (leb v 255) 14 offset v) ≡ found value next rest → value ≤ 255
    outer offset (found v o m) q =
        (gives_check (λ n. n ≤ 255) (leb v 255) 14 offset v (leb-true v 255)).holds o m q
    outer offset (failed refusal place) q = absurd (not_found q)

-- so many values, each of which has it
record Many (P : ℕ → Type 0) (n : ℕ) (l : List ℕ) : Type 0 where
  pub every : All P l
  pub long : length l ≡ n

gives_all : (item : Reader ℕ) (P : ℕ → Type 0) → Gives item P → (n : ℕ) → Gives (times n item) (All P)
unfolding times
gives_all item P k zero = gives_value (All P) [] done
gives_all item P k (suc n) =
    gives_then item (λ value offset bytes. and_then (times n item offset bytes) (λ values. give (value ∷ values))) P (All P) k
    (λ value p. gives_then (times n item) (λ values. give (value ∷ values)) (All P) (All P) (gives_all item P k n) (λ values q. gives_value (All P) (value ∷ values) (more p q)))

gives_many : (item : Reader ℕ) (P : ℕ → Type 0) → Gives item P → (n : ℕ) → Gives (times n item) (Many P n)
gives_many item P k n =
    record { holds = λ offset bytes h. record { every = (gives_all item P k n).holds offset bytes h; long = times-length item n offset bytes h } }

record Entries (size : ℕ) (l : List ℕ) : Type 0 where
  pub words : Words l
  pub count : ℕ
  pub few : count ≤ max_entries
  pub long : length l ≡ count * size

gives_entries : (size : ℕ) → Gives (entries size) (Entries size)
unfolding entries
gives_entries size =
    gives_then number _ _ _ gives_number
    (λ written _. gives_then (check (leb written max_entries) 3 0 written) _ (λ count. count ≤ max_entries) _
    (gives_check (λ count. count ≤ max_entries) (leb written max_entries) 3 0 written (leb-true written max_entries))
    (λ count few. record { holds = λ offset bytes h. entered count few ((gives_many number (λ n. n < 2 ^ 64) gives_number (count * size)).holds offset bytes h) }))
  where
    entered : (count : ℕ) → count ≤ max_entries → {l : List ℕ} → Many (λ n. n < 2 ^ 64) (count * size) l → Entries size l
    entered count few M = record { words = M.every; count = count; few = few; long = M.long }

record Area (limit w h count : ℕ) : Type 0 where
  pub sides : (is_side w && is_side h && leb (w * h) limit) ≡ true
  pub is : count ≡ w * h

gives_area : (limit w h : ℕ) → Gives (area limit w h) (Area limit w h)
gives_area limit w h = gives_check (Area limit w h) (is_side w && is_side h && leb (w * h) limit) 1 0 (w * h) (λ q. record { sides = q; is = refl })

gives_sheet : (limit : ℕ) → Gives (sheet limit) (Writable limit)
unfolding sheet
gives_sheet limit =
    gives_then kind _ _ _ (gives_any kind) (λ written _.
    gives_then number _ _ _ gives_number (λ pass p.
    gives_then number _ _ _ gives_number (λ w wide.
    gives_then number _ _ _ gives_number (λ h high.
    gives_then (area limit w h) _ _ _ (gives_area limit w h) (λ n a.
    gives_then (times n cell) _ _ _ (gives_many cell (λ n. n ≤ 255) gives_cell n) (λ cells l.
    gives_then (spans_held (has_spans written)) _ _ _ (gives_any (spans_held (has_spans written))) (λ spans s.
    gives_then (entries numbers_per_boundary) _ _ _ (gives_entries numbers_per_boundary) (λ boundaries b.
    gives_then (entries numbers_per_anchor) _ _ _ (gives_entries numbers_per_anchor) (λ anchors c.
    gives_then end _ _ _ (gives_any end) (λ _ _.
    gives_value (Writable limit) _ (record {
      pass = p;
      width = wide;
      height = high;
      sides = a.sides;
      area = l.long ∙ a.is;
      cells = l.every;
      boundaries = b.words;
      boundaries-few = omega (arith, b.few, b.long);
      boundaries-whole = omega (arith, b.long);
      anchors = c.words;
      anchors-few = omega (arith, c.few, c.long);
      anchors-whole = omega (arith, c.long);
    })))))))))))

pub read-writable : (limit : ℕ) (bytes : List ℕ) {s : Sheet} → read_sheet limit bytes ≡ well_formed s → Writable limit s
unfolding read_sheet
read-writable limit bytes {s} h = go (sheet limit 0 bytes) refl h
  where
    go : (r : Read Sheet) → sheet limit 0 bytes ≡ r → reading r ≡ well_formed s → Writable limit s
    go (found t o rest) e q =
        let same : t ≡ s = cc in
        subst (Writable limit) same ((gives_sheet limit).holds 0 bytes e)
    go (failed refusal place) e q = absurd (let z : ◌≡◌ {A = ℕ} 0 1 = cc in omega arith)

-- ---- the conversion

pub same_numbers_lem : (l m : List ℕ) → same_numbers l m ≡ true → l ≡ m
unfolding same_numbers
same_numbers_lem [] [] h = refl
same_numbers_lem [] (y ∷ m) h = absurd (false≢true h)
same_numbers_lem (x ∷ l) [] h = absurd (false≢true h)
same_numbers_lem (x ∷ l) (y ∷ m) h =
    let p = both (eqb x y) (same_numbers l m) h in
    ap (λ n. n ∷ l) (eqb-true x y p.0) ∙ ap (λ r. y ∷ r) (same_numbers_lem l m p.1)

-- what states one list and was read, and the sheet of kind 3 that is written of it, state the same
pub converted-states : (limit : ℕ) (bytes : List ℕ) {s : Sheet} → read_sheet limit bytes ≡ well_formed s → is_one_list s ≡ true
    → read_sheet limit (sheet_bytes 3 s) ≡ well_formed s
unfolding is_one_list
converted-states limit bytes {s} h one = written-reads limit s (read-writable limit bytes h) (same_numbers_lem s.spans (endpoints_of s.boundaries) one)
