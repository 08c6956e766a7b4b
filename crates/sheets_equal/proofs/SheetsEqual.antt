-- "Two accepted sheets of kind 1 are then equal bytes exactly when they state the same pass, sides and map lists" (document 02, request 3), over the
-- definitions and for any limit of cells; since request 12 the same of two sheets of kind 3. An accepted sheet is the shortest form of what it states, byte for
-- byte, for its kind (`read-written`); the rest follows. Two sheets of different kinds may state the same (a sheet of kind 1 and its conversion), so that the
-- theorem asks for equal kinds. What is assumed: the bytes are below 256.
use Rattle.std.specs.Prelude.{ℕ, ◌*◌, ◌/◌, ◌≡◌, refl, ◌↔◌, ◌⊎◌, Bool, ◌&&◌, ◌||◌, true, false, List, [], ◌++◌, leb, eqb, length}
use Rattle.std.proofs.Common.{arith, sym, ap, ap₂, subst, ◌∙◌, inl, inr, append_assoc, append-nil, eqb-true}
use Rattle.definitions.specs.Limits.{is_side, max_entries, numbers_per_span, numbers_per_boundary, numbers_per_anchor}
use Rattle.definitions.specs.Scan.{concat_map}
use Rattle.definitions.specs.SheetNumber.{Read, found, failed, number}
use Rattle.definitions.specs.Sheet.{Reader, give, check, and_then, ◌>>=◌, times, is_map_kind, kind, cell, area, entries, has_spans, spans_held, spans_stated, end, Sheet, well_formed, refused, reading, sheet, read_sheet}
use Rattle.laws.specs.ListLaws.Lists.{all_split}
use Rattle.laws.specs.SheetReading.SheetLaws.{not_found, times-length}
use Rattle.results.specs.Shortest.{shortest, list_bytes}
use Rattle.map_sheets.specs.SheetBytes.{spans_bytes, sheet_bytes}
use Rattle.sheets_equal.specs.NumberBytes.{Bytes}
use Rattle.sheets_equal.proofs.ReaderBytes.{Reads, reads-number, reads-give, reads_then, reads-check-then, reads_times, reads_end, judged_is, Ends, ends-then, ends-end}

-- ---- the parts

pub reads-cell : Reads [] cell shortest
unfolding cell
reads-cell = record { whole = λ offset bytes B h. reads-number.whole offset bytes B (judged_is (λ value. leb value 255) offset bytes h).0 }

pub reads-kind : Reads [] kind shortest
unfolding kind
reads-kind = record { whole = λ offset bytes B h. reads-number.whole offset bytes B (judged_is is_map_kind offset bytes h).0 }

-- the count that was written is that of the entries
reads-entries : (size : ℕ) → ((n : ℕ) → n * size / size ≡ n) → Reads [] (entries size) (list_bytes size)
unfolding entries list_bytes
reads-entries size exact =
    reads_then [] number (λ written offset bytes. and_then (check (leb written max_entries) 3 0 written offset bytes) (λ count. times (count * size) number)) shortest (list_bytes size) reads-number
    (λ written. reads-check-then (shortest written) (leb written max_entries) 3 0 written (λ count. times (count * size) number) (list_bytes size) (λ few. counted written))
  where
    counted : (n : ℕ) → Reads (shortest n) (times (n * size) number) (list_bytes size)
    counted n = record { whole = λ offset bytes B h. go offset bytes B h }
      where
        go : (offset : ℕ) (bytes : List ℕ) → Bytes bytes → {l : List ℕ} {next : ℕ} {rest : List ℕ} → times (n * size) number offset bytes ≡ found l next rest
            → shortest n ++ bytes ≡ shortest (length l / size) ++ concat_map shortest l ++ rest
        go offset bytes B {l} {next} {rest} h =
            let long : length l ≡ n * size = times-length number (n * size) offset bytes h in
            let count : n ≡ length l / size = sym (ap (λ m. m / size) long ∙ exact n) in
            ap (λ m. shortest n ++ m) ((reads_times number shortest reads-number (n * size)).whole offset bytes B h) ∙ sym (append_assoc (shortest n) (concat_map shortest l) rest)
            ∙ ap (λ m. shortest m ++ concat_map shortest l ++ rest) count

pub reads-spans : (own : Bool) → Reads [] (spans_held own) (spans_bytes own)
reads-spans true = reads-entries numbers_per_span (λ n. omega arith)
reads-spans false = reads-give [] (spans_bytes false) [] refl

-- ---- the sheet

abbrev made : Bool → ℕ → ℕ → ℕ → List ℕ → List ℕ → List ℕ → List ℕ → Sheet
made own pass width height cells spans boundaries anchors =
    record {
      pass = pass;
      width = width;
      height = height;
      cells = cells;
      spans = spans_stated own spans boundaries;
      boundaries = boundaries;
      anchors = anchors;
    }

-- what is written of the spans that were read is what is written of those that are stated
written-spans : (own : Bool) (spans boundaries : List ℕ) → spans_bytes own spans ≡ spans_bytes own (spans_stated own spans boundaries)
written-spans true spans boundaries = refl
written-spans false spans boundaries = refl

-- what `sheet` reads behind the sides, for so many cells
unfoldable behind_sides : Bool → ℕ → ℕ → ℕ → ℕ → Reader Sheet
behind_sides own pass width height count = do
  cells ← times count cell
  spans ← spans_held own
  boundaries ← entries numbers_per_boundary
  anchors ← entries numbers_per_anchor
  _ ← end
  give (made own pass width height cells spans boundaries anchors)

reads-behind : (written pass width height count : ℕ)
    → Reads (shortest written ++ shortest pass ++ shortest width ++ shortest height) (behind_sides (has_spans written) pass width height count) (sheet_bytes written)
unfolding behind_sides sheet_bytes
reads-behind written pass width height count =
    let own = has_spans written in
    let front = shortest written ++ shortest pass ++ shortest width ++ shortest height in
    reads_then _ (times count cell) _ (concat_map shortest) (sheet_bytes written) (reads_times cell shortest reads-cell count)
    (λ cells. reads_then _ (spans_held own) _ (spans_bytes own) (sheet_bytes written) (reads-spans own)
    (λ spans. reads_then _ (entries numbers_per_boundary) _ (list_bytes numbers_per_boundary) (sheet_bytes written) (reads-entries numbers_per_boundary (λ n. omega arith))
    (λ boundaries. reads_then _ (entries numbers_per_anchor) _ (list_bytes numbers_per_anchor) (sheet_bytes written) (reads-entries numbers_per_anchor (λ n. omega arith))
    (λ anchors. reads_end _ (λ _. give (made own pass width height cells spans boundaries anchors)) (sheet_bytes written)
    (reads-give _ (sheet_bytes written) (made own pass width height cells spans boundaries anchors)
    (ap (λ l. front ++ concat_map shortest cells ++ l ++ list_bytes numbers_per_boundary boundaries ++ list_bytes numbers_per_anchor anchors) (written-spans own spans boundaries)))))))

-- what `sheet` reads behind the kind
unfoldable behind_kind : ℕ → ℕ → Reader Sheet
unfolding behind_sides
behind_kind cellLimit written = do
  pass ← number
  width ← number
  height ← number
  count ← area cellLimit width height
  behind_sides (has_spans written) pass width height count

reads-behind_kind : (cellLimit written : ℕ) → Reads (shortest written) (behind_kind cellLimit written) (sheet_bytes written)
unfolding behind_kind
reads-behind_kind cellLimit written =
    reads_then _ number _ shortest (sheet_bytes written) reads-number
    (λ pass. reads_then _ number _ shortest (sheet_bytes written) reads-number
    (λ width. reads_then _ number _ shortest (sheet_bytes written) reads-number
    (λ height. reads-check-then _ (is_side width && is_side height && leb (width * height) cellLimit) 1 0 (width * height)
    (behind_sides (has_spans written) pass width height) (sheet_bytes written) (λ fits. reads-behind written pass width height (width * height)))))

sheet-kind : (cellLimit offset : ℕ) (bytes : List ℕ) → sheet cellLimit offset bytes ≡ and_then (kind offset bytes) (behind_kind cellLimit)
unfolding sheet behind_kind behind_sides
sheet-kind cellLimit offset bytes = refl

ends-sheet : (cellLimit : ℕ) → Ends (sheet cellLimit)
unfolding sheet
ends-sheet cellLimit =
    ends-then kind _ (λ written. ends-then number _ (λ pass. ends-then number _ (λ width. ends-then number _ (λ height. ends-then (area cellLimit width height) _
    (λ count. ends-then (times count cell) _ (λ cells. ends-then (spans_held (has_spans written)) _ (λ spans. ends-then (entries numbers_per_boundary) _
    (λ boundaries. ends-then (entries numbers_per_anchor) _ (λ anchors. ends-end (made (has_spans written) pass width height cells spans boundaries anchors))))))))))

-- ---- the kind

abbrev pub kind_in : Read ℕ → ℕ
kind_in (found written next rest) = written
kind_in (failed refusal place) = 0

-- the kind that the bytes begin with, or 0 where they begin with no number
unfoldable pub kind_of : List ℕ → ℕ
unfolding number
kind_of bytes = kind_in (number 0 bytes)

-- an accepted sheet is the shortest form of what it states, of its kind
pub read-written : (cellLimit : ℕ) (bytes : List ℕ) {s : Sheet} → Bytes bytes → read_sheet cellLimit bytes ≡ well_formed s → bytes ≡ sheet_bytes (kind_of bytes) s
unfolding read_sheet kind_of kind
read-written cellLimit bytes {s} B h = go (sheet cellLimit 0 bytes) refl h
  where
    no_sheet : {refusal place : ℕ} → refused refusal place ≡ well_formed s → ⊥
    no_sheet q = let z : ◌≡◌ {A = ℕ} 0 1 = cc in omega arith

    by_kind : (r : Read ℕ) → kind 0 bytes ≡ r → {t : Sheet} {next : ℕ} {rest : List ℕ} → and_then r (behind_kind cellLimit) ≡ found t next rest
        → bytes ≡ sheet_bytes (kind_in (number 0 bytes)) t ++ rest
    by_kind (found written o m) e {t} {next} {rest} q =
        let same : number 0 bytes ≡ found written o m = (judged_is is_map_kind 0 bytes e).0 in
        let front : bytes ≡ shortest written ++ m = reads-number.whole 0 bytes B same in
        front ∙ (reads-behind_kind cellLimit written).whole o m (all_split (shortest written) (subst Bytes front B)).1 q
        ∙ ap (λ r. sheet_bytes (kind_in r) t ++ rest) (sym same)
    by_kind (failed refusal place) e q = absurd (not_found q)

    go : (r : Read Sheet) → sheet cellLimit 0 bytes ≡ r → reading r ≡ well_formed s → bytes ≡ sheet_bytes (kind_in (number 0 bytes)) s
    go (found t next rest) e q =
        let u : t ≡ s = cc in
        let k = kind_in (number 0 bytes) in
        by_kind (kind 0 bytes) refl (sym (sheet-kind cellLimit 0 bytes) ∙ e) ∙ ap (λ l. sheet_bytes k t ++ l) ((ends-sheet cellLimit).empty 0 bytes e)
        ∙ append-nil (sheet_bytes k t) ∙ ap (sheet_bytes k) u
    go (failed refusal place) e q = absurd (no_sheet q)

-- "equal bytes exactly when they state the same pass, sides and map lists", of two sheets of one kind
pub sheets_equal : (cellLimit : ℕ) (a b : List ℕ) {s t : Sheet} → Bytes a → Bytes b → kind_of a ≡ kind_of b
    → read_sheet cellLimit a ≡ well_formed s → read_sheet cellLimit b ≡ well_formed t → (a ≡ b) ↔ (s ≡ t)
sheets_equal cellLimit a b {s} {t} A B k g h = (λ e. states e, λ e. read-written cellLimit a A g ∙ ap₂ sheet_bytes k e ∙ sym (read-written cellLimit b B h))
  where
    states : a ≡ b → s ≡ t
    states e =
        let q : well_formed s ≡ well_formed t = sym g ∙ ap (read_sheet cellLimit) e ∙ h in
        cc

-- a sheet that was read is of kind 1 or 3
pub kind_1_or_3 : (cellLimit : ℕ) (bytes : List ℕ) {s : Sheet} → read_sheet cellLimit bytes ≡ well_formed s → (kind_of bytes ≡ 1) ⊎ (kind_of bytes ≡ 3)
unfolding read_sheet kind_of kind
kind_1_or_3 cellLimit bytes {s} h = go (kind 0 bytes) refl (ap reading (sym (sheet-kind cellLimit 0 bytes)) ∙ h)
  where
    either : (n : ℕ) → is_map_kind n ≡ true → (n ≡ 1) ⊎ (n ≡ 3)
    either n e = pick (eqb n 1) refl
      where
        pick : (t : Bool) → eqb n 1 ≡ t → (n ≡ 1) ⊎ (n ≡ 3)
        pick true f = inl (eqb-true n 1 f)
        pick false f = inr (eqb-true n 3 (ap (λ t. t || eqb n 3) (sym f) ∙ e))

    go : (r : Read ℕ) → kind 0 bytes ≡ r → reading (and_then r (behind_kind cellLimit)) ≡ well_formed s → (kind_in (number 0 bytes) ≡ 1) ⊎ (kind_in (number 0 bytes) ≡ 3)
    go (found written o m) e q =
        let p = judged_is is_map_kind 0 bytes e in
        subst (λ n. (n ≡ 1) ⊎ (n ≡ 3)) (sym (ap kind_in p.0)) (either written p.1)
    go (failed refusal place) e q = absurd (let z : ◌≡◌ {A = ℕ} 0 1 = cc in omega arith)
