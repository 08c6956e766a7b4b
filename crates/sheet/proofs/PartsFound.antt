-- What is answered of a part of a sheet where it was found, from what is known of the numbers in it. Assumes nothing.
use Prim.Native.Nat.{ℕ, ◌*◌, ◌≤◌, ◌<◌}
use mathlib.Core.Path.{◌≡◌, refl, ap, subst, ◌∙◌}
use mathlib.Core.Bool.{Bool, true, false, ◌&&◌}
use mathlib.Core.List.{List, []}
use native.Mathlib.Omega.{arith}
use lib.ListN.{length, drop, drop_of_length-le}
use lib.Seq.{drop-cons}
use lib.Dec.{leb}
use Rattle.definitions.specs.Limits.{is_side, max_entries, numbers_per_span, numbers_per_boundary, numbers_per_anchor}
use Rattle.definitions.specs.SheetNumber.{Read, found, failed, number}
use Rattle.definitions.specs.Sheet.{Reader, and_then, give, check, area, times, cell, entries, has_spans, spans_held}
use Rattle.laws.specs.SheetReading.SheetLaws.{Keeps, keeps-number, keeps-check, keeps-entries, keeps-times, ends-inside, not_found}
use Rattle.sheet.specs.Numbers.{up_to, items_at, Told}
use Rattle.sheet.specs.Parts.{Opening, kind_number, opening, sides, lists, content_of, PartHeld, SpansStand, ListsHeld, SheetHeld}
use Rattle.sheet.specs.declared.Kind.{Kind}
use Rattle.sheet.specs.declared.Extent.{Extent}
use Rattle.sheet.specs.declared.Part.{Part}
use Rattle.sheet.specs.declared.Parts.{Parts}
use Rattle.std.specs.Prelude.{Ok, Err}
use Rattle.refusals.specs.declared.Refusal.{Refusal}
use Rattle.refusals.specs.Refusals.{number_of}
use Rattle.sheet.proofs.Items.{keeps-cell}
use Rattle.sheet.proofs.Judging.{told-numbers, told-cells, read-is_held}
use Rattle.sheet.proofs.Chains.{count-allowed, cells_fail, spans_fail, boundaries_fail, anchors_fail, bytes_left, all_read, sheet-read, keeps-opening, keeps-sides}

module _ (size at : ℕ) (bytes : List ℕ) {count first : ℕ} (h : number at (drop at bytes) ≡ found count first (drop first bytes)) (k : count ≤ max_entries) where
  pub entries-found : {next : ℕ} → at ≤ length bytes → Told bytes (items_at (up_to 0xffff_ffff_ffff_ffff) bytes first (count * size)) (Ok next)
      → PartHeld (entries size) bytes at (record { first = first; count = count * size }) next
  unfolding items_at
  entries-found {next} m t =
      let u : Told bytes (items_at number bytes first (count * size)) (Ok next) = told-numbers bytes first (count * size) (Ok next) t in
      record {
        held = read-is_held (ends-inside keeps-number bytes at m h) u;
        same = count-allowed size at (drop at bytes) h k ∙ u;
      }

  pub entries_faulty : (refusal : Refusal) → Told bytes (items_at (up_to 0xffff_ffff_ffff_ffff) bytes first (count * size)) (Err refusal)
      → entries size at (drop at bytes) ≡ failed (number_of refusal.cause) refusal.place
  unfolding items_at
  entries_faulty refusal t = count-allowed size at (drop at bytes) h k ∙ told-numbers bytes first (count * size) (Err refusal) t

-- ---- the lists

pub keeps-spans : (own : Bool) → Keeps (spans_held own)
keeps-spans true = keeps-entries numbers_per_span
keeps-spans false = keeps-check true 0 0 []

-- no number stands there, and none is needed
pub spans_none : (bytes : List ℕ) (at : ℕ) → at ≤ length bytes → PartHeld (spans_held false) bytes at (record { first = at; count = 0 }) at
unfolding items_at times
spans_none bytes at h = record { held = record { inside = h; all = refl }; same = refl }

pub part-inside : {reader : Reader (List ℕ)} {bytes : List ℕ} {at next : ℕ} {part : Part} → Keeps reader → at ≤ length bytes → PartHeld reader bytes at part next → next ≤ length bytes
part-inside {bytes = bytes} {at} k h E = ends-inside k bytes at h E.same

module _ (own : Bool) (count at : ℕ) (bytes : List ℕ) where
  pub cells-inside : {a : ℕ} → at ≤ length bytes → Told bytes (items_at (up_to 255) bytes at count) (Ok a) → a ≤ length bytes
  unfolding items_at
  cells-inside {a} h t = ends-inside (keeps-times cell keeps-cell count) bytes at h (told-cells bytes at count (Ok a) t)

  pub cells_faulty : (refusal : Refusal) → Told bytes (items_at (up_to 255) bytes at count) (Err refusal) → lists own count at (drop at bytes) ≡ failed (number_of refusal.cause) refusal.place
  unfolding items_at
  cells_faulty refusal t = cells_fail own count at (drop at bytes) (told-cells bytes at count (Err refusal) t)

  module _ {a : ℕ} (t : Told bytes (items_at (up_to 255) bytes at count) (Ok a)) where
    cells : Told bytes (items_at cell bytes at count) (Ok a)
    cells = told-cells bytes at count (Ok a) t

    pub spans_faulty : {refusal place : ℕ} → spans_held own a (drop a bytes) ≡ failed refusal place → lists own count at (drop at bytes) ≡ failed refusal place
    unfolding items_at
    spans_faulty h = spans_fail own count at (drop at bytes) cells h

    module _ {spans : Part} {b : ℕ} (S : PartHeld (spans_held own) bytes a spans b) where
      pub boundaries_faulty : {refusal place : ℕ} → entries numbers_per_boundary b (drop b bytes) ≡ failed refusal place → lists own count at (drop at bytes) ≡ failed refusal place
      unfolding items_at
      boundaries_faulty h = boundaries_fail own count at (drop at bytes) cells S.same h

      module _ {boundaries : Part} {c : ℕ} (B : PartHeld (entries numbers_per_boundary) bytes b boundaries c) where
        pub anchors_faulty : {refusal place : ℕ} → entries numbers_per_anchor c (drop c bytes) ≡ failed refusal place → lists own count at (drop at bytes) ≡ failed refusal place
        unfolding items_at
        anchors_faulty h = anchors_fail own count at (drop at bytes) cells S.same B.same h

        module _ {anchors : Part} {d : ℕ} (A : PartHeld (entries numbers_per_anchor) bytes c anchors d) where
          pub lists-too_long : d < length bytes → lists own count at (drop at bytes) ≡ failed 14 d
          unfolding items_at
          lists-too_long h = bytes_left own count at (drop at bytes) cells S.same B.same A.same (drop-cons bytes d 0 h)

          pub lists-found : at ≤ length bytes → length bytes ≤ d
              → ListsHeld own bytes at count
              (record {
                cells = record { first = at; count = count };
                spans = spans;
                boundaries = boundaries;
                anchors = anchors;
                front = a;
                back = b;
              })
          unfolding items_at
          lists-found h k =
              let in_a : a ≤ length bytes = cells-inside h t in
              let in_b : b ≤ length bytes = part-inside (keeps-spans own) in_a S in
              let in_c : c ≤ length bytes = part-inside (keeps-entries numbers_per_boundary) in_b B in
              let in_d : d ≤ length bytes = part-inside (keeps-entries numbers_per_anchor) in_c A in
              let e : d ≡ length bytes = omega arith in
              let parts : Parts =
              record {
                cells = record { first = at; count = count };
                spans = spans;
                boundaries = boundaries;
                anchors = anchors;
                front = a;
                back = b;
              } in
              record {
                held = record { cells = read-is_held h cells; spans = S.held; boundaries = B.held; anchors = A.held };
                same = all_read own count at (drop at bytes) cells S.same B.same A.same (drop_of_length-le bytes k) ∙ ap (λ o. found (content_of bytes parts) o []) e;
                spans_stand = record { cells-end = cells; spans-end = S.same; cells-inside = in_a; spans-inside = in_b };
              }

-- ---- the sheet

-- the cells are as many as the sides make
sides-cells : (limit at : ℕ) (bytes : List ℕ) {extent : Extent} {next : ℕ} {rest : List ℕ} → sides limit at bytes ≡ found extent next rest → extent.cells ≡ extent.width * extent.height
unfolding sides
sides-cells limit at bytes {extent} {next} {rest} e = at_width (number at bytes) e
  where
    at_count : (width height o : ℕ) (r : List ℕ) (t : Bool) → and_then (check t 1 0 (width * height) o r) (λ count. give (record { width = width; height = height; cells = count })) ≡ found extent next rest
        → extent.cells ≡ extent.width * extent.height
    at_count width height o r true q =
        let same : extent ≡ record { width = width; height = height; cells = width * height } = cc in
        rw same refl
    at_count width height o r false q = absurd (not_found q)

    at_height : (width : ℕ) (read : Read ℕ) → and_then read (λ height o r. and_then (area limit width height o r) (λ count. give (record { width = width; height = height; cells = count }))) ≡ found extent next rest
        → extent.cells ≡ extent.width * extent.height
    at_height width (found height o r) q = at_count width height o r (is_side width && is_side height && leb (width * height) limit) q
    at_height width (failed refusal place) q = absurd (not_found q)

    at_width : (read : Read ℕ)
        → and_then read (λ width o r. and_then (number o r) (λ height o r. and_then (area limit width height o r) (λ count. give (record { width = width; height = height; cells = count })))) ≡ found extent next rest
        → extent.cells ≡ extent.width * extent.height
    at_width (found width o r) q = at_height width (number o r) q
    at_width (failed refusal place) q = absurd (not_found q)

pub sheet-found : (limit : ℕ) (bytes : List ℕ) {kind : Kind} {pass : ℕ} {extent : Extent} {at next : ℕ} {parts : Parts}
    → opening 0 bytes ≡ found (record { kind = kind_number kind; pass = pass }) at (drop at bytes)
    → sides limit at (drop at bytes) ≡ found extent next (drop next bytes) → ListsHeld (has_spans (kind_number kind)) bytes next extent.cells parts
    → SheetHeld limit bytes (record { kind = kind; pass = pass; width = extent.width; height = extent.height; parts = parts })
sheet-found limit bytes {kind} {pass} {extent} {at} {next} {parts} h S L =
    let e : extent.cells ≡ extent.width * extent.height = sides-cells limit at (drop at bytes) S in
    record {
      held = L.held;
      same = sheet-read limit bytes h S L.same;
      stands =
          record {
            behind-pass = at;
            cells_first = next;
            opened = h;
            sided = S ∙ (λ i. found (record { width = extent.width; height = extent.height; cells = e i }) next (drop next bytes));
            spans_stand = subst (λ n. SpansStand (has_spans (kind_number kind)) bytes next n parts) e L.spans_stand;
          };
    }

pub opening-inside : (bytes : List ℕ) {heading : Opening} {at : ℕ} → opening 0 bytes ≡ found heading at (drop at bytes) → at ≤ length bytes
opening-inside bytes h = ends-inside keeps-opening bytes 0 (omega arith) h

pub sides-inside : (limit : ℕ) (bytes : List ℕ) {at next : ℕ} {extent : Extent} → at ≤ length bytes → sides limit at (drop at bytes) ≡ found extent next (drop next bytes) → next ≤ length bytes
sides-inside limit bytes {at} h e = ends-inside (keeps-sides limit) bytes at h e
