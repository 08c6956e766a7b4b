-- "what it writes reads as itself" (document 02, request 12), over the definitions: a sheet of kind 3, written of a map within the limits, reads as that map with its
-- boundaries' endpoints as spans. Each reader gives back what was written, at any offset (`Back`), part by part. Assumes nothing.
use Rattle.std.specs.Prelude.{ℕ, suc, ◌+◌, ◌*◌, ◌/◌, ◌%◌, ◌^◌, ◌<◌, ◌≤◌, ◌≡◌, Bool, true, ◌&&◌, List, [], ◌∷◌, ◌++◌, leb, length}
use Rattle.std.proofs.Common.{arith, sym, ◌∙◌, append_assoc, append-nil, le-leb}
use Rattle.std.proofs.Math.Path.{refl, ap}
use Rattle.definitions.specs.Limits.{is_side, max_entries, numbers_per_boundary, numbers_per_anchor}
use Rattle.definitions.specs.Scan.{concat_map}
use Rattle.definitions.specs.SheetNumber.{found, number}
use Rattle.definitions.specs.Sheet.{Reader, give, check, and_then, times, judged, is_map_kind, kind, cell, area, entries, endpoints_of, end, Sheet, well_formed, reading, sheet, read_sheet}
use Rattle.laws.specs.ListLaws.Lists.{All, done, more}
use Rattle.laws.specs.SheetReading.SheetLaws.{then_found}
use Rattle.results.specs.Shortest.{shortest, list_bytes}
use Rattle.results.specs.ShortestReads.{number-shortest}
use Rattle.results.proofs.WrittenReads.{Words}
use Rattle.map_sheets.specs.SheetBytes.{sheet_bytes}

-- ---- readers: at any offset these bytes give this value and leave this rest

record Back {A : Type 0} (reader : Reader A) (bytes : List ℕ) (value : A) (rest : List ℕ) : Type 0 where
  pub next : ℕ → ℕ
  pub same : (offset : ℕ) → reader offset bytes ≡ found value (next offset) rest

back-number : (n : ℕ) (rest : List ℕ) → n < 2 ^ 64 → Back number (shortest n ++ rest) n rest
back-number n rest h = record { next = λ offset. offset + length (shortest n); same = λ offset. number-shortest n offset rest h }

back-judged : (ok : ℕ → Bool) (n : ℕ) (rest : List ℕ) → n < 2 ^ 64 → ok n ≡ true → Back (judged ok) (shortest n ++ rest) n rest
unfolding judged
back-judged ok n rest h e =
    let N = back-number n rest h in
    record {
      next = N.next;
      same = λ offset. then_found (λ value. check (ok value) 14 offset value) (N.same offset) ∙ ap (λ t. check t 14 offset n (N.next offset) rest) e;
    }

module _ (item : Reader ℕ) (P : ℕ → Type 0) (one : (n : ℕ) (rest : List ℕ) → P n → Back item (shortest n ++ rest) n rest) where
  back-times : {l : List ℕ} → All P l → (rest : List ℕ) → Back (times (length l) item) (concat_map shortest l ++ rest) l rest
  unfolding times concat_map
  back-times done rest = record { next = λ offset. offset; same = λ offset. refl }
  back-times (more {x = n} {l = l} h w) rest =
      let N = one n (concat_map shortest l ++ rest) h in
      let L = back-times w rest in
      record {
        next = λ offset. L.next (N.next offset);
        same = λ offset.
            ap (times (suc (length l)) item offset) (append_assoc (shortest n) (concat_map shortest l) rest)
            ∙ then_found (λ value o b. and_then (times (length l) item o b) (λ values. give (value ∷ values))) (N.same offset)
            ∙ then_found (λ values. give (n ∷ values)) (L.same (N.next offset));
      }

back-cells : {l : List ℕ} → All (λ n. n ≤ 255) l → (rest : List ℕ) → Back (times (length l) cell) (concat_map shortest l ++ rest) l rest
unfolding cell
back-cells w rest =
    back-times cell (λ n. n ≤ 255) (λ n rest h. back-judged (λ value. leb value 255) n rest (omega arith) (le-leb n 255 h)) w rest

-- so many entries at most, and the last one whole
back-list : (size : ℕ) {l : List ℕ} → Words l → length l / size ≤ max_entries → length l / size * size ≡ length l → (rest : List ℕ)
    → Back (entries size) (list_bytes size l ++ rest) l rest
unfolding entries list_bytes
back-list size {l} w few whole rest =
    let count = length l / size in
    let N = back-number count (concat_map shortest l ++ rest) (omega arith) in
    let L = back-times number (λ n. n < 2 ^ 64) back-number w rest in
    record {
      next = λ offset. L.next (N.next offset);
      same = λ offset.
          ap (entries size offset) (append_assoc (shortest count) (concat_map shortest l) rest)
          ∙ then_found (λ written o b. and_then (check (leb written max_entries) 3 0 written o b) (λ count. times (count * size) number)) (N.same offset)
          ∙ ap (λ t. and_then (check t 3 0 count (N.next offset) (concat_map shortest l ++ rest)) (λ count. times (count * size) number)) (le-leb count max_entries few)
          ∙ ap (λ n. times n number (N.next offset) (concat_map shortest l ++ rest)) whole
          ∙ L.same (N.next offset);
    }

-- ---- the sheet

-- what the writer asks, with the widths of its lists' entries: cells are bytes, all other numbers of 64 bits
pub record Writable (cellLimit : ℕ) (s : Sheet) : Type 0 where
  pub pass : s.pass < 2 ^ 64
  pub width : s.width < 2 ^ 64
  pub height : s.height < 2 ^ 64
  pub sides : (is_side s.width && is_side s.height && leb (s.width * s.height) cellLimit) ≡ true
  pub area : length s.cells ≡ s.width * s.height
  pub cells : All (λ n. n ≤ 255) s.cells
  pub boundaries : Words s.boundaries
  pub boundaries-few : length s.boundaries / numbers_per_boundary ≤ max_entries
  pub boundaries-whole : length s.boundaries % numbers_per_boundary ≡ 0
  pub anchors : Words s.anchors
  pub anchors-few : length s.anchors / numbers_per_anchor ≤ max_entries
  pub anchors-whole : length s.anchors % numbers_per_anchor ≡ 0

seven : (a b c d e f g : List ℕ) → a ++ b ++ c ++ d ++ e ++ [] ++ f ++ g ≡ a ++ (b ++ (c ++ (d ++ (e ++ (f ++ (g ++ []))))))
seven a b c d e f g =
    append_assoc (a ++ b ++ c ++ d ++ e ++ []) f g
    ∙ ap (λ m. m ++ (f ++ g)) (append-nil (a ++ b ++ c ++ d ++ e))
    ∙ append_assoc (a ++ b ++ c ++ d) e (f ++ g)
    ∙ append_assoc (a ++ b ++ c) d (e ++ (f ++ g))
    ∙ append_assoc (a ++ b) c (d ++ (e ++ (f ++ g)))
    ∙ append_assoc a b (c ++ (d ++ (e ++ (f ++ g))))
    ∙ ap (λ m. a ++ (b ++ (c ++ (d ++ (e ++ (f ++ m)))))) (sym (append-nil g))

module _ (cellLimit : ℕ) where
  -- `sheet` behind a kind of 3, part by part
  abbrev stated : ℕ → ℕ → ℕ → List ℕ → List ℕ → List ℕ → Sheet
  stated pass width height cells boundaries anchors =
      record { pass = pass; width = width; height = height; cells = cells; spans = endpoints_of boundaries; boundaries = boundaries; anchors = anchors }

  abbrev after_anchors : ℕ → ℕ → ℕ → List ℕ → List ℕ → List ℕ → Reader Sheet
  after_anchors pass width height cells boundaries anchors offset bytes = and_then (end offset bytes) (λ _. give (stated pass width height cells boundaries anchors))

  abbrev after_boundaries : ℕ → ℕ → ℕ → List ℕ → List ℕ → Reader Sheet
  after_boundaries pass width height cells boundaries offset bytes = and_then (entries numbers_per_anchor offset bytes) (after_anchors pass width height cells boundaries)

  abbrev after_cells : ℕ → ℕ → ℕ → List ℕ → Reader Sheet
  after_cells pass width height cells offset bytes = and_then (entries numbers_per_boundary offset bytes) (after_boundaries pass width height cells)

  abbrev after_area : ℕ → ℕ → ℕ → ℕ → Reader Sheet
  after_area pass width height count offset bytes = and_then (times count cell offset bytes) (after_cells pass width height)

  abbrev after_height : ℕ → ℕ → ℕ → Reader Sheet
  after_height pass width height offset bytes = and_then (area cellLimit width height offset bytes) (after_area pass width height)

  abbrev after_width : ℕ → ℕ → Reader Sheet
  after_width pass width offset bytes = and_then (number offset bytes) (after_height pass width)

  abbrev after_pass : ℕ → Reader Sheet
  after_pass pass offset bytes = and_then (number offset bytes) (after_width pass)

  abbrev after_kind : Reader Sheet
  after_kind offset bytes = and_then (number offset bytes) after_pass

  kind3_found : (offset next : ℕ) (bytes rest : List ℕ) → kind offset bytes ≡ found 3 next rest → sheet cellLimit offset bytes ≡ after_kind next rest
  unfolding sheet
  kind3_found offset next bytes rest h = rw h

  -- the parts in front of a rest, and what each reader makes of them
  module _ (s : Sheet) (W : Writable cellLimit s) where
    abbrev b7 : List ℕ
    b7 = list_bytes numbers_per_anchor s.anchors ++ []

    abbrev b6 : List ℕ
    b6 = list_bytes numbers_per_boundary s.boundaries ++ b7

    abbrev b5 : List ℕ
    b5 = concat_map shortest s.cells ++ b6

    abbrev b4 : List ℕ
    b4 = shortest s.height ++ b5

    abbrev b3 : List ℕ
    b3 = shortest s.width ++ b4

    abbrev b2 : List ℕ
    b2 = shortest s.pass ++ b3

    K : Back kind (shortest 3 ++ b2) 3 b2
    unfolding kind
    K = back-judged is_map_kind 3 b2 (omega arith) refl

    P : Back number b2 s.pass b3
    P = back-number s.pass b3 W.pass

    X : Back number b3 s.width b4
    X = back-number s.width b4 W.width

    Y : Back number b4 s.height b5
    Y = back-number s.height b5 W.height

    C : Back (times (length s.cells) cell) b5 s.cells b6
    C = back-cells W.cells b6

    N : Back (entries numbers_per_boundary) b6 s.boundaries b7
    N = back-list numbers_per_boundary W.boundaries W.boundaries-few (omega (arith, W.boundaries-whole)) b7

    A : Back (entries numbers_per_anchor) b7 s.anchors []
    A = back-list numbers_per_anchor W.anchors W.anchors-few (omega (arith, W.anchors-whole)) []

    abbrev o1 : ℕ
    o1 = K.next 0

    abbrev o2 : ℕ
    o2 = P.next o1

    abbrev o3 : ℕ
    o3 = X.next o2

    abbrev o4 : ℕ
    o4 = Y.next o3

    abbrev o5 : ℕ
    o5 = C.next o4

    abbrev o6 : ℕ
    o6 = N.next o5

    at_area_lem : after_height s.pass s.width s.height o4 b5 ≡ after_cells s.pass s.width s.height s.cells o5 b6
    at_area_lem =
        ap (λ t. and_then (check t 1 0 (s.width * s.height) o4 b5) (after_area s.pass s.width s.height)) W.sides
        ∙ ap (λ n. after_area s.pass s.width s.height n o4 b5) (sym W.area)
        ∙ then_found (after_cells s.pass s.width s.height) (C.same o4)

    read_back : sheet cellLimit 0 (shortest 3 ++ b2) ≡ found (stated s.pass s.width s.height s.cells s.boundaries s.anchors) (A.next o6) []
    read_back =
        kind3_found 0 o1 (shortest 3 ++ b2) b2 (K.same 0)
        ∙ then_found after_pass (P.same o1)
        ∙ then_found (after_width s.pass) (X.same o2)
        ∙ then_found (after_height s.pass s.width) (Y.same o3)
        ∙ at_area_lem
        ∙ then_found (after_boundaries s.pass s.width s.height s.cells) (N.same o5)
        ∙ then_found (after_anchors s.pass s.width s.height s.cells s.boundaries) (A.same o6)

  -- "what it writes reads as itself"
  pub written-reads : (s : Sheet) → Writable cellLimit s → s.spans ≡ endpoints_of s.boundaries → read_sheet cellLimit (sheet_bytes 3 s) ≡ well_formed s
  unfolding read_sheet sheet_bytes
  written-reads s W one =
      ap (λ m. reading (sheet cellLimit 0 m))
      (seven (shortest 3) (shortest s.pass) (shortest s.width) (shortest s.height) (concat_map shortest s.cells)
      (list_bytes numbers_per_boundary s.boundaries) (list_bytes numbers_per_anchor s.anchors))
      ∙ ap reading (read_back s W)
      ∙ ap (λ spans. well_formed (record { pass = s.pass; width = s.width; height = s.height; cells = s.cells; spans = spans; boundaries = s.boundaries; anchors = s.anchors })) (sym one)
