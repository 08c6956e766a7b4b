-- The parts of a sheet, reader by reader: each chain fails as its first failing part and otherwise goes on with the next. Assumes nothing.
use Prim.Native.Nat.{ℕ, ◌*◌, ◌≤◌, ◌<◌}
use mathlib.Core.Path.{◌≡◌, refl, sym, ap, ◌∙◌}
use mathlib.Core.Bool.{Bool, true, false, ◌&&◌}
use mathlib.Core.List.{List, [], ◌∷◌}
use lib.Dec.{leb}
use borrow.Author.Tests.{le-leb, lt-leb}
use Rattle.definitions.specs.Limits.{is_side, max_entries, numbers_per_boundary, numbers_per_anchor}
use Rattle.definitions.specs.SheetNumber.{Read, found, failed, number}
use Rattle.definitions.specs.Sheet.{Reader, and_then, give, times, judged, is_map_kind, kind, cell, area, entries, has_spans, spans_held, spans_stated, end, Sheet, well_formed, refused, reading, sheet, read_sheet}
use Rattle.laws.specs.SheetReading.SheetLaws.{Keeps, keeps-number, keeps-judged, keeps_then, keeps-check, then_found, then-failed}
use Rattle.sheet.specs.declared.Kind.{Kind}
use Rattle.sheet.specs.declared.Kind.TheVariants as kinds
use Rattle.sheet.specs.Parts.{kind_number, Opening, opening, sides, Content, lists}
use Rattle.sheet.specs.declared.Extent.{Extent}

-- ---- the kind and the pass

-- a kind's number is one of a map
pub allowed : (kind : Kind) {number : ℕ} → kind_number kind ≡ number → is_map_kind number ≡ true
allowed kind e = ap is_map_kind (sym e) ∙ each kind
  where
    each : (k : Kind) → is_map_kind (kind_number k) ≡ true
    each kinds.OwnSpans = refl
    each kinds.SharedSpans = refl

module _ (at : ℕ) (bytes : List ℕ) where
  module _ {value next : ℕ} {rest : List ℕ} (h : number at bytes ≡ found value next rest) where
    module _ (k : is_map_kind value ≡ true) where
      pub opening-found : {pass behind : ℕ} {more : List ℕ} → number next rest ≡ found pass behind more
          → opening at bytes ≡ found (record { kind = value; pass = pass }) behind more
      unfolding opening kind judged
      opening-found p = rw (h, k, p)

      pub pass-fails : {refusal place : ℕ} → number next rest ≡ failed refusal place → opening at bytes ≡ failed refusal place
      unfolding opening kind judged
      pass-fails p = rw (h, k, p)

    pub opening-other : is_map_kind value ≡ false → opening at bytes ≡ failed 14 at
    unfolding opening kind judged
    opening-other k = rw (h, k)

  pub opening-fails : {refusal place : ℕ} → number at bytes ≡ failed refusal place → opening at bytes ≡ failed refusal place
  unfolding opening kind judged
  opening-fails h = rw h

-- ---- the sides

module _ (limit at : ℕ) (bytes : List ℕ) where
  pub width-fails : {refusal place : ℕ} → number at bytes ≡ failed refusal place → sides limit at bytes ≡ failed refusal place
  unfolding sides
  width-fails h = rw h

  module _ {width then : ℕ} {more : List ℕ} (h : number at bytes ≡ found width then more) where
    pub height-fails : {refusal place : ℕ} → number then more ≡ failed refusal place → sides limit at bytes ≡ failed refusal place
    unfolding sides
    height-fails k = rw (h, k)

    module _ {height next : ℕ} {rest : List ℕ} (k : number then more ≡ found height next rest) where
      pub area-allowed : (is_side width && is_side height && leb (width * height) limit) ≡ true
          → sides limit at bytes ≡ found (record { width = width; height = height; cells = width * height }) next rest
      unfolding sides
      area-allowed a = rw (h, k, a)

      pub area-fails : (is_side width && is_side height && leb (width * height) limit) ≡ false → sides limit at bytes ≡ failed 1 0
      unfolding sides
      area-fails a = rw (h, k, a)

-- ---- a count and its entries

module _ (size at : ℕ) (bytes : List ℕ) where
  pub count-fails : {refusal place : ℕ} → number at bytes ≡ failed refusal place → entries size at bytes ≡ failed refusal place
  unfolding entries
  count-fails h = rw h

  module _ {count next : ℕ} {rest : List ℕ} (h : number at bytes ≡ found count next rest) where
    pub count-over : max_entries < count → entries size at bytes ≡ failed 3 0
    unfolding entries
    count-over k = rw (h, lt-leb count max_entries k)

    pub count-allowed : count ≤ max_entries → entries size at bytes ≡ times (count * size) number next rest
    unfolding entries
    count-allowed k = rw (h, le-leb count max_entries k)

-- ---- the lists

module _ (own : Bool) (count at : ℕ) (bytes : List ℕ) where
  pub cells_fail : {refusal place : ℕ} → times count cell at bytes ≡ failed refusal place → lists own count at bytes ≡ failed refusal place
  unfolding lists
  cells_fail h = rw h

  module _ {cells : List ℕ} {o₁ : ℕ} {r₁ : List ℕ} (h₁ : times count cell at bytes ≡ found cells o₁ r₁) where
    pub spans_fail : {refusal place : ℕ} → spans_held own o₁ r₁ ≡ failed refusal place → lists own count at bytes ≡ failed refusal place
    unfolding lists
    spans_fail h = rw (h₁, h)

    module _ {spans : List ℕ} {o₂ : ℕ} {r₂ : List ℕ} (h₂ : spans_held own o₁ r₁ ≡ found spans o₂ r₂) where
      pub boundaries_fail : {refusal place : ℕ} → entries numbers_per_boundary o₂ r₂ ≡ failed refusal place → lists own count at bytes ≡ failed refusal place
      unfolding lists
      boundaries_fail h = rw (h₁, h₂, h)

      module _ {boundaries : List ℕ} {o₃ : ℕ} {r₃ : List ℕ} (h₃ : entries numbers_per_boundary o₂ r₂ ≡ found boundaries o₃ r₃) where
        pub anchors_fail : {refusal place : ℕ} → entries numbers_per_anchor o₃ r₃ ≡ failed refusal place → lists own count at bytes ≡ failed refusal place
        unfolding lists
        anchors_fail h = rw (h₁, h₂, h₃, h)

        module _ {anchors : List ℕ} {o₄ : ℕ} {r₄ : List ℕ} (h₄ : entries numbers_per_anchor o₃ r₃ ≡ found anchors o₄ r₄) where
          pub bytes_left : {b : ℕ} {rest : List ℕ} → r₄ ≡ b ∷ rest → lists own count at bytes ≡ failed 14 o₄
          unfolding lists
          bytes_left h = rw (h₁, h₂, h₃, h₄, h)

          pub all_read : r₄ ≡ [] → lists own count at bytes ≡ found (record { cells = cells; spans = spans; boundaries = boundaries; anchors = anchors }) o₄ []
          unfolding lists
          all_read h = rw (h₁, h₂, h₃, h₄, h)

-- ---- the sheet

abbrev sheet_from : Opening → Extent → Content → Sheet
sheet_from o e l =
    record {
      pass = o.pass;
      width = e.width;
      height = e.height;
      cells = l.cells;
      spans = spans_stated (has_spans o.kind) l.spans l.boundaries;
      boundaries = l.boundaries;
      anchors = l.anchors;
    }

module _ {A B : Type 0} where
  -- readers that go on alike
  pub alike : (r : Read A) {f g : A → Reader B} → ((value : A) (offset : ℕ) (rest : List ℕ) → f value offset rest ≡ g value offset rest) → and_then r f ≡ and_then r g
  alike (found value offset rest) h = h value offset rest
  alike (failed refusal place) h = refl

module _ {A : Type 0} (B : Type 0) {C : Type 0} where
  -- a chain inside a chain
  pub within : (r : Read A) (f : A → Reader B) (g : B → Reader C) {h : A → Reader C}
      → ((value : A) (offset : ℕ) (rest : List ℕ) → and_then (f value offset rest) g ≡ h value offset rest) → and_then (and_then r f) g ≡ and_then r h
  within (found value offset rest) f g k = k value offset rest
  within (failed refusal place) f g k = refl

-- the three parts, one behind the other
in_parts : (limit at : ℕ) (bytes : List ℕ)
    → and_then (opening at bytes) (λ p o r. and_then (sides limit o r) (λ e o r. and_then (lists (has_spans p.kind) e.cells o r) (λ l. give (sheet_from p e l))))
    ≡ sheet limit at bytes
unfolding sheet opening sides lists
in_parts limit at bytes =
    within Opening (kind at bytes) _ _ (λ written o r.
    within Opening (number o r) _ _ (λ pass o r.
    within Extent (number o r) _ _ (λ width o r.
    within Extent (number o r) _ _ (λ height o r.
    within Extent (area limit width height o r) _ _ (λ count o r.
    within Content (times count cell o r) _ _ (λ cells o r.
    within Content (spans_held (has_spans written) o r) _ _ (λ spans o r.
    within Content (entries numbers_per_boundary o r) _ _ (λ boundaries o r.
    within Content (entries numbers_per_anchor o r) _ _ (λ anchors o r.
    within Content (end o r) _ _ (λ _ o r. refl))))))))))

module _ (limit : ℕ) (bytes : List ℕ) where
  pub sheet-opening : {refusal place : ℕ} → opening 0 bytes ≡ failed refusal place → read_sheet limit bytes ≡ refused refusal place
  unfolding read_sheet
  sheet-opening h = ap reading (sym (in_parts limit 0 bytes) ∙ then-failed _ h)

  module _ {p : Opening} {o₁ : ℕ} {r₁ : List ℕ} (h₁ : opening 0 bytes ≡ found p o₁ r₁) where
    pub sheet-sides : {refusal place : ℕ} → sides limit o₁ r₁ ≡ failed refusal place → read_sheet limit bytes ≡ refused refusal place
    unfolding read_sheet
    sheet-sides h = ap reading (sym (in_parts limit 0 bytes) ∙ then_found _ h₁ ∙ then-failed _ h)

    module _ {e : Extent} {o₂ : ℕ} {r₂ : List ℕ} (h₂ : sides limit o₁ r₁ ≡ found e o₂ r₂) where
      pub sheet-lists : {refusal place : ℕ} → lists (has_spans p.kind) e.cells o₂ r₂ ≡ failed refusal place → read_sheet limit bytes ≡ refused refusal place
      unfolding read_sheet
      sheet-lists h = ap reading (sym (in_parts limit 0 bytes) ∙ then_found _ h₁ ∙ then_found _ h₂ ∙ then-failed _ h)

      pub sheet-read : {l : Content} {o₃ : ℕ} {r₃ : List ℕ} → lists (has_spans p.kind) e.cells o₂ r₂ ≡ found l o₃ r₃ → read_sheet limit bytes ≡ well_formed (sheet_from p e l)
      unfolding read_sheet
      sheet-read h = ap reading (sym (in_parts limit 0 bytes) ∙ then_found _ h₁ ∙ then_found _ h₂ ∙ then_found _ h)

-- ---- what is left of the bytes

pub keeps-opening : Keeps opening
unfolding opening kind
keeps-opening = keeps_then kind _ (keeps-judged is_map_kind) (λ written. keeps_then number _ keeps-number (λ pass. keeps-check true 0 0 _))

pub keeps-sides : (limit : ℕ) → Keeps (sides limit)
unfolding sides
keeps-sides limit =
    keeps_then number _ keeps-number (λ width.
    keeps_then number _ keeps-number (λ height.
    keeps_then (area limit width height) _ (keeps-check (is_side width && is_side height && leb (width * height) limit) 1 0 (width * height)) (λ count.
    keeps-check true 0 0 _)))
