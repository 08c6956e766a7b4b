-- How long the lists of a sheet are that was read: as its sides and its counts have it, and within the limits. So lent lists of the limits' lengths have
-- room for every sheet. Assumes nothing.
use Rattle.std.specs.Prelude.{ℕ, ◌*◌, ◌/◌, ◌≤◌, ◌≡◌, refl, Bool, true, false, ◌&&◌, List, length, leb}
use Rattle.std.proofs.Common.{arith, sym, subst, ◌∙◌, leb-true, le-leb}
use Rattle.std.proofs.lemmas.Bool.{false≢true}
use Rattle.definitions.specs.Limits.{is_side, max_side, max_entries, numbers_per_span, numbers_per_boundary, numbers_per_anchor}
use Rattle.definitions.specs.SheetNumber.{Read, found, failed, number}
use Rattle.definitions.specs.Sheet.{Reader, give, check, and_then, times, kind, cell, area, entries, has_spans, spans_held, spans_stated, endpoints_of, end, Sheet, Reading, well_formed, refused, reading, sheet, read_sheet, room_for}
use Rattle.laws.specs.ListLaws.Tests.{both}
use Rattle.laws.specs.SheetReading.SheetLaws.{not_found, times-length}
use Rattle.laws.specs.SheetReading.Endpoints.{endpoints-long}

-- ---- what holds of every value that a reader finds

pub record Gives {A : Type 0} (reader : Reader A) (P : A → Type 0) : Type 0 where
  pub holds : (offset : ℕ) (bytes : List ℕ) {value : A} {next : ℕ} {rest : List ℕ} → reader offset bytes ≡ found value next rest → P value

module _ {A : Type 0} where
  pub gives_any : (reader : Reader A) → Gives reader (λ value. Unit {0})
  gives_any reader = record { holds = λ offset bytes h. tt }

  pub gives_value : (P : A → Type 0) (value : A) → P value → Gives (give value) P
  gives_value P value p = record { holds = λ offset bytes h. subst P (same h) p }
    where
      same : {v : A} {offset next : ℕ} {bytes rest : List ℕ} → found value offset bytes ≡ found v next rest → value ≡ v
      same h = cc

  pub gives_check : (P : A → Type 0) (ok : Bool) (refusal place : ℕ) (value : A) → (ok ≡ true → P value) → Gives (check ok refusal place value) P
  gives_check P true refusal place value p = gives_value P value (p refl)
  gives_check P false refusal place value p = record { holds = λ offset bytes h. absurd (not_found h) }

module _ {A B : Type 0} (reader : Reader A) (next : A → Reader B) (P : A → Type 0) (Q : B → Type 0) where
  pub gives_then : Gives reader P → ((value : A) → P value → Gives (next value) Q) → Gives (λ offset bytes. and_then (reader offset bytes) next) Q
  gives_then k l = record { holds = λ offset bytes h. go offset bytes (reader offset bytes) refl h }
    where
      go : (offset : ℕ) (bytes : List ℕ) (r : Read A) → reader offset bytes ≡ r → {value : B} {last : ℕ} {rest : List ℕ} → and_then r next ≡ found value last rest → Q value
      go offset bytes (found v o m) e h = (l v (k.holds offset bytes e)).holds o m h
      go offset bytes (failed refusal place) e h = absurd (not_found h)

pub gives_times : (n : ℕ) (item : Reader ℕ) → Gives (times n item) (λ l. length l ≡ n)
gives_times n item = record { holds = λ offset bytes h. times-length item n offset bytes h }

-- ---- a list and its count

-- so many whole entries
pub record Entries (size : ℕ) (l : List ℕ) : Type 0 where
  pub count : ℕ
  pub few : count ≤ max_entries
  pub long : length l ≡ count * size

gives_entries : (size : ℕ) → Gives (entries size) (Entries size)
unfolding entries
gives_entries size =
    gives_then number _ _ _ (gives_any number)
    (λ written _. gives_then (check (leb written max_entries) 3 0 written) _ (λ count. count ≤ max_entries) _ (gives_check _ (leb written max_entries) 3 0 written (leb-true written max_entries))
    (λ count few. record { holds = λ offset bytes h. record { count = count; few = few; long = times-length number (count * size) offset bytes h } }))

-- the spans that a sheet of kind 1 holds are whole entries
pub gives_spans : (own : Bool) → Gives (spans_held own) (λ l. own ≡ true → Entries numbers_per_span l)
gives_spans true = record { holds = λ offset bytes h e. (gives_entries numbers_per_span).holds offset bytes h }
gives_spans false = record { holds = λ offset bytes h e. absurd (false≢true e) }

-- and so are those of kind 3, as many as there are boundaries
pub spans_stated_lem : (own : Bool) {spans boundaries : List ℕ} → (own ≡ true → Entries numbers_per_span spans) → Entries numbers_per_boundary boundaries
    → Entries numbers_per_span (spans_stated own spans boundaries)
unfolding endpoints_of
spans_stated_lem true s b = s refl
spans_stated_lem false {boundaries = boundaries} s b =
    record { count = b.count; few = b.few; long = endpoints-long (length boundaries / numbers_per_boundary) boundaries ∙ omega (arith, b.long) }

-- ---- a sheet

pub record Sized (limit : ℕ) (s : Sheet) : Type 0 where
  pub wide : s.width ≤ max_side
  pub high : s.height ≤ max_side
  pub area-few : s.width * s.height ≤ limit
  pub cells_long_lem : length s.cells ≡ s.width * s.height
  pub spans : Entries numbers_per_span s.spans
  pub boundaries : Entries numbers_per_boundary s.boundaries
  pub anchors : Entries numbers_per_anchor s.anchors

record Area (limit w h count : ℕ) : Type 0 where
  pub wide : w ≤ max_side
  pub high : h ≤ max_side
  pub few : w * h ≤ limit
  pub is : count ≡ w * h

pub side_most : (side : ℕ) → is_side side ≡ true → side ≤ max_side
side_most side h = leb-true side max_side (both (leb 1 side) (leb side max_side) h).1

pub sides_most : (w h : ℕ) {t : Bool} → t ≡ (is_side w && is_side h) → t ≡ true → (w ≤ max_side) × (h ≤ max_side)
sides_most w h e f =
    let each = both (is_side w) (is_side h) (sym e ∙ f) in
    (side_most w each.0, side_most h each.1)

gives_area : (limit w h : ℕ) → Gives (area limit w h) (Area limit w h)
gives_area limit w h =
    gives_check (Area limit w h) (is_side w && is_side h && leb (w * h) limit) 1 0 (w * h)
    (λ q.
    let sides = both (is_side w && is_side h) (leb (w * h) limit) q in
    let each = both (is_side w) (is_side h) sides.0 in
    record { wide = side_most w each.0; high = side_most h each.1; few = leb-true (w * h) limit sides.1; is = refl })

gives_sheet : (limit : ℕ) → Gives (sheet limit) (Sized limit)
unfolding sheet
gives_sheet limit =
    gives_then kind _ _ _ (gives_any kind) (λ written _.
    gives_then number _ _ _ (gives_any number) (λ pass _.
    gives_then number _ _ _ (gives_any number) (λ w _.
    gives_then number _ _ _ (gives_any number) (λ h _.
    gives_then (area limit w h) _ _ _ (gives_area limit w h) (λ n a.
    gives_then (times n cell) _ _ _ (gives_times n cell) (λ cells l.
    gives_then (spans_held (has_spans written)) _ _ _ (gives_spans (has_spans written)) (λ spans s.
    gives_then (entries numbers_per_boundary) _ _ _ (gives_entries numbers_per_boundary) (λ boundaries b.
    gives_then (entries numbers_per_anchor) _ _ _ (gives_entries numbers_per_anchor) (λ anchors c.
    gives_then end _ _ _ (gives_any end) (λ _ _.
    gives_value (Sized limit) _
    (record {
      wide = a.wide;
      high = a.high;
      area-few = a.few;
      cells_long_lem = l ∙ a.is;
      spans = spans_stated_lem (has_spans written) s b;
      boundaries = b;
      anchors = c;
    })))))))))))

pub sized : (limit : ℕ) (bytes : List ℕ) {s : Sheet} → read_sheet limit bytes ≡ well_formed s → Sized limit s
unfolding read_sheet
sized limit bytes {s} h = go (sheet limit 0 bytes) refl h
  where
    go : (r : Read Sheet) → sheet limit 0 bytes ≡ r → reading r ≡ well_formed s → Sized limit s
    go (found t o rest) e q =
        let same : t ≡ s = cc in
        subst (Sized limit) same ((gives_sheet limit).holds 0 bytes e)
    go (failed refusal place) e q = absurd (let z : ◌≡◌ {A = ℕ} 0 1 = cc in omega arith)

-- ---- lists that no sheet finds too short: 10 cannot arise

pub room-enough : (limit : ℕ) (bytes : List ℕ) {cells spans boundaries anchors : ℕ} → limit ≤ cells → numbers_per_span * max_entries ≤ spans → numbers_per_boundary * max_entries ≤ boundaries → numbers_per_anchor * max_entries ≤ anchors
    → room_for (read_sheet limit bytes) cells spans boundaries anchors ≡ read_sheet limit bytes
room-enough limit bytes {cells} {spans} {boundaries} {anchors} a b c d = go (read_sheet limit bytes) refl
  where
    go : (r : Reading) → read_sheet limit bytes ≡ r → room_for r cells spans boundaries anchors ≡ r
    go (refused refusal place) e = refl
    go (well_formed s) e =
        let S : Sized limit s = sized limit bytes e in
        rw (
          le-leb (length s.cells) cells (omega (arith, S.cells_long_lem, S.area-few)),
          le-leb (length s.spans) spans (omega (arith, S.spans.long, S.spans.few)),
          le-leb (length s.boundaries) boundaries (omega (arith, S.boundaries.long, S.boundaries.few)),
          le-leb (length s.anchors) anchors (omega (arith, S.anchors.long, S.anchors.few)),
        )
