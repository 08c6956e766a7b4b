-- No refusal of a reader has the number 0, so that an answer of 0 says that the sheet was read. Assumes nothing.
use Rattle.std.specs.Prelude.{ℕ, zero, suc, ◌+◌, ◌*◌, ◌<◌, ◌≡◌, refl, Bool, true, false, ◌&&◌, List, [], ◌∷◌, leb, eqb}
use Rattle.std.proofs.Common.{arith, sym, ◌∙◌, leb-true, leb-false}
use Rattle.definitions.specs.Limits.{is_side, max_entries, numbers_per_span, numbers_per_boundary, numbers_per_anchor, tallies_per_span, numbers_per_pair, numbers_per_row}
use Rattle.definitions.specs.SheetNumber.{Read, found, failed, with_group, ill_formed, groups, number}
use Rattle.definitions.specs.Sheet.{Reader, give, check, and_then, times, judged, is_map_kind, kind, cell, area, entries, has_spans, spans_held, end, sheet}
use Rattle.laws.specs.SheetReading.SheetLaws.{groups-bad, groups_more, groups_last}
use Rattle.results.specs.Result as results

pub record Refuses {A : Type 0} (reader : Reader A) : Type 0 where
  pub above : (offset : ℕ) (bytes : List ℕ) {refusal place : ℕ} → reader offset bytes ≡ failed refusal place → 0 < refusal

not-failed : {A : Type 0} {value : A} {offset refusal place : ℕ} {rest : List ℕ} → found value offset rest ≡ failed refusal place → ⊥
not-failed h = let z : ◌≡◌ {A = ℕ} 0 1 = cc in omega arith

failed-above : {A : Type 0} {n m refusal place : ℕ} → 0 < n → ◌≡◌ {A = Read A} (failed n m) (failed refusal place) → 0 < refusal
failed-above {n = n} {refusal = refusal} h q =
    let e : n ≡ refusal = cc in
    omega arith

-- ---- how readers follow one another

module _ {A : Type 0} where
  refuses-give : (value : A) → Refuses (give value)
  refuses-give value = record { above = λ offset bytes h. absurd (not-failed h) }

  refuses-check : (ok : Bool) (refusal place : ℕ) (value : A) → 0 < refusal → Refuses (check ok refusal place value)
  refuses-check true refusal place value k = record { above = λ offset bytes h. absurd (not-failed h) }
  refuses-check false refusal place value k = record { above = λ offset bytes h. failed-above k h }

module _ {A B : Type 0} (reader : Reader A) (next : A → Reader B) where
  refuses-then : Refuses reader → ((value : A) → Refuses (next value)) → Refuses (λ offset bytes. and_then (reader offset bytes) next)
  refuses-then k l = record { above = λ offset bytes h. go offset bytes (reader offset bytes) refl h }
    where
      go : (offset : ℕ) (bytes : List ℕ) (r : Read A) → reader offset bytes ≡ r → {refusal place : ℕ} → and_then r next ≡ failed refusal place → 0 < refusal
      go offset bytes (found value o m) e h = (l value).above o m h
      go offset bytes (failed refusal place) e h = failed-above (k.above offset bytes e) h

refuses-end : Refuses end
refuses-end = record { above = λ offset bytes h. go offset bytes h }
  where
    go : (offset : ℕ) (bytes : List ℕ) {refusal place : ℕ} → end offset bytes ≡ failed refusal place → 0 < refusal
    go offset [] h = absurd (not-failed h)
    go offset (b ∷ bytes) h = failed-above (omega arith) h

-- ---- numbers

groups-above : (first g value offset : ℕ) (bytes : List ℕ) {refusal place : ℕ} → groups first g value offset bytes ≡ failed refusal place → 0 < refusal
unfolding groups
groups-above first g value offset [] h = failed-above (omega arith) h
groups-above first g value offset (b ∷ bytes) {refusal} {place} h = go (ill_formed g b) refl (leb 128 b) refl (λ q. groups-above first (g + 1) (with_group value g b) (offset + 1) bytes q)
  where
    go : (t : Bool) → ill_formed g b ≡ t → (u : Bool) → leb 128 b ≡ u → (groups first (g + 1) (with_group value g b) (offset + 1) bytes ≡ failed refusal place → 0 < refusal) → 0 < refusal
    go true e u f ih = failed-above (omega arith) (sym (groups-bad first g value offset b bytes e) ∙ h)
    go false e true f ih = ih (sym (groups_more first g value offset b bytes e (leb-true 128 b f)) ∙ h)
    go false e false f ih = absurd (not-failed (sym (groups_last first g value offset b bytes e (leb-false 128 b f)) ∙ h))

refuses-number : Refuses number
unfolding number
refuses-number = record { above = λ offset bytes h. groups-above offset 0 0 offset bytes h }

refuses-judged : (ok : ℕ → Bool) → Refuses (judged ok)
unfolding judged
refuses-judged ok = record { above = λ offset bytes h. (refuses-then number (λ value. check (ok value) 14 offset value) refuses-number (λ value. refuses-check (ok value) 14 offset value (omega arith))).above offset bytes h }

refuses-times : (item : Reader ℕ) → Refuses item → (n : ℕ) → Refuses (times n item)
unfolding times
refuses-times item k zero = refuses-give []
refuses-times item k (suc n) = refuses-then item _ k (λ value. refuses-then (times n item) _ (refuses-times item k n) (λ values. refuses-give (value ∷ values)))

-- ---- a sheet of kind 1 or 3

refuses-entries : (size : ℕ) → Refuses (entries size)
unfolding entries
refuses-entries size =
    refuses-then number _ refuses-number
    (λ written. refuses-then (check (leb written max_entries) 3 0 written) _ (refuses-check (leb written max_entries) 3 0 written (omega arith)) (λ count. refuses-times number refuses-number (count * size)))

refuses-spans : (own : Bool) → Refuses (spans_held own)
refuses-spans true = refuses-entries numbers_per_span
refuses-spans false = refuses-give []

pub refuses-sheet : (limit : ℕ) → Refuses (sheet limit)
unfolding sheet kind cell
refuses-sheet limit =
    refuses-then kind _ (refuses-judged is_map_kind) (λ written.
    refuses-then number _ refuses-number (λ pass.
    refuses-then number _ refuses-number (λ w.
    refuses-then number _ refuses-number (λ h.
    refuses-then (area limit w h) _ (refuses-check (is_side w && is_side h && leb (w * h) limit) 1 0 (w * h) (omega arith)) (λ n.
    refuses-then (times n cell) _ (refuses-times cell (refuses-judged (λ value. leb value 255)) n) (λ cells.
    refuses-then (spans_held (has_spans written)) _ (refuses-spans (has_spans written)) (λ spans.
    refuses-then (entries numbers_per_boundary) _ (refuses-entries numbers_per_boundary) (λ boundaries.
    refuses-then (entries numbers_per_anchor) _ (refuses-entries numbers_per_anchor) (λ anchors.
    refuses-then end _ refuses-end (λ _. refuses-give _))))))))))

-- ---- a sheet of kind 2

refuses-entry : (size : ℕ) → Refuses (results.entry size)
unfolding results.entry
refuses-entry size = record { above = λ offset bytes h. (refuses-then (times size number) _ (refuses-times number refuses-number size) (λ numbers. refuses-give _)).above offset bytes h }

refuses-times_entry : (n size : ℕ) → Refuses (results.times_entry n size)
unfolding results.times_entry
refuses-times_entry zero size = refuses-give []
refuses-times_entry (suc n) size = refuses-then (results.entry size) _ (refuses-entry size) (λ e. refuses-then (results.times_entry n size) _ (refuses-times_entry n size) (λ l. refuses-give (e ∷ l)))

refuses-list : (size : ℕ) → Refuses (results.entries size)
unfolding results.entries
refuses-list size = refuses-then number _ refuses-number (λ count. refuses-times_entry count size)

pub refuses-result : Refuses results.result
unfolding results.result results.kind judged
refuses-result =
    refuses-then results.kind _ (refuses-judged (λ value. eqb value 2)) (λ _.
    refuses-then (results.entry 1) _ (refuses-entry 1) (λ count.
    refuses-then (results.entries 1) _ (refuses-list 1) (λ labels.
    refuses-then (results.entries tallies_per_span) _ (refuses-list tallies_per_span) (λ tallies.
    refuses-then (results.entries numbers_per_pair) _ (refuses-list numbers_per_pair) (λ pairs.
    refuses-then (results.entries numbers_per_row) _ (refuses-list numbers_per_row) (λ rows.
    refuses-then end _ refuses-end (λ _. refuses-give _)))))))
