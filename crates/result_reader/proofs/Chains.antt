-- The parts of a result sheet, reader by reader: each chain fails as its first failing part and otherwise goes on with the next. Assumes nothing.
use Prim.Native.Nat.{ℕ, ◌≤◌, ◌<◌}
use native.Mathlib.Omega.{arith}
use mathlib.Core.Path.{◌≡◌, refl, sym, ap, ◌∙◌}
use mathlib.Core.List.{List, [], ◌∷◌}
use lib.ListN.{length, drop, get_or, drop_of_length-le}
use lib.Seq.{drop-cons}
use borrow.Author.Tests.{eq-eqb, ne_eqb}
use Rattle.definitions.specs.Limits.{tallies_per_span, numbers_per_pair, numbers_per_row}
use Rattle.definitions.specs.Refusals.{Refusal as by_number, or_else}
use Rattle.definitions.specs.Verdict.{refusal}
use Rattle.definitions.specs.SheetNumber.{found, failed, number}
use Rattle.definitions.specs.Sheet.{give, and_then, end}
use Rattle.laws.specs.SheetReading.SheetLaws.{keeps-number, ends-inside, then_found, then-failed}
use Rattle.sheet.proofs.Chains.{alike, within}
use Rattle.results.specs.Result.{Entry, Placed, result_of, kind, entry, entries, result, ascent_fault, pair_key, rules_fault}
use Rattle.results.specs.ResultAnswers.{ResultReading, well_formed, refused, judged_by, reading, read_result}
use Rattle.result_writer.proofs.Ascending.{as_pairs}
use Rattle.result_reader.specs.Parts.{turns_fault, no_fault, key_fault, ListHeld, opening, Lists₂, front, back, part_entries, OpeningHeld, FrontHeld, BackHeld, result_in, ResultHeld}
use Rattle.std.specs.Prelude.{Option, None, Some}
use Rattle.refusals.specs.declared.Refusal.{Refusal}
use Rattle.refusals.specs.Refusals.{number_of, refusal_of}
use Rattle.sheet.specs.declared.Part.{Part}
use Rattle.result_reader.specs.declared.Plan.{Plan}
use Rattle.result_reader.proofs.Numbers.{one_found, one_fails}

-- ---- the kind and the region count

module _ (bytes : List ℕ) where
  module _ {value place : ℕ} (h : number 0 bytes ≡ found value place (drop place bytes)) where
    pub opening-found : value ≡ 2 → {regions next : ℕ} → number place (drop place bytes) ≡ found regions next (drop next bytes) → OpeningHeld bytes regions place next
    unfolding opening kind entry
    opening-found k {regions} {next} m =
        let inside : place ≤ length bytes = ends-inside keeps-number bytes 0 (omega arith) h in
        record { behind = ends-inside keeps-number bytes place inside m; same = rw (h, eq-eqb value 2 k, one_found place (drop place bytes) m) }

    pub opening-stops : value ≡ 2 → {refusal fault : ℕ} → number place (drop place bytes) ≡ failed refusal fault → opening 0 bytes ≡ failed refusal fault
    unfolding opening kind entry
    opening-stops k m = rw (h, eq-eqb value 2 k, one_fails place (drop place bytes) m)

    pub opening-other : (value ≡ 2 → ⊥) → opening 0 bytes ≡ failed 14 0
    unfolding opening kind
    opening-other k = rw (h, ne_eqb value 2 k)

  pub opening-fails : {refusal fault : ℕ} → number 0 bytes ≡ failed refusal fault → opening 0 bytes ≡ failed refusal fault
  unfolding opening kind
  opening-fails h = rw h

-- ---- labels and tallies

module _ (at : ℕ) (bytes : List ℕ) where
  labels_fail : {refusal place : ℕ} → entries 1 at bytes ≡ failed refusal place → front at bytes ≡ failed refusal place
  unfolding front
  labels_fail h = rw h

  module _ {a : List Entry} {o : ℕ} {r : List ℕ} (h : entries 1 at bytes ≡ found a o r) where
    tallies_fail : {refusal place : ℕ} → entries tallies_per_span o r ≡ failed refusal place → front at bytes ≡ failed refusal place
    unfolding front
    tallies_fail k = rw (h, k)

    front_read : {b : List Entry} {p : ℕ} {q : List ℕ} → entries tallies_per_span o r ≡ found b p q → front at bytes ≡ found (record { first = a; second = b }) p q
    unfolding front
    front_read k = rw (h, k)

  -- ---- pairs and rows

  pairs_fail : {refusal place : ℕ} → entries numbers_per_pair at bytes ≡ failed refusal place → back at bytes ≡ failed refusal place
  unfolding back
  pairs_fail h = rw h

  module _ {a : List Entry} {o : ℕ} {r : List ℕ} (h : entries numbers_per_pair at bytes ≡ found a o r) where
    rows_fail : {refusal place : ℕ} → entries numbers_per_row o r ≡ failed refusal place → back at bytes ≡ failed refusal place
    unfolding back
    rows_fail k = rw (h, k)

    module _ {b : List Entry} {p : ℕ} {q : List ℕ} (k : entries numbers_per_row o r ≡ found b p q) where
      bytes_left : {x : ℕ} {rest : List ℕ} → q ≡ x ∷ rest → back at bytes ≡ failed 14 p
      unfolding back
      bytes_left m = rw (h, k, m)

      all_read : q ≡ [] → back at bytes ≡ found (record { first = a; second = b }) p []
      unfolding back
      all_read m = rw (h, k, m)

pub front-stops : (bytes : List ℕ) (at : ℕ) {refusal fault : ℕ} → entries 1 at (drop at bytes) ≡ failed refusal fault → front at (drop at bytes) ≡ failed refusal fault
front-stops bytes at h = labels_fail at (drop at bytes) h

module _ (regions place : ℕ) {bytes : List ℕ} {at middle : ℕ} {labels : Part} {breach : Option ℕ} (L : ListHeld (turns_fault regions place) 1 bytes at labels middle breach) where
  pub front-stops-later : {refusal fault : ℕ} → entries tallies_per_span middle (drop middle bytes) ≡ failed refusal fault → front at (drop at bytes) ≡ failed refusal fault
  front-stops-later h = tallies_fail at (drop at bytes) L.same h

  pub front-found : {tallies : Part} {next : ℕ} {none-broken : Option ℕ} → ListHeld no_fault tallies_per_span bytes middle tallies next none-broken
      → FrontHeld regions place bytes at labels tallies next breach
  front-found T =
      record { for_labels = L.held; for_tallies = T.held; behind = T.behind; same = front_read at (drop at bytes) L.same T.same; broken = L.broken }

pub back-stops : (bytes : List ℕ) (at : ℕ) {refusal fault : ℕ} → entries numbers_per_pair at (drop at bytes) ≡ failed refusal fault → back at (drop at bytes) ≡ failed refusal fault
back-stops bytes at h = pairs_fail at (drop at bytes) h

module _ {bytes : List ℕ} {at middle : ℕ} {pairs : Part} {first : Option ℕ} (P : ListHeld (key_fault 0) numbers_per_pair bytes at pairs middle first) where
  pub back-stops-later : {refusal fault : ℕ} → entries numbers_per_row middle (drop middle bytes) ≡ failed refusal fault → back at (drop at bytes) ≡ failed refusal fault
  back-stops-later h = rows_fail at (drop at bytes) P.same h

  module _ {rows : Part} {next : ℕ} {second : Option ℕ} (R : ListHeld (key_fault 1) numbers_per_row bytes middle rows next second) where
    pub back-too_long : next < length bytes → back at (drop at bytes) ≡ failed 14 next
    back-too_long h = bytes_left at (drop at bytes) P.same R.same (drop-cons bytes next 0 h)

    pub back_found : {breach : Option ℕ} → length bytes ≤ next → breach ≡ or_else first second → BackHeld bytes at pairs rows next breach
    back_found h b =
        record {
          for_pairs = P.held;
          for_rows = R.held;
          same = all_read at (drop at bytes) P.same R.same (drop_of_length-le bytes h);
          broken = b ∙ ap (λ x. or_else x second) (P.broken ∙ sym (as_pairs (part_entries numbers_per_pair bytes pairs))) ∙ ap (or_else (ascent_fault pair_key (part_entries numbers_per_pair bytes pairs))) R.broken;
        }

-- ---- the sheet

placed_from : Entry → Lists₂ → Lists₂ → Placed
placed_from count f b =
    record {
      regions_place = count.place;
      regions = get_or count.numbers 0 0;
      labels = f.first;
      tallies = f.second;
      pairs = b.first;
      rows = b.second;
    }

-- the three parts, one behind the other
in_parts : (at : ℕ) (bytes : List ℕ)
    → and_then (opening at bytes) (λ count o r. and_then (front o r) (λ f o r. and_then (back o r) (λ b. give (placed_from count f b)))) ≡ result at bytes
unfolding result opening front back placed_from
in_parts at bytes =
    within Entry (kind at bytes) _ _ (λ _ o r.
    alike (entry 1 o r) (λ count o r.
    within Lists₂ (entries 1 o r) _ _ (λ labels o r.
    within Lists₂ (entries tallies_per_span o r) _ _ (λ tallies o r.
    within Lists₂ (entries numbers_per_pair o r) _ _ (λ pairs o r.
    within Lists₂ (entries numbers_per_row o r) _ _ (λ rows o r.
    within Lists₂ (end o r) _ _ (λ _ o r. refl)))))))

module _ (bytes : List ℕ) where
  pub result_unopened : {refusal place : ℕ} → opening 0 bytes ≡ failed refusal place → read_result bytes ≡ refused refusal place
  unfolding read_result reading
  result_unopened h = ap reading (sym (in_parts 0 bytes) ∙ then-failed _ h)

  module _ {count : Entry} {o : ℕ} {r : List ℕ} (h : opening 0 bytes ≡ found count o r) where
    pub result_no_front : {refusal place : ℕ} → front o r ≡ failed refusal place → read_result bytes ≡ refused refusal place
    unfolding read_result reading
    result_no_front k = ap reading (sym (in_parts 0 bytes) ∙ then_found _ h ∙ then-failed _ k)

    module _ {f : Lists₂} {p : ℕ} {q : List ℕ} (k : front o r ≡ found f p q) where
      pub result_no_back : {refusal place : ℕ} → back p q ≡ failed refusal place → read_result bytes ≡ refused refusal place
      unfolding read_result reading
      result_no_back m = ap reading (sym (in_parts 0 bytes) ∙ then_found _ h ∙ then_found _ k ∙ then-failed _ m)

      result-read : {b : Lists₂} {s : ℕ} {t : List ℕ} → back p q ≡ found b s t → read_result bytes ≡ judged_by (rules_fault (placed_from count f b)) (result_of (placed_from count f b))
      unfolding read_result reading
      result-read m = ap reading (sym (in_parts 0 bytes) ∙ then_found _ h ∙ then_found _ k ∙ then_found _ m)

-- all parts are found: the first breach decides
module _ {bytes : List ℕ} {regions place at middle next : ℕ} {labels tallies pairs rows : Part} {first second : Option ℕ} (breach : Option ℕ)
    (O : OpeningHeld bytes regions place at) (F : FrontHeld regions place bytes at labels tallies middle first) (B : BackHeld bytes middle pairs rows next second)
    (e : breach ≡ or_else first second) where
  abbrev plan : Plan
  plan = record { regions = regions; labels = labels; tallies = tallies; pairs = pairs; rows = rows }

  told : read_result bytes ≡ judged_by breach (result_in bytes plan)
  unfolding rules_fault placed_from
  told = result-read bytes O.same F.same B.same ∙ (λ i. judged_by (broken i) (numbers i)) ∙ ap (λ o. judged_by o (result_in bytes plan)) (sym e)
    where
      there : Placed
      there =
          placed_from (record { place = place; numbers = regions ∷ [] }) (record { first = part_entries 1 bytes labels; second = part_entries tallies_per_span bytes tallies })
          (record { first = part_entries numbers_per_pair bytes pairs; second = part_entries numbers_per_row bytes rows })

      numbers : result_of there ≡ result_in bytes plan
      numbers = λ i. record {
        regions = regions;
        labels = F.for_labels.flat i;
        tallies = F.for_tallies.flat i;
        pairs = B.for_pairs.flat i;
        rows = B.for_rows.flat i;
      }

      broken : rules_fault there ≡ or_else first second
      broken = λ i. or_else (sym F.broken i) (sym B.broken i)

  pub result-kept : None ≡ refusal 15 breach → ResultHeld bytes plan
  result-kept h =
      record {
        held = record { for_labels = F.for_labels; for_tallies = F.for_tallies; for_pairs = B.for_pairs; for_rows = B.for_rows };
        same = told ∙ go breach h;
      }
    where
      go : (b : Option ℕ) → None ≡ refusal 15 b → judged_by b (result_in bytes plan) ≡ well_formed (result_in bytes plan)
      go None h = refl
      go (Some at) h = absurd (let z : ◌≡◌ {A = ℕ} 0 1 = cc in omega arith)

  pub result-broken : (r : Refusal) → Some (refusal_of r) ≡ refusal 15 breach → read_result bytes ≡ refused (number_of r.cause) r.place
  result-broken r h = told ∙ go breach h
    where
      as_refused : Option by_number → ResultReading
      as_refused (Some x) = refused x.number x.place
      as_refused None = refused 0 0

      go : (b : Option ℕ) → Some (refusal_of r) ≡ refusal 15 b → judged_by b (result_in bytes plan) ≡ refused (number_of r.cause) r.place
      go None h = absurd (let z : ◌≡◌ {A = ℕ} 0 1 = cc in omega arith)
      go (Some at) h = sym (ap as_refused h)
