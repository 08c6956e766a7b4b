-- What the converter answers at each of its returns. Assumes nothing.
use Prim.Native.Nat.{ℕ, zero, suc, ◌≤◌, ◌<◌}
use native.Mathlib.Omega.{arith}
use mathlib.Core.Path.{◌≡◌, refl, sym, ap, ◌∙◌}
use mathlib.Core.Bool.{Bool, true, false}
use Rattle.std.specs.Prelude.{Option, None, Some}
use mathlib.Core.List.{List, [], ◌∷◌}
use lib.Dec.{leb}
use lib.ListN.{length}
use lib.Seq.{sets}
use borrow.Author.Tests.{le-leb, lt-leb}
use Rattle.definitions.specs.Refusals.{Refusal, or_else, unless, pass_fault, spans_refusal, boundaries_fault, anchors_fault, elevations_fault}
use Rattle.definitions.specs.Verdict.{Answer, refusal, first_refusal}
use Rattle.definitions.specs.SheetNumber.{number}
use Rattle.definitions.specs.Sheet.{endpoints_of, Sheet, well_formed, refused, read_sheet, plain_cell_limit}
use Rattle.laws.specs.ListLaws.Overwritten.{sets_overwrite}
use Rattle.sheet.specs.declared.Plan.{Plan}
use Rattle.sheet.specs.Parts.{sheet_of}
use Rattle.byte_writer.specs.Contract.{Put}
use Rattle.map_sheets.specs.SheetBytes.{sheet_bytes}
use Rattle.map_sheets.specs.Writing.{written_at_exit}
use Rattle.laws.specs.TableLaws.AcceptedCalls.{Numbered, refusal-numbered, or_numbered, spans-numbered, number-above}
use Rattle.map_sheets.specs.Converting.{same_numbers, is_one_list, read_kind1, convert_answer, convert_verdict, converted_bytes, Converts}
use Rattle.sheet_converter.specs.Contract.{is_other, lists_refusal, map_refusal, refusal_for, ConvertsPlan}
use Rattle.sheet_converter.proofs.FirstNumber.{read-other, read_same}

abbrev answer : ℕ → ℕ → Answer
answer number value = record { number = number; value = value }

-- ---- no refusal has the number 0

numbered-map : (s : Sheet) → Numbered (refusal_for s)
unfolding map_refusal lists_refusal
numbered-map s =
    or_numbered (refusal-numbered 4 (pass_fault s.pass) (omega arith))
    (or_numbered
    (or_numbered (spans-numbered s.width s.height s.spans)
    (or_numbered (refusal-numbered 7 (boundaries_fault s.width s.height s.boundaries) (omega arith)) (refusal-numbered 8 (anchors_fault s.width s.height s.anchors) (omega arith))))
    (or_numbered (refusal-numbered 9 (elevations_fault s.cells) (omega arith)) (refusal-numbered 22 (unless (same_numbers s.spans (endpoints_of s.boundaries))) (omega arith))))

-- ---- a sheet that was found

-- by the first refusal before 10, by 10, and by how many bytes there are
by_refusal : Option Refusal → Option Refusal → ℕ → Answer
by_refusal None ten n = first_refusal (ten ∷ []) n
by_refusal (Some r) ten n = record { number = r.number; value = r.place }

in_order : (a b c d e f g : Option Refusal) (n : ℕ)
    → first_refusal (a ∷ b ∷ c ∷ d ∷ e ∷ f ∷ g ∷ []) n ≡ by_refusal (or_else a (or_else (or_else b (or_else c d)) (or_else e f))) g n
unfolding by_refusal
in_order (Some r) b c d e f g n = refl
in_order None (Some r) c d e f g n = refl
in_order None None (Some r) d e f g n = refl
in_order None None None (Some r) e f g n = refl
in_order None None None None (Some r) f g n = refl
in_order None None None None None (Some r) g n = refl
in_order None None None None None None g n = refl

answered : (s : Sheet) (room : ℕ)
    → convert_answer (well_formed s) room ≡ by_refusal (refusal_for s) (refusal 10 (unless (leb (length (sheet_bytes 3 s)) room))) (length (sheet_bytes 3 s))
unfolding convert_answer map_refusal lists_refusal is_one_list
answered s room =
    in_order (refusal 4 (pass_fault s.pass)) (spans_refusal s.width s.height s.spans) (refusal 7 (boundaries_fault s.width s.height s.boundaries))
    (refusal 8 (anchors_fault s.width s.height s.anchors)) (refusal 9 (elevations_fault s.cells)) _ _ (length (sheet_bytes 3 s))

module _ (bytes : List ℕ) (plan : Plan) (lent : List ℕ) where
  s : Sheet
  s = sheet_of bytes plan

  pub plan-refused : {number place : ℕ} → Some (record { number = number; place = place }) ≡ refusal_for (sheet_of bytes plan)
      → ConvertsPlan bytes plan lent (answer number place) lent
  unfolding by_refusal s
  plan-refused {number} {place} e =
      record {
        said = sym (answered s (length lent) ∙ ap (λ o. by_refusal o (refusal 10 (unless (leb (length (sheet_bytes 3 s)) (length lent)))) (length (sheet_bytes 3 s))) (sym e));
        left = go number (number-above (numbered-map s) (sym e));
      }
    where
      go : (n : ℕ) → 0 < n → lent ≡ written_at_exit n (sheet_bytes 3 (sheet_of bytes plan)) lent
      go zero h = absurd (omega arith)
      go (suc n) h = refl

  module _ (None-found : None ≡ refusal_for (sheet_of bytes plan)) where
    by_room : (t : Bool) → leb (length (sheet_bytes 3 s)) (length lent) ≡ t
        → convert_answer (well_formed (sheet_of bytes plan)) (length lent) ≡ first_refusal (refusal 10 (unless t) ∷ []) (length (sheet_bytes 3 s))
    unfolding by_refusal s
    by_room t e =
        answered s (length lent) ∙ ap (λ o. by_refusal o (refusal 10 (unless (leb (length (sheet_bytes 3 s)) (length lent)))) (length (sheet_bytes 3 s))) (sym None-found)
        ∙ ap (λ t. first_refusal (refusal 10 (unless t) ∷ []) (length (sheet_bytes 3 s))) e

    pub plan-short : length lent < length (sheet_bytes 3 (sheet_of bytes plan)) → ConvertsPlan bytes plan lent (answer 10 0) lent
    unfolding s
    plan-short h = record { said = sym (by_room false (lt-leb (length (sheet_bytes 3 s)) (length lent) h)); left = refl }

    pub plan-put : length (sheet_bytes 3 (sheet_of bytes plan)) ≤ length lent → {new cut : List ℕ} {size : ℕ} → cut ≡ sheet_bytes 3 (sheet_of bytes plan) → Put lent 0 cut new size
        → ConvertsPlan bytes plan lent (answer 0 size) new
    unfolding s
    plan-put h {new} {cut} {size} c P =
        let all : size ≡ length (sheet_bytes 3 s) = omega (arith, P.next_is, ap length c) in
        record {
          said = ap (answer 0) all ∙ sym (by_room true (le-leb (length (sheet_bytes 3 s)) (length lent) h));
          left = P.stored ∙ ap (sets lent 0) c ∙ sets_overwrite lent (sheet_bytes 3 s) h;
        }

-- ---- the whole

module _ (bytes lent : List ℕ) where
  as_refused : {number place : ℕ} → read_kind1 bytes ≡ refused number place → Converts bytes lent (answer number place) lent
  unfolding convert_verdict convert_answer converted_bytes
  as_refused {number} {place} e =
      record {
        said = sym (ap (λ r. convert_answer r (length lent)) e);
        left = go number ∙ ap (λ r. written_at_exit number (converted_bytes r) lent) (sym e);
      }
    where
      go : (n : ℕ) → lent ≡ written_at_exit n (converted_bytes (refused number place)) lent
      go zero = refl
      go (suc n) = refl

  pub converts_other : is_other (number 0 bytes) ≡ true → Converts bytes lent (answer 14 0) lent
  converts_other h = as_refused (read-other bytes h)

  module _ (same : is_other (number 0 bytes) ≡ false) where
    pub converts_refused : {refusal place : ℕ} → read_sheet plain_cell_limit bytes ≡ refused refusal place → Converts bytes lent (answer refusal place) lent
    converts_refused e = as_refused (read_same bytes same ∙ e)

    pub converts_plan : (plan : Plan) → read_sheet plain_cell_limit bytes ≡ well_formed (sheet_of bytes plan) → {said : Answer} {lent' : List ℕ} → ConvertsPlan bytes plan lent said lent'
        → Converts bytes lent said lent'
    unfolding convert_verdict converted_bytes
    converts_plan plan e {said} C =
        let r : read_kind1 bytes ≡ well_formed (sheet_of bytes plan) = read_same bytes same ∙ e in
        record {
          said = C.said ∙ sym (ap (λ x. convert_answer x (length lent)) r);
          left = C.left ∙ ap (λ x. written_at_exit said.number (converted_bytes x) lent) (sym r);
        }
