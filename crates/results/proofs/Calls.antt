-- "A result that was written reads as itself" (document 02, request 1), over a call. What is assumed, whole: a call of the writer met its contract (`Writes`) and
-- answered 0, and the lists hold numbers of 64 bits, as their element types have it, and are shorter than 2 ^ 64. Then the bytes that it wrote read as the
-- result that it was given.
use Rattle.std.specs.Prelude.{ℕ, ◌%◌, ◌^◌, ◌<◌, ◌≡◌, refl, Bool, true, false, ◌&&◌, List, [], ◌∷◌, leb, eqb, length, take, drop, Option, None, Some}
use Rattle.std.proofs.Common.{arith, sym, ap, ◌∙◌, eqb-true}
use Rattle.std.proofs.Math.Seq.{take-append_seam}
use Rattle.definitions.specs.Limits.{tallies_per_span, numbers_per_pair, numbers_per_row}
use Rattle.definitions.specs.Refusals.{unless}
use Rattle.definitions.specs.Verdict.{Answer, refusal, first_refusal}
use Rattle.laws.specs.ListLaws.Tests.{both}
use Rattle.results.specs.Result.{Result, rules_fault}
use Rattle.results.specs.ResultAnswers.{well_formed, read_result, result_bytes, placed, is_finished, write_verdict, written_at_exit, Writes}
use Rattle.results.proofs.WrittenReads.{Words, Writable, written-reads}

-- what lists of 64-bit numbers in memory keep to
pub record InMemory (r : Result) : Type 0 where
  pub regions : r.regions < 2 ^ 64
  pub labels : Words r.labels
  pub tallies : Words r.tallies
  pub pairs : Words r.pairs
  pub rows : Words r.rows
  pub labels-few : length r.labels < 2 ^ 64
  pub tallies-few : length r.tallies < 2 ^ 64
  pub pairs-few : length r.pairs < 2 ^ 64
  pub rows_few : length r.rows < 2 ^ 64

-- the writer answered 0
record Accepted (r : Result) (room value : ℕ) : Type 0 where
  pub rules : rules_fault (placed r) ≡ None
  pub finished : is_finished r ≡ true
  pub size : value ≡ length (result_bytes r)

accepted : (r : Result) (room : ℕ) → (write_verdict r room).number ≡ 0 → Accepted r room (write_verdict r room).value
unfolding write_verdict
accepted r room h = go (rules_fault (placed r)) refl (is_finished r) refl (leb (length (result_bytes r)) room) h
  where
    go : (o : Option ℕ) → rules_fault (placed r) ≡ o → (t : Bool) → is_finished r ≡ t → (u : Bool)
        → (first_refusal (refusal 15 o ∷ refusal 3 (unless t) ∷ refusal 10 (unless u) ∷ []) (length (result_bytes r))).number ≡ 0
        → Accepted r room (first_refusal (refusal 15 o ∷ refusal 3 (unless t) ∷ refusal 10 (unless u) ∷ []) (length (result_bytes r))).value
    go None e true f true h = record { rules = e; finished = f; size = refl }
    go None e true f false h = absurd (omega arith)
    go None e false f u h = absurd (omega arith)
    go (Some place) e t f u h = absurd (omega arith)

writable : {r : Result} → InMemory r → rules_fault (placed r) ≡ None → is_finished r ≡ true → Writable r
writable {r} m e f =
    let first = both (eqb (length r.tallies % tallies_per_span) 0 && eqb (length r.pairs % numbers_per_pair) 0) (eqb (length r.rows % numbers_per_row) 0) f in
    let second = both (eqb (length r.tallies % tallies_per_span) 0) (eqb (length r.pairs % numbers_per_pair) 0) first.0 in
    record {
      regions = m.regions;
      labels = m.labels;
      tallies = m.tallies;
      pairs = m.pairs;
      rows = m.rows;
      labels-few = m.labels-few;
      tallies-few = m.tallies-few;
      pairs-few = m.pairs-few;
      rows_few = m.rows_few;
      tallies-whole = eqb-true (length r.tallies % tallies_per_span) 0 second.0;
      pairs-whole = eqb-true (length r.pairs % numbers_per_pair) 0 second.1;
      rows_whole = eqb-true (length r.rows % numbers_per_row) 0 first.1;
      rules = e;
    }

pub written-call : {r : Result} {lent lent' : List ℕ} {answer : Answer} → InMemory r → Writes r lent answer lent' → answer.number ≡ 0
    → read_result (take answer.value lent') ≡ well_formed r
written-call {r} {lent} {lent'} {answer} m W h =
    let A : Accepted r (length lent) (write_verdict r (length lent)).value = accepted r (length lent) (ap (λ (a : Answer). a.number) (sym W.said) ∙ h) in
    let size : answer.value ≡ length (result_bytes r) = ap (λ (a : Answer). a.value) W.said ∙ A.size in
    let bytes : lent' ≡ written_at_exit 0 r lent = W.left ∙ ap (λ n. written_at_exit n r lent) h in
    let written : take answer.value lent' ≡ result_bytes r =
    ap (λ n. take n lent') size ∙ ap (take (length (result_bytes r))) bytes ∙ take-append_seam (result_bytes r) (drop (length (result_bytes r)) lent) in
    ap read_result written ∙ written-reads r (writable m A.rules A.finished)
