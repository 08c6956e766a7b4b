-- The rules one after the other, and what the writer answers at each of its returns. Assumes nothing.
use Prim.Native.Nat.{ℕ, ◌≤◌}
use native.Mathlib.Omega.{arith}
use mathlib.Core.Path.{◌≡◌, refl, sym, ap, ◌∙◌}
use mathlib.Core.Bool.{Bool, true, false}
use mathlib.Core.List.{List, [], ◌∷◌}
use lib.Dec.{leb}
use lib.ListN.{length}
use borrow.Author.Tests.{leb-true}
use Rattle.definitions.specs.Refusals.{or_else, unless}
use Rattle.definitions.specs.Verdict.{Answer, refusal, first_refusal}
use Rattle.definitions.specs.Limits.{numbers_per_pair, numbers_per_row}
use Rattle.laws.specs.ListLaws.Overwritten.{sets_overwrite}
use Rattle.results.specs.Result.{Result, turns, labels_fault, ascent_fault, pair_key, row_key, rules_fault}
use Rattle.results.specs.ResultAnswers.{entries_in, placed, is_finished, result_bytes, write_verdict, Writes}
use Rattle.byte_writer.specs.Contract.{Put}

-- ---- the rules

module _ (r : Result) (a : Bool) (labels : labels_fault r.regions 0 (turns r.regions 0 (entries_in 1 r.labels)) ≡ unless a) where
  pub rules-labels : a ≡ false → rules_fault (placed r) ≡ unless false
  unfolding rules_fault placed
  rules-labels e = ap (λ o. or_else o (or_else (ascent_fault pair_key (entries_in numbers_per_pair r.pairs)) (ascent_fault row_key (entries_in numbers_per_row r.rows)))) (labels ∙ ap unless e)

  module _ (turned : a ≡ true) (b : Bool) (pairs : ascent_fault pair_key (entries_in numbers_per_pair r.pairs) ≡ unless b) where
    first : rules_fault (placed r) ≡ or_else (unless b) (ascent_fault row_key (entries_in numbers_per_row r.rows))
    unfolding rules_fault placed
    first =
        ap (λ o. or_else o (or_else (ascent_fault pair_key (entries_in numbers_per_pair r.pairs)) (ascent_fault row_key (entries_in numbers_per_row r.rows)))) (labels ∙ ap unless turned)
        ∙ ap (λ o. or_else o (ascent_fault row_key (entries_in numbers_per_row r.rows))) pairs

    pub rules-pairs : b ≡ false → rules_fault (placed r) ≡ unless false
    rules-pairs e = first ∙ ap (λ t. or_else (unless t) (ascent_fault row_key (entries_in numbers_per_row r.rows))) e

    pub rules-rows : b ≡ true → (c : Bool) → ascent_fault row_key (entries_in numbers_per_row r.rows) ≡ unless c → rules_fault (placed r) ≡ unless c
    rules-rows e c rows = first ∙ ap (λ t. or_else (unless t) (ascent_fault row_key (entries_in numbers_per_row r.rows))) e ∙ rows

-- ---- the answers

abbrev answer : ℕ → ℕ → Answer
answer number value = record { number = number; value = value }

module _ (r : Result) (lent : List ℕ) where
  pub writes_15 : (kept : Bool) → rules_fault (placed r) ≡ unless kept → kept ≡ false → Writes r lent (answer 15 0) lent
  unfolding write_verdict
  writes_15 kept e f = record { said = sym said; left = refl }
    where
      said : write_verdict r (length lent) ≡ answer 15 0
      said =
          ap (λ o. first_refusal (refusal 15 o ∷ refusal 3 (unless (is_finished r)) ∷ refusal 10 (unless (leb (length (result_bytes r)) (length lent))) ∷ []) (length (result_bytes r)))
          (e ∙ ap unless f)

  module _ (kept : Bool) (rules : rules_fault (placed r) ≡ unless kept) (keeps : kept ≡ true) where
    behind : write_verdict r (length lent)
        ≡ first_refusal (refusal 3 (unless (is_finished r)) ∷ refusal 10 (unless (leb (length (result_bytes r)) (length lent))) ∷ []) (length (result_bytes r))
    unfolding write_verdict
    behind =
        ap (λ o. first_refusal (refusal 15 o ∷ refusal 3 (unless (is_finished r)) ∷ refusal 10 (unless (leb (length (result_bytes r)) (length lent))) ∷ []) (length (result_bytes r)))
        (rules ∙ ap unless keeps)

    pub writes_3 : (finished : Bool) → finished ≡ is_finished r → finished ≡ false → Writes r lent (answer 3 0) lent
    writes_3 finished e f = record { said = sym (behind ∙ said); left = refl }
      where
        said : first_refusal (refusal 3 (unless (is_finished r)) ∷ refusal 10 (unless (leb (length (result_bytes r)) (length lent))) ∷ []) (length (result_bytes r)) ≡ answer 3 0
        said = ap (λ t. first_refusal (refusal 3 (unless t) ∷ refusal 10 (unless (leb (length (result_bytes r)) (length lent))) ∷ []) (length (result_bytes r))) (sym e ∙ f)

    module _ (finished : Bool) (whole : finished ≡ is_finished r) (ends : finished ≡ true) where
      room : (t : Bool) → t ≡ leb (length (result_bytes r)) (length lent) → write_verdict r (length lent) ≡ first_refusal (refusal 10 (unless t) ∷ []) (length (result_bytes r))
      room t e =
          behind
          ∙ ap (λ u. first_refusal (refusal 3 (unless u) ∷ refusal 10 (unless (leb (length (result_bytes r)) (length lent))) ∷ []) (length (result_bytes r))) (sym whole ∙ ends)
          ∙ ap (λ u. first_refusal (refusal 10 (unless u) ∷ []) (length (result_bytes r))) (sym e)

      pub writes_10 : (fitting : Bool) → fitting ≡ leb (length (result_bytes r)) (length lent) → fitting ≡ false → Writes r lent (answer 10 0) lent
      writes_10 fitting e f = record { said = sym (room fitting e ∙ ap (λ u. first_refusal (refusal 10 (unless u) ∷ []) (length (result_bytes r))) f); left = refl }

      pub writes_0 : (fitting : Bool) → fitting ≡ leb (length (result_bytes r)) (length lent) → fitting ≡ true → {new : List ℕ} {size : ℕ} → Put lent 0 (result_bytes r) new size
          → Writes r lent (answer 0 size) new
      writes_0 fitting e f {new} {size} P =
          let fits : length (result_bytes r) ≤ length lent = leb-true (length (result_bytes r)) (length lent) (sym e ∙ f) in
          let all : size ≡ length (result_bytes r) = omega (arith, P.next_is) in
          record {
            said = ap (answer 0) all ∙ sym (room fitting e ∙ ap (λ u. first_refusal (refusal 10 (unless u) ∷ []) (length (result_bytes r))) f);
            left = P.stored ∙ sets_overwrite lent (result_bytes r) fits;
          }
