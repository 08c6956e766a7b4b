-- What the steps of this crate promise. Definitions only; assumes nothing.
use Rattle.std.specs.Prelude.{ℕ, zero, suc, ◌/◌, ◌≡◌, ◌&&◌, List, [], ◌∷◌, length, leb, Option, Some, Result}
use Rattle.definitions.specs.Refusals.{Refusal, or_else, unless}
use Rattle.definitions.specs.Verdict.{refusal, first_refusal}
use Rattle.catalogue.specs.Terms.{is_finished, terms_refusal}
use Rattle.catalogue.specs.Accession.{accessions_fault}
use Rattle.catalogue.specs.Accession as accession
use Rattle.catalogue.specs.Pool.{numbers_per_entry, entries_on}
use Rattle.definitions.specs.Lists.{overwrite}
use Rattle.refusals.specs.Answers.{answer_of}
use Rattle.refusals.specs.declared.Refusal as refusals

-- the first refusal over the two lists: 3, 17, 18 and 19
unfoldable pub lists_refusal : List ℕ → List ℕ → Option Refusal
unfolding accessions_fault terms_refusal
lists_refusal terms records =
    or_else (refusal 3 (unless (is_finished terms && accession.is_finished records))) (or_else (refusal 17 (accessions_fault records)) (terms_refusal terms))

-- the entries at the front of the output on success, and the output as it was on a refusal
abbrev pub output_by : ℕ → List ℕ → List ℕ → List ℕ
output_by zero entries old = overwrite entries old
output_by (suc number) entries old = old

-- the last check, 10, and the entries of a day
pub record Listed (terms records : List ℕ) (day : ℕ) (old : List ℕ) (r : Result ℕ refusals.Refusal) (new : List ℕ) : Type 0 where
  pub answer : answer_of r ≡ first_refusal (refusal 10 (unless (leb (length (entries_on terms records (Some day))) (length old))) ∷ []) (length (entries_on terms records (Some day)) / numbers_per_entry)
  pub output : new ≡ output_by (answer_of r).number (entries_on terms records (Some day)) old
