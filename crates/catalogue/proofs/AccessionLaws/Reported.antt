-- The same of what a call returned. The premise is that the answer and the output at exit are those of the contract, and that the number is 0; what is said is
-- of the numbers that stand in the output, read back four by four, as many records as the answer counts. Assumes nothing.
use Rattle.std.specs.Prelude.{ℕ, zero, suc, ◌*◌, ◌<◌, ◌≡◌, refl, ◌↔◌, Bool, true, false, drop, leb, Option, None, Some}
use Rattle.std.proofs.Common.{arith, sym, ap, ◌∙◌}
use mathlib.Core.List.{List, [], ◌∷◌, ◌++◌, Memᴰ}
use Rattle.std.proofs.Math.ListN.{length}
use Rattle.definitions.specs.Scan.{concat_map}
use Rattle.definitions.specs.Refusals.{unless}
use Rattle.definitions.specs.Verdict.{Answer, refusal, first_refusal}
use Rattle.catalogue.specs.Accession.{Accession, numbers_per_accession, accession_at, accession_count, is_finished, accessions_fault, is_current}
use Rattle.catalogue.specs.Line.{on_line_of, line_of, flat_line, line_verdict, line_at_exit}
use Rattle.catalogue.proofs.AccessionLaws.Current.{current-unique}
use Rattle.catalogue.specs.AccessionLaws.Newest.{newest_first}
use Rattle.catalogue.proofs.AccessionLaws.MapLine.{line-unknown}
use Rattle.catalogue.proofs.AccessionLaws.Lines.{Descends, line_of-map, line_descends, line_first, Current, current-found}
use Rattle.catalogue.specs.AccessionLaws.Chain.{Link}
use Rattle.catalogue.proofs.AccessionLaws.Chain.{each_linked}

-- the first k records of a list of numbers
unfoldable pub accessions_in : ℕ → List ℕ → List Accession
unfolding accession_at
accessions_in zero l = []
accessions_in (suc k) l = accession_at l 0 ∷ accessions_in k (drop numbers_per_accession l)

read-flat : (x : List Accession) (rest : List ℕ) → accessions_in (length x) (flat_line x ++ rest) ≡ x
unfolding accessions_in flat_line concat_map accession_at
read-flat [] rest = refl
read-flat (r ∷ x) rest = ap {B = List Accession} (λ t. r ∷ t) (read-flat x rest)

-- success says that no check refused
accepted : (f : Bool) (o : Option ℕ) (b : Bool) (n : ℕ) → (first_refusal (refusal 3 (unless f) ∷ refusal 17 o ∷ refusal 10 (unless b) ∷ []) n).number ≡ 0
    → (o ≡ None) × ((first_refusal (refusal 3 (unless f) ∷ refusal 17 o ∷ refusal 10 (unless b) ∷ []) n).value ≡ n)
accepted true None true n h = (refl, refl)
accepted true None false n h = absurd (omega arith)
accepted true (Some i) b n h = absurd (omega arith)
accepted false o b n h = absurd (omega arith)

module _
    (l : List ℕ) (own : ℕ) (before : List ℕ) (answer : Answer) (output : List ℕ) (said : answer ≡ line_verdict l own (length before))
    (left : output ≡ line_at_exit answer.number l own before) (success : answer.number ≡ 0) where
  checked : (accessions_fault l ≡ None) × ((line_verdict l own (length before)).value ≡ length (line_of l own))
  unfolding line_verdict
  checked =
      accepted (is_finished l) (accessions_fault l) (leb (numbers_per_accession * length (line_of l own)) (length before)) (length (line_of l own))
      (sym (ap (λ a. a.number) said) ∙ success)

  -- each map's records form one chain
  pub reported-chain : (i : ℕ) → i < accession_count l → Link l i
  reported-chain = each_linked l checked.0

  -- the rows are the line
  pub reported-line : accessions_in answer.value output ≡ line_of l own
  reported-line =
      ap (λ n. accessions_in n output) (ap (λ a. a.value) said ∙ checked.1)
      ∙ ap (accessions_in (length (line_of l own))) (left ∙ ap (λ n. line_at_exit n l own before) success)
      ∙ read-flat (line_of l own) (drop (length (flat_line (line_of l own))) before)

  -- a record of the list is among the rows exactly when it is of the own number's map
  pub reported-members :
      (j : ℕ) → j < accession_count l → (accession_at l j).own ≡ own → (i : ℕ) → i < accession_count l
      → Memᴰ (accession_at l i) (accessions_in answer.value output) ↔ ((accession_at l i).on_map ≡ (accession_at l j).on_map)
  reported-members j n e i k = rw reported-line (line_of-map l own checked.0 j n e i k)

  pub reported_descends : Descends (accessions_in answer.value output)
  reported_descends = rw reported-line (line_descends l own checked.0)

  -- an unknown number has none
  pub reported-unknown : ((j : ℕ) → j < accession_count l → (accession_at l j).own ≡ own → ⊥) → answer.value ≡ 0
  reported-unknown h = ap (λ a. a.value) said ∙ checked.1 ∙ ap length (line-unknown l own h)

  -- the own number's map has a current record, its last, and no other; it is the first row
  pub reported-current :
      (j : ℕ) → j < accession_count l → (accession_at l j).own ≡ own
      → (c : Current l (accession_at l j).on_map) × (rest : List Accession) × (accessions_in answer.value output ≡ accession_at l c.place ∷ rest)
  reported-current j n e =
      let c = current-found l checked.0 j n in
      (c, newest_first l (on_line_of l own) c.place, reported-line ∙ line_first l own checked.0 j n e c.place c.within c.of_map c.current)

  pub reported-unique :
      (a b : ℕ) → a < accession_count l → b < accession_count l → (accession_at l a).on_map ≡ (accession_at l b).on_map
      → is_current l a ≡ true → is_current l b ≡ true → a ≡ b
  reported-unique = current-unique l checked.0
