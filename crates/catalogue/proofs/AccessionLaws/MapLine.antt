-- The line of an own number is that of its record's map: own numbers differ, so one record has it, and none has an unknown one. Assumes nothing.
use Prim.Native.Nat.{ℕ, ◌<◌}
use Rattle.std.proofs.Common.{arith, sym, ap₂, ◌∙◌, eqb-true, eq-eqb, ne_eqb}
use Rattle.std.specs.Prelude.{◌≡◌, true, ◌&&◌, List, [], None}
use Rattle.std.proofs.Math.Path.{ap}
use Rattle.std.proofs.Math.Bool.{Bool, false}
use Rattle.std.proofs.Math.Dec.{eqb}
use Rattle.definitions.specs.Scan.{collect}
use Rattle.laws.specs.ListLaws.Tests.{both, same_test}
use Rattle.laws.specs.ListLaws.Below.{below_at, below_none, below_first}
use Rattle.laws.specs.OrderLaws.ListOrder.{eqb_sym}
use Rattle.catalogue.specs.Accession.{accession_at, accession_count, on_same_map, accessions_fault}
use Rattle.catalogue.specs.Line.{reversed, on_line_of, line_of}
use Rattle.catalogue.proofs.AccessionLaws.Current.{kept, own_unique}
use Rattle.catalogue.specs.AccessionLaws.Newest.{newest_first, newest-skip, newest_ext}
use Rattle.catalogue.specs.AccessionLaws.MapLine.{is_of_map, map_line}

module _ (l : List ℕ) (own : ℕ) where
  pub on_line :
      accessions_fault l ≡ None → (j : ℕ) → j < accession_count l → (accession_at l j).own ≡ own
      → (i : ℕ) → on_line_of l own i ≡ is_of_map l (accession_at l j).on_map i
  unfolding on_line_of on_same_map is_of_map
  on_line h j k e i = same_test there back ∙ eqb_sym (accession_at l j).on_map (accession_at l i).on_map
    where
      f : ℕ → Bool
      f m = eqb (accession_at l m).own own && on_same_map l i m

      there : on_line_of l own i ≡ true → eqb (accession_at l j).on_map (accession_at l i).on_map ≡ true
      there t =
          let F = below_first f (accession_count l) t in
          let r = both (eqb (accession_at l F.place).own own) (on_same_map l i F.place) F.found in
          let q : F.place ≡ j = own_unique l (accession_count l) (kept l h) F.place j F.below k (eqb-true (accession_at l F.place).own own r.0 ∙ sym e) in
          ap (on_same_map l i) (sym q) ∙ r.1

      back : eqb (accession_at l j).on_map (accession_at l i).on_map ≡ true → on_line_of l own i ≡ true
      back t = below_at (accession_count l) f j k (ap₂ ◌&&◌ (eq-eqb (accession_at l j).own own e) t)

  pub line-of-record :
      accessions_fault l ≡ None → (j : ℕ) → j < accession_count l → (accession_at l j).own ≡ own
      → line_of l own ≡ map_line l (accession_at l j).on_map
  unfolding line_of map_line newest_first
  line-of-record h j k e = newest_ext l (on_line_of l own) (is_of_map l (accession_at l j).on_map) (accession_count l) (λ i m. on_line h j k e i)

  -- "or none for an unknown number"
  pub line-unknown : ((j : ℕ) → j < accession_count l → (accession_at l j).own ≡ own → ⊥) → line_of l own ≡ []
  unfolding line_of newest_first on_line_of collect reversed
  line-unknown h = newest-skip l (on_line_of l own) 0 (accession_count l) (omega arith) (λ i a b. off i)
    where
      off : (i : ℕ) → on_line_of l own i ≡ false
      off i =
          below_none (accession_count l) (λ m. eqb (accession_at l m).own own && on_same_map l i m)
          (λ m k. ap (λ b. b && on_same_map l i m) (ne_eqb (accession_at l m).own own (h m k)))
