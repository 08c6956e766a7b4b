-- What calls on the catalogue and on the pool left in their output. Assumes nothing.
use Prim.Native.Nat.{ℕ, ◌+◌, ◌*◌, ◌<◌}
use mathlib.Core.Path.{◌≡◌}
use mathlib.Core.Logic.{◌↔◌}
use mathlib.Core.Bool.{◌&&◌}
use mathlib.Core.List.{List, Memᴰ}
use lib.ListN.{length, get_or}
use lib.Dec.{eqb}
use Rattle.definitions.specs.Scan.{any_below_lem}
use Rattle.definitions.specs.Verdict.{Answer}
use Rattle.catalogue.specs.Accession.{accession_at, accession_count}
use Rattle.catalogue.specs.Line.{line_verdict, line_at_exit}
use Rattle.catalogue.specs.AccessionLaws.Chain.{Link}
use Rattle.catalogue.proofs.AccessionLaws.Lines.{Descends}
use Rattle.catalogue.proofs.AccessionLaws.Reported.{accessions_in}
use Rattle.catalogue.proofs.AccessionLaws.Reported as reported
use Rattle.catalogue.specs.Dates.{Date}
use Rattle.catalogue.specs.Terms.{term_at, term_count, days_of, contains}
use Rattle.catalogue.specs.Pool.{newest, entry_of}
use Rattle.pool.proofs.Returned.{Called, Accepted}
use Rattle.pool.proofs.Returned as returned

-- ---- request 7: what a call that reported a line left in its output

module _
    (l : List ℕ) (own : ℕ) (before : List ℕ) (answer : Answer) (output : List ℕ) (said : answer ≡ line_verdict l own (length before))
    (left : output ≡ line_at_exit answer.number l own before) (success : answer.number ≡ 0) where
  -- each map's records form one chain
  pub line-chain : (i : ℕ) → i < accession_count l → Link l i
  line-chain = reported.reported-chain l own before answer output said left success

  -- a record is in the line exactly when it is of the own number's map
  pub line_members : (j : ℕ) → j < accession_count l → (accession_at l j).own ≡ own → (i : ℕ) → i < accession_count l
      → Memᴰ (accession_at l i) (accessions_in answer.value output) ↔ ((accession_at l i).on_map ≡ (accession_at l j).on_map)
  line_members = reported.reported-members l own before answer output said left success

  -- newest first
  pub line_descends : Descends (accessions_in answer.value output)
  line_descends = reported.reported_descends l own before answer output said left success

-- ---- request 8: what a call that listed the maps of a day left in its output

module _ {terms records : List ℕ} {asked : Date} {old : List ℕ} {count : ℕ} {new : List ℕ} (A : Accepted terms records asked old count new) where
  -- a map is listed exactly when one of its terms has the day
  pub pool_members : (m : ℕ)
      → any_below_lem count (λ k. eqb m (get_or new (4 * k) 0)) ≡ any_below_lem (term_count terms) (λ i. contains A.day (days_of (term_at terms i)) && eqb m (term_at terms i).on_map)
  pool_members = returned.returned_members A

  -- by number, each once
  pub pool_rises : (j k : ℕ) → j < k → k < count → get_or new (4 * j) 0 < get_or new (4 * k) 0
  pool_rises = returned.returned-rises A

  -- with its newest accession record of that day or earlier
  pub pool_shows : (k j : ℕ) → k < count → j < 4
      → get_or new (4 * k + j) 0 ≡ get_or (entry_of (get_or new (4 * k) 0) (newest records (get_or new (4 * k) 0) A.day (accession_count records))) j 0
  pool_shows = returned.returned-shows A

-- every call that answered 0 is such a one
pub pool_accepted : {terms records : List ℕ} {asked : Date} {old : List ℕ} {count : ℕ} {new : List ℕ}
    → Called terms records asked old count new → Accepted terms records asked old count new
pool_accepted = returned.accepted
