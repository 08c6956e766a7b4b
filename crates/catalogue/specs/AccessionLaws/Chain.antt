-- Each map's records form one chain. After records that keep the rules, the next one keeps them exactly when its own number ascends and it supersedes the last
-- record of its map before it, no earlier by its day, or has 0 where there is none: the one record of the map that is still free is its last (Current.antt),
-- and the last has the latest day. So a check may look for the last record of the map alone. Assumes nothing.
use Prim.Native.Nat.{ℕ, zero, suc, ◌<◌, ◌≤◌}
use Rattle.std.proofs.Common.{◌∙◌}
use Rattle.std.specs.Prelude.{◌≡◌, ◌&&◌, List, leb}
use Rattle.std.proofs.Math.Path.{sym, ap}
use Rattle.std.proofs.Math.Bool.{Bool, true, false, not}
use Rattle.std.proofs.Math.Dec.{eqb}
use Rattle.catalogue.specs.Accession.{accession_at, on_same_map}
use Rattle.catalogue.specs.AccessionLaws.Last.{last_below}

-- the last record of record i's map before it: one more than its position, or 0 where there is none
unfoldable pub previous : List ℕ → ℕ → ℕ
unfolding last_below on_same_map
previous l i = last_below i (on_same_map l i)

-- record i goes on from that record: it supersedes it and is not of an earlier day; or it starts the chain
unfoldable pub follows : List ℕ → ℕ → ℕ → Bool
unfolding accession_at
follows l i zero = eqb (accession_at l i).superseded 0
follows l i (suc k) = leb (accession_at l k).day (accession_at l i).day && eqb (accession_at l i).superseded (accession_at l k).own

pub true_not : {b : Bool} → b ≡ false → not b ≡ true
true_not e = ap not e

pub and_right : {a b : Bool} → (a && b) ≡ false → a ≡ true → b ≡ false
and_right {a} {b} h e = sym (ap (λ x. x && b) e) ∙ h

-- ---- in a list that keeps the rules

-- record i starts its map's chain, or goes on from the last record of its map before it
pub data Link (l : List ℕ) (i : ℕ) : Type 0 where
  starts : (accession_at l i).superseded ≡ 0 → ((j : ℕ) → j < i → (accession_at l j).on_map ≡ (accession_at l i).on_map → ⊥) → Link l i
  goes_on : (k : ℕ) → k < i → (accession_at l k).on_map ≡ (accession_at l i).on_map → (accession_at l i).superseded ≡ (accession_at l k).own
      → (accession_at l k).day ≤ (accession_at l i).day → ((j : ℕ) → k < j → j < i → (accession_at l j).on_map ≡ (accession_at l i).on_map → ⊥) → Link l i
