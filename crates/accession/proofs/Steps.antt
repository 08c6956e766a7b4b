-- The two tests of a record as the code makes them, by the number before. Assumes nothing.
use Prim.Native.Nat.{ℕ, zero, suc, ◌-◌, ◌<◌}
use native.Mathlib.Omega.{arith}
use mathlib.Core.Path.{◌≡◌, sym, ap}
use mathlib.Core.List.{List}
use lib.Dec.{ltb}
use Rattle.catalogue.specs.Accession.{accession_at, own_ascends}

module _ (l : List ℕ) where
  pub ascends_first : (i : ℕ) → i ≡ 0 → ltb 0 (accession_at l 0).own ≡ own_ascends l i
  unfolding own_ascends
  ascends_first i e = ap (own_ascends l) (sym e)

  pub ascends_next : (i : ℕ) → 0 < i → ltb (accession_at l (i - 1)).own (accession_at l i).own ≡ own_ascends l i
  unfolding own_ascends
  ascends_next zero h = absurd (omega arith)
  ascends_next (suc i) h =
      let e : suc i - 1 ≡ i = omega arith in
      ap (λ j. ltb (accession_at l j).own (accession_at l (suc i)).own) e
