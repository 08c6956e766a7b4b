-- What a search of the records from the back gives: the last of a map before record i (`behind`). Assumes nothing.
use Prim.Native.Nat.{ℕ, zero, suc, ◌≤◌, ◌<◌}
use native.Mathlib.Omega.{arith}
use mathlib.Core.Path.{◌≡◌, refl, sym, ap, ◌∙◌}
use mathlib.Core.Bool.{Bool, true, false}
use lib.Dec.{ltb}
use borrow.Author.Tests.{ltb-true, ltb-false}
use mathlib.Core.List.{List}
use Rattle.std.specs.Option.{MatchOption}
use Rattle.std.specs.Prelude.{Option, None, Some}
use Rattle.std.specs.Iterator.Adapters.{rev_source}
use Rattle.std.specs.declared.ops.Range.{Range}
use Rattle.std.specs.declared.iter.Rev.{Rev}
use Rattle.catalogue.specs.Accession.{accession_at, on_same_map}
use Rattle.catalogue.specs.AccessionLaws.Last.{last_below, last_here, last_not}
use Rattle.catalogue.specs.AccessionLaws.Chain.{previous}
use Rattle.catalogue.specs.AccessionLaws.MapLine.{is_of_map}

-- ---- from the back

-- none from k to n passes
last_down : (f : ℕ → Bool) (n k : ℕ) → k ≤ n → ((j : ℕ) → k ≤ j → j < n → f j ≡ false) → last_below n f ≡ last_below k f
last_down f zero k h miss =
    let z : 0 ≡ k = omega arith in
    ap (λ n. last_below n f) z
last_down f (suc n) k h miss = go (ltb n k) refl (λ m. last_down f n k m (λ j a b. miss j a (omega arith)))
  where
    go : (b : Bool) → ltb n k ≡ b → (k ≤ n → last_below n f ≡ last_below k f) → last_below (suc n) f ≡ last_below k f
    go true e ih =
        let s : suc n ≡ k = omega (arith, ltb-true n k e) in
        ap (λ m. last_below m f) s
    go false e ih =
        let m : k ≤ n = ltb-false n k e in
        last_not f n (miss n m (omega arith)) ∙ ih m

module _ (l : List ℕ) (i count : ℕ) (s : Rev (Range ℕ)) (e : rev_source s ≡ record { start = count; end = i }) (h : count ≤ i) where
  abbrev pub Behind : Option ℕ → Type 0
  Behind r = MatchOption r (last_below count (on_same_map l i) ≡ previous l i) (λ k. suc k ≡ previous l i)

  -- what `find` gives of the records from `count` to i
  pub behind : (r : Option ℕ)
      → MatchOption r ((k : ℕ) → (rev_source s).start ≤ k → k < (rev_source s).end → on_same_map l i k ≡ false)
      (λ j. ((rev_source s).start ≤ j) × (j < (rev_source s).end) × (on_same_map l i j ≡ true) × ((k : ℕ) → j < k → k < (rev_source s).end → on_same_map l i k ≡ false))
      → Behind r
  unfolding previous
  behind None miss =
      sym (last_down (on_same_map l i) i count h (λ k a b. miss k (omega (arith, ap (λ t. t.start) e)) (omega (arith, ap (λ t. t.end) e))))
  behind (Some j) (a, b, is, miss) =
      sym
      (last_down (on_same_map l i) i (suc j) (omega (arith, b, ap (λ t. t.end) e)) (λ k c d. miss k (omega arith) (omega (arith, ap (λ t. t.end) e)))
      ∙ last_here (on_same_map l i) j is)

-- the same of the records of a map by its number
pub by_number : (l : List ℕ) (i number n : ℕ) → number ≡ (accession_at l i).on_map → last_below n (is_of_map l number) ≡ last_below n (on_same_map l i)
unfolding is_of_map on_same_map
by_number l i number n e = ap (λ m. last_below n (is_of_map l m)) e
