-- What a caller can say of the lists that show a context: the rows of a map's pairs, where they are filled in, are such rows; and the rows of each span are in the list and name
-- regions. Assumes nothing.
use Prim.Native.Nat.{ℕ, zero, suc, ◌+◌, ◌-◌, ◌*◌, ◌≤◌, ◌<◌}
use native.Mathlib.Omega.{arith}
use native.Mathlib.Nat.{le_refl, le_trans}
use native.Mathlib.Numerals.{add-one}
use mathlib.Core.Path.{◌≡◌, subst}
use mathlib.Core.Logic.{◌⊎◌, inl, inr, ⊎_elim}
use mathlib.Core.List.{List, map}
use lib.Arith.{lt_of_le-ne}
use lib.ListN.{length, get_or}
use Rattle.definitions.specs.Scan.{run}
use Rattle.definitions.specs.Limits.{numbers_per_pair}
use Rattle.definitions.specs.Grid.{Map, Pair}
use Rattle.definitions.specs.Lists.{overwrite}
use Rattle.definitions.specs.Context.{Context, context_of}
use Rattle.definitions.specs.Verdict.{pair_rows_of}
use Rattle.laws.specs.ListLaws.Lists.{All, more, all_map}
use Rattle.laws.specs.RegionLaws.PairLaws.{pairs-named}
use Rattle.laws.specs.NumberLaws.Comparisons.{same_or, last_or}
use Rattle.context.specs.Shown.{pair_at, pairs_between, ShownPairs}
use Rattle.context.specs.Rows.{PairRows, Stretch, NamedRows}

all_from : {P : Pair → Type 0} (f : ℕ → Pair) (a n : ℕ) → All P (map f (run a n)) → (k : ℕ) → a ≤ k → k < a + n → P (f k)
unfolding run
all_from f a zero h k l m = absurd (omega arith)
all_from {P} f a (suc n) (more h r) k l m = ⊎_elim (λ e. subst (λ k. P (f k)) e h) (λ b. all_from f (suc a) n r k b (omega arith)) (first_or a k l)
  where
    first_or : (a k : ℕ) → a ≤ k → (a ≡ k) ⊎ (a < k)
    first_or a k l = ⊎_elim (λ e. inl e) (λ e. inr (lt_of_le-ne l e)) (same_or a k)

module _ {C : Context} {rows starts : List ℕ} (P : ShownPairs C rows starts) where
  pub starts-rise : (i j : ℕ) → i ≤ j → j ≤ C.count → get_or starts i 0 ≤ get_or starts j 0
  starts-rise i zero h l = subst (λ i. get_or starts i 0 ≤ get_or starts 0 0) (omega arith) (le_refl (get_or starts 0 0))
  starts-rise i (suc j) h l =
      ⊎_elim (λ e. subst (λ k. get_or starts i 0 ≤ get_or starts k 0) e (le_refl (get_or starts i 0)))
      (λ b. le_trans (starts-rise i j (omega arith) (omega arith)) (subst (λ k. get_or starts j 0 ≤ get_or starts k 0) (add-one j) (P.rising j (omega arith))))
      (last_or i (suc j) (omega arith))

  pub shown-stretch : (i : ℕ) → i < C.count → Stretch rows starts i
  shown-stretch i l =
      record {
        within = omega (arith, P.few);
        rising = P.rising i l;
        long = omega (arith, P.long, starts-rise (i + 1) C.count (omega arith) (omega arith));
      }

  -- the rows of a span name regions
  span-named : (i k : ℕ) → i < C.count → get_or starts i 0 ≤ k → k < get_or starts (i + 1) 0
      → (1 ≤ (pair_at rows k).lo) × (((pair_at rows k).lo < (pair_at rows k).hi) × ((pair_at rows k).hi ≤ C.regions))
  unfolding pairs_between
  span-named i k l h m =
      all_from (pair_at rows) (get_or starts i 0) (get_or starts (i + 1) 0 - get_or starts i 0)
      (subst (All (λ p. (1 ≤ p.lo) × ((p.lo < p.hi) × (p.hi ≤ C.regions)))) (P.at i l) (P.named i l)) k h (omega arith)

  pub shown-rows : NamedRows rows starts C.count C.regions
  shown-rows =
      record {
        few = P.few;
        stretch = shown-stretch;
        named = λ i l k h m.
            let n = span-named i k l h m in
            record {
              inside = omega (arith, (shown-stretch i l).long);
              lo-pos = n.0;
              lo-le = omega (arith, n.1.0, n.1.1);
              hi-pos = omega (arith, n.0, n.1.0);
              hi-le = n.1.1;
            };
      }

-- the rows that the partition fills in
pub map_rows : (M : Map) (pairs old : List ℕ) (rows count : ℕ) → (context_of M).count ≡ count → pairs ≡ overwrite (pair_rows_of (context_of M)) old
    → numbers_per_pair * rows ≡ length (pair_rows_of (context_of M)) → PairRows (context_of M) pairs rows count
unfolding context_of
map_rows M pairs old rows count e f a =
    record { counted = e; old = old; filled = f; all = a; named = λ i l. all_map (λ p h. (h.low, (h.ordered, h.high))) (pairs-named M i) }
