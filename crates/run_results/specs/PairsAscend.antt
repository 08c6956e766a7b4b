-- The pair rows of every map strictly ascend by span, smaller and larger label: those of one span since its pairs do (`pairs_ascending` of laws), and those of a later span
-- since its number is larger. Assumes nothing.
use Prim.Native.Nat.{ℕ, zero, suc, ◌%◌, ◌<◌}
use Rattle.std.proofs.Common.{arith, ◌∙◌}
use Rattle.std.specs.Prelude.{◌≡◌, true, not, ◌&&◌, ◌||◌, eqb, length, get_or, None}
use Rattle.std.proofs.Math.Path.{refl, sym, ap, ap₂}
use Rattle.std.proofs.Math.Bool.{and-false, or-false}
use mathlib.Core.List.{List, [], ◌∷◌, ◌++◌, map, append_assoc}
use Rattle.std.proofs.Math.Dec.{ltb}
use borrow.Author.Tests.{lt-ltb, le-ltb, eq-eqb, ne_eqb}
use Rattle.definitions.specs.Limits.{numbers_per_pair}
use Rattle.definitions.specs.Scan.{gather, concat_map}
use Rattle.definitions.specs.Sort.{list_lt}
use Rattle.definitions.specs.Grid.{Map, Pair, pair_lt}
use Rattle.definitions.specs.Context.{Context, context_of}
use Rattle.definitions.specs.Verdict.{pair_rows_of}
use Rattle.laws.specs.ListLaws.Lists.{All, done, more, all_map}
use Rattle.laws.specs.ListLaws.Members.{all-mapped}
use Rattle.laws.specs.ListLaws.Below.{gather-below}
use Rattle.laws.specs.OrderLaws.PairOrder as pairs
use Rattle.laws.specs.RegionLaws.PairLaws.{pairs-named, pairs_ascending}
use Rattle.results.specs.Result.{ascent_fault, pair_key}
use Rattle.results.specs.ResultAnswers.{entries_in}
use Rattle.run_results.specs.Rises.{Rises, rises-append}
use Rattle.run_results.specs.EntriesOf.{unplaced, joined, joined_length, entries-joined, rises_ascent}

-- ---- the rows as entries

abbrev pub row : ℕ → Pair → List ℕ
row s p = s ∷ p.lo ∷ p.hi ∷ []

joined-append : (cs ds : List (List ℕ)) → joined (cs ++ ds) ≡ joined cs ++ joined ds
unfolding concat_map
joined-append [] ds = refl
joined-append (c ∷ cs) ds = ap (λ m. c ++ m) (joined-append cs ds) ∙ sym (append_assoc c (joined cs) (joined ds))

module _ (C : Context) where
  abbrev pub rows_of_span : ℕ → List (List ℕ)
  rows_of_span s = map (row s) (C.pairs s)

  abbrev pub rows_below : ℕ → List (List ℕ)
  rows_below n = gather n rows_of_span

  rows-joined : (n : ℕ) → gather n (λ s. concat_map (λ p. s ∷ p.lo ∷ p.hi ∷ []) (C.pairs s)) ≡ joined (rows_below n)
  unfolding gather concat_map
  rows-joined zero = refl
  rows-joined (suc n) = ap₂ ◌++◌ (rows-joined n) (of_span (C.pairs n)) ∙ sym (joined-append (rows_below n) (rows_of_span n))
    where
      of_span : (l : List Pair) → concat_map (λ p. n ∷ p.lo ∷ p.hi ∷ []) l ≡ joined (map (row n) l)
      of_span [] = refl
      of_span (p ∷ l) = ap {B = List ℕ} (λ m. n ∷ p.lo ∷ p.hi ∷ m) (of_span l)

  each : {P : List ℕ → Type 0} (s : ℕ) → ((p : Pair) → P (row s p)) → All P (rows_of_span s)
  each {P} s h = go (C.pairs s)
    where
      go : (l : List Pair) → All P (map (row s) l)
      go [] = done
      go (p ∷ l) = more (h p) (go l)

  pub rows_long : (n : ℕ) → All (λ c. length c ≡ numbers_per_pair) (rows_below n)
  rows_long n = gather-below rows_of_span n (λ s h. each s (λ p. refl))

  rows-number : (n : ℕ) → All (λ c. get_or c 0 0 < n) (rows_below n)
  rows-number n = gather-below rows_of_span n (λ s h. each s (λ p. h))

  pub pairs-joined : pair_rows_of C ≡ joined (rows_below C.count)
  unfolding pair_rows_of
  pairs-joined = rows-joined C.count

  pub pairs-whole : length (pair_rows_of C) % numbers_per_pair ≡ 0
  pairs-whole = omega (arith, ap length pairs-joined, joined_length numbers_per_pair (rows_long C.count))

  pair-entries : entries_in numbers_per_pair (pair_rows_of C) ≡ map unplaced (rows_below C.count)
  pair-entries =
      ap (entries_in numbers_per_pair) pairs-joined
      ∙ entries-joined numbers_per_pair (rows_long C.count) (omega (arith, joined_length numbers_per_pair (rows_long C.count)))

  -- ---- their order

  module _ (ascending : (s : ℕ) → pairs.Ascending (C.pairs s)) where
    level : (s : ℕ) (p q : Pair) → pair_lt p q ≡ true → list_lt (row s p) (row s q) ≡ true
    unfolding list_lt
    level s p q h =
        rw (le-ltb s s (omega arith), eq-eqb s s refl)
        (ap (λ b. ltb p.lo q.lo || (eqb p.lo q.lo && b)) (ap (λ b. ltb p.hi q.hi || b) (and-false (eqb p.hi q.hi)) ∙ or-false (ltb p.hi q.hi)) ∙ h)

    span-rises : (s : ℕ) {l : List Pair} → pairs.Ascending l → Rises list_lt (map (row s) l)
    span-rises s pairs.none = Rises.none
    span-rises s (pairs.next {p = p} a r) = Rises.next (all-mapped (row s) (all_map (λ q h. level s p q h) a)) (span-rises s r)

    earlier : (c : List ℕ) (n : ℕ) (p : Pair) → get_or c 0 0 < n → list_lt c (row n p) ≡ true
    unfolding list_lt
    earlier [] n p h = refl
    earlier (x ∷ c) n p h = rw (lt-ltb x n h) refl

    rows-rise : (n : ℕ) → Rises list_lt (rows_below n)
    unfolding gather
    rows-rise zero = Rises.none
    rows-rise (suc n) = rises-append list_lt (rows-rise n) (span-rises n (ascending n)) (all_map (λ c h. each n (λ p. earlier c n p h)) (rows-number n))

    pairs_ascend : ascent_fault pair_key (entries_in numbers_per_pair (pair_rows_of C)) ≡ None
    pairs_ascend = ap (ascent_fault pair_key) pair-entries ∙ rises_ascent pair_key (rows-rise C.count)

-- no label of a pair is 0
pub rows-labelled : (M : Map) → All (λ c. not (eqb (get_or c 1 0) 0) ≡ true) (rows_below (context_of M) (context_of M).count)
rows-labelled M =
    gather-below (rows_of_span (context_of M)) (context_of M).count
    (λ s h. all-mapped (row s) (all_map (λ p n. ap not (ne_eqb p.lo 0 (λ e. omega (arith, n.low)))) (pairs-named M s)))

pub pairs-keep : (M : Map) → ascent_fault pair_key (entries_in numbers_per_pair (pair_rows_of (context_of M))) ≡ None
pairs-keep M = pairs_ascend (context_of M) (pairs_ascending M)
