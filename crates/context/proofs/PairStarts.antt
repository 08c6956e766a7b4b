-- Where the rows of each span begin: span s begins after all pairs of the spans before it, so that the walk over ascending spans finds every beginning.
-- Assumes nothing.
use Prim.Native.Nat.{ℕ, zero, suc, ◌+◌, ◌-◌, ◌*◌, ◌≤◌, ◌<◌}
use native.Mathlib.Omega.{arith}
use native.Mathlib.Nat.{le_refl}
use native.Mathlib.Numerals.{add-one}
use mathlib.Core.Path.{◌≡◌, refl, sym, ap, ap₂, ◌∙◌, subst}
use mathlib.Core.Logic.{⊎_elim}
use mathlib.Core.List.{List, [], ◌∷◌, ◌++◌, map}
use lib.ListN.{length, get_or, set, drop, length-append, get_or-append}
use lib.Seq.{get_or-append-add, get_or-set_same, get_or-set_other}
use Rattle.definitions.specs.Limits.{max_entries, numbers_per_pair}
use Rattle.definitions.specs.Scan.{run, gather, concat_map}
use Rattle.definitions.specs.Grid.{Pair}
use Rattle.definitions.specs.Context.{Context}
use Rattle.definitions.specs.Verdict.{pair_rows_of}
use Rattle.laws.specs.NumberLaws.Comparisons.{le_or_lt, last_or}
use Rattle.context.specs.Shown.{pair_at, pairs_between, ShownPairs}
use Rattle.context.specs.Rows.{PairRows, SpanEnd}

-- ---- lists joined in order

module _ {A : Type 0} (f : ℕ → List A) where
  pub gather-place : (d : A) (n s j : ℕ) → s < n → j < length (f s) → get_or (gather n f) (length (gather s f) + j) d ≡ get_or (f s) j d
  unfolding gather
  gather-place d zero s j h l = absurd (omega arith)
  gather-place d (suc n) s j h l = ⊎_elim here (λ b. there b (gather-place d n s j b l)) (last_or s n h)
    where
      here : s ≡ n → get_or (gather n f ++ f n) (length (gather s f) + j) d ≡ get_or (f s) j d
      here e = rw e (get_or-append-add (gather n f) (f n) j d)

      there : s < n → get_or (gather n f) (length (gather s f) + j) d ≡ get_or (f s) j d → get_or (gather n f ++ f n) (length (gather s f) + j) d ≡ get_or (f s) j d
      there b ih = get_or-append (gather n f) (f n) d (length (gather s f) + j) (inside n b) ∙ ih
        where
          more : (n : ℕ) → length (gather (suc n) f) ≡ length (gather n f) + length (f n)
          more n = length-append (gather n f) (f n)

          inside : (n : ℕ) → s < n → length (gather s f) + j < length (gather n f)
          inside zero b = absurd (omega arith)
          inside (suc n) b = ⊎_elim (λ e. omega (arith, more n, ap (λ m. length (gather m f)) e, ap (λ m. length (f m)) e, l)) (λ b. omega (arith, more n, inside n b)) (last_or s n b)

-- ---- the rows of a span

row : ℕ → Pair → List ℕ
row s p = s ∷ p.lo ∷ p.hi ∷ []

abbrev no_pair : Pair
no_pair = record { lo = 0; hi = 0 }

rows-length : (s : ℕ) (ps : List Pair) → length (concat_map (λ p. s ∷ p.lo ∷ p.hi ∷ []) ps) ≡ numbers_per_pair * length ps
unfolding concat_map
rows-length s [] = refl
rows-length s (p ∷ ps) = ap (λ n. suc (suc (suc n))) (rows-length s ps) ∙ three (length ps)
  where
    three : (n : ℕ) → suc (suc (suc (3 * n))) ≡ 3 * suc n
    three n = omega arith

rows_at : (s : ℕ) (ps : List Pair) (k t : ℕ) → k < length ps → t < 3 → get_or (concat_map (λ p. s ∷ p.lo ∷ p.hi ∷ []) ps) (numbers_per_pair * k + t) 0 ≡ get_or (row s (get_or ps k no_pair)) t 0
unfolding concat_map row
rows_at s [] k t h l = absurd (omega arith)
rows_at s (p ∷ ps) zero t h l = ap (λ i. get_or (s ∷ p.lo ∷ p.hi ∷ concat_map (λ p. s ∷ p.lo ∷ p.hi ∷ []) ps) i 0) (first t) ∙ go t l
  where
    first : (t : ℕ) → 0 + t ≡ t
    first t = omega arith

    go : (t : ℕ) → t < 3 → get_or (s ∷ p.lo ∷ p.hi ∷ concat_map (λ p. s ∷ p.lo ∷ p.hi ∷ []) ps) t 0 ≡ get_or (s ∷ p.lo ∷ p.hi ∷ []) t 0
    go zero l = refl
    go (suc zero) l = refl
    go (suc (suc zero)) l = refl
    go (suc (suc (suc t))) l = absurd (omega arith)
rows_at s (p ∷ ps) (suc k) t h l = ap (λ i. get_or (s ∷ p.lo ∷ p.hi ∷ concat_map (λ p. s ∷ p.lo ∷ p.hi ∷ []) ps) i 0) (later k t) ∙ rows_at s ps k t (omega arith) l
  where
    later : (k t : ℕ) → 3 * suc k + t ≡ suc (suc (suc (3 * k + t)))
    later k t = omega arith

-- ---- where they begin

-- how many pairs the spans before n have
pub before : Context → ℕ → ℕ
before C n = length (gather n C.pairs)

module _ (C : Context) where
  before_more : (n : ℕ) → before C (suc n) ≡ before C n + length (C.pairs n)
  unfolding before gather
  before_more n = length-append (gather n C.pairs) (C.pairs n)

  pub before-zero : before C 0 ≡ 0
  unfolding before gather
  before-zero = refl

  before-le : (m n : ℕ) → m ≤ n → before C m ≤ before C n
  before-le m zero h = subst (λ m. before C m ≤ before C 0) (omega arith) (le_refl (before C 0))
  before-le m (suc n) h = ⊎_elim (λ e. subst (λ k. before C m ≤ before C k) e (le_refl (before C m))) (λ b. omega (arith, before_more n, before-le m n (omega arith))) (last_or m (suc n) (omega arith))

  -- the span of a row
  row-span : (n k : ℕ) → k < before C n → (s : ℕ) × ((s < n) × ((before C s ≤ k) × (k < before C (suc s))))
  row-span zero k h = absurd (omega (arith, before-zero))
  row-span (suc n) k h = ⊎_elim (λ l. (n, (omega arith, (l, h)))) (λ l. earlier (row-span n k l)) (le_or_lt (before C n) k)
    where
      earlier : (s : ℕ) × ((s < n) × ((before C s ≤ k) × (k < before C (suc s)))) → (s : ℕ) × ((s < suc n) × ((before C s ≤ k) × (k < before C (suc s))))
      earlier (s, (l, r)) = (s, (omega arith, r))

  abbrev rows_of : ℕ → List ℕ
  rows_of s = concat_map (λ p. s ∷ p.lo ∷ p.hi ∷ []) (C.pairs s)

  before-rows : (n : ℕ) → length (gather n rows_of) ≡ numbers_per_pair * before C n
  unfolding gather before
  before-rows zero = refl
  before-rows (suc n) =
      length-append (gather n rows_of) (rows_of n) ∙ ap₂ ◌+◌ (before-rows n) (rows-length n (C.pairs n))
      ∙ sum (length (gather n C.pairs)) (length (C.pairs n)) ∙ ap (λ m. 3 * m) (sym (length-append (gather n C.pairs) (C.pairs n)))
    where
      sum : (a b : ℕ) → 3 * a + 3 * b ≡ 3 * (a + b)
      sum a b = omega arith

module _ {C : Context} {pairs : List ℕ} {rows count : ℕ} (R : PairRows C pairs rows count) where
  all-rows : rows ≡ before C count
  unfolding pair_rows_of
  all-rows = omega (arith, R.all, before-rows C C.count, ap (before C) R.counted)

  -- number t of pair j of span s
  row_at_lem : (s j t : ℕ) → s < count → j < length (C.pairs s) → t < 3 → get_or pairs (numbers_per_pair * (before C s + j) + t) 0 ≡ get_or (row s (get_or (C.pairs s) j no_pair)) t 0
  unfolding pair_rows_of
  row_at_lem s j t h l b =
      ap (λ q. get_or q (numbers_per_pair * (before C s + j) + t) 0) R.filled
      ∙ get_or-append (gather C.count (rows_of C)) (drop (length (gather C.count (rows_of C))) R.old) 0 (numbers_per_pair * (before C s + j) + t) inside
      ∙ ap (λ i. get_or (gather C.count (rows_of C)) i 0) (sym (place (before C s) (length (gather s (rows_of C))) (before-rows C s)))
      ∙ gather-place (rows_of C) 0 C.count s (numbers_per_pair * j + t) (omega (arith, R.counted)) (omega (arith, rows-length s (C.pairs s)))
      ∙ rows_at s (C.pairs s) j t l b
    where
      place : (a m : ℕ) → m ≡ 3 * a → m + (3 * j + t) ≡ 3 * (a + j) + t
      place a m e = omega (arith, e)

      inside : numbers_per_pair * (before C s + j) + t < length (gather C.count (rows_of C))
      inside = omega (arith, before-rows C C.count, before_more C s, before-le C (suc s) C.count (omega (arith, R.counted)))

  span_at_lem : (s k : ℕ) → s < count → before C s ≤ k → k < before C (suc s) → get_or pairs (numbers_per_pair * k) 0 ≡ s
  unfolding row
  span_at_lem s k h l b =
      ap (λ i. get_or pairs i 0) (place (before C s) l) ∙ row_at_lem s (k - before C s) 0 h (omega (arith, before_more C s)) (omega arith)
    where
      place : (a : ℕ) → a ≤ k → 3 * k ≡ 3 * (a + (k - a)) + 0
      place a h = omega arith

  end_is : (s r : ℕ) → s < count → SpanEnd pairs rows (before C s) s r → r ≡ before C (suc s)
  end_is s r h E = ⊎_elim (λ l. ⊎_elim (λ m. omega arith) (λ m. absurd (late m)) (le_or_lt r (before C (suc s)))) (λ l. absurd (early l)) (le_or_lt (before C (suc s)) r)
    where
      early : r < before C (suc s) → ⊥
      early l = E.other (omega (arith, all-rows, before-le C (suc s) count (omega arith), l)) (span_at_lem s r h E.from l)

      late : before C (suc s) < r → ⊥
      late l =
          let (t, (b, (u, v))) = row-span C count (before C (suc s)) (omega (arith, all-rows, E.upto, l)) in
          let same : t ≡ s = sym (span_at_lem t (before C (suc s)) b u v) ∙ E.same (before C (suc s)) (omega (arith, before_more C s)) l in
          omega (arith, subst (λ t. before C (suc s) < before C (suc t)) same v)

  -- the next beginning
  pub next_is : (s k r : ℕ) → s < count → k ≡ before C s → SpanEnd pairs rows k s r → r ≡ before C (s + 1)
  next_is s k r h e E = end_is s r h (subst (λ k. SpanEnd pairs rows k s r) e E) ∙ ap (before C) (sym (add-one s))

  -- ---- what the beginnings show

  between : (s : ℕ) → s < count → C.pairs s ≡ pairs_between pairs (before C s) (before C (suc s))
  unfolding pairs_between run row
  between s h =
      sym (go (C.pairs s) (before C s) (λ j l. ap₂ (λ lo hi. record { lo = lo; hi = hi }) (row_at_lem s j 1 h l (omega arith)) (row_at_lem s j 2 h l (omega arith))))
      ∙ ap (λ n. map (pair_at pairs) (run (before C s) n)) counted
    where
      counted : length (C.pairs s) ≡ before C (suc s) - before C s
      counted = omega (arith, before_more C s)

      go : (ps : List Pair) (a : ℕ) → ((j : ℕ) → j < length ps → pair_at pairs (a + j) ≡ get_or ps j no_pair) → map (pair_at pairs) (run a (length ps)) ≡ ps
      go [] a h = refl
      go (p ∷ ps) a h =
          ap₂ ◌∷◌ (ap (pair_at pairs) (first a) ∙ h 0 (omega arith)) (go ps (suc a) (λ j l. ap (pair_at pairs) (next a j) ∙ h (suc j) (omega arith)))
        where
          first : (a : ℕ) → a ≡ a + 0
          first a = omega arith

          next : (a j : ℕ) → suc a + j ≡ a + suc j
          next a j = omega arith

  pub starts-shown : {starts : List ℕ} → count ≤ max_entries → length starts ≡ max_entries + 1 → ((j : ℕ) → j < count + 1 → get_or starts j 0 ≡ before C j) → ShownPairs C pairs starts
  unfolding pair_rows_of
  starts-shown {starts} few long h =
      record {
        few = omega (arith, R.counted, few);
        starts_long = omega (arith, R.counted, few, long);
        rising = λ i l. omega (arith, at i l, after i l, before_more C i);
        long = omega (arith, h C.count (omega (arith, R.counted)), before-rows C C.count, filled);
        at = λ i l. between i (omega (arith, R.counted)) ∙ sym (ap₂ (pairs_between pairs) (at i l) (after i l));
        named = R.named;
      }
    where
      filled : length (gather C.count (rows_of C)) ≤ length pairs
      filled =
          omega (arith, ap length R.filled, length-append (gather C.count (rows_of C)) (drop (length (gather C.count (rows_of C))) R.old))

      at : (i : ℕ) → i < C.count → get_or starts i 0 ≡ before C i
      at i l = h i (omega (arith, R.counted))

      after : (i : ℕ) → i < C.count → get_or starts (i + 1) 0 ≡ before C (suc i)
      after i l = h (i + 1) (omega (arith, R.counted)) ∙ ap (before C) (add-one i)

pub starts_more : (C : Context) (starts : List ℕ) (s k : ℕ) → s < length starts → k ≡ before C s → ((j : ℕ) → j < s → get_or starts j 0 ≡ before C j)
    → (j : ℕ) → j < s + 1 → get_or (set starts s k) j 0 ≡ before C j
starts_more C starts s k l e h j m =
    ⊎_elim (λ z. ap (λ j. get_or (set starts s k) j 0) z ∙ get_or-set_same starts s k 0 l ∙ e ∙ ap (before C) (sym z))
    (λ b. get_or-set_other starts s j k 0 (λ z. omega (arith, z)) ∙ h j b) (last_or j s (omega arith))
