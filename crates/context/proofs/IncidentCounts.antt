-- The packed list counts every span once for each region that it names. The state between two rows: an entry has counted the spans before, and this one if a pair so far
-- names the region, in which case it is the entry's last span. Assumes nothing.
use Prim.Native.Nat.{ℕ, zero, suc, ◌+◌, ◌-◌, ◌/◌, ◌%◌, ◌≤◌, ◌<◌}
use native.Mathlib.Omega.{arith}
use native.Mathlib.Numerals.{add-one}
use mathlib.Core.Path.{◌≡◌, refl, sym, ap, ap₂, ◌∙◌, subst}
use mathlib.Core.Bool.{Bool, true, false, ◌||◌, or-false, or-true, or_assoc}
use mathlib.Core.Logic.{⊎_elim}
use mathlib.Core.List.{List, [], ◌∷◌, ◌++◌, map}
use lib.ListN.{length, get_or, set, length-map, length-append, get_or-map, get_or-append}
use lib.Seq.{get_or-set_same, get_or-set_other}
use lib.Dec.{eqb}
use borrow.Author.Tests.{eq-eqb, ne_eqb, eqb-true}
use Rattle.definitions.specs.Limits.{max_entries}
use Rattle.definitions.specs.Scan.{any, count_below, bit}
use Rattle.definitions.specs.Grid.{Pair, contains}
use Rattle.definitions.specs.Context.{Context, is_incident, incident_count}
use Rattle.laws.specs.ListLaws.Lists.{All, done, more}
use Rattle.laws.specs.NumberLaws.Comparisons.{same_or}
use Rattle.context.specs.Shown.{ShownPairs, ShownIncidents}
use Rattle.context.specs.Packed.{pack_unit, counted_entry, count_region, count_pair, count_pairs, span_pairs, count_spans, unpacked, Packed}
use Rattle.context.proofs.Counting.{region-length, pair-length, pairs-length, packed-pairs, packed_next, packed_zero}

-- ---- lists of spans

pub spans-length : (f : ℕ → List Pair) (n : ℕ) (counts : List ℕ) → length (count_spans f n counts) ≡ length counts
unfolding count_spans
spans-length f zero counts = refl
spans-length f (suc n) counts = pairs-length n (count_spans f n counts) (f n) ∙ spans-length f n counts

pub spans-packed : (f : ℕ → List Pair) (n : ℕ) (counts : List ℕ) → n ≤ max_entries → ((k : ℕ) → get_or counts k 0 ≡ 0) → Packed n (count_spans f n counts)
unfolding count_spans
spans-packed f zero counts h z = packed_zero counts z
spans-packed f (suc n) counts h z =
    subst (λ m. Packed m (count_pairs n (count_spans f n counts) (f n))) (add-one n)
    (packed_next n (count_pairs n (count_spans f n counts) (f n)) (packed-pairs n (omega arith) (count_spans f n counts) (f n) (spans-packed f n counts (omega arith) z)))

spans_ext : (f g : ℕ → List Pair) (n : ℕ) (counts : List ℕ) → ((i : ℕ) → i < n → f i ≡ g i) → count_spans f n counts ≡ count_spans g n counts
unfolding count_spans
spans_ext f g zero counts h = refl
spans_ext f g (suc n) counts h = ap₂ (count_pairs n) (spans_ext f g n counts (λ i l. h i (omega arith))) (h n (omega arith))

pub spans_more : (f : ℕ → List Pair) (n : ℕ) (counts : List ℕ) {l m : List ℕ} → l ≡ count_spans f n counts → m ≡ count_pairs n l (f n) → m ≡ count_spans f (n + 1) counts
unfolding count_spans
spans_more f n counts e h = h ∙ ap (λ l. count_pairs n l (f n)) e ∙ ap (λ k. count_spans f k counts) (sym (add-one n))

-- ---- the state

record State (n span : ℕ) (f : ℕ → ℕ) (named : ℕ → Bool) (counts : List ℕ) : Type 0 where
  pub tally : (r : ℕ) → 1 ≤ r → r ≤ n → get_or counts (r - 1) 0 / pack_unit ≡ f r + bit (named r)
  pub last : (r : ℕ) → 1 ≤ r → r ≤ n → eqb (get_or counts (r - 1) 0 % pack_unit) (span + 1) ≡ named r
  pub upto : (r : ℕ) → 1 ≤ r → r ≤ n → get_or counts (r - 1) 0 % pack_unit ≤ span + 1

-- an entry that the span names now
entry-counted : (span v t : ℕ) (b : Bool) → span < max_entries → v / pack_unit ≡ t + bit b → eqb (v % pack_unit) (span + 1) ≡ b
    → (counted_entry span v / pack_unit ≡ t + 1) × (counted_entry span v % pack_unit ≡ span + 1)
entry-counted span v t true l h e = rw e (h, eqb-true (v % pack_unit) (span + 1) e)
entry-counted span v t false l h e = rw e (omega (arith, h), omega arith)

module _ (n span : ℕ) (few : span < max_entries) (f : ℕ → ℕ) where
  state-region : (named : ℕ → Bool) (counts : List ℕ) (r : ℕ) → n ≤ length counts → 1 ≤ r → r ≤ n → State n span f named counts
      → State n span f (λ s. named s || eqb r s) (count_region span counts r)
  unfolding count_region
  state-region named counts r long pos le S =
      record {
        tally = λ s h l. ⊎_elim (λ e. ap (λ v. v / pack_unit) (here s e) ∙ now.0 ∙ ap₂ ◌+◌ (ap f e) (sym (ap bit (set-now s e)))) (λ e. ap (λ v. v / pack_unit) (there s h e) ∙ S.tally s h l ∙ ap (λ b. f s + bit b) (sym (not-now s e))) (same_or r s);
        last = λ s h l. ⊎_elim (λ e. ap (λ v. eqb (v % pack_unit) (span + 1)) (here s e) ∙ eq-eqb _ _ now.1 ∙ sym (set-now s e)) (λ e. ap (λ v. eqb (v % pack_unit) (span + 1)) (there s h e) ∙ S.last s h l ∙ sym (not-now s e)) (same_or r s);
        upto = λ s h l. ⊎_elim (λ e. subst (λ v. v % pack_unit ≤ span + 1) (sym (here s e)) (omega (arith, now.1))) (λ e. subst (λ v. v % pack_unit ≤ span + 1) (sym (there s h e)) (S.upto s h l)) (same_or r s);
      }
    where
      new : ℕ
      new = counted_entry span (get_or counts (r - 1) 0)

      now : (new / pack_unit ≡ f r + 1) × (new % pack_unit ≡ span + 1)
      now = entry-counted span (get_or counts (r - 1) 0) (f r) (named r) few (S.tally r pos le) (S.last r pos le)

      here : (s : ℕ) → r ≡ s → get_or (set counts (r - 1) new) (s - 1) 0 ≡ new
      here s e = ap (λ s. get_or (set counts (r - 1) new) (s - 1) 0) (sym e) ∙ get_or-set_same counts (r - 1) new 0 (omega arith)

      there : (s : ℕ) → 1 ≤ s → (r ≡ s → ⊥) → get_or (set counts (r - 1) new) (s - 1) 0 ≡ get_or counts (s - 1) 0
      there s h e = get_or-set_other counts (r - 1) (s - 1) new 0 (λ z. e (omega (arith, z)))

      set-now : (s : ℕ) → r ≡ s → (named s || eqb r s) ≡ true
      set-now s e = ap (λ b. named s || b) (eq-eqb r s e) ∙ or-true (named s)

      not-now : (s : ℕ) → (r ≡ s → ⊥) → (named s || eqb r s) ≡ named s
      not-now s e = ap (λ b. named s || b) (ne_eqb r s e) ∙ or-false (named s)

  state_ext : {named named' : ℕ → Bool} {counts : List ℕ} → ((s : ℕ) → named s ≡ named' s) → State n span f named counts → State n span f named' counts
  state_ext e S =
      record {
        tally = λ s h l. S.tally s h l ∙ ap (λ b. f s + bit b) (e s);
        last = λ s h l. S.last s h l ∙ e s;
        upto = S.upto;
      }

  state-pairs : (named : ℕ → Bool) (counts : List ℕ) (ps : List Pair) → n ≤ length counts → All (λ p. (1 ≤ p.lo) × ((p.lo < p.hi) × (p.hi ≤ n))) ps → State n span f named counts
      → State n span f (λ s. named s || any (contains s) ps) (count_pairs span counts ps)
  unfolding count_pairs count_pair any
  state-pairs named counts [] long done S = state_ext (λ s. sym (or-false (named s))) S
  state-pairs named counts (p ∷ ps) long (more h a) S =
      state_ext (λ s. or_assoc (named s || eqb p.lo s) (eqb p.hi s) (any (contains s) ps) ∙ or_assoc (named s) (eqb p.lo s) (eqb p.hi s || any (contains s) ps) ∙ ap (λ b. named s || b) (sym (or_assoc (eqb p.lo s) (eqb p.hi s) (any (contains s) ps))))
      (state-pairs (λ s. named s || eqb p.lo s || eqb p.hi s) (count_pair span counts p) ps (subst (λ m. n ≤ m) (sym (pair-length span counts p)) long) a
      (state-region (λ s. named s || eqb p.lo s) (count_region span counts p.lo) p.hi (subst (λ m. n ≤ m) (sym (region-length span counts p.lo)) long) (omega (arith, h.0, h.1.0)) h.1.1
      (state-region named counts p.lo long h.0 (omega (arith, h.1.0, h.1.1)) S)))

-- between two spans none is named yet
state-spans : (n : ℕ) (ps : ℕ → List Pair) (count : ℕ) (counts : List ℕ) → count ≤ max_entries → n ≤ length counts → ((k : ℕ) → get_or counts k 0 ≡ 0)
    → ((i : ℕ) → i < count → All (λ p. (1 ≤ p.lo) × ((p.lo < p.hi) × (p.hi ≤ n))) (ps i))
    → State n count (λ r. count_below count (λ j. any (contains r) (ps j))) (λ r. false) (count_spans ps count counts)
unfolding count_spans count_below
state-spans n ps zero counts few long z named =
    record {
      tally = λ r h l. ap (λ v. v / pack_unit) (z (r - 1));
      last = λ r h l. ap (λ v. eqb (v % pack_unit) 1) (z (r - 1));
      upto = λ r h l. subst (λ v. v % pack_unit ≤ 1) (sym (z (r - 1))) (omega arith);
    }
state-spans n ps (suc i) counts few long z named =
    next
    (state-pairs n i (omega arith) (λ r. count_below i (λ j. any (contains r) (ps j))) (λ r. false) (count_spans ps i counts) (ps i) (subst (λ m. n ≤ m) (sym (spans-length ps i counts)) long) (named i (omega arith))
    (state-spans n ps i counts (omega arith) long z (λ j l. named j (omega arith))))
  where
    counted : List ℕ
    counted = count_pairs i (count_spans ps i counts) (ps i)

    next : State n i (λ r. count_below i (λ j. any (contains r) (ps j))) (λ r. any (contains r) (ps i)) counted
        → State n (suc i) (λ r. count_below i (λ j. any (contains r) (ps j)) + bit (any (contains r) (ps i))) (λ r. false) counted
    next S =
        record {
          tally = λ r h l. S.tally r h l ∙ plus (count_below i (λ j. any (contains r) (ps j)) + bit (any (contains r) (ps i)));
          last = λ r h l. ne_eqb (get_or counted (r - 1) 0 % pack_unit) (suc i + 1) (λ e. omega (arith, e, S.upto r h l));
          upto = λ r h l. omega (arith, S.upto r h l);
        }
      where
        plus : (m : ℕ) → m ≡ m + 0
        plus m = omega arith

-- ---- the counts

pub incidents-shown : {C : Context} {rows starts : List ℕ} (P : ShownPairs C rows starts) (counts rest : List ℕ) → length counts ≡ C.regions → ((k : ℕ) → get_or counts k 0 ≡ 0)
    → ShownIncidents C (map unpacked (count_spans (span_pairs rows starts) C.count counts) ++ rest)
unfolding incident_count is_incident
incidents-shown {C} {rows} {starts} P counts rest long z =
    record {
      long = omega (arith, size, length-append (map unpacked packed) rest);
      at = λ r h l.
          sym
          (get_or-append (map unpacked packed) rest 0 (r - 1) (omega (arith, size)) ∙ get_or-map unpacked packed (r - 1) 0
          ∙ ap (λ l. get_or l (r - 1) 0 / pack_unit) (spans_ext (span_pairs rows starts) C.pairs C.count counts (λ i l. sym (P.at i l)))
          ∙ state.tally r h l ∙ plus (count_below C.count (λ j. any (contains r) (C.pairs j))));
    }
  where
    packed : List ℕ
    packed = count_spans (span_pairs rows starts) C.count counts

    size : length (map unpacked packed) ≡ C.regions
    size = length-map packed unpacked ∙ spans-length (span_pairs rows starts) C.count counts ∙ long

    plus : (m : ℕ) → m + 0 ≡ m
    plus m = omega arith

    state : State C.regions C.count (λ r. count_below C.count (λ j. any (contains r) (C.pairs j))) (λ r. false) (count_spans C.pairs C.count counts)
    state = state-spans C.regions C.pairs C.count counts P.few (omega (arith, long)) z P.named

-- ---- unpacking, entry by entry

-- the entries before k are counts alone
pub record Unpacking (packed : List ℕ) (k : ℕ) (counts : List ℕ) : Type 0 where
  pub long : length counts ≡ length packed
  pub done : (j : ℕ) → j < k → get_or counts j 0 ≡ unpacked (get_or packed j 0)
  pub rest : (j : ℕ) → k ≤ j → get_or counts j 0 ≡ get_or packed j 0
