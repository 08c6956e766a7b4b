-- The loop of `run_counts`: cells that are equal count together, so that the counts up to one place and the cells from there to another give the counts up to the
-- other. Assumes nothing.
use Prim.Native.Nat.{ℕ, zero, suc, ◌+◌, ◌-◌, ◌*◌, ◌≤◌, ◌<◌, zero-le}
use native.Mathlib.Omega.{arith}
use native.Mathlib.Nat.{add-zero}
use mathlib.Core.Path.{◌≡◌, refl, sym, ap, ap₂, ◌∙◌, subst}
use mathlib.Core.Bool.{Bool, true, false, not}
use mathlib.Core.List.{List, [], ◌∷◌}
use lib.ListN.{length, get_or, set, length-append}
use Rattle.std.proofs.lemmas.List.{get_or-append-add, get_or_append_left}
use Rattle.std.specs.List.{AllAdjacentBelow}
use mathlib.Core.List.{◌++◌}
use Rattle.std.proofs.Common.{add-one}
use lib.Dec.{eqb, ltb}
use borrow.Author.Tests.{eqb-true, eqb-false, lt-ltb, le-ltb}
use Rattle.definitions.specs.Scan.{any_below_lem, count_below, bit}
use Rattle.definitions.specs.Grid.{is_ramp, elevation}
use Rattle.definitions.specs.RegionRecord.{mask_of}
use Rattle.laws.specs.ListLaws.ScanSteps.{count-le}
use Rattle.laws.specs.RegionLaws.OneMore.{any-counted}
use Rattle.context.specs.Runs.{Within, elevation_among, elevations_among, ramps_among}
use Rattle.context.proofs.RecordLaws.{counts_of, counts_ext, mask_ext}

-- ---- a test that says the same of m numbers from n on

count-alike : (f : ℕ → Bool) (b : Bool) (n m : ℕ) → ((i : ℕ) → i < m → f (n + i) ≡ b) → count_below (n + m) f ≡ count_below n f + m * bit b
unfolding count_below
count-alike f b n zero h = ap (λ k. count_below k f) (add-zero n) ∙ omega arith
count-alike f b n (suc m) h =
    ap (λ k. count_below k f) (later n m)
    ∙ ap₂ (λ k t. k + bit t) (count-alike f b n m (λ i l. h i (omega arith))) (h m (omega arith))
    ∙ one (count_below n f) m (bit b)
  where
    later : (n m : ℕ) → n + suc m ≡ suc (n + m)
    later n m = omega arith

    one : (k m b : ℕ) → k + m * b + b ≡ k + suc m * b
    one k m b = omega arith

-- ---- four counts, m more at the place k

more : (v m : ℕ) → v ≡ v + m * 0
more v m = omega arith

most : (v m : ℕ) → v + m ≡ v + m * 1
most v m = omega arith

counts-several : (f : ℕ → ℕ) (k m : ℕ) → k < 4 → set (counts_of f) k (get_or (counts_of f) k 0 + m) ≡ counts_of (λ e. f e + m * bit (eqb k e))
counts-several f zero m h = λ i. most (f 0) m i ∷ more (f 1) m i ∷ more (f 2) m i ∷ more (f 3) m i ∷ []
counts-several f (suc zero) m h = λ i. more (f 0) m i ∷ most (f 1) m i ∷ more (f 2) m i ∷ more (f 3) m i ∷ []
counts-several f (suc (suc zero)) m h = λ i. more (f 0) m i ∷ more (f 1) m i ∷ most (f 2) m i ∷ more (f 3) m i ∷ []
counts-several f (suc (suc (suc zero))) m h = λ i. more (f 0) m i ∷ more (f 1) m i ∷ more (f 2) m i ∷ most (f 3) m i ∷ []
counts-several f (suc (suc (suc (suc k)))) m h = absurd (omega arith)

pub among-few : (bytes : List ℕ) (c n e : ℕ) → get_or (elevations_among bytes c n) e 0 ≤ n
among-few bytes c n zero = count-le (λ i. eqb (elevation (get_or bytes (c + i) 0)) 0) n
among-few bytes c n (suc zero) = count-le (λ i. eqb (elevation (get_or bytes (c + i) 0)) 1) n
among-few bytes c n (suc (suc zero)) = count-le (λ i. eqb (elevation (get_or bytes (c + i) 0)) 2) n
among-few bytes c n (suc (suc (suc zero))) = count-le (λ i. eqb (elevation (get_or bytes (c + i) 0)) 3) n
among-few bytes c n (suc (suc (suc (suc e)))) = zero-le

-- ---- the loop

-- neighbours that are alike equal the first
alike : (l : List ℕ) (n : ℕ) → AllAdjacentBelow (λ a b. eqb a b ≡ true) l n → (i : ℕ) → i < n → get_or l i 0 ≡ get_or l 0 0
alike l n h zero m = refl
alike l n h (suc i) m = ap (λ k. get_or l k 0) (sym (add-one i)) ∙ sym (eqb-true _ _ (h i 0 (omega arith))) ∙ alike l n h i (omega arith)

-- of the cells from `from` to before `end` those before the rest are counted
pub record Counting (bytes : List ℕ) (from end : ℕ) (rest : List ℕ) (ramps : ℕ) (elevations : List ℕ) : Type 0 where
  pub few : from + length rest ≤ end
  pub at : (i : ℕ) → i < length rest → get_or rest i 0 ≡ get_or bytes (from + (end - from - length rest + i)) 0
  pub ramps_are : ramps ≡ ramps_among bytes from (end - from - length rest)
  pub elevations_are : elevations ≡ elevations_among bytes from (end - from - length rest)

pub counting-starts : (bytes : List ℕ) {rest : List ℕ} → rest ≡ bytes → Counting bytes 0 (length bytes) rest 0 (0 ∷ 0 ∷ 0 ∷ 0 ∷ [])
unfolding count_below
counting-starts bytes {rest} e =
    record {
      few = omega (arith, ap length e);
      at = λ i l. ap (λ r. get_or r i 0) e ∙ ap (λ k. get_or bytes k 0) (omega (arith, ap length e));
      ramps_are = ap (ramps_among bytes 0) none;
      elevations_are = ap (elevations_among bytes 0) none;
    }
  where
    none : 0 ≡ length bytes - 0 - length rest
    none = omega (arith, ap length e)

module _ {bytes : List ℕ} {from end ramps : ℕ} {rest elevations : List ℕ} (C : Counting bytes from end rest ramps elevations) where
  pub counting-few : ramps ≤ end - from - length rest
  counting-few = omega (arith, C.ramps_are, count-le (λ i. is_ramp (get_or bytes (from + i) 0)) (end - from - length rest))

  pub counting_each : (e : ℕ) → get_or elevations e 0 ≤ end - from - length rest
  counting_each e = rw C.elevations_are (among-few bytes from (end - from - length rest) e)

  -- a run of cells more, which are alike
  module _ (run left : List ℕ) (split : rest ≡ run ++ left) where
    longer : length rest ≡ length run + length left
    longer = ap length split ∙ length-append run left

    pub counting-room : (n : ℕ) → n ≤ end - from - length rest → n + length run ≤ end - from
    counting-room n h = omega (arith, C.few, longer)

    pub counting-low : Within bytes from end → 0 < length run → elevation (get_or run 0 0) < 4
    counting-low W some =
        subst (λ b. elevation b < 4)
        (sym (C.at 0 (omega (arith, longer))) ∙ ap (λ r. get_or r 0 0) split ∙ get_or_append_left run left 0 0 some)
        (W.counted _ (omega arith) (omega (arith, C.few, longer)))

    pub counting-goes_on : {e r : ℕ} → 0 < length run → AllAdjacentBelow (λ a b. eqb a b ≡ true) rest (length run) → elevation (get_or run 0 0) < 4
        → e ≡ elevation (get_or run 0 0) → r ≡ bit (is_ramp (get_or run 0 0))
        → Counting bytes from end left (ramps + length run * r) (set elevations e (get_or elevations e 0 + length run))
    counting-goes_on {e} {r} some h low he hr =
        record {
          few = omega (arith, C.few, longer);
          at = λ i l.
              sym (get_or-append-add run left i 0) ∙ sym (ap (λ r. get_or r (length run + i) 0) split) ∙ C.at (length run + i) (omega (arith, longer))
              ∙ ap (λ k. get_or bytes k 0) (omega (arith, C.few, longer));
          ramps_are =
              ap₂ (λ k b. k + length run * b) C.ramps_are hr
              ∙ sym (ap (ramps_among bytes from) more-done ∙ count-alike (λ i. is_ramp (get_or bytes (from + i) 0)) (is_ramp (get_or run 0 0)) done (length run) (λ i l. ap is_ramp (same i l)));
          elevations_are =
              ap₂ (λ l e. set l e (get_or l e 0 + length run)) C.elevations_are he
              ∙ counts-several (elevation_among bytes from done) (elevation (get_or run 0 0)) (length run) low
              ∙ counts_ext _ _ (λ e. sym (ap (λ n. elevation_among bytes from n e) more-done
              ∙ count-alike (λ i. eqb (elevation (get_or bytes (from + i) 0)) e) (eqb (elevation (get_or run 0 0)) e) done (length run) (λ i l. ap (λ b. eqb (elevation b) e) (same i l))));
        }
      where
        done : ℕ
        done = end - from - length rest

        more-done : end - from - length left ≡ done + length run
        more-done = omega (arith, C.few, longer)

        same : (i : ℕ) → i < length run → get_or bytes (from + (done + i)) 0 ≡ get_or run 0 0
        same i l =
            sym (C.at i (omega (arith, longer))) ∙ alike rest (length run) h i l ∙ ap (λ r. get_or r 0 0) split ∙ get_or_append_left run left 0 0 some

-- ---- the mask of what is counted

some_counted : (n : ℕ) (p : ℕ → Bool) → ltb 0 (count_below n p) ≡ any_below_lem n p
some_counted n p = go (any_below_lem n p) refl
  where
    positive : (k : ℕ) → (k ≡ 0 → ⊥) → 0 < k
    positive zero h = absurd (h refl)
    positive (suc k) h = omega arith

    go : (b : Bool) → any_below_lem n p ≡ b → ltb 0 (count_below n p) ≡ b
    go true e = lt-ltb 0 (count_below n p) (positive (count_below n p) (eqb-false (count_below n p) 0 (any-counted p n ∙ ap not e)))
    go false e = le-ltb 0 (count_below n p) (omega (arith, eqb-true (count_below n p) 0 (any-counted p n ∙ ap not e)))

pub mask_counted : (bytes : List ℕ) (c n : ℕ) {counts : List ℕ} → counts ≡ elevations_among bytes c n
    → mask_of (λ e. ltb 0 (get_or counts e 0)) ≡ mask_of (λ e. any_below_lem n (λ i. eqb (elevation (get_or bytes (c + i) 0)) e))
mask_counted bytes c n h =
    ap (λ l. mask_of (λ e. ltb 0 (get_or l e 0))) h
    ∙ mask_ext (λ e. ltb 0 (elevation_among bytes c n e)) (λ e. any_below_lem n (λ i. eqb (elevation (get_or bytes (c + i) 0)) e))
    (λ e. some_counted n (λ i. eqb (elevation (get_or bytes (c + i) 0)) e))

pub sums-counted : (old bytes : List ℕ) (c n : ℕ) {more : List ℕ} → more ≡ elevations_among bytes c n
    → counts_of (λ e. get_or old e 0 + get_or more e 0) ≡ counts_of (λ e. get_or old e 0 + elevation_among bytes c n e)
sums-counted old bytes c n h = ap (λ l. counts_of (λ e. get_or old e 0 + get_or l e 0)) h
