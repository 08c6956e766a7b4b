-- The latest ends by slot: a term that starts no earlier than its slot's latest end overlaps no earlier term
-- of its map. Assumes nothing.
use Prim.Native.Nat.{ℕ, zero, suc, ◌+◌, ◌%◌, ◌≤◌, ◌<◌}
use native.Mathlib.Omega.{arith}
use mathlib.Core.Path.{◌≡◌, refl, ap}
use Rattle.std.specs.Prelude.{Option, None, Some}
use mathlib.Core.Bool.{Bool, true, false, ◌&&◌, ◌||◌, true≢false}
use mathlib.Core.List.{List}
use lib.ListN.{length, get_or}
use lib.Dec.{eqb, ltb, leb}
use borrow.Author.Tests.{eqb-true, ltb-true, ltb-false, le-ltb, lt-leb, leb-true, leb-false}
use Rattle.std.specs.Bool.{⊤}
use Rattle.std.specs.Option.{MatchOption, unwrap_or}
use Rattle.definitions.specs.Scan.{only_if}
use Rattle.definitions.specs.Refusals.{Refusal, first_below_lem}
use Rattle.laws.specs.ListLaws.Below.{below_none}
use Rattle.laws.specs.ListLaws.Tests.{both}
use Rattle.laws.specs.ListLaws.NoFault.{found, none_at}
use Rattle.catalogue.specs.Terms.{Days, term_at, days_of, is_empty, overlap, overlaps_earlier, term_fault}
use Rattle.pool_terms.specs.Contract.{sharing, first_in, end_in}
use Rattle.pool_faults.specs.Apart.{Sound, Faultless, ApartTo}
use Rattle.pool_faults.specs.Ends.{Latest, EndKept, passes}

-- ---- the latest ends

module _ (terms : List ℕ) (i : ℕ) (ends : List ℕ) (L : Latest terms i ends) where
  pub none_earlier : (d : Days) → get_or ends ((term_at terms i).on_map % 4096) 0 ≤ d.from → overlaps_earlier terms i d ≡ false
  unfolding overlaps_earlier
  none_earlier d h = below_none i (sharing terms (term_at terms i).on_map d) (λ j b. go j (eqb (term_at terms j).on_map (term_at terms i).on_map) refl (days_of (term_at terms j)) (L.latest j b))
    where
      go : (j : ℕ) (t : Bool) → eqb (term_at terms j).on_map (term_at terms i).on_map ≡ t → (o : Option Days) → end_in o ≤ get_or ends ((term_at terms j).on_map % 4096) 0 → (t && overlap d o) ≡ false
      go j false e o k = refl
      go j true e None k = refl
      go j true e (Some c) k =
          let same : get_or ends ((term_at terms j).on_map % 4096) 0 ≡ get_or ends ((term_at terms i).on_map % 4096) 0 =
          ap (λ m. get_or ends (m % 4096) 0) (eqb-true (term_at terms j).on_map (term_at terms i).on_map e) in
          rw (le-ltb d.from c.to (omega arith)) refl

  -- with term i: the slot has its end at least, and no less than before
  pub latest_more : (new : List ℕ) → length new ≡ 4096 → end_in (days_of (term_at terms i)) ≤ get_or new ((term_at terms i).on_map % 4096) 0 → ((k : ℕ) → get_or ends k 0 ≤ get_or new k 0) → Latest terms (i + 1) new
  latest_more new n here grows = record { slots = n; latest = λ j b. go j b (ltb j i) refl }
    where
      go : (j : ℕ) → j < i + 1 → (t : Bool) → ltb j i ≡ t → end_in (days_of (term_at terms j)) ≤ get_or new ((term_at terms j).on_map % 4096) 0
      go j b true t = omega (arith, L.latest j (ltb-true j i t), grows ((term_at terms j).on_map % 4096))
      go j b false t = let same : j ≡ i = omega (arith, ltb-false j i t) in rw same here

  -- once its end is kept
  pub latest_next : {new : List ℕ} → EndKept (term_at terms i) ends new → Latest terms (i + 1) new
  latest_next {new} E = latest_more new E.slots E.said E.grown

  -- a term that passes breaks no rule
  pub passes-fine : passes (term_at terms i) ends ≡ true → term_fault terms i (days_of (term_at terms i)) ≡ None
  passes-fine e =
      let o = days_of (term_at terms i) in
      let said = get_or ends ((term_at terms i).on_map % 4096) 0 in
      let P = both (ltb (first_in o) (end_in o)) (leb said (first_in o)) e in
      go o (ltb-true (first_in o) (end_in o) P.0) (leb-true said (first_in o) P.1)
    where
      go : (o : Option Days) → first_in o < end_in o → get_or ends ((term_at terms i).on_map % 4096) 0 ≤ first_in o → term_fault terms i o ≡ None
      go None h k = absurd (omega arith)
      go (Some d) h k = rw (lt-leb d.to d.from h, none_earlier d k) refl

pub latest-starts : (terms ends : List ℕ) → length ends ≡ 4096 → Latest terms 0 ends
latest-starts terms ends n = record { slots = n; latest = λ j b. absurd (omega arith) }

-- ---- sound terms

-- up to the first that is not, from known on
pub sound_found : (l : List ℕ) (known count : ℕ) (r : Option ℕ) {n : ℕ} → n ≡ unwrap_or r count → known ≤ count → Sound l known
    → MatchOption r ((k : ℕ) → known ≤ k → k < count → first_in (days_of (term_at l k)) < end_in (days_of (term_at l k)))
    (λ i. (known ≤ i) × (i < count) × ⊤ × ((k : ℕ) → known ≤ k → k < i → first_in (days_of (term_at l k)) < end_in (days_of (term_at l k))))
    → (known ≤ n) × (n ≤ count) × Sound l n
sound_found l known count r e h S m = rw e (go r m)
  where
    join : (n : ℕ) → ((k : ℕ) → known ≤ k → k < n → first_in (days_of (term_at l k)) < end_in (days_of (term_at l k))) → Sound l n
    join n more k b = side (ltb k known) refl
      where
        side : (t : Bool) → ltb k known ≡ t → first_in (days_of (term_at l k)) < end_in (days_of (term_at l k))
        side true e = S k (ltb-true k known e)
        side false e = more k (ltb-false k known e) b

    go : (r : Option ℕ) → MatchOption r ((k : ℕ) → known ≤ k → k < count → first_in (days_of (term_at l k)) < end_in (days_of (term_at l k)))
        (λ i. (known ≤ i) × (i < count) × ⊤ × ((k : ℕ) → known ≤ k → k < i → first_in (days_of (term_at l k)) < end_in (days_of (term_at l k))))
        → (known ≤ unwrap_or r count) × (unwrap_or r count ≤ count) × Sound l (unwrap_or r count)
    go None m = (h, omega arith, join count m)
    go (Some i) m = (m.0, omega (arith, m.1), join i m.3)

-- a term that breaks no rule has good dates and is not empty
pub faultless_sound : (l : List ℕ) (n : ℕ) → Faultless l n → Sound l n
faultless_sound l n F i b = go (days_of (term_at l i)) (none_at (λ k. term_fault l k (days_of (term_at l k))) n F i b)
  where
    kept : (d : Days) (t : Bool) → is_empty d ≡ t → only_if {A = Refusal} (t || overlaps_earlier l i d) (record { number = 19; place = i }) ≡ None → d.from < d.to
    kept d true e f = absurd (true≢false (ap found f))
    kept d false e f = omega (arith, leb-false d.to d.from e)

    go : (o : Option Days) → term_fault l i o ≡ None → first_in o < end_in o
    go None f = absurd (true≢false (ap found f))
    go (Some d) f = kept d (is_empty d) refl f

-- terms that are sound and apart break no rule
pub apart_faultless : (l : List ℕ) (n : ℕ) → Sound l n → ApartTo l n → Faultless l n
unfolding first_below_lem overlaps_earlier
apart_faultless l zero S A = refl
apart_faultless l (suc n) S A =
    rw (apart_faultless l n (λ i b. S i (omega arith)) (λ i j a b. A i j a (omega arith))) (go (days_of (term_at l n)) refl (S n (omega arith)))
  where
    go : (o : Option Days) → days_of (term_at l n) ≡ o → first_in o < end_in o → term_fault l n o ≡ None
    go None e h = absurd (omega arith)
    go (Some d) e h = rw (lt-leb d.to d.from h, below_none n (sharing l (term_at l n).on_map d) (λ j b. A n j b (omega arith) d e)) refl
