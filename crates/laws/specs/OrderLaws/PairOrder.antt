-- The order of pairs, by the smaller number and then the larger, is strict and total; `pair_eq` is equality; and an ascending list of pairs has each pair once,
-- is in order place by place, and is determined by its members. Assumes nothing.
use Rattle.std.specs.Prelude.{ℕ, zero, suc, ◌<◌, ◌≡◌, refl, Bool, true, false, ◌&&◌, ◌||◌, List, [], ◌∷◌, length, get_or, eqb, ltb}
use Rattle.std.proofs.Common.{arith, sym, ap, ap₂, ◌∙◌, true≢false, lt-ltb, eqb-true, eq-eqb}
use Rattle.std.proofs.lemmas.Bool.{false≢true}
use Rattle.std.proofs.Math.Bool.{and-false, or-false, or-true}
use Rattle.definitions.specs.Scan.{any}
use Rattle.definitions.specs.Sort.{list_lt}
use Rattle.definitions.specs.Grid.{Pair, pair_lt, pair_eq}
use Rattle.laws.specs.ListLaws.Lists.{All, more, all_map}
use Rattle.laws.specs.OrderLaws.StableSort.{Weak}
use Rattle.laws.specs.OrderLaws.ListOrder.{by_key, eqb_sym, Three, less, same, over, three}
use Rattle.laws.specs.ListLaws.Tests.{both}
use Rattle.laws.specs.ListLaws.Members.{all-place, any-fails}

-- ---- equality

pub pair_same : (p q : Pair) → pair_eq p q ≡ true → p ≡ q
pair_same p q h =
    let b = both (eqb p.lo q.lo) (eqb p.hi q.hi) h in
    λ i. record { lo = eqb-true p.lo q.lo b.0 i; hi = eqb-true p.hi q.hi b.1 i }

pub pair-equal : (p q : Pair) → p ≡ q → pair_eq p q ≡ true
pair-equal p q e = ap₂ ◌&&◌ (eq-eqb p.lo q.lo (ap (λ r. r.lo) e)) (eq-eqb p.hi q.hi (ap (λ r. r.hi) e))

pub pair_eq_sym : (p q : Pair) → pair_eq p q ≡ pair_eq q p
pair_eq_sym p q = ap₂ ◌&&◌ (eqb_sym p.lo q.lo) (eqb_sym p.hi q.hi)

-- ---- order

-- as lists of two numbers compare
pair-list : (p q : Pair) → list_lt (p.lo ∷ p.hi ∷ []) (q.lo ∷ q.hi ∷ []) ≡ pair_lt p q
unfolding list_lt
pair-list p q = ap (λ b. ltb p.lo q.lo || (eqb p.lo q.lo && b)) (ap (λ b. ltb p.hi q.hi || b) (and-false (eqb p.hi q.hi)) ∙ or-false (ltb p.hi q.hi))

pub pair-weak : Weak pair_lt
pair-weak =
    record {
      asym = λ p q h. sym (pair-list q p) ∙ W.asym p q (pair-list p q ∙ h);
      cotr = λ p q r h k. sym (pair-list p r) ∙ W.cotr p q r (pair-list p q ∙ h) (pair-list r q ∙ k);
    }
  where
    W : Weak (λ (p q : Pair). list_lt (p.lo ∷ p.hi ∷ []) (q.lo ∷ q.hi ∷ []))
    W = by_key (λ p. p.lo ∷ p.hi ∷ [])

pub pair_trans : (p q r : Pair) → pair_lt p q ≡ true → pair_lt q r ≡ true → pair_lt p r ≡ true
pair_trans p q r h k = pair-weak.cotr p q r h (pair-weak.asym q r k)

pub pair-differ : (p q : Pair) → pair_lt p q ≡ true → pair_eq p q ≡ false
pair-differ p q h = go (pair_eq p q) refl
  where
    go : (b : Bool) → pair_eq p q ≡ b → b ≡ false
    go true e = sym h ∙ ap₂ pair_lt (pair_same p q e) (sym (pair_same p q e)) ∙ pair-weak.asym p q h
    go false e = refl

pub lo_less : (p q : Pair) → p.lo < q.lo → pair_lt p q ≡ true
lo_less p q h = rw (lt-ltb p.lo q.lo h) refl

pub hi_less : (p q : Pair) → p.lo ≡ q.lo → p.hi < q.hi → pair_lt p q ≡ true
hi_less p q e h = rw (eq-eqb p.lo q.lo e, lt-ltb p.hi q.hi h) (or-true (ltb p.lo q.lo))

pub pair-total : (p q : Pair) → pair_lt p q ≡ false → pair_eq p q ≡ false → pair_lt q p ≡ true
pair-total p q h k = go (three p.lo q.lo) (three p.hi q.hi)
  where
    go : Three p.lo q.lo → Three p.hi q.hi → pair_lt q p ≡ true
    go (less l) t = absurd (true≢false (sym (lo_less p q l) ∙ h))
    go (same e) (less l) = absurd (true≢false (sym (hi_less p q e l) ∙ h))
    go (same e) (same f) = absurd (true≢false (sym (ap₂ ◌&&◌ (eq-eqb p.lo q.lo e) (eq-eqb p.hi q.hi f)) ∙ k))
    go (same e) (over l) = hi_less q p (sym e) l
    go (over l) t = lo_less q p l

-- ---- ascending lists

-- each pair is before all that follow it
pub data Ascending : List Pair → Type 0 where
  none : Ascending []
  next : {p : Pair} {l : List Pair} → All (λ q. pair_lt p q ≡ true) l → Ascending l → Ascending (p ∷ l)

-- a pair before all of l is not in l
pub before-absent : (p : Pair) {l : List Pair} → All (λ q. pair_lt p q ≡ true) l → any (pair_eq p) l ≡ false
before-absent p a = any-fails (pair_eq p) (all_map (λ q h. pair-differ p q h) a)

-- in order place by place
pub ascending_at : {l : List Pair} (d : Pair) → Ascending l → (i j : ℕ) → i < j → j < length l → pair_lt (get_or l i d) (get_or l j d) ≡ true
ascending_at d none i j h k = absurd (omega arith)
ascending_at d (next a s) i zero h k = absurd (omega arith)
ascending_at d (next a s) zero (suc j) h k = all-place d a j (omega arith)
ascending_at d (next a s) (suc i) (suc j) h k = ascending_at d s i j (omega arith) (omega arith)

-- a list is found to have its first pair
head-found : (p : Pair) (l : List Pair) → any (pair_eq p) (p ∷ l) ≡ true
unfolding any
head-found p l = ap (λ b. b || any (pair_eq p) l) (pair-equal p p refl)

-- two ascending lists with the same members are equal
pub ascending_unique : {l m : List Pair} → Ascending l → Ascending m → ((p : Pair) → any (pair_eq p) l ≡ any (pair_eq p) m) → l ≡ m
unfolding any
ascending_unique none none h = refl
ascending_unique none (next {p = q} {l = m} b t) h = absurd (false≢true (h q ∙ head-found q m))
ascending_unique (next {p = p} {l = l} a s) none h = absurd (false≢true (sym (h p) ∙ head-found p l))
ascending_unique (next {p = p} {l = l} a s) (next {p = q} {l = m} b t) h = ap₂ ◌∷◌ heads (ascending_unique s t tails)
  where
    absent : (p q : Pair) {m : List Pair} → pair_lt p q ≡ true → All (λ r. pair_lt q r ≡ true) m → any (pair_eq p) (q ∷ m) ≡ false
    absent p q f c = before-absent p (more f (all_map (λ r g. pair_trans p q r f g) c))

    heads : p ≡ q
    heads = go (pair_eq p q) refl (pair_lt p q) refl
      where
        go : (b : Bool) → pair_eq p q ≡ b → (c : Bool) → pair_lt p q ≡ c → p ≡ q
        go true e c f = pair_same p q e
        go false e true f = absurd (true≢false (sym (head-found p l) ∙ h p ∙ absent p q f b))
        go false e false f = absurd (true≢false (sym (head-found q m) ∙ sym (h q) ∙ absent q p (pair-total p q f e) a))

    tails : (r : Pair) → any (pair_eq r) l ≡ any (pair_eq r) m
    tails r = go (pair_eq r p) refl
      where
        go : (c : Bool) → pair_eq r p ≡ c → any (pair_eq r) l ≡ any (pair_eq r) m
        go true e =
            let f = pair_same r p e in
            ap (λ x. any (pair_eq x) l) f ∙ before-absent p a ∙ sym (ap (λ x. any (pair_eq x) m) (f ∙ heads) ∙ before-absent q b)
        go false e = sym (ap (λ c. c || any (pair_eq r) l) e) ∙ h r ∙ ap (λ c. c || any (pair_eq r) m) (ap (pair_eq r) (sym heads) ∙ e)
