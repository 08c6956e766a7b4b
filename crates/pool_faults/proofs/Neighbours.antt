-- Why it is enough to compare neighbours: terms that precede each other do so at any distance, and two terms of which one precedes the other are apart. The
-- sorted keys have the positions of the keys. Assumes nothing.
use Prim.Native.Nat.{ℕ, zero, suc, ◌<◌}
use native.Mathlib.Omega.{arith}
use mathlib.Core.Path.{◌≡◌, refl, sym, ap, subst, ◌∙◌}
use mathlib.Core.Bool.{Bool, true, false, ◌&&◌, ◌||◌, false≢true, and-false}
use Rattle.std.specs.Prelude.{Option, None, Some}
use mathlib.Core.List.{List, [], ◌∷◌}
use lib.ListN.{length, get_or}
use lib.Dec.{eqb, ltb}
use borrow.Author.Tests.{eqb-true, eqb-false, eq-eqb, le-ltb}
use Rattle.definitions.specs.Scan.{any}
use Rattle.definitions.specs.Sort.{sort}
use Rattle.laws.specs.ListLaws.SortedMembers.{any-sort}
use Rattle.laws.specs.OrderLaws.ListOrder.{Three, less, same, over, three}
use Rattle.catalogue.specs.Terms.{Term, Days, term_at, days_of, overlap}
use Rattle.pool_terms.specs.Contract.{first_in, end_in}
use Rattle.pool_faults.specs.Apart.{Apart, IsBefore, Precedes, position_in, Positions, Following, AllApart}

precedes_more : {a b c : Term} → IsBefore a b → IsBefore b c → IsBefore a c
precedes_more P Q =
    record {
      ordered = omega (arith, P.ordered, Q.ordered);
      over =
          λ e.
          let x = P.over (omega (arith, P.ordered, Q.ordered)) in
          let y = Q.over (omega (arith, P.ordered, Q.ordered)) in
          (x.0, omega (arith, x.1, y.0, y.1));
    }

module _ (l : List ℕ) where
  following_far : (keys : List ℕ) (n : ℕ) → Following l keys n → (p q : ℕ) → p < q → q < n → Precedes l (position_in (get_or keys p 0)) (position_in (get_or keys q 0))
  following_far keys n F p zero b h = absurd (omega arith)
  following_far keys n F p (suc q) b h = go (eqb p q) refl (λ m. following_far keys n F p q m (omega arith))
    where
      go : (t : Bool) → eqb p q ≡ t → (p < q → Precedes l (position_in (get_or keys p 0)) (position_in (get_or keys q 0)))
          → Precedes l (position_in (get_or keys p 0)) (position_in (get_or keys (suc q) 0))
      go true e ih = subst (λ k. Precedes l (position_in (get_or keys k 0)) (position_in (get_or keys (suc q) 0))) (sym (eqb-true p q e)) (F q h)
      go false e ih = precedes_more (ih (omega (arith, eqb-false p q e))) (F q h)

  -- ---- a term that precedes another is apart from it, and the other from it

  apart-before : (i j : ℕ) → Precedes l i j → Apart l i j
  apart-before i j P d e = go (eqb (term_at l j).on_map (term_at l i).on_map) refl (days_of (term_at l j)) refl
    where
      go : (t : Bool) → eqb (term_at l j).on_map (term_at l i).on_map ≡ t → (o : Option Days) → days_of (term_at l j) ≡ o → (t && overlap d o) ≡ false
      go false q o f = refl
      go true q None f = refl
      go true q (Some c) f =
          let x = P.over (sym (eqb-true (term_at l j).on_map (term_at l i).on_map q)) in
          rw (le-ltb c.from d.to (omega (arith, x.1, ap end_in e, ap first_in f))) (and-false (ltb d.from c.to))

  apart-behind : (i j : ℕ) → Precedes l j i → Apart l i j
  apart-behind i j P d e = go (eqb (term_at l j).on_map (term_at l i).on_map) refl (days_of (term_at l j)) refl
    where
      go : (t : Bool) → eqb (term_at l j).on_map (term_at l i).on_map ≡ t → (o : Option Days) → days_of (term_at l j) ≡ o → (t && overlap d o) ≡ false
      go false q o f = refl
      go true q None f = refl
      go true q (Some c) f =
          let x = P.over (eqb-true (term_at l j).on_map (term_at l i).on_map q) in
          rw (le-ltb d.from c.to (omega (arith, x.1, ap first_in e, ap end_in f))) refl

-- ---- the sorted keys

at_any : (f : ℕ → Bool) (l : List ℕ) (p : ℕ) → p < length l → f (get_or l p 0) ≡ true → any f l ≡ true
unfolding any
at_any f [] p h e = absurd (omega arith)
at_any f (x ∷ l) zero h e = rw e refl
at_any f (x ∷ l) (suc p) h e = go (f x) (at_any f l p (omega arith) e)
  where
    go : (b : Bool) → any f l ≡ true → (b || any f l) ≡ true
    go true k = refl
    go false k = k

any_at : (f : ℕ → Bool) (l : List ℕ) → any f l ≡ true → (p : ℕ) × (p < length l) × (f (get_or l p 0) ≡ true)
unfolding any
any_at f [] h = absurd (false≢true h)
any_at f (x ∷ l) h = go (f x) refl h (any_at f l)
  where
    go : (b : Bool) → f x ≡ b → (b || any f l) ≡ true → (any f l ≡ true → (p : ℕ) × (p < length l) × (f (get_or l p 0) ≡ true))
        → (p : ℕ) × (p < length (x ∷ l)) × (f (get_or (x ∷ l) p 0) ≡ true)
    go true e k ih = (0, omega arith, e)
    go false e k ih =
        let r = ih k in
        (suc r.0, omega (arith, r.1), r.2)

module _ (keys : List ℕ) where
  moved : (p : ℕ) → p < length keys → (q : ℕ) × (q < length (sort ltb keys)) × (get_or (sort ltb keys) q 0 ≡ get_or keys p 0)
  moved p h =
      let x = get_or keys p 0 in
      let r = any_at (λ k. eqb k x) (sort ltb keys) (any-sort ltb (λ k. eqb k x) keys ∙ at_any (λ k. eqb k x) keys p h (eq-eqb x x refl)) in
      (r.0, r.1, eqb-true (get_or (sort ltb keys) r.0 0) x r.2)

  stood : (q : ℕ) → q < length (sort ltb keys) → (p : ℕ) × (p < length keys) × (get_or keys p 0 ≡ get_or (sort ltb keys) q 0)
  stood q h =
      let x = get_or (sort ltb keys) q 0 in
      let r = any_at (λ k. eqb k x) keys (sym (any-sort ltb (λ k. eqb k x) keys) ∙ at_any (λ k. eqb k x) (sort ltb keys) q h (eq-eqb x x refl)) in
      (r.0, r.1, eqb-true (get_or keys r.0 0) x r.2)

  pub positions_sorted : (until : ℕ) → Positions keys until → Positions (sort ltb keys) until
  positions_sorted until P k h =
      let r = stood k h in
      subst (λ x. position_in x < until) r.2 (P r.0 r.1)

  pub sorted_apart : (l : List ℕ) → Following l (sort ltb keys) (length (sort ltb keys)) → AllApart l keys
  sorted_apart l F p q hp hq differ =
      let a = moved p hp in
      let b = moved q hq in
      subst (λ x. Apart l (position_in x) (position_in (get_or keys q 0))) a.2
      (subst (λ x. Apart l (position_in (get_or (sort ltb keys) a.0 0)) (position_in x)) b.2 (go a.0 a.1 b.0 b.1 (λ e. differ (ap position_in (sym a.2 ∙ ap (λ k. get_or (sort ltb keys) k 0) e ∙ b.2))) (three a.0 b.0)))
    where
      go : (m : ℕ) → m < length (sort ltb keys) → (n : ℕ) → n < length (sort ltb keys) → (m ≡ n → ⊥) → Three m n
          → Apart l (position_in (get_or (sort ltb keys) m 0)) (position_in (get_or (sort ltb keys) n 0))
      go m hm n hn d (less e) = apart-before l (position_in (get_or (sort ltb keys) m 0)) (position_in (get_or (sort ltb keys) n 0)) (following_far l (sort ltb keys) (length (sort ltb keys)) F m n e hn)
      go m hm n hn d (same e) = absurd (d e)
      go m hm n hn d (over e) = apart-behind l (position_in (get_or (sort ltb keys) m 0)) (position_in (get_or (sort ltb keys) n 0)) (following_far l (sort ltb keys) (length (sort ltb keys)) F n m e hm)

pub sorted_tells : (l keys : List ℕ) (until : ℕ) {new : List ℕ} {r : ℕ} → new ≡ sort ltb keys → (r ≡ until → Following l new (length new)) → r ≡ until → AllApart l keys
sorted_tells l keys until e F q = sorted_apart keys l (subst (λ m. Following l m (length m)) e (F q))

pub positions_kept : (keys : List ℕ) (until : ℕ) {new : List ℕ} → new ≡ sort ltb keys → Positions keys until → Positions new until
positions_kept keys until e P = subst (λ m. Positions m until) (sym e) (positions_sorted keys until P)
