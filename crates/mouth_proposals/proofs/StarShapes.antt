-- What a star has: an outer region, from 1 on, and two inner ones or more. The argument: a row that does not name the other region of the first row names yet
-- another beside the outer one. Assumes nothing.
use Prim.Native.Nat.{ℕ, ◌≤◌, ◌<◌}
use native.Mathlib.Omega.{arith}
use mathlib.Core.Path.{◌≡◌, refl, sym, ap, ap₂, ◌∙◌, subst}
use mathlib.Core.Bool.{Bool, true, false, not, ◌&&◌, ◌||◌, cond, or-true, true≢false, false≢true}
use Rattle.std.specs.Prelude.{Some}
use mathlib.Core.List.{List, [], ◌∷◌, Memᴰ}
use lib.ListN.{length}
use lib.Dec.{eqb, leb}
use borrow.Author.Tests.{eqb-true, eq-eqb, ne_eqb, not-true, not-false}
use Rattle.definitions.specs.Scan.{any, all, filter, member}
use Rattle.definitions.specs.Grid.{Pair, contains}
use Rattle.definitions.specs.MouthShapes.{star, distinct_regions, common_regions, star_from, mouth_shape}
use Rattle.laws.specs.ListLaws.Lists.{All, more}
use Rattle.laws.specs.ListLaws.Members.{all_at, any-member, any_found, any-failed}
use Rattle.mouth_proposals.specs.Rows.{inner_of}
use Rattle.mouth_proposals.proofs.RowLists.{all_as_any}
use Rattle.mouth_proposals.proofs.Distinct.{member-inner, two_members}
use Rattle.mouth_proposals.proofs.ApproachLaws.{Named}

pub record Star (n : ℕ) (l : List Pair) (outer : ℕ) (inner : List ℕ) : Type 0 where
  pub outside : (1 ≤ outer) × (outer ≤ n)
  pub inside : inner ≡ inner_of (Some outer) l
  pub several : leb (length inner) 1 ≡ false

-- the other region of a pair that names o
record Other (o : ℕ) (p : Pair) : Type 0 where
  region : ℕ
  apart : region ≡ o → ⊥
  named : contains region p ≡ true

other : (o : ℕ) (p : Pair) → p.lo < p.hi → contains o p ≡ true → Other o p
other o p h e = go (eqb p.lo o) refl
  where
    go : (b : Bool) → eqb p.lo o ≡ b → Other o p
    go true k =
        record {
          region = p.hi;
          apart = λ q. omega (arith, q, eqb-true p.lo o k);
          named = ap (λ b. eqb p.lo p.hi || b) (eq-eqb p.hi p.hi refl) ∙ or-true (eqb p.lo p.hi);
        }
    go false k =
        record {
          region = p.lo;
          apart = λ q. false≢true (sym k ∙ eq-eqb p.lo o q);
          named = ap (λ b. b || eqb p.hi p.lo) (eq-eqb p.lo p.lo refl);
        }

module _ {n : ℕ} (l : List Pair) (a : All (Named n) l) where
  two_inner : (o x : ℕ) → all (contains o) l ≡ true → all (contains x) l ≡ false → (x ≡ o → ⊥) → any (contains x) l ≡ true → leb (length (inner_of (Some o) l)) 1 ≡ false
  two_inner o x ho hx apart has = go (any_found (λ p. not (contains x p)) l (not-false _ (sym (all_as_any (contains x) l) ∙ hx)))
    where
      every : All (λ p. not (contains o p) ≡ false) l
      every = any-failed (λ p. not (contains o p)) l (not-true _ (sym (all_as_any (contains o) l) ∙ ho))

      in_inner : (y : ℕ) → (y ≡ o → ⊥) → any (contains y) l ≡ true → member y (inner_of (Some o) l) ≡ true
      in_inner y h k = member-inner (Some o) y l ∙ ap₂ (λ b c. not b && c) (ne_eqb y o h) k

      go : (p : Pair) × Memᴰ p l × (not (contains x p) ≡ true) → leb (length (inner_of (Some o) l)) 1 ≡ false
      go (p, i, e) = at (other o p (all_at a i).1.0 (not-false _ (all_at every i)))
        where
          at : Other o p → leb (length (inner_of (Some o) l)) 1 ≡ false
          at t =
              two_members x t.region (inner_of (Some o) l)
              (λ k. true≢false (sym t.named ∙ sym (ap (λ r. contains r p) k) ∙ not-true _ e))
              (in_inner x apart has) (in_inner t.region t.apart (any-member (contains t.region) i t.named))

module _ {n : ℕ} (p q : Pair) (l : List Pair) (a : All (Named n) (p ∷ q ∷ l)) where
  common_one : (o : ℕ) → common_regions (p ∷ q ∷ l) ≡ o ∷ [] → ((1 ≤ o) × (o ≤ n)) × (leb (length (inner_of (Some o) (p ∷ q ∷ l))) 1 ≡ false)
  unfolding common_regions filter any
  common_one o e = go a (all (contains p.lo) (p ∷ q ∷ l)) refl (all (contains p.hi) (p ∷ q ∷ l)) refl e
    where
      go : All (Named n) (p ∷ q ∷ l) → (b : Bool) → all (contains p.lo) (p ∷ q ∷ l) ≡ b → (c : Bool) → all (contains p.hi) (p ∷ q ∷ l) ≡ c
          → cond b (p.lo ∷ cond c (p.hi ∷ []) []) (cond c (p.hi ∷ []) []) ≡ o ∷ [] → ((1 ≤ o) × (o ≤ n)) × (leb (length (inner_of (Some o) (p ∷ q ∷ l))) 1 ≡ false)
      go (more h t) true f true g e = absurd (let z : ◌≡◌ {A = ℕ} 0 1 = cc in omega arith)
      go (more h t) true f false g e =
          let same : p.lo ≡ o = cc in
          subst (λ o. ((1 ≤ o) × (o ≤ n)) × (leb (length (inner_of (Some o) (p ∷ q ∷ l))) 1 ≡ false)) same
          ((h.0, omega arith), two_inner (p ∷ q ∷ l) a p.lo p.hi f g (λ k. omega (arith, k)) (ap (λ b. eqb p.lo p.hi || b || any (contains p.hi) (q ∷ l)) (eq-eqb p.hi p.hi refl) ∙ first (eqb p.lo p.hi)))
        where
          first : (b : Bool) → (b || true || any (contains p.hi) (q ∷ l)) ≡ true
          first true = refl
          first false = refl
      go (more h t) false f true g e =
          let same : p.hi ≡ o = cc in
          subst (λ o. ((1 ≤ o) × (o ≤ n)) × (leb (length (inner_of (Some o) (p ∷ q ∷ l))) 1 ≡ false)) same
          ((omega arith, h.1.1), two_inner (p ∷ q ∷ l) a p.hi p.lo g f (λ k. omega (arith, k)) (ap (λ b. b || eqb p.hi p.lo || any (contains p.lo) (q ∷ l)) (eq-eqb p.lo p.lo refl)))
      go (more h t) false f false g e = absurd (let z : ◌≡◌ {A = ℕ} 0 1 = cc in omega arith)

pub star_is : {n : ℕ} (l : List Pair) → All (Named n) l → (outer : ℕ) (inner : List ℕ) → mouth_shape true l ≡ Some (star outer inner) → Star n l outer inner
unfolding mouth_shape star_from inner_of
star_is [] a outer inner e = absurd (let z : ◌≡◌ {A = ℕ} 0 1 = cc in omega arith)
star_is (p ∷ []) a outer inner e = absurd (let z : ◌≡◌ {A = ℕ} 0 1 = cc in omega arith)
star_is {n} (p ∷ q ∷ l) a outer inner e = go (common_regions (p ∷ q ∷ l)) refl e
  where
    go : (c : List ℕ) → common_regions (p ∷ q ∷ l) ≡ c → star_from (p ∷ q ∷ l) c ≡ Some (star outer inner) → Star n (p ∷ q ∷ l) outer inner
    go [] k e = absurd (let z : ◌≡◌ {A = ℕ} 0 1 = cc in omega arith)
    go (o ∷ []) k e = from (common_one p q l a o k)
      where
        same : o ≡ outer
        same = cc

        is : filter (λ r. not (eqb r o)) (distinct_regions (p ∷ q ∷ l)) ≡ inner
        is = cc

        from : ((1 ≤ o) × (o ≤ n)) × (leb (length (inner_of (Some o) (p ∷ q ∷ l))) 1 ≡ false) → Star n (p ∷ q ∷ l) outer inner
        from (h, s) =
            record {
              outside = subst (λ o. (1 ≤ o) × (o ≤ n)) same h;
              inside = sym is ∙ ap (λ o. inner_of (Some o) (p ∷ q ∷ l)) same;
              several = ap (λ i. leb (length i) 1) (sym is) ∙ s;
            }
    go (o ∷ s ∷ c) k e = absurd (let z : ◌≡◌ {A = ℕ} 0 1 = cc in omega arith)
