-- What is found of the exteriors of a union's ports: one exterior more among those found, and what is found of the ports below j: the count of those that lead anew, as long
-- as it is below three, and which they are; so the list of incidents, looked at one after the other, says whether there are three. Assumes nothing.
use Prim.Native.Nat.{ℕ, zero, suc, ◌+◌, ◌≤◌, ◌<◌}
use native.Mathlib.Omega.{arith}
use mathlib.Core.Path.{◌≡◌, refl, sym, ap, ap₂, ◌∙◌}
use mathlib.Core.Bool.{Bool, true, false, not, ◌&&◌, ◌||◌, cond, true≢false, false≢true, or-false, or-true}
use mathlib.Core.List.{List}
use Rattle.std.specs.Prelude.{Option, None, Some}
use Rattle.std.specs.List.{fold}
use Rattle.std.proofs.lemmas.List.Sums.{fold-append}
use lib.Dec.{eqb, ltb, leb}
use borrow.Author.Tests.{eqb-true, le-leb, ltb-true, ltb-false}
use Rattle.definitions.specs.Scan.{any_below_lem, count_below, collect, to_list, only_if, bit}
use Rattle.definitions.specs.Grid.{Pair}
use Rattle.definitions.specs.Context.{holds}
use Rattle.definitions.specs.Junctions.{exterior_of}
use Rattle.region_pairs.specs.declared.Pair as declared
use Rattle.junction_proposals.specs.Ports.{pair_of, names, names_either, is_port, incidents_of}
use Rattle.junction_proposals.specs.Unions.{with_exterior, with_pair, with_incident, leads_to, leads_anew}
use Rattle.junction_proposals.specs.declared.unions.Exteriors.{Exteriors}
use Rattle.junction_proposals.specs.declared.unions.Exteriors.TheVariants as found
use Rattle.junction_proposals.proofs.Incidents.{no_port_lem}

-- ---- one exterior more

-- how many are found, and which: from the third on any
abbrev pub size : Exteriors → ℕ
size found.None = 0
size (found.One a) = 1
size (found.Two a b) = 2
size found.Many = 3

pub not-three : (s : Exteriors) → (s ≡ found.Many → ⊥) → false ≡ leb 3 (size s)
not-three found.None h = refl
not-three (found.One a) h = refl
not-three (found.Two a b) h = refl
not-three found.Many h = absurd (h refl)

abbrev is_found : Exteriors → ℕ → Bool
is_found found.None e = false
is_found (found.One a) e = eqb a e
is_found (found.Two a b) e = eqb a e || eqb b e
is_found found.Many e = true

with-old : (s : Exteriors) (e : ℕ) → is_found s e ≡ true → with_exterior s e ≡ s
with-old found.None e h = absurd (false≢true h)
with-old (found.One a) e h = ap (λ b. cond b (found.One a) (found.Two a e)) h
with-old (found.Two a b) e h = ap (λ t. cond t (found.Two a b) found.Many) h
with-old found.Many e h = refl

with-new : (s : Exteriors) (e : ℕ) → is_found s e ≡ false → size (with_exterior s e) ≡ size s + 1
with-new found.None e h = refl
with-new (found.One a) e h = ap (λ b. size (cond b (found.One a) (found.Two a e))) h
with-new (found.Two a b) e h = ap (λ t. size (cond t (found.Two a b) found.Many)) h
with-new found.Many e h = absurd (true≢false h)

with-more : (s : Exteriors) (e : ℕ) → is_found s e ≡ false → size s < 2 → (x : ℕ) → is_found (with_exterior s e) x ≡ (is_found s x || eqb e x)
with-more found.None e h l x = refl
with-more (found.One a) e h l x = ap (λ b. is_found (cond b (found.One a) (found.Two a e)) x) h
with-more (found.Two a b) e h l x = absurd (omega arith)
with-more found.Many e h l x = absurd (omega arith)

-- ---- the exteriors of the ports below j

module _ (full : List (Option declared.Pair)) (i : ℕ) (p : Pair) where
  abbrev anew : ℕ → Bool
  anew = leads_anew full i p

  pub record Surveyed (j : ℕ) (s : Exteriors) : Type 0 where
    pub many : size s < 3 → count_below j anew ≡ size s
    pub which : size s < 3 → (e : ℕ) → any_below_lem j (leads_to full i p e) ≡ is_found s e
    pub all : 3 ≤ size s → 3 ≤ count_below j anew

  survey_start : Surveyed 0 found.None
  unfolding count_below any_below_lem
  survey_start = record { many = λ l. refl; which = λ l e. refl; all = λ l. absurd (omega arith) }

  -- a boundary that is no port
  survey_other : {j : ℕ} {s : Exteriors} → Surveyed j s → is_port full i p j ≡ false → Surveyed (suc j) s
  unfolding leads_to leads_anew count_below any_below_lem
  survey_other {j} {s} v h =
      record {
        many = λ l. omega (arith, v.many l, ap bit out);
        which = λ l e. ap₂ (λ a b. a || (b && holds (pair_of full j) (λ q. eqb (exterior_of p q) e))) (v.which l e) h ∙ or-false (is_found s e);
        all = λ l. omega (arith, v.all l, ap bit out);
      }
    where
      out : anew j ≡ false
      out = ap (λ b. b && holds (pair_of full j) (λ q. not (any_below_lem j (leads_to full i p (exterior_of p q))))) h

  -- a port, which leads to region e
  module _ {j : ℕ} (e : ℕ) {s : Exteriors} (v : Surveyed j s) (anew_is : size s < 3 → anew j ≡ not (is_found s e)) (next : size s < 3 → (x : ℕ) → any_below_lem (suc j) (leads_to full i p x) ≡ (is_found s x || eqb e x)) where
    -- to a region that is found already
    known : size s < 3 → is_found s e ≡ true → Surveyed (suc j) s
    unfolding count_below
    known l k =
        record {
          many = λ m. omega (arith, ap bit (anew_is l ∙ ap not k), v.many l);
          which = λ m x. next l x ∙ level x (eqb e x) refl;
          all = λ m. absurd (omega arith);
        }
      where
        level : (x : ℕ) (b : Bool) → eqb e x ≡ b → (is_found s x || b) ≡ is_found s x
        level x true q = or-true (is_found s x) ∙ sym (ap (is_found s) (sym (eqb-true e x q)) ∙ k)
        level x false q = or-false (is_found s x)

    fresh : size s < 3 → is_found s e ≡ false → Surveyed (suc j) (with_exterior s e)
    unfolding count_below
    fresh l k =
        record {
          many = λ m. omega (arith, one, with-new s e k);
          which = λ m x. next l x ∙ sym (with-more s e k (omega (arith, m, with-new s e k)) x);
          all = λ m. omega (arith, one, with-new s e k);
        }
      where
        one : count_below (suc j) anew ≡ size s + 1
        one = omega (arith, ap bit (anew_is l ∙ ap not k), v.many l)

    survey_port : Surveyed (suc j) (with_exterior s e)
    unfolding count_below
    survey_port = go (ltb (size s) 3) refl (is_found s e) refl
      where
        go : (b : Bool) → ltb (size s) 3 ≡ b → (c : Bool) → is_found s e ≡ c → Surveyed (suc j) (with_exterior s e)
        go true d true k = rw (with-old s e k) (known (ltb-true (size s) 3 d) k)
        go true d false k = fresh (ltb-true (size s) 3 d) k
        go false d c k = whole s (ltb-false (size s) 3 d) v
          where
            whole : (u : Exteriors) → 3 ≤ size u → Surveyed j u → Surveyed (suc j) (with_exterior u e)
            whole found.None l w = absurd (omega arith)
            whole (found.One a) l w = absurd (omega arith)
            whole (found.Two a b) l w = absurd (omega arith)
            whole found.Many l w = record { many = λ m. absurd (omega arith); which = λ m. absurd (omega arith); all = λ m. omega (arith, w.all l) }

  -- ---- along the list

  -- boundary j, whose full pair is o
  survey_pair : {j : ℕ} {s : Exteriors} → Surveyed j s → names_either full p j ≡ true → (o : Option Pair) → pair_of full j ≡ o → Surveyed (suc j) (with_pair i p s j o)
  unfolding names is_port leads_to leads_anew any_below_lem
  survey_pair {j} {s} v h None own = absurd (false≢true (ap (λ o. holds o (λ q. eqb q.lo p.lo || eqb q.hi p.lo) || holds o (λ q. eqb q.lo p.hi || eqb q.hi p.hi)) (sym own) ∙ h))
  survey_pair {j} {s} v h (Some q) own = go (eqb j i) refl
    where
      go : (b : Bool) → eqb j i ≡ b → Surveyed (suc j) (cond b s (with_exterior s (exterior_of p q)))
      go true e = survey_other v (ap (λ b. not b && names_either full p j) e)
      go false e =
          survey_port (exterior_of p q) v
          (λ l. ap₂ (λ b o. b && holds o (λ q. not (any_below_lem j (leads_to full i p (exterior_of p q))))) port own ∙ ap not (v.which l (exterior_of p q)))
          (λ l x. ap₂ (λ a b. a || b) (v.which l x) (ap₂ (λ b o. b && holds o (λ q. eqb (exterior_of p q) x)) port own))
        where
          port : (not (eqb j i) && names_either full p j) ≡ true
          port = ap₂ (λ a b. not a && b) e h

  abbrev pub survey : ℕ → Exteriors
  survey n = fold (with_incident full i p) found.None (incidents_of full n p)

  surveyed : (n : ℕ) → Surveyed n (survey n)
  unfolding incidents_of collect
  surveyed zero = survey_start
  surveyed (suc n) = rw (fold-append (with_incident full i p) found.None (incidents_of full n p) (to_list (only_if (names_either full p n) n))) (go (names_either full p n) refl (surveyed n))
    where
      go : (b : Bool) → names_either full p n ≡ b → Surveyed n (survey n) → Surveyed (suc n) (fold (with_incident full i p) (survey n) (to_list (only_if b n)))
      go true e v = survey_pair v e (pair_of full n) refl
      go false e v = survey_other v (no_port_lem full p i n e)

  -- s is what was found at the end
  pub three_found : (n : ℕ) {s : Exteriors} → s ≡ survey n → leb 3 (size s) ≡ leb 3 (count_below n anew)
  three_found n {s} e = rw e (go (ltb (size (survey n)) 3) refl)
    where
      go : (b : Bool) → ltb (size (survey n)) 3 ≡ b → leb 3 (size (survey n)) ≡ leb 3 (count_below n anew)
      go true d = ap (leb 3) (sym ((surveyed n).many (ltb-true (size (survey n)) 3 d)))
      go false d = le-leb 3 (size (survey n)) (ltb-false (size (survey n)) 3 d) ∙ sym (le-leb 3 (count_below n anew) ((surveyed n).all (ltb-false (size (survey n)) 3 d)))
