-- Laws of parents. A name is no larger than the number, is its own name and its own parent; parents stay parents of the same names where one becomes its
-- parent's parent (`halved`), and of joined names where the greater of two names gets the lesser as its parent (`linked`). Assumes nothing.
use Rattle.std.specs.Prelude.{ℕ, zero, suc, ◌≤◌, ◌<◌, min, max, ◌≡◌, refl, Bool, true, false, cond, List, length, get_or, set, eqb, ltb}
use Rattle.std.proofs.Common.{arith, sym, ap, ◌∙◌, subst, length-set, get_or-set_same, get_or-set_other, eqb-true, ltb-true, ltb-false}
use Rattle.std.proofs.lemmas.Bool.{eqb-false}
use Rattle.laws.specs.ListLaws.Beyond.{Beyond, beyond-set, beyond-then}
use Rattle.laws.specs.RegionLaws.Merging.{merged}
use Rattle.parents.specs.Forest.{Parent, Forest, joined_name}

-- ---- one merge of names

pub merged-other : (a b r : ℕ) → (r ≡ max a b → ⊥) → merged a b r ≡ r
unfolding merged
merged-other a b r n = go (eqb r (max a b)) refl
  where
    go : (t : Bool) → eqb r (max a b) ≡ t → cond t (min a b) r ≡ r
    go true q = absurd (n (eqb-true r (max a b) q))
    go false q = refl

-- the greater becomes the lesser, which stays
pub merged-high : (a b r : ℕ) → r ≡ max a b → merged a b r ≡ min a b
unfolding merged
merged-high a b r e = go (eqb r (max a b)) refl
  where
    go : (t : Bool) → eqb r (max a b) ≡ t → cond t (min a b) r ≡ min a b
    go true q = refl
    go false q = absurd (eqb-false r (max a b) q e)

pub merged-low : (a b r : ℕ) → r ≡ min a b → merged a b r ≡ min a b
unfolding merged
merged-low a b r e = go (eqb r (max a b)) refl
  where
    go : (t : Bool) → eqb r (max a b) ≡ t → cond t (min a b) r ≡ min a b
    go true q = refl
    go false q = e

-- where both are one, nothing changes
pub merged-equal : (a b r : ℕ) → a ≡ b → merged a b r ≡ r
unfolding merged
merged-equal a b r e = go (eqb r (max a b)) refl
  where
    go : (t : Bool) → eqb r (max a b) ≡ t → cond t (min a b) r ≡ r
    go true q = omega (arith, eqb-true r (max a b) q)
    go false q = refl

-- ---- names

module _ {n : ℕ} {name : ℕ → ℕ} {p : List ℕ} (F : Forest n name p) where
  pub parent-below : (c : ℕ) → c < n → get_or p c 0 < n
  parent-below c h = omega (arith, (F.parent c h).low)

  -- from parent to parent the numbers fall, so that what holds of a name and goes from parent to child holds of all
  by_parents : (P : ℕ → Type 0) → ((c : ℕ) → c < n → name c ≡ c → P c) → ((c : ℕ) → c < n → P (get_or p c 0) → P c) → (c : ℕ) → c < n → P c
  by_parents P top down c h = go (suc c) c (omega arith) h
    where
      go : (k c : ℕ) → c < k → c < n → P c
      go zero c l h = absurd (omega arith)
      go (suc k) c l h = pick (eqb (get_or p c 0) c) refl (λ less. go k (get_or p c 0) (omega (arith, less)) (parent-below c h))
        where
          pick : (b : Bool) → eqb (get_or p c 0) c ≡ b → (get_or p c 0 < c → P (get_or p c 0)) → P c
          pick true e r = top c h ((F.parent c h).top (eqb-true _ _ e))
          pick false e r = down c h (r (omega (arith, (F.parent c h).low, eqb-false (get_or p c 0) c e)))

  pub name-low : (c : ℕ) → c < n → name c ≤ c
  name-low = by_parents (λ c. name c ≤ c) (λ c h e. omega (arith, e)) (λ c h i. omega (arith, i, (F.parent c h).same, (F.parent c h).low))

  pub name-own : (c : ℕ) → c < n → name (name c) ≡ name c
  name-own = by_parents (λ c. name (name c) ≡ name c) (λ c h e. ap name e) (λ c h i. ap name (sym (F.parent c h).same) ∙ i ∙ (F.parent c h).same)

  pub name_below : (c : ℕ) → c < n → name c < n
  name_below c h = omega (arith, name-low c h)

  -- a name is its own parent
  pub name-top : (c : ℕ) → c < n → get_or p (name c) 0 ≡ name c
  name-top c h =
      let r = name_below c h in
      omega (arith, (F.parent (name c) r).low, (F.parent (name c) r).same, name-low (get_or p (name c) 0) (parent-below (name c) r), name-own c h)

  -- who is his own parent is a name, and no other is
  pub name-not-top : (c : ℕ) → c < n → (get_or p c 0 ≡ c → ⊥) → name c ≡ c → ⊥
  name-not-top c h t e = t (ap (λ x. get_or p x 0) (sym e) ∙ name-top c h ∙ e)

-- ---- one entry is written

-- what holds of the value written, and of every other entry, holds of all
at_set : (P : ℕ → ℕ → Type 0) (l : List ℕ) (c v : ℕ) → c < length l → P c v → ((d : ℕ) → (d ≡ c → ⊥) → P d (get_or l d 0)) → (d : ℕ) → P d (get_or (set l c v) d 0)
at_set P l c v h x y d = go (eqb d c) refl
  where
    go : (b : Bool) → eqb d c ≡ b → P d (get_or (set l c v) d 0)
    go true e = subst (λ k. P k (get_or (set l c v) k 0)) (sym (eqb-true d c e)) (subst (P c) (sym (get_or-set_same l c v 0 h)) x)
    go false e = subst (P d) (sym (get_or-set_other l c d v 0 (eqb-false d c e))) (y d (eqb-false d c e))

pub forest-set : {n : ℕ} {name : ℕ → ℕ} {p : List ℕ} → Forest n name p → (name' : ℕ → ℕ) (c v : ℕ) → c < n → Parent name' c v → ((d : ℕ) → d < n → (d ≡ c → ⊥) → Parent name' d (get_or p d 0)) → Forest n name' (set p c v)
forest-set {n} {name} {p} F name' c v h x y =
    record {
      few = F.few;
      long = omega (arith, F.long, length-set p c v);
      parent = λ d i. at_set (λ d v. d < n → Parent name' d v) p c v (omega (arith, F.long)) (λ _. x) (λ d e i. y d i e) d i;
    }

module _ {n : ℕ} {name : ℕ → ℕ} {p : List ℕ} (F : Forest n name p) where
  pub halved : (c : ℕ) → c < n → Forest n name (set p c (get_or p (get_or p c 0) 0))
  halved c h =
      forest-set F name c (get_or p (get_or p c 0) 0) h
      (record {
        low = omega (arith, up.low, upper.low);
        same = upper.same ∙ up.same;
        top = λ e. up.top (omega (arith, e, up.low, upper.low));
      })
      (λ d i e. F.parent d i)
    where
      up : Parent name c (get_or p c 0)
      up = F.parent c h

      upper : Parent name (get_or p c 0) (get_or p (get_or p c 0) 0)
      upper = F.parent (get_or p c 0) (parent-below F c h)

  -- two numbers of one name are joined already
  pub joined_already : (a b : ℕ) → name a ≡ name b → Forest n (joined_name name a b) p
  joined_already a b e =
      record {
        few = F.few;
        long = F.long;
        parent = λ c h.
            let up = F.parent c h in
            record {
              low = up.low;
              same = ap (merged (name a) (name b)) up.same;
              top = λ t. merged-equal (name a) (name b) (name c) e ∙ up.top t;
            };
      }

  -- the greater name gets the lesser as its parent
  pub linked : (a b high low : ℕ) → a < n → b < n → high ≡ max (name a) (name b) → low ≡ min (name a) (name b) → Forest n (joined_name name a b) (set p high low)
  linked a b high low h k e f =
      forest-set F (joined_name name a b) high low (omega (arith, e, name_below F a h, name_below F b k))
      (record {
        low = omega (arith, e, f);
        same = ap (merged (name a) (name b)) (own low (lesser (ltb (name a) (name b)) refl)) ∙ merged-low (name a) (name b) low f ∙ sym joined-high;
        top = λ t. joined-high ∙ sym f ∙ t;
      })
      (λ d i t.
      let up = F.parent d i in
      record {
        low = up.low;
        same = ap (merged (name a) (name b)) up.same;
        top = λ s.
            ap (merged (name a) (name b)) (up.top s)
            ∙ merged-other (name a) (name b) d (λ m. t (m ∙ sym e));
      })
    where
      -- of the two names one is the greater and one the lesser
      Either : ℕ → Type 0
      Either x = (c : ℕ) × ((c < n) × (x ≡ name c))

      own : (x : ℕ) → Either x → name x ≡ x
      own x (c, (i, t)) = ap name t ∙ name-own F c i ∙ sym t

      greater : (t : Bool) → ltb (name a) (name b) ≡ t → Either high
      greater true q = (b, (k, omega (arith, e, ltb-true (name a) (name b) q)))
      greater false q = (a, (h, omega (arith, e, ltb-false (name a) (name b) q)))

      lesser : (t : Bool) → ltb (name a) (name b) ≡ t → Either low
      lesser true q = (a, (h, omega (arith, f, ltb-true (name a) (name b) q)))
      lesser false q = (b, (k, omega (arith, f, ltb-false (name a) (name b) q)))

      joined-high : joined_name name a b high ≡ min (name a) (name b)
      joined-high =
          ap (merged (name a) (name b)) (own high (greater (ltb (name a) (name b)) refl)) ∙ merged-high (name a) (name b) high e

-- ---- beyond

pub beyond-written : {n : ℕ} {was l : List ℕ} (c v : ℕ) → c < n → Beyond n was l → Beyond n was (set l c v)
beyond-written {n} {was} {l} c v h b = beyond-then b (beyond-set n l c v h)
