-- Comparisons of whole numbers: of two one is not above the other, they are equal or not, pairs in the same order have the same results of `leb`, `ltb` and `eqb`, and what `compare` gives. Assumes nothing.
use Rattle.std.specs.Prelude.{◌≡◌, refl, ◌↔◌, ◌⊎◌, Bool, true, false, not, T, leb, ltb, eqb}
use Rattle.std.proofs.Common.{sym, subst, inl, inr, ⊎_elim, le_antisymm, le_of_eq, le_of_lt, lt_of_not-le, not-le_of_lt, arith, leb→le, le→leb, ltb→lt, lt→ltb, eqb→eq, eqb-true}
use Prim.Native.Nat.{ℕ, suc, ◌≤◌, ◌<◌, compare, Ordering}
use Rattle.std.proofs.Math.Arith.{lt_of_le-ne}
use Rattle.std.proofs.Math.Dec.{is_le, compare_is_eq, nleb→lt, eqb_refl}
use Rattle.std.proofs.lemmas.Bool.{eqb-false}

pub le_or_lt : (a b : ℕ) → (a ≤ b) ⊎ (b < a)
le_or_lt a b = go (leb a b) (leb→le a b) (nleb→lt a b)
  where
    go : (t : Bool) → (T t → a ≤ b) → (T (not t) → b < a) → (a ≤ b) ⊎ (b < a)
    go true y n = inl (y tt)
    go false y n = inr (n tt)

pub same_test : (p q : Bool) → (T p → T q) → (T q → T p) → p ≡ q
same_test true true f g = refl
same_test true false f g = absurd (f tt)
same_test false true f g = absurd (g tt)
same_test false false f g = refl

-- a and b are in the order of c and d
abbrev pub SameOrder : (a b c d : ℕ) → Type 0
SameOrder a b c d = (a ≤ b ↔ c ≤ d) × (b ≤ a ↔ d ≤ c)

module _ {a b c d : ℕ} (h : SameOrder a b c d) where
  pub leb_same : leb a b ≡ leb c d
  leb_same = same_test (leb a b) (leb c d) (λ t. le→leb c d (h.0.0 (leb→le a b t))) (λ t. le→leb a b (h.0.1 (leb→le c d t)))

  pub ltb_same : ltb a b ≡ ltb c d
  ltb_same =
      same_test (ltb a b) (ltb c d)
      (λ t. lt→ltb c d (lt_of_not-le (λ (g : d ≤ c). not-le_of_lt (ltb→lt a b t) (h.1.1 g))))
      (λ t. lt→ltb a b (lt_of_not-le (λ (g : b ≤ a). not-le_of_lt (ltb→lt c d t) (h.1.0 g))))

  pub eqb_same : eqb a b ≡ eqb c d
  eqb_same =
      same_test (eqb a b) (eqb c d)
      (λ t. let e = eqb→eq a b t in equal c d (le_antisymm (h.0.0 (le_of_eq e)) (h.1.0 (le_of_eq (sym e)))))
      (λ t. let e = eqb→eq c d t in equal a b (le_antisymm (h.0.1 (le_of_eq e)) (h.1.1 (le_of_eq (sym e)))))
    where
      equal : (x y : ℕ) → x ≡ y → T (eqb x y)
      equal x y e = subst (λ (z : ℕ). T (eqb x z)) e (eqb_refl x)

-- ---- what `compare` gives

module _ (a b : ℕ) where
  pub compare_lt : a < b → compare a b ≡ Ordering.lt
  compare_lt h = go (compare a b) (le→leb a b (le_of_lt h)) (λ t. not-le_of_lt h (le_of_eq (sym (eqb→eq a b t))))
    where
      go : (o : Ordering) → T (is_le o) → (T (compare_is_eq o) → ⊥) → o ≡ Ordering.lt
      go Ordering.lt t n = refl
      go Ordering.eq t n = absurd (n tt)
      go Ordering.gt t n = absurd t

  pub compare_eq : a ≡ b → compare a b ≡ Ordering.eq
  compare_eq h = go (compare a b) (subst (λ (x : ℕ). T (eqb a x)) h (eqb_refl a))
    where
      go : (o : Ordering) → T (compare_is_eq o) → o ≡ Ordering.eq
      go Ordering.lt t = absurd t
      go Ordering.eq t = refl
      go Ordering.gt t = absurd t

  pub compare_gt : b < a → compare a b ≡ Ordering.gt
  compare_gt h = go (compare a b) (λ t. not-le_of_lt h (leb→le a b t))
    where
      go : (o : Ordering) → (T (is_le o) → ⊥) → o ≡ Ordering.gt
      go Ordering.lt n = absurd (n tt)
      go Ordering.eq n = absurd (n tt)
      go Ordering.gt n = refl

pub same_or : (a b : ℕ) → (a ≡ b) ⊎ (a ≡ b → ⊥)
same_or a b = go (eqb a b) refl
  where
    go : (t : Bool) → eqb a b ≡ t → (a ≡ b) ⊎ (a ≡ b → ⊥)
    go true e = inl (eqb-true a b e)
    go false e = inr (eqb-false a b e)

pub last_or : (c n : ℕ) → c < suc n → (c ≡ n) ⊎ (c < n)
last_or c n h = ⊎_elim (λ e. inl e) (λ e. inr (lt_of_le-ne (omega arith) e)) (same_or c n)
