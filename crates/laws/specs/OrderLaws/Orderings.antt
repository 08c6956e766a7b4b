-- Rust's `Ordering` and `then_with`, and the comparison of two lists of numbers number by number: it says `Less` exactly where `list_lt` holds. So a chain of
-- comparisons that compares such lists ranks by them. Assumes nothing.
use Prim.Native.Nat.{ℕ, suc, ◌<◌, ◌≤◌, ◌-◌, compare, Ordering}
use Rattle.std.proofs.Common.{arith, sym, ap, ◌∙◌, true≢false, lt-ltb, le-ltb, le-leb, eq-eqb, ne_eqb}
use Rattle.std.specs.Prelude.{◌≡◌, refl, Bool, true, false, ◌&&◌, ◌||◌, List, [], ◌∷◌, ◌++◌, length, eqb, ltb}
use Rattle.std.proofs.lemmas.Bool.{false≢true, lt-leb}
use Rattle.std.proofs.Math.Dec.{is_le, compare_is_eq}
use Rattle.definitions.specs.Sort.{list_lt}
use Rattle.laws.specs.OrderLaws.ListOrder.{Three, less, same, over, three}

abbrev pub is_less : Ordering → Bool
is_less Ordering.lt = true
is_less Ordering.eq = false
is_less Ordering.gt = false

abbrev pub then_with : Ordering → Ordering → Ordering
then_with Ordering.lt o = Ordering.lt
then_with Ordering.eq o = o
then_with Ordering.gt o = Ordering.gt

pub then-assoc : (a b c : Ordering) → then_with (then_with a b) c ≡ then_with a (then_with b c)
then-assoc Ordering.lt b c = refl
then-assoc Ordering.eq b c = refl
then-assoc Ordering.gt b c = refl

-- `cmp` of lists of one length
unfoldable pub list_compare : List ℕ → List ℕ → Ordering
list_compare [] [] = Ordering.eq
list_compare [] (y ∷ m) = Ordering.lt
list_compare (x ∷ l) [] = Ordering.gt
list_compare (x ∷ l) (y ∷ m) = then_with (compare x y) (list_compare l m)

-- ---- what `compare` says

module _ (a b : ℕ) where
  pub compare_less : a < b → compare a b ≡ Ordering.lt
  compare_less h = go (compare a b) (le-leb a b (omega arith)) (ne_eqb a b (λ e. omega arith))
    where
      go : (o : Ordering) → is_le o ≡ true → compare_is_eq o ≡ false → o ≡ Ordering.lt
      go Ordering.lt p q = refl
      go Ordering.eq p q = absurd (true≢false q)
      go Ordering.gt p q = absurd (false≢true p)

  pub compare_same : a ≡ b → compare a b ≡ Ordering.eq
  compare_same h = go (compare a b) (eq-eqb a b h)
    where
      go : (o : Ordering) → compare_is_eq o ≡ true → o ≡ Ordering.eq
      go Ordering.lt p = absurd (false≢true p)
      go Ordering.eq p = refl
      go Ordering.gt p = absurd (false≢true p)

  pub compare_over : b < a → compare a b ≡ Ordering.gt
  compare_over h = go (compare a b) (lt-leb a b h)
    where
      go : (o : Ordering) → is_le o ≡ false → o ≡ Ordering.gt
      go Ordering.lt p = absurd (true≢false p)
      go Ordering.eq p = absurd (true≢false p)
      go Ordering.gt p = refl

pub compare_ltb : (a b : ℕ) → is_less (compare a b) ≡ ltb a b
compare_ltb a b = go (three a b)
  where
    go : Three a b → is_less (compare a b) ≡ ltb a b
    go (less h) = ap is_less (compare_less a b h) ∙ sym (lt-ltb a b h)
    go (same h) = ap is_less (compare_same a b h) ∙ sym (le-ltb a b (omega arith))
    go (over h) = ap is_less (compare_over a b h) ∙ sym (le-ltb a b (omega arith))

-- taken from one number, two compare the other way round
pub compare_from : (n a b : ℕ) → a ≤ n → b ≤ n → compare (n - a) (n - b) ≡ compare b a
compare_from n a b h k = go (three b a)
  where
    go : Three b a → compare (n - a) (n - b) ≡ compare b a
    go (less l) = compare_less (n - a) (n - b) (omega arith) ∙ sym (compare_less b a l)
    go (same l) = compare_same (n - a) (n - b) (omega arith) ∙ sym (compare_same b a l)
    go (over l) = compare_over (n - a) (n - b) (omega arith) ∙ sym (compare_over b a l)

-- ---- lists

pub list_compare_lem : (l m : List ℕ) → is_less (list_compare l m) ≡ list_lt l m
unfolding list_compare list_lt
list_compare_lem [] [] = refl
list_compare_lem [] (y ∷ m) = refl
list_compare_lem (x ∷ l) [] = refl
list_compare_lem (x ∷ l) (y ∷ m) = go (three x y) (list_compare_lem l m)
  where
    go : Three x y → is_less (list_compare l m) ≡ list_lt l m → is_less (then_with (compare x y) (list_compare l m)) ≡ (ltb x y || (eqb x y && list_lt l m))
    go (less h) ih = rw (compare_less x y h, lt-ltb x y h) refl
    go (same h) ih = rw (compare_same x y h, le-ltb x y (omega arith)) ih
    go (over h) ih = rw (compare_over x y h, le-ltb x y (omega arith)) refl

then_eq : (o : Ordering) → then_with o Ordering.eq ≡ o
then_eq Ordering.lt = refl
then_eq Ordering.eq = refl
then_eq Ordering.gt = refl

pub list-pair : (x x' y y' : ℕ) → list_compare (x ∷ y ∷ []) (x' ∷ y' ∷ []) ≡ then_with (compare x x') (compare y y')
unfolding list_compare
list-pair x x' y y' = ap (then_with (compare x x')) (then_eq (compare y y'))

-- behind beginnings of equal length
pub list-append : (c d l m : List ℕ) → length c ≡ length d → list_compare (c ++ l) (d ++ m) ≡ then_with (list_compare c d) (list_compare l m)
unfolding list_compare
list-append [] [] l m e = refl
list-append [] (y ∷ d) l m e = absurd (zero-suc e)
  where
    zero-suc : {n : ℕ} → 0 ≡ suc n → ⊥
    zero-suc e = omega arith
list-append (x ∷ c) [] l m e = absurd (suc-zero e)
  where
    suc-zero : {n : ℕ} → suc n ≡ 0 → ⊥
    suc-zero e = omega arith
list-append (x ∷ c) (y ∷ d) l m e = ap (then_with (compare x y)) (list-append c d l m (omega arith)) ∙ sym (then-assoc (compare x y) (list_compare c d) (list_compare l m))
