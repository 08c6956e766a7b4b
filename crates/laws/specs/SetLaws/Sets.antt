-- The Rust's BTreeSet of numbers, as the ascending list of its members: a walk over the set is a walk over this list. Two such lists with the same members
-- are one list; so a set whose members are the numbers below n that pass a test is `numbers_below`, and what is asked of it is a scan. Assumes nothing.
use Prim.Native.Nat.{ℕ, zero, suc, ◌+◌, ◌<◌}
use Rattle.std.proofs.Common.{arith, ap, ◌∙◌, true≢false, ltb-true, ltb-false, lt-ltb, le-ltb, eqb-true, eq-eqb, ne_eqb}
use Rattle.std.specs.Prelude.{◌≡◌, Bool, not, length, ltb}
use Rattle.std.proofs.Math.Path.{refl, sym, ap₂}
use Rattle.std.proofs.Math.Bool.{true, false, ◌&&◌, ◌||◌, cond, or-false, or_self_left, and-true, and-false}
use Rattle.std.proofs.lemmas.Bool.{false≢true, eqb-false}
use mathlib.Core.List.{List, [], ◌∷◌, ◌++◌, append-nil}
use Rattle.std.proofs.Math.Dec.{eqb}
use Rattle.definitions.specs.Scan.{any, all, member, collect, to_list, only_if, any_below_lem, all_below, count_below, bit}
use Rattle.laws.specs.ListLaws.Disjunction.{or_left_comm}
use Rattle.laws.specs.ListLaws.Lists.{All, done, more, all_append, all_map}
use Rattle.laws.specs.ListLaws.NumberLists.{member-append}
use Rattle.laws.specs.ListLaws.Scans.{picked-length, any-picked}
use Rattle.laws.specs.ListLaws.ScansOfAll.{all_append-test}
use Rattle.laws.specs.OrderLaws.ListOrder.{Three, less, same, over, three}

-- `insert`: x goes to its place, unless it is there
unfoldable pub set_insert : List ℕ → ℕ → List ℕ
set_insert [] x = x ∷ []
set_insert (y ∷ l) x = cond (ltb x y) (x ∷ y ∷ l) (cond (eqb x y) (y ∷ l) (y ∷ set_insert l x))

-- `extend`
unfoldable pub set_extend : List ℕ → List ℕ → List ℕ
unfolding set_insert
set_extend l [] = l
set_extend l (x ∷ xs) = set_extend (set_insert l x) xs

-- the numbers below n that pass f, ascending
unfoldable pub numbers_below : ℕ → (ℕ → Bool) → List ℕ
unfolding collect
numbers_below n f = collect n (λ j. only_if (f j) j)

pub data Ascending : List ℕ → Type 0 where
  none : Ascending []
  some : {x : ℕ} {l : List ℕ} → All (λ y. x < y) l → Ascending l → Ascending (x ∷ l)

-- ---- members

pub member-all : (P : ℕ → Type 0) (x : ℕ) {l : List ℕ} → All P l → member x l ≡ true → P x
unfolding member any
member-all P x done h = absurd (false≢true h)
member-all P x (more {x = y} {l = l} k a) h = go (eqb x y) refl h (member-all P x a)
  where
    go : (b : Bool) → eqb x y ≡ b → (b || member x l) ≡ true → (member x l ≡ true → P x) → P x
    go true e h r = rw (eqb-true x y e) k
    go false e h r = r h

pub member_none : (x : ℕ) {l : List ℕ} → All (λ y. (x ≡ y → ⊥)) l → member x l ≡ false
unfolding member any
member_none x done = refl
member_none x (more {x = y} h a) = rw (ne_eqb x y h) (member_none x a)

pub member-insert : (x : ℕ) (l : List ℕ) (y : ℕ) → member x (set_insert l y) ≡ (eqb x y || member x l)
unfolding set_insert member any
member-insert x [] y = refl
member-insert x (z ∷ l) y = go (ltb y z) (eqb y z) refl (member-insert x l y)
  where
    go : (b c : Bool) → eqb y z ≡ c → member x (set_insert l y) ≡ (eqb x y || member x l) → member x (cond b (y ∷ z ∷ l) (cond c (z ∷ l) (z ∷ set_insert l y))) ≡ (eqb x y || (eqb x z || member x l))
    go true c e ih = refl
    go false true e ih = rw (eqb-true y z e) (sym (or_self_left (eqb x z) (member x l)))
    go false false e ih = ap (λ b. eqb x z || b) ih ∙ or_left_comm (eqb x z) (eqb x y) (member x l)

pub member_extend : (x : ℕ) (l m : List ℕ) → member x (set_extend l m) ≡ (member x l || member x m)
unfolding set_extend member any
member_extend x l [] = sym (or-false (member x l))
member_extend x l (y ∷ m) = member_extend x (set_insert l y) m ∙ ap (λ b. b || member x m) (member-insert x l y) ∙ order (eqb x y) (member x l) (member x m)
  where
    order : (a b c : Bool) → (a || b || c) ≡ (b || (a || c))
    order true true c = refl
    order true false c = refl
    order false b c = refl

-- ---- ascending lists

all_insert : (P : ℕ → Type 0) (x : ℕ) {l : List ℕ} → P x → All P l → All P (set_insert l x)
unfolding set_insert
all_insert P x h done = more h done
all_insert P x h (more {x = y} {l = l} k a) = go (ltb x y) (eqb x y) (all_insert P x h a)
  where
    go : (b c : Bool) → All P (set_insert l x) → All P (cond b (x ∷ y ∷ l) (cond c (y ∷ l) (y ∷ set_insert l x)))
    go true c r = more h (more k a)
    go false true r = more k a
    go false false r = more k r

pub insert_ascending : (x : ℕ) {l : List ℕ} → Ascending l → Ascending (set_insert l x)
unfolding set_insert
insert_ascending x none = some done none
insert_ascending x (some {x = y} {l = l} a s) = go (ltb x y) refl (eqb x y) refl (insert_ascending x s)
  where
    go : (b : Bool) → ltb x y ≡ b → (c : Bool) → eqb x y ≡ c → Ascending (set_insert l x) → Ascending (cond b (x ∷ y ∷ l) (cond c (y ∷ l) (y ∷ set_insert l x)))
    go true e c f r = some (more (ltb-true x y e) (all_map (λ z h. omega (arith, ltb-true x y e)) a)) (some a s)
    go false e true f r = some a s
    go false e false f r = some (all_insert (λ z. y < z) x (less_of (three x y)) a) r
      where
        less_of : Three x y → y < x
        less_of (less h) = absurd (omega (arith, ltb-false x y e))
        less_of (same h) = absurd (eqb-false x y f h)
        less_of (over h) = h

pub extend_ascending : {l : List ℕ} (m : List ℕ) → Ascending l → Ascending (set_extend l m)
unfolding set_extend
extend_ascending [] s = s
extend_ascending {l} (x ∷ m) s = extend_ascending {l = set_insert l x} m (insert_ascending x s)

above_none : (x : ℕ) {l : List ℕ} → All (λ y. x < y) l → member x l ≡ false
above_none x a = member_none x (all_map (λ y h e. omega arith) a)

-- below the head nothing is a member
below_none : (x y : ℕ) {l : List ℕ} → x < y → All (λ z. y < z) l → member x (y ∷ l) ≡ false
below_none x y h a = above_none x (more h (all_map (λ z k. omega arith) a))

head-member : (x : ℕ) (l : List ℕ) → member x (x ∷ l) ≡ true
unfolding member any
head-member x l = rw (eq-eqb x x refl) refl

tails-agree : (x : ℕ) {l m : List ℕ} → All (λ y. x < y) l → All (λ y. x < y) m → ((z : ℕ) → member z (x ∷ l) ≡ member z (x ∷ m)) → (z : ℕ) → member z l ≡ member z m
unfolding member any
tails-agree x {l} {m} a b h z = go (eqb z x) refl (h z)
  where
    go : (c : Bool) → eqb z x ≡ c → (c || member z l) ≡ (c || member z m) → member z l ≡ member z m
    go true e k = rw (eqb-true z x e) (above_none x a ∙ sym (above_none x b))
    go false e k = k

-- two ascending lists with the same members are one list
pub same_members : {l m : List ℕ} → Ascending l → Ascending m → ((x : ℕ) → member x l ≡ member x m) → l ≡ m
unfolding member any
same_members none none h = refl
same_members none (some {x = y} {l = m} b t) h = absurd (false≢true (h y ∙ head-member y m))
same_members (some {x = x} {l = l} a s) none h = absurd (true≢false (sym (head-member x l) ∙ h x))
same_members (some {x = x} {l = l} a s) (some {x = y} {l = m} b t) h = go (three x y) (same_members s t)
  where
    go : Three x y → (((z : ℕ) → member z l ≡ member z m) → l ≡ m) → x ∷ l ≡ y ∷ m
    go (less k) ih = absurd (true≢false (sym (head-member x l) ∙ h x ∙ below_none x y k b))
    go (same k) ih = rw k (ap {B = List ℕ} (λ r. y ∷ r) (ih (tails-agree x {m = m} a (rw k b) (λ z. h z ∙ rw k refl))))
    go (over k) ih = absurd (false≢true (sym (below_none y x k a) ∙ h y ∙ head-member y m))

-- `len` after `insert`
pub length-insert : (x : ℕ) {l : List ℕ} → Ascending l → length (set_insert l x) ≡ length l + bit (not (member x l))
unfolding set_insert member any
length-insert x none = refl
length-insert x (some {x = y} {l = l} a s) = go (three x y) (length-insert x s)
  where
    go : Three x y → length (set_insert l x) ≡ length l + bit (not (member x l)) → length (cond (ltb x y) (x ∷ y ∷ l) (cond (eqb x y) (y ∷ l) (y ∷ set_insert l x))) ≡ suc (length l) + bit (not (eqb x y || member x l))
    go (less h) ih = rw (lt-ltb x y h, ne_eqb x y (λ e. omega arith), above_none x {l = l} (all_map (λ z k. omega arith) a)) (omega arith)
    go (same h) ih = rw (le-ltb x y (omega arith), eq-eqb x y h) (omega arith)
    go (over h) ih = rw (le-ltb x y (omega arith), ne_eqb x y (λ e. omega arith)) (omega (arith, ih))

-- a number above all others goes to the end, and one that is there stays
insert_last : (n : ℕ) {l : List ℕ} → All (λ x. x < n) l → set_insert l n ≡ l ++ (n ∷ [])
unfolding set_insert
insert_last n done = refl
insert_last n (more {x = x} h a) = rw (le-ltb n x (omega arith), ne_eqb n x (λ e. omega arith)) (ap {B = List ℕ} (λ r. x ∷ r) (insert_last n a))

pub insert-again : (n : ℕ) (l : List ℕ) → set_insert (set_insert l n) n ≡ set_insert l n
unfolding set_insert
insert-again n [] = rw (le-ltb n n (omega arith), eq-eqb n n refl) refl
insert-again n (y ∷ l) = go (three n y) (insert-again n l)
  where
    go : Three n y → set_insert (set_insert l n) n ≡ set_insert l n → set_insert (set_insert (y ∷ l) n) n ≡ set_insert (y ∷ l) n
    go (less h) ih = rw (lt-ltb n y h, le-ltb n n (omega arith), eq-eqb n n refl) refl
    go (same h) ih = rw (le-ltb n y (omega arith), eq-eqb n y h, le-ltb n y (omega arith), eq-eqb n y h) refl
    go (over h) ih = rw (le-ltb n y (omega arith), ne_eqb n y (λ e. omega arith), le-ltb n y (omega arith), ne_eqb n y (λ e. omega arith)) (ap {B = List ℕ} (λ r. y ∷ r) ih)

-- ---- the numbers below n that pass f

module _ (f : ℕ → Bool) where
  pub below_all : (n : ℕ) → All (λ x. x < n) (numbers_below n f)
  unfolding numbers_below collect
  below_all zero = done
  below_all (suc n) = all_append (all_map (λ x h. omega arith) (below_all n)) (last (f n))
    where
      last : (b : Bool) → All (λ x. x < suc n) (to_list (only_if b n))
      last true = more {x = n} (omega arith) done
      last false = done

  pub below-pass : (n : ℕ) → All (λ x. f x ≡ true) (numbers_below n f)
  unfolding numbers_below collect
  below-pass zero = done
  below-pass (suc n) = all_append (below-pass n) (last (f n) refl)
    where
      last : (b : Bool) → f n ≡ b → All (λ x. f x ≡ true) (to_list (only_if b n))
      last true e = more e done
      last false e = done

  pub below-nothing : (n : ℕ) → ((j : ℕ) → f j ≡ false) → numbers_below n f ≡ []
  unfolding numbers_below collect
  below-nothing zero h = refl
  below-nothing (suc n) h = rw (h n) (append-nil (numbers_below n f) ∙ below-nothing n h)

  -- the set with one number more
  pub below-insert : (n : ℕ) → numbers_below (suc n) f ≡ cond (f n) (set_insert (numbers_below n f) n) (numbers_below n f)
  unfolding numbers_below collect
  below-insert n = go (f n)
    where
      go : (b : Bool) → numbers_below n f ++ to_list (only_if b n) ≡ cond b (set_insert (numbers_below n f) n) (numbers_below n f)
      go true = sym (insert_last n (below_all n))
      go false = append-nil (numbers_below n f)

  ascending_end : (n : ℕ) {l : List ℕ} → Ascending l → All (λ x. x < n) l → Ascending (l ++ (n ∷ []))
  ascending_end n none done = some done none
  ascending_end n (some a s) (more h b) = some (all_append a (more h done)) (ascending_end n s b)

  pub below_ascending : (n : ℕ) → Ascending (numbers_below n f)
  unfolding numbers_below collect
  below_ascending zero = none
  below_ascending (suc n) = go (f n) (below_ascending n) (below_all n)
    where
      go : (b : Bool) → Ascending (numbers_below n f) → All (λ x. x < n) (numbers_below n f) → Ascending (numbers_below n f ++ to_list (only_if b n))
      go true s a = ascending_end n s a
      go false s a = rw append-nil s

  pub member_below : (x n : ℕ) → member x (numbers_below n f) ≡ (ltb x n && f x)
  unfolding numbers_below collect member any
  member_below x zero = rw (le-ltb x 0 (omega arith)) refl
  member_below x (suc n) = member-append x (numbers_below n f) (to_list (only_if (f n) n)) ∙ ap₂ ◌||◌ (member_below x n) (last (f n)) ∙ go (three x n)
    where
      last : (b : Bool) → member x (to_list (only_if b n)) ≡ (b && eqb x n)
      last true = or-false (eqb x n)
      last false = refl

      go : Three x n → (ltb x n && f x || f n && eqb x n) ≡ (ltb x (suc n) && f x)
      go (less h) = rw (lt-ltb x n h, lt-ltb x (suc n) (omega arith), ne_eqb x n (λ e. omega arith), and-false (f n)) (or-false (f x))
      go (same h) = rw h (rw (le-ltb n n (omega arith), lt-ltb n (suc n) (omega arith), eq-eqb n n refl) (and-true (f n)))
      go (over h) = rw (le-ltb x n (omega arith), le-ltb x (suc n) h, ne_eqb x n (λ e. omega arith)) (and-false (f n))

  pub length-below : (n : ℕ) → length (numbers_below n f) ≡ count_below n f
  unfolding numbers_below
  length-below n = picked-length f (λ j. j) n

  pub any_below : (g : ℕ → Bool) (n : ℕ) → any g (numbers_below n f) ≡ any_below_lem n (λ j. f j && g j)
  unfolding numbers_below
  any_below g n = any-picked f (λ j. j) g n

  pub all_below_lem : (g : ℕ → Bool) (n : ℕ) → all g (numbers_below n f) ≡ all_below n (λ j. not (f j) || g j)
  unfolding numbers_below collect all all_below
  all_below_lem g zero = refl
  all_below_lem g (suc n) = all_append-test g (numbers_below n f) (to_list (only_if (f n) n)) ∙ ap₂ ◌&&◌ (all_below_lem g n) (last (f n))
    where
      last : (b : Bool) → all g (to_list (only_if b n)) ≡ (not b || g n)
      last true = and-true (g n)
      last false = refl

  -- a set whose members are these
  pub set_below : (n : ℕ) {l : List ℕ} → Ascending l → ((x : ℕ) → member x l ≡ (ltb x n && f x)) → l ≡ numbers_below n f
  set_below n s h = same_members s (below_ascending n) (λ x. h x ∙ sym (member_below x n))
