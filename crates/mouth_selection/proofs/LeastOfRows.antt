-- The first least of a list of rows is the first least of the rows' first least ones. What is known of a row may be out of date: an element that is not left any more,
-- before which nothing of the row ranks that is left. If the least of what is known is left, it is the least of all that is left. Assumes nothing.
use Prim.Native.Nat.{ℕ, zero, suc, ◌<◌}
use native.Mathlib.Omega.{arith}
use mathlib.Core.Path.{◌≡◌, refl, sym, ap, ◌∙◌, subst}
use mathlib.Core.Bool.{Bool, true, false, cond, true≢false}
use Rattle.std.specs.Prelude.{Option, None, Some}
use mathlib.Core.List.{List, [], ◌∷◌, ◌++◌}
use Rattle.definitions.specs.Scan.{filter, collect, gather, to_list}
use Rattle.definitions.specs.Sort.{sort}
use Rattle.laws.specs.ListLaws.Lists.{filter-append}
use Rattle.laws.specs.OrderLaws.StableSort.{Weak, After, Sorted, sort_sorted, filter-sort}
use Rattle.mouth_selection.specs.Rounds.{better, least_from, NotBefore, Under, same, over}
use Rattle.mouth_selection.proofs.Greedy.{head_of, head-sort}

module _ {A : Type 0} (lt : A → A → Bool) (W : Weak lt) where
  -- of two that are level the earlier
  abbrev pub join : Option A → Option A → Option A
  join b None = b
  join b (Some x) = better lt b x

  -- the first least of the first n rows, of each its first least
  unfoldable pub least_rows : ℕ → (ℕ → Option A) → Option A
  least_rows zero g = None
  least_rows (suc n) g = join (least_rows n g) (g n)

  -- ---- comparisons

  apart : {b : Bool} {T : Type 0} → b ≡ true → b ≡ false → T
  apart h k = absurd (true≢false (sym h ∙ k))

  -- x before y before z
  through : (x y z : A) → lt x y ≡ true → lt y z ≡ true → lt x z ≡ true
  through x y z h k = go (lt x z) refl
    where
      go : (b : Bool) → lt x z ≡ b → b ≡ true
      go true e = refl
      go false e = apart (W.cotr y z x k e) (W.asym x y h)

  -- x not before y, y not before z
  behind : (x y z : A) → lt x y ≡ false → lt y z ≡ false → lt x z ≡ false
  behind x y z h k = go (lt x z) refl
    where
      go : (b : Bool) → lt x z ≡ b → b ≡ false
      go true e = apart (W.cotr x z y e k) h
      go false e = refl

  -- ---- rows

  better-join : (y x z : A) → better lt (Some (cond (lt x y) x y)) z ≡ better lt (Some y) (cond (lt z x) z x)
  better-join y x z = ap Some (go (lt x y) refl (lt z x) refl)
    where
      go : (p : Bool) → lt x y ≡ p → (q : Bool) → lt z x ≡ q → cond (lt z (cond p x y)) z (cond p x y) ≡ cond (lt (cond q z x) y) (cond q z x) y
      go true p true q = ap (λ b. cond b z x) q ∙ sym (ap (λ b. cond b z y) (through z x y q p))
      go true p false q = ap (λ b. cond b z x) q ∙ sym (ap (λ b. cond b x y) p)
      go false p true q = refl
      go false p false q = ap (λ b. cond b z y) (behind z x y q p) ∙ sym (ap (λ b. cond b x y) p)

  join-join : (b : Option A) (x : A) (c : Option A) → join (better lt b x) c ≡ join b (join (Some x) c)
  join-join b x None = refl
  join-join None x (Some z) = refl
  join-join (Some y) x (Some z) = better-join y x z

  pub least_join : (b : Option A) (l : List A) → least_from lt b l ≡ join b (least_from lt None l)
  unfolding least_from
  least_join b [] = refl
  least_join b (x ∷ l) = least_join (better lt b x) l ∙ join-join b x (least_from lt None l) ∙ sym (ap (join b) (least_join (Some x) l))

  least_append : (b : Option A) (l m : List A) → least_from lt b (l ++ m) ≡ least_from lt (least_from lt b l) m
  unfolding least_from
  least_append b [] m = refl
  least_append b (x ∷ l) m = least_append (better lt b x) l m

  pub least_rows_lem : (p : A → Bool) (f : ℕ → List A) (n : ℕ) → least_from lt None (filter p (gather n f)) ≡ least_rows n (λ a. least_from lt None (filter p (f a)))
  unfolding gather filter least_from least_rows
  least_rows_lem p f zero = refl
  least_rows_lem p f (suc n) =
      ap (least_from lt None) (filter-append p (gather n f) (f n)) ∙ least_append None (filter p (gather n f)) (filter p (f n))
      ∙ least_join (least_from lt None (filter p (gather n f))) (filter p (f n)) ∙ ap (λ b. join b (least_from lt None (filter p (f n)))) (least_rows_lem p f n)

  pub least_collected : (g : ℕ → Option A) (n : ℕ) → least_from lt None (collect n g) ≡ least_rows n g
  unfolding collect least_from least_rows
  least_collected g zero = refl
  least_collected g (suc n) = least_append None (collect n g) (to_list (g n)) ∙ last (least_from lt None (collect n g)) (g n) ∙ ap (λ b. join b (g n)) (least_collected g n)
    where
      last : (b o : Option A) → least_from lt b (to_list o) ≡ join b o
      last b None = refl
      last b (Some x) = refl

  -- ---- what is known of a row, and its first least that is left

  module _ (p : A → Bool) where
    -- of two that are not before x one is chosen
    chosen : (x : A) (b o : Option A) → NotBefore lt x b → NotBefore lt x o → NotBefore lt x (join b o)
    chosen x b None h k = h
    chosen x None (Some y) h k = k
    chosen x (Some w) (Some y) h k = go (lt y w)
      where
        go : (b : Bool) → lt (cond b y w) x ≡ false
        go true = k
        go false = h

    not-before-through : (x w : A) (o : Option A) → lt x w ≡ true → NotBefore lt w o → NotBefore lt x o
    not-before-through x w None h k = tt
    not-before-through x w (Some y) h k = W.asym x y (W.cotr x w y h k)

    not-before-behind : (x w : A) (o : Option A) → lt x w ≡ false → NotBefore lt x o → NotBefore lt w o
    not-before-behind x w None h k = tt
    not-before-behind x w (Some y) h k = behind y x w k h

    stays : (w : A) (o : Option A) → NotBefore lt w o → join (Some w) o ≡ Some w
    stays w None k = refl
    stays w (Some y) k = ap (λ b. Some (cond b y w)) k

    beats : (x w : A) (b : Option A) → lt x w ≡ true → NotBefore lt w b → better lt b x ≡ Some x
    beats x w None h k = refl
    beats x w (Some v) h k = ap (λ b. Some (cond b x v)) (W.cotr x w v h k)

    pub under-join : {b b' e e' : Option A} → Under lt p b b' → Under lt p e e' → Under lt p (join b e) (join b' e')
    under-join same same = same
    under-join {b = None} {e' = e'} same (over {x = x} h k) = over h (chosen x None e' tt k)
    under-join {b = Some w} {e' = e'} same (over {x = x} h k) = go (lt x w) refl
      where
        go : (c : Bool) → lt x w ≡ c → Under lt p (Some (cond c x w)) (join (Some w) e')
        go true f = over h (chosen x (Some w) e' (W.asym x w f) k)
        go false f = subst (Under lt p (Some w)) (sym (stays w e' (not-before-behind x w e' f k))) same
    under-join {e = None} (over h k) same = over h k
    under-join {b' = b'} {e = Some x} (over {x = w} h k) same = go (lt x w) refl
      where
        go : (c : Bool) → lt x w ≡ c → Under lt p (Some (cond c x w)) (better lt b' x)
        go true f = subst (Under lt p (Some x)) (sym (beats x w b' f k)) same
        go false f = over h (chosen w b' (Some x) k f)
    under-join {b' = b'} {e' = e'} (over {x = w} h k) (over {x = x} i l) = go (lt x w) refl
      where
        go : (c : Bool) → lt x w ≡ c → Under lt p (Some (cond c x w)) (join b' e')
        go true f = over i (chosen x b' e' (not-before-through x w b' f k) l)
        go false f = over h (chosen w b' e' k (not-before-behind x w e' f l))

    pub under-rows : (e f : ℕ → Option A) (n : ℕ) → ((a : ℕ) → a < n → Under lt p (e a) (f a)) → Under lt p (least_rows n e) (least_rows n f)
    unfolding least_rows
    under-rows e f zero h = same
    under-rows e f (suc n) h = under-join (under-rows e f n (λ a l. h a (omega arith))) (h n (omega arith))

    -- the least of what is known is left, or there is none
    pub under_left : {x : A} {o : Option A} → p x ≡ true → Under lt p (Some x) o → o ≡ Some x
    under_left h same = refl
    under_left h (over k l) = apart h k

    pub under_none : {o : Option A} → Under lt p None o → o ≡ None
    under_none same = refl

  -- ---- fewer are left

  module _ (p q : A → Bool) (less : (x : A) → q x ≡ true → p x ≡ true) where
    filter-twice : (l : List A) → filter q (filter p l) ≡ filter q l
    unfolding filter
    filter-twice [] = refl
    filter-twice (x ∷ l) = go (p x) refl (q x) refl (filter-twice l)
      where
        go : (b : Bool) → p x ≡ b → (c : Bool) → q x ≡ c → filter q (filter p l) ≡ filter q l → filter q (cond b (x ∷ filter p l) (filter p l)) ≡ cond c (x ∷ filter q l) (filter q l)
        go true h true k ih = ap (λ c. cond c (x ∷ filter q (filter p l)) (filter q (filter p l))) k ∙ ap (λ l. x ∷ l) ih
        go true h false k ih = ap (λ c. cond c (x ∷ filter q (filter p l)) (filter q (filter p l))) k ∙ ih
        go false h true k ih = apart (less x k) h
        go false h false k ih = ih

    after-head : (y : A) (l : List A) → After lt W y l → NotBefore lt y (head_of (filter q l))
    unfolding filter
    after-head y [] After.none = tt
    after-head y (x ∷ l) (After.some h r) = go (q x) (after-head y l r)
      where
        go : (b : Bool) → NotBefore lt y (head_of (filter q l)) → NotBefore lt y (head_of (cond b (x ∷ filter q l) (filter q l)))
        go true k = h
        go false k = k

    -- the first least of a sorted list, and of what is left of it
    sorted-under : (s : List A) → Sorted lt W s → Under lt q (head_of s) (head_of (filter q s))
    unfolding filter
    sorted-under [] Sorted.none = same
    sorted-under (y ∷ l) (Sorted.some a s) = go (q y) refl
      where
        go : (b : Bool) → q y ≡ b → Under lt q (Some y) (head_of (cond b (y ∷ filter q l) (filter q l)))
        go true e = same
        go false e = over e (after-head y l a)

    shrunk : (l : List A) → Under lt q (least_from lt None (filter p l)) (least_from lt None (filter q l))
    shrunk l =
        subst (λ o. Under lt q o (least_from lt None (filter q l))) (head-sort lt (filter p l))
        (subst (Under lt q (head_of (sort lt (filter p l)))) (ap head_of (filter-sort lt W q (filter p l) ∙ ap (sort lt) (filter-twice l)) ∙ head-sort lt (filter q l))
        (sorted-under (sort lt (filter p l)) (sort_sorted lt W (filter p l))))

    still : (x : A) → p x ≡ false → q x ≡ false
    still x h = go (q x) refl
      where
        go : (b : Bool) → q x ≡ b → b ≡ false
        go true e = apart (less x e) h
        go false e = refl

    both_under : {e f g : Option A} → Under lt p e f → Under lt q f g → Under lt q e g
    both_under same u = u
    both_under (over {x = x} h k) same = over (still x h) k
    both_under {g = g} (over {x = x} h k) (over {x = y} i l) = over (still x h) (not-before-behind p y x g k l)

    -- what is known of a row stays so
    pub under-fewer : {e : Option A} (l : List A) → Under lt p e (least_from lt None (filter p l)) → Under lt q e (least_from lt None (filter q l))
    under-fewer l u = both_under u (shrunk l)
