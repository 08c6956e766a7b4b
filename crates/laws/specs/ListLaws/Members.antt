-- Members of lists: what holds of every element holds of a member; what a map, a filter and a joining of lists have for members; and a scan of a list finds
-- exactly when there is a member to find. Assumes nothing.
use Rattle.std.specs.Prelude.{ℕ, zero, suc, ◌<◌, ◌≡◌, Bool, ◌||◌, cond, length, get_or}
use Rattle.std.proofs.Common.{arith, sym, ap, subst, ◌∙◌}
use Rattle.std.proofs.Math.Path.{refl}
use Rattle.std.proofs.Math.Bool.{true, false}
use Rattle.std.proofs.lemmas.Bool.{false≢true}
use mathlib.Core.List.{List, [], ◌∷◌, map, Memᴰ}
use Rattle.definitions.specs.Scan.{any, filter, concat_map}
use Rattle.laws.specs.ListLaws.Lists.{All, done, more, all_append, all_map}

module _ {A : Type 0} where
  pub all_at : {P : A → Type 0} {x : A} {l : List A} → All P l → Memᴰ x l → P x
  all_at {P} done m = elim m [ ]
  all_at {P} (more h a) (Memᴰ.head e) = subst P (sym e) h
  all_at (more h a) (Memᴰ.tail m) = all_at a m

  pub all-place : {P : A → Type 0} {l : List A} (d : A) → All P l → (i : ℕ) → i < length l → P (get_or l i d)
  all-place d done i h = absurd (omega arith)
  all-place d (more k a) zero h = k
  all-place d (more k a) (suc i) h = all-place d a i (omega arith)

  -- beyond the list stands d
  pub all_default : {P : A → Type 0} {l : List A} (d : A) → P d → All P l → (i : ℕ) → P (get_or l i d)
  all_default d k done i = k
  all_default d k (more h a) zero = h
  all_default d k (more h a) (suc i) = all_default d k a i

  pub all_members : (l : List A) → All (λ x. Memᴰ x l) l
  all_members [] = done
  all_members (x ∷ l) = more (Memᴰ.head refl) (all_map (λ y m. Memᴰ.tail m) (all_members l))

  -- what a filter leaves passes its test, and was there
  pub filter_passes : (f : A → Bool) (l : List A) → All (λ x. f x ≡ true) (filter f l)
  unfolding filter
  filter_passes f [] = done
  filter_passes f (x ∷ l) = go (f x) refl (filter_passes f l)
    where
      go : (b : Bool) → f x ≡ b → All (λ x. f x ≡ true) (filter f l) → All (λ x. f x ≡ true) (cond b (x ∷ filter f l) (filter f l))
      go true e r = more e r
      go false e r = r

  -- ---- a scan of a list

  module _ (f : A → Bool) where
    pub any-member : {x : A} {l : List A} → Memᴰ x l → f x ≡ true → any f l ≡ true
    unfolding any
    any-member (Memᴰ.head e) h = rw (sym (ap f e) ∙ h) refl
    any-member (Memᴰ.tail {x = y} m) h = go (f y) (any-member m h)
      where
        go : (b : Bool) {c : Bool} → c ≡ true → (b || c) ≡ true
        go true h = refl
        go false h = h

    pub any_found : (l : List A) → any f l ≡ true → (x : A) × Memᴰ x l × (f x ≡ true)
    unfolding any
    any_found [] h = absurd (false≢true h)
    any_found (y ∷ l) h = go (f y) refl h (any_found l)
      where
        go : (b : Bool) → f y ≡ b → (b || any f l) ≡ true → (any f l ≡ true → (x : A) × Memᴰ x l × (f x ≡ true)) → (x : A) × Memᴰ x (y ∷ l) × (f x ≡ true)
        go true e k ih = (y, Memᴰ.head refl, e)
        go false e k ih =
            let r = ih k in
            (r.0, Memᴰ.tail r.1, r.2)

    pub any-fails : {l : List A} → All (λ x. f x ≡ false) l → any f l ≡ false
    unfolding any
    any-fails done = refl
    any-fails (more h a) = rw h (any-fails a)

    pub any-failed : (l : List A) → any f l ≡ false → All (λ x. f x ≡ false) l
    unfolding any
    any-failed [] h = done
    any-failed (y ∷ l) h = go (f y) refl h (any-failed l)
      where
        go : (b : Bool) → f y ≡ b → (b || any f l) ≡ false → (any f l ≡ false → All (λ x. f x ≡ false) l) → All (λ x. f x ≡ false) (y ∷ l)
        go true e k ih = absurd (false≢true (sym k))
        go false e k ih = more e (ih k)

-- ---- through a map, and through a joining of lists

module _ {A B : Type 0} {P : B → Type 0} where
  pub all-mapped : (f : A → B) {l : List A} → All (λ x. P (f x)) l → All P (map f l)
  all-mapped f done = done
  all-mapped f (more h a) = more h (all-mapped f a)

  pub all-joined : (f : A → List B) (l : List A) → ((x : A) → All P (f x)) → All P (concat_map f l)
  unfolding concat_map
  all-joined f [] h = done
  all-joined f (x ∷ l) h = all_append (h x) (all-joined f l h)
