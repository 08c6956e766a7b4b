-- Lists in which a number is put only if it is not there (`add_new`, `add_all`): the Rust's `if !v.contains(x) { v.push(x) }`, and what stands for a set here.
-- Tests, filters and members of such a list are those of the numbers that went in. Assumes nothing.
use Rattle.std.specs.Prelude.{ℕ, ◌≡◌, Bool, not, ◌||◌}
use Rattle.std.proofs.Math.Path.{refl, ap}
use Rattle.std.proofs.Common.{sym, ◌∙◌, true≢false, eqb-true}
use Rattle.std.proofs.Math.Bool.{true, false, cond, or-false, or-true, or_assoc}
use Rattle.std.proofs.lemmas.Bool.{false≢true}
use mathlib.Core.List.{List, [], ◌∷◌, ◌++◌, append-nil}
use Rattle.std.proofs.Math.Dec.{eqb}
use Rattle.definitions.specs.Scan.{any, filter, member, add_new, add_all}
use Rattle.laws.specs.ListLaws.Disjunction.{disjunction}
use Rattle.laws.specs.RustContext.FullCut.{is_empty}
use Rattle.laws.specs.ListLaws.Lists.{any_append, filter-append}

pub empty-filter : {A : Type 0} (f : A → Bool) (l : List A) → is_empty (filter f l) ≡ not (any f l)
unfolding filter any
empty-filter f [] = refl
empty-filter f (x ∷ l) = go (f x) (empty-filter f l)
  where
    go : (b : Bool) → is_empty (filter f l) ≡ not (any f l) → is_empty (cond b (x ∷ filter f l) (filter f l)) ≡ not (b || any f l)
    go true ih = refl
    go false ih = ih

pub any_or : {A : Type 0} (f g : A → Bool) (l : List A) → any (λ x. f x || g x) l ≡ (any f l || any g l)
unfolding any
any_or f g [] = refl
any_or f g (x ∷ l) = ap (λ b. f x || g x || b) (any_or f g l) ∙ simp disjunction

-- ---- one number

-- a test that x passes is passed by a list that has x
pub any-member : (f : ℕ → Bool) (x : ℕ) (l : List ℕ) → member x l ≡ true → f x ≡ true → any f l ≡ true
unfolding member any
any-member f x [] h k = absurd (false≢true h)
any-member f x (y ∷ l) h k = go (eqb x y) refl (any-member f x l)
  where
    go : (b : Bool) → eqb x y ≡ b → (any (eqb x) l ≡ true → f x ≡ true → any f l ≡ true) → (f y || any f l) ≡ true
    go true e ih = ap (λ b. b || any f l) (sym (ap f (eqb-true x y e)) ∙ k)
    go false e ih = rw (ih (rw e at h) k) (or-true (f y))

pub any-add_new : (f : ℕ → Bool) (l : List ℕ) (x : ℕ) → any f (add_new l x) ≡ (any f l || f x)
unfolding add_new any
any-add_new f l x = go (member x l) refl (f x) refl
  where
    go : (b : Bool) → member x l ≡ b → (c : Bool) → f x ≡ c → any f (cond b l (l ++ (x ∷ []))) ≡ (any f l || f x)
    go true e true k = rw (k, any-member f x l e k) refl
    go true e false k = rw k (sym (or-false (any f l)))
    go false e c k = any_append f l (x ∷ []) ∙ ap (λ b. any f l || b) (or-false (f x))

-- ---- many

pub any-add_all : (f : ℕ → Bool) (l xs : List ℕ) → any f (add_all l xs) ≡ (any f l || any f xs)
unfolding add_all any
any-add_all f l [] = sym (or-false (any f l))
any-add_all f l (x ∷ xs) = any-add_all f (add_new l x) xs ∙ ap (λ b. b || any f xs) (any-add_new f l x) ∙ or_assoc (any f l) (f x) (any f xs)

pub member-add_all : (r : ℕ) (l xs : List ℕ) → member r (add_all l xs) ≡ (member r l || member r xs)
unfolding member
member-add_all r l xs = any-add_all (eqb r) l xs

-- ---- filters

module _ (f : ℕ → Bool) where
  member_filter : (x : ℕ) (l : List ℕ) → f x ≡ true → member x (filter f l) ≡ member x l
  unfolding member any filter
  member_filter x [] h = refl
  member_filter x (y ∷ l) h = go (f y) refl (member_filter x l h)
    where
      out : f y ≡ false → (b : Bool) → eqb x y ≡ b → b ≡ false
      out k true e = absurd (true≢false (sym h ∙ ap f (eqb-true x y e) ∙ k))
      out k false e = refl

      go : (b : Bool) → f y ≡ b → any (eqb x) (filter f l) ≡ any (eqb x) l → any (eqb x) (cond b (y ∷ filter f l) (filter f l)) ≡ (eqb x y || any (eqb x) l)
      go true k ih = ap (λ b. eqb x y || b) ih
      go false k ih = ih ∙ ap (λ b. b || any (eqb x) l) (sym (out k (eqb x y) refl))

  filter-add_new : (l : List ℕ) (x : ℕ) → filter f (add_new l x) ≡ cond (f x) (add_new (filter f l) x) (filter f l)
  unfolding add_new filter
  filter-add_new l x = go (f x) refl (member x l) refl
    where
      go : (b : Bool) → f x ≡ b → (c : Bool) → member x l ≡ c → filter f (cond c l (l ++ (x ∷ []))) ≡ cond b (cond (member x (filter f l)) (filter f l) (filter f l ++ (x ∷ []))) (filter f l)
      go true h true k = rw (member_filter x l h, k) refl
      go true h false k = rw (member_filter x l h, k) (filter-append f l (x ∷ []) ∙ rw h refl)
      go false h true k = refl
      go false h false k = filter-append f l (x ∷ []) ∙ rw h (append-nil (filter f l))

  -- what a filter leaves of the numbers put in is what is put in of what it leaves
  pub filter-add_all : (l xs : List ℕ) → filter f (add_all l xs) ≡ add_all (filter f l) (filter f xs)
  unfolding add_all filter
  filter-add_all l [] = refl
  filter-add_all l (x ∷ xs) = filter-add_all (add_new l x) xs ∙ rw (filter-add_new l x) (go (f x))
    where
      go : (b : Bool) → add_all (cond b (add_new (filter f l) x) (filter f l)) (filter f xs) ≡ add_all (filter f l) (cond b (x ∷ filter f xs) (filter f xs))
      go true = refl
      go false = refl
