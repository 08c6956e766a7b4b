-- Tests of a set (Sets) that numbers are put into: it is passed by the set as it was or by one of the numbers. Assumes nothing.
use Rattle.std.specs.Prelude.{ℕ, ◌≡◌, refl, Bool, true, false, ◌||◌, cond, List, [], ◌∷◌, ◌++◌, eqb, ltb}
use Rattle.std.proofs.Common.{sym, ap, ◌∙◌, eqb-true}
use Rattle.std.proofs.Math.Bool.{or-false, or_comm, or_assoc}
use Rattle.definitions.specs.Scan.{any, member}
use Rattle.laws.specs.ListLaws.ListsAsSets.{any_or}
use Rattle.laws.specs.SetLaws.Sets.{set_insert, set_extend, member_extend}

any-insert : (f : ℕ → Bool) (l : List ℕ) (x : ℕ) → any f (set_insert l x) ≡ (any f l || f x)
unfolding set_insert any
any-insert f [] x = or-false (f x)
any-insert f (y ∷ l) x = go (ltb x y) (eqb x y) refl (any-insert f l x)
  where
    again : (a b : Bool) → (a || b) ≡ (a || b || a)
    again true b = refl
    again false b = sym (or-false b)

    go : (b c : Bool) → eqb x y ≡ c → any f (set_insert l x) ≡ (any f l || f x) → any f (cond b (x ∷ y ∷ l) (cond c (y ∷ l) (y ∷ set_insert l x))) ≡ (f y || any f l || f x)
    go true c e ih = or_comm (f x) (f y || any f l)
    go false true e ih = again (f y) (any f l) ∙ ap (λ b. f y || any f l || b) (ap f (sym (eqb-true x y e)))
    go false false e ih = ap (λ b. f y || b) ih ∙ sym (or_assoc (f y) (any f l) (f x))

pub any_extend : (f : ℕ → Bool) (l m : List ℕ) → any f (set_extend l m) ≡ (any f l || any f m)
unfolding set_extend any
any_extend f l [] = sym (or-false (any f l))
any_extend f l (x ∷ m) = any_extend f (set_insert l x) m ∙ ap (λ b. b || any f m) (any-insert f l x) ∙ or_assoc (any f l) (f x) (any f m)

pub extend_append : (s l m : List ℕ) → set_extend s (l ++ m) ≡ set_extend (set_extend s l) m
unfolding set_extend
extend_append s [] m = refl
extend_append s (x ∷ l) m = extend_append (set_insert s x) l m

-- a set with the numbers of m put in, asked of each number of xs
pub extended : (set m xs : List ℕ) → any (λ r. member r (set_extend set m)) xs ≡ (any (λ r. member r set) xs || any (λ r. member r m) xs)
extended set m xs = (λ i. any (λ r. member_extend r set m i) xs) ∙ any_or (λ r. member r set) (λ r. member r m) xs
