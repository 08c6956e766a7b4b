-- Insertion of pairs into an ascending list (`add_pair`, `add_pairs` of definitions): the list stays ascending, its members are the old ones and the new, and
-- its length grows by one exactly when the pair was not there. The argument is on the first pair that is not before the new one. Assumes nothing.
use Rattle.std.specs.Prelude.{suc, ◌≡◌, Bool, ◌||◌, length}
use Rattle.std.proofs.Math.Path.{refl, ap}
use Rattle.std.proofs.Common.{sym, ◌∙◌, true≢false}
use Rattle.std.proofs.Math.Bool.{true, false, cond, or_assoc, or_comm, or-false, or_self_left}
use Rattle.std.proofs.lemmas.Bool.{false≢true}
use mathlib.Core.List.{List, [], ◌∷◌, ◌++◌, map}
use Rattle.definitions.specs.Scan.{any}
use Rattle.definitions.specs.Grid.{Pair, pair_lt, pair_eq}
use Rattle.definitions.specs.Partition.{add_pair, add_pairs}
use Rattle.laws.specs.ListLaws.Disjunction.{or_left_comm}
use Rattle.laws.specs.ListLaws.Lists.{All, done, more, all_map}
use Rattle.laws.specs.OrderLaws.PairOrder.{pair_same, pair-equal, pair_eq_sym, pair-weak, pair_trans, pair-differ, pair-total, Ascending, none, next, before-absent}

-- ---- one pair

module _ (P : Pair → Type 0) where
  pub all-add_pair : (p : Pair) {l : List Pair} → P p → All P l → All P (add_pair p l)
  unfolding add_pair
  all-add_pair p h done = more h done
  all-add_pair p h (more {x = q} {l = l} k a) = go (pair_lt p q) (pair_eq p q) (all-add_pair p h a)
    where
      go : (b c : Bool) → All P (add_pair p l) → All P (cond b (p ∷ q ∷ l) (cond c (q ∷ l) (q ∷ add_pair p l)))
      go true c r = more h (more k a)
      go false true r = more k a
      go false false r = more k r

  pub all-add_pairs : {l ps : List Pair} → All P l → All P ps → All P (add_pairs l ps)
  unfolding add_pairs
  all-add_pairs a done = a
  all-add_pairs {l} a (more {x = p} h r) = all-add_pairs {l = add_pair p l} (all-add_pair p h a) r

pub add_pair_ascending : (p : Pair) {l : List Pair} → Ascending l → Ascending (add_pair p l)
unfolding add_pair
add_pair_ascending p none = next done none
add_pair_ascending p (next {p = q} {l = l} a s) = go (pair_lt p q) refl (pair_eq p q) refl (add_pair_ascending p s)
  where
    go : (b : Bool) → pair_lt p q ≡ b → (c : Bool) → pair_eq p q ≡ c → Ascending (add_pair p l) → Ascending (cond b (p ∷ q ∷ l) (cond c (q ∷ l) (q ∷ add_pair p l)))
    go true e c f r = next (more e (all_map (λ x k. pair_trans p q x e k) a)) (next a s)
    go false e true f r = next a s
    go false e false f r = next (all-add_pair (λ x. pair_lt q x ≡ true) p (pair-total p q e f) a) r

-- a scan of the new list finds what it would find in the pair or in the old list
pub any-add_pair : (f : Pair → Bool) (p : Pair) (l : List Pair) → any f (add_pair p l) ≡ (f p || any f l)
unfolding add_pair any
any-add_pair f p [] = refl
any-add_pair f p (q ∷ l) = go (pair_lt p q) (pair_eq p q) refl (any-add_pair f p l)
  where
    go : (b c : Bool) → pair_eq p q ≡ c → any f (add_pair p l) ≡ (f p || any f l) → any f (cond b (p ∷ q ∷ l) (cond c (q ∷ l) (q ∷ add_pair p l))) ≡ (f p || (f q || any f l))
    go true c e ih = refl
    go false true e ih = rw (pair_same p q e) (sym (or_self_left (f q) (any f l)))
    go false false e ih = ap (λ b. f q || b) ih ∙ or_left_comm (f q) (f p) (any f l)

-- a pair that is there changes nothing, and one that is not makes the list longer by one
pub add_pair_there : (p : Pair) {l : List Pair} → Ascending l → any (pair_eq p) l ≡ true → add_pair p l ≡ l
unfolding add_pair any
add_pair_there p none h = absurd (false≢true h)
add_pair_there p (next {p = q} {l = l} a s) h = go (pair_lt p q) refl (pair_eq p q) refl (add_pair_there p s)
  where
    go : (b : Bool) → pair_lt p q ≡ b → (c : Bool) → pair_eq p q ≡ c → (any (pair_eq p) l ≡ true → add_pair p l ≡ l) → cond b (p ∷ q ∷ l) (cond c (q ∷ l) (q ∷ add_pair p l)) ≡ q ∷ l
    go true e c f ih = absurd (false≢true (sym (before-absent p {l = q ∷ l} (more e (all_map (λ x k. pair_trans p q x e k) a))) ∙ h))
    go false e true f ih = refl
    go false e false f ih = ap {B = List Pair} (λ r. q ∷ r) (ih (sym (ap (λ b. b || any (pair_eq p) l) f) ∙ h))

pub add_pair-length : (p : Pair) (l : List Pair) → any (pair_eq p) l ≡ false → length (add_pair p l) ≡ suc (length l)
unfolding add_pair any
add_pair-length p [] h = refl
add_pair-length p (q ∷ l) h = go (pair_lt p q) (pair_eq p q) h (add_pair-length p l)
  where
    go : (b c : Bool) → (c || any (pair_eq p) l) ≡ false → (any (pair_eq p) l ≡ false → length (add_pair p l) ≡ suc (length l)) → length (cond b (p ∷ q ∷ l) (cond c (q ∷ l) (q ∷ add_pair p l))) ≡ suc (suc (length l))
    go true c h ih = refl
    go false true h ih = absurd (true≢false h)
    go false false h ih = ap suc (ih h)

-- ---- where the place is known

-- past a pair that is before p
add_pair-past : (p q : Pair) (l : List Pair) → pair_lt q p ≡ true → add_pair p (q ∷ l) ≡ q ∷ add_pair p l
unfolding add_pair
add_pair-past p q l h = rw (pair-weak.asym q p h, pair_eq_sym p q ∙ pair-differ q p h) refl

-- behind what is before p, and in front of what p is before
pub add_pair-new : (p : Pair) {l m : List Pair} → All (λ q. pair_lt q p ≡ true) l → All (λ q. pair_lt p q ≡ true) m → add_pair p (l ++ m) ≡ l ++ (p ∷ m)
unfolding add_pair
add_pair-new p done done = refl
add_pair-new p done (more h a) = rw h refl
add_pair-new p {m} (more {x = q} {l = l} h a) b = add_pair-past p q (l ++ m) h ∙ ap {B = List Pair} (λ r. q ∷ r) (add_pair-new p a b)

-- behind what is before p stands p itself
pub add_pair-old : (p : Pair) {l : List Pair} (m : List Pair) → All (λ q. pair_lt q p ≡ true) l → add_pair p (l ++ (p ∷ m)) ≡ l ++ (p ∷ m)
unfolding add_pair
add_pair-old p m done = rw (irreflexive, pair-equal p p refl) refl
  where
    irreflexive : pair_lt p p ≡ false
    irreflexive = go (pair_lt p p) refl
      where
        go : (b : Bool) → pair_lt p p ≡ b → b ≡ false
        go true e = sym e ∙ pair-weak.asym p p e
        go false e = refl
add_pair-old p m (more {x = q} {l = l} h a) = add_pair-past p q (l ++ (p ∷ m)) h ∙ ap {B = List Pair} (λ r. q ∷ r) (add_pair-old p m a)

-- ---- many pairs

pub add_pairs_ascending : {l : List Pair} (ps : List Pair) → Ascending l → Ascending (add_pairs l ps)
unfolding add_pairs
add_pairs_ascending [] s = s
add_pairs_ascending {l} (p ∷ ps) s = add_pairs_ascending {l = add_pair p l} ps (add_pair_ascending p s)

pub any-add_pairs : (f : Pair → Bool) (l ps : List Pair) → any f (add_pairs l ps) ≡ (any f l || any f ps)
unfolding add_pairs any
any-add_pairs f l [] = sym (or-false (any f l))
any-add_pairs f l (p ∷ ps) = any-add_pairs f (add_pair p l) ps ∙ ap (λ b. b || any f ps) (any-add_pair f p l ∙ or_comm (f p) (any f l)) ∙ or_assoc (any f l) (f p) (any f ps)

pub add_pairs-append : (l ps qs : List Pair) → add_pairs l (ps ++ qs) ≡ add_pairs (add_pairs l ps) qs
unfolding add_pairs
add_pairs-append l [] qs = refl
add_pairs-append l (p ∷ ps) qs = add_pairs-append (add_pair p l) ps qs

-- ---- through a renaming f of pairs that keeps their order

module _ (P : Pair → Type 0) (f : Pair → Pair) (lt_same : (p q : Pair) → P p → P q → pair_lt p q ≡ pair_lt (f p) (f q)) (eq-same : (p q : Pair) → P p → P q → pair_eq p q ≡ pair_eq (f p) (f q)) where
  add_pair-ren : (p : Pair) {l : List Pair} → P p → All P l → map f (add_pair p l) ≡ add_pair (f p) (map f l)
  unfolding add_pair
  add_pair-ren p h done = refl
  add_pair-ren p h (more {x = q} {l = l} k a) = rw (← (lt_same p q h k), ← (eq-same p q h k)) (go (pair_lt p q) (pair_eq p q) (add_pair-ren p h a))
    where
      go : (b c : Bool) → map f (add_pair p l) ≡ add_pair (f p) (map f l) → map f (cond b (p ∷ q ∷ l) (cond c (q ∷ l) (q ∷ add_pair p l))) ≡ cond b (f p ∷ f q ∷ map f l) (cond c (f q ∷ map f l) (f q ∷ add_pair (f p) (map f l)))
      go true c ih = refl
      go false true ih = refl
      go false false ih = ap {B = List Pair} (λ r. f q ∷ r) ih

  pub add_pairs-ren : {l ps : List Pair} → All P l → All P ps → map f (add_pairs l ps) ≡ add_pairs (map f l) (map f ps)
  unfolding add_pairs
  add_pairs-ren a done = refl
  add_pairs-ren {l} a (more {x = p} {l = ps} h r) = add_pairs-ren {l = add_pair p l} (all-add_pair P p h a) r ∙ ap (λ l. add_pairs l (map f ps)) (add_pair-ren p h a)
