-- The Rust's three selections are loops that keep sets: a proposal is refused by what the sets hold, and one that is taken fills them.
-- If what a state refuses grows, with each proposal q taken, by just what q conflicts with, the loop takes what `select` takes. The argument:
-- after any part of the loop the state refuses p exactly where one taken so far conflicts with p. Assumes nothing.
use Rattle.std.specs.Prelude.{◌≡◌, Bool, ◌||◌}
use Rattle.std.proofs.Math.Path.{refl, sym, ap}
use Rattle.std.proofs.Common.{◌∙◌}
use Rattle.std.proofs.Math.Bool.{true, false, cond, or-false}
use mathlib.Core.List.{List, [], ◌∷◌, ◌++◌, append-nil, append_assoc}
use Rattle.definitions.specs.Scan.{any}
use Rattle.definitions.specs.Sort.{select}
use Rattle.laws.specs.ListLaws.Lists.{All, done, more, any_append}

module _ {A S : Type 0} (refuses : S → A → Bool) (grow : S → A → S) where
  -- `for p in list { if REFUSED { continue; } GROW }`, with the state that it leaves
  unfoldable pub loop : S → List A → S
  loop s [] = s
  loop s (p ∷ l) = loop (cond (refuses s p) s (grow s p)) l

  -- the elements that the loop does not pass over, in its order
  unfoldable pub taken_by : S → List A → List A
  taken_by s [] = []
  taken_by s (p ∷ l) = cond (refuses s p) (taken_by s l) (p ∷ taken_by (grow s p) l)

  unfoldable pub grow_all : S → List A → S
  grow_all s [] = s
  grow_all s (p ∷ l) = grow_all (grow s p) l

  -- the loop leaves the state to which the taken elements alone grow
  pub loop-taken : (s : S) (l : List A) → loop s l ≡ grow_all s (taken_by s l)
  unfolding loop taken_by grow_all
  loop-taken s [] = refl
  loop-taken s (p ∷ l) = go (refuses s p) (loop-taken s l) (loop-taken (grow s p) l)
    where
      go : (b : Bool) → loop s l ≡ grow_all s (taken_by s l) → loop (grow s p) l ≡ grow_all (grow s p) (taken_by (grow s p) l) → loop (cond b s (grow s p)) l ≡ grow_all s (cond b (taken_by s l) (p ∷ taken_by (grow s p) l))
      go true h k = h
      go false h k = k

  -- P holds of every element, Inv of every state that the loop reaches
  module _ (conflict : A → A → Bool) (P : A → Type 0) (Inv : S → Type 0)
      (keeps : (s : S) (q : A) → Inv s → P q → refuses s q ≡ false → Inv (grow s q))
      (grows : (s : S) (q p : A) → Inv s → P q → P p → refuses s q ≡ false → refuses (grow s q) p ≡ (refuses s p || conflict q p)) where
    -- the state refuses what one of `taken` conflicts with
    abbrev Stands : S → List A → Type 0
    Stands s taken = (p : A) → P p → refuses s p ≡ any (λ q. conflict q p) taken

    stands-grown : (s : S) (q : A) (taken : List A) → Inv s → P q → refuses s q ≡ false → Stands s taken → Stands (grow s q) (taken ++ (q ∷ []))
    unfolding any
    stands-grown s q taken v h f st p k =
        grows s q p v h k f ∙ ap (λ b. b || conflict q p) (st p k) ∙ sym (any_append (λ q. conflict q p) taken (q ∷ []) ∙ ap (λ b. any (λ q. conflict q p) taken || b) (or-false (conflict q p)))

    taken-after : (s : S) (taken : List A) {l : List A} → Inv s → Stands s taken → All P l → taken ++ taken_by s l ≡ select conflict taken l
    unfolding taken_by select
    taken-after s taken v st done = append-nil taken
    taken-after s taken v st (more {x = p} {l = l} h a) = rw (← (st p h)) (go (refuses s p) refl (λ t w i u. taken-after t w i u a))
      where
        go : (b : Bool) → refuses s p ≡ b → ((t : S) (w : List A) → Inv t → Stands t w → w ++ taken_by t l ≡ select conflict w l) → taken ++ cond b (taken_by s l) (p ∷ taken_by (grow s p) l) ≡ select conflict (cond b taken (taken ++ (p ∷ []))) l
        go true e ih = ih s taken v st
        go false e ih = sym (append_assoc taken (p ∷ []) (taken_by (grow s p) l)) ∙ ih (grow s p) (taken ++ (p ∷ [])) (keeps s p v h e) (stands-grown s p taken v h e st)

    -- a start that refuses nothing
    module _ (s₀ : S) (inv : Inv s₀) (empty : (p : A) → P p → refuses s₀ p ≡ false) where
      pub select_by_state : {l : List A} → All P l → taken_by s₀ l ≡ select conflict [] l
      unfolding any
      select_by_state a = taken-after s₀ [] inv empty a

      -- the same of the state that the loop leaves
      pub loop_by_state : {l : List A} → All P l → loop s₀ l ≡ grow_all s₀ (select conflict [] l)
      loop_by_state {l} a = loop-taken s₀ l ∙ ap (grow_all s₀) (select_by_state a)
