-- Lists in which each element is before all that follow it, by a strict order: two such lists joined, and an insertion of one that is level with none.
-- Assumes nothing.
use Rattle.std.specs.Prelude.{◌≡◌, Bool, cond, List, [], ◌∷◌, ◌++◌}
use Rattle.std.proofs.Math.Path.{refl}
use Rattle.std.proofs.Math.Bool.{true, false}
use Rattle.definitions.specs.Sort.{insert}
use Rattle.laws.specs.ListLaws.Lists.{All, done, more, all_append, all_map}
use Rattle.laws.specs.OrderLaws.StableSort.{Weak, all_insert}

module _ {A : Type 0} (lt : A → A → Bool) where
  pub data Rises : List A → Type 0 where
    none : Rises []
    next : {x : A} {l : List A} → All (λ y. lt x y ≡ true) l → Rises l → Rises (x ∷ l)

  pub rises-append : {l m : List A} → Rises l → Rises m → All (λ x. All (λ y. lt x y ≡ true) m) l → Rises (l ++ m)
  rises-append Rises.none s a = s
  rises-append (Rises.next b r) s (more h a) = Rises.next (all_append b h) (rises-append r s a)

  -- the two are level in neither direction
  abbrev pub Apart : A → A → Type 0
  Apart x y = lt x y ≡ false → lt y x ≡ true

  module _ (W : Weak lt) where
    before-both : (x y z : A) → lt x y ≡ true → lt y z ≡ true → lt x z ≡ true
    before-both x y z h k = W.cotr x y z h (W.asym y z k)

    pub insert-rises : (x : A) {l : List A} → All (Apart x) l → Rises l → Rises (insert lt x l)
    unfolding insert
    insert-rises x done Rises.none = Rises.next done Rises.none
    insert-rises x (more {x = y} {l = l} apart a) (Rises.next b r) = go (lt x y) refl (insert-rises x a r)
      where
        go : (t : Bool) → lt x y ≡ t → Rises (insert lt x l) → Rises (cond t (x ∷ y ∷ l) (y ∷ insert lt x l))
        go true e i = Rises.next (more e (all_map (λ z h. before-both x y z e h) b)) (Rises.next b r)
        go false e i = Rises.next (all_insert (λ z. lt y z ≡ true) lt (apart e) b) i
