-- `keys::ranks_before` meets its contract: two keys compare as their numbers do, and by the separations alone where these differ. Assumes nothing.
use Rattle.std.proofs.Common.{arith, ◌≡◌, refl, sym, ap, ◌∙◌, Bool, true, false, ◌&&◌, ◌||◌, ℕ, List, ◌∷◌}
use Rattle.std.proofs.lemmas.Grind.{common_steps}
use borrow.Author.Tests.{ne_eqb}
use lib.Dec.{ltb}
use Rattle.definitions.specs.Sort.{list_lt}
use Rattle.mouth_selection.specs.Keys.{numbers_of, key_at}
use Rattle.mouth_selection.proofs.keys.ranks_before.Goals as goal

-- lists whose first numbers differ compare by these
first_differ : (x y : ℕ) (l m : List ℕ) → (x ≡ y → ⊥) → ltb x y ≡ list_lt (x ∷ l) (y ∷ m)
unfolding list_lt
first_differ x y l m h = sym (ap (λ b. ltb x y || (b && list_lt l m)) (ne_eqb x y h) ∙ go (ltb x y))
  where
    go : (b : Bool) → (b || false) ≡ b
    go true = refl
    go false = refl

pub returns-then-left-right : goal.returns-then-left-right
unfolding key_at
returns-then-left-right c = first_differ c.args.left c.args.right _ _ c.if-left-right.true

pub returns : goal.returns
unfolding list_lt
returns c =
    let s = c.args in
    let left : numbers_of c.of.result ≡ key_at s.boundaries.now s.left s.m s.a = c.of.ensures ∙ ap (λ m. key_at s.boundaries.now s.left m s.a) (omega arith) in
    rw (← left, ← c.of-2.ensures) (grind (arith, common_steps))
