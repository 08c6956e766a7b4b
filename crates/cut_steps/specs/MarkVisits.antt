-- Marking as a visit of cut steps: what it asks, what it does, and the laws of these. Marking adds to the bits of the masks: nothing (`marked_none`), and steps behind
-- others (`marked-then`). Assumes nothing.
use Rattle.std.specs.Prelude.{ℕ, ◌*◌, ◌≤◌, ◌≡◌, Bool, true, false, ◌&&◌, ◌||◌, List, [], ◌++◌, length, refl}
use Rattle.std.proofs.Common.{arith, sym, ap, ◌∙◌, subst}
use mathlib.Core.Bool.{and-false, or-false, or_assoc}
use Rattle.definitions.specs.Scan.{any}
use Rattle.definitions.specs.Grid.{Map, Pair, pair_eq}
use Rattle.laws.specs.ListLaws.Lists.{any_append}
use Rattle.grid_steps.specs.Masks.{bit_of, cut_bit, step_pair, is_onward, is_onward_in}
use Rattle.cut_steps.specs.declared.Marking.{Marking}
use Rattle.cut_steps.specs.Marking.{Marked}
use Rattle.cut_steps.specs.Visits.{VisitLaws}

or_in : (a o x y : Bool) → ((a || (o && x)) || (o && y)) ≡ (a || (o && (x || y)))
or_in a true x y = or_assoc a x y
or_in a false x y = or-false (a || false)

module _ {M : Map} where
  pub marked_none : {l : List ℕ} → Marked M l l []
  unfolding any
  marked_none {l} = record { bits = λ c d i a b. sym (ap (λ t. cut_bit l c (bit_of d) || t) (and-false (is_onward M c d)) ∙ or-false _); long = refl; rest = refl }

  pub marked-then : {k l m : List ℕ} {E F : List Pair} → Marked M k l E → Marked M l m F → Marked M k m (E ++ F)
  marked-then {k} {l} {m} {E} {F} a b =
      record {
        bits = λ c d i p q.
            let f = pair_eq (step_pair M c d) in
            b.bits c d i p q ∙ ap (λ t. t || is_onward_in M F c d) (a.bits c d i p q) ∙ or_in (cut_bit k c (bit_of d)) (is_onward M c d) (any f E) (any f F)
            ∙ ap (λ t. cut_bit k c (bit_of d) || (is_onward M c d && t)) (sym (any_append f E F));
        long = b.long ∙ a.long;
        rest = b.rest ∙ a.rest;
      }

  pub marked_as : {k l : List ℕ} {E F : List Pair} → E ≡ F → Marked M k l E → Marked M k l F
  marked_as {k} {l} e a = subst (Marked M k l) e a

-- the masks have a place for each cell
abbrev pub MarkReady : Map → List Pair → ℕ → Marking → Type 0
MarkReady M steps n s = M.height * M.width ≤ length s.masks.now

-- the masks are the same list, and the steps are marked in it
abbrev pub MarkVisited : Map → List Pair → ℕ → Marking → Marking → Type 0
MarkVisited M steps n s t = (t.masks.ghost_name ≡ s.masks.ghost_name) × Marked M s.masks.now t.masks.now steps

pub mark_laws : VisitLaws MarkReady MarkVisited
mark_laws =
    record {
      none = λ M s. (refl, marked_none);
      more = λ M E F m n s t u a b. (b.0 ∙ a.0, marked-then a.1 b.1);
      most = λ M E m n s t l a. a;
      still = λ M E F m n s t a r. omega (arith, a.1.long, r);
      part = λ M E F m n s a l r. r;
    }
