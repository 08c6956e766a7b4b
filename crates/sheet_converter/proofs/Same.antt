-- `==` on two lists of numbers is `same_numbers`: true of equal lists, and of no others. Assumes nothing.
use Prim.Native.Nat.{ℕ}
use mathlib.Core.Path.{◌≡◌, refl, sym, ap, ◌∙◌}
use mathlib.Core.Bool.{Bool, true, false, ◌&&◌}
use mathlib.Core.List.{List, [], ◌∷◌}
use Rattle.std.specs.Str.{bytes_eq}
use Rattle.std.specs.Prelude.{eqb}
use Rattle.std.proofs.lemmas.Slice.Eq.{bytes_eq-Decides}
use Rattle.map_sheets.specs.Converting.{same_numbers}
use Rattle.map_sheets.proofs.Converted.{same_numbers_lem}

pub compared : (a b : List ℕ) → bytes_eq a b ≡ same_numbers a b
unfolding same_numbers
compared [] [] = refl
compared [] (y ∷ m) = refl
compared (x ∷ l) [] = refl
compared (x ∷ l) (y ∷ m) = ap (λ t. eqb x y && t) (compared l m)

pub same_lists : (a b : List ℕ) → a ≡ b → true ≡ same_numbers a b
same_lists a b e = sym ((bytes_eq-Decides a b).1 e) ∙ compared a b

pub other-lists : (a b : List ℕ) → (a ≡ b → ⊥) → false ≡ same_numbers a b
other-lists a b h = go (same_numbers a b) refl
  where
    go : (t : Bool) → same_numbers a b ≡ t → false ≡ t
    go true e = absurd (h (same_numbers_lem a b e))
    go false e = refl
