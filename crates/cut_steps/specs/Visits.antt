-- What holds of whatever is done with the cut steps of cells, one cell after the other: the laws of the trait `StepVisitor`. Definitions only; assumes nothing.
use Rattle.std.specs.Prelude.{ℕ, ◌+◌, ◌≤◌, ◌≡◌, Bool, true, List, [], ◌++◌}
use Rattle.definitions.specs.Scan.{any}
use Rattle.definitions.specs.Grid.{Map, Pair}

-- the steps F are among E
abbrev pub Among : (F E : List Pair) → Type 0
Among F E = (f : Pair → Bool) → any f F ≡ true → any f E ≡ true

-- Of no cells no steps are visited; steps behind others are visited with them; of more cells they are too; after them it is ready for what it was ready for, of as many
-- cells fewer; and for steps among others, of no more cells, it is ready where it is for these.
pub record VisitLaws {S : Type 0} (ready : Map → List Pair → ℕ → S → Type 0) (visited : Map → List Pair → ℕ → S → S → Type 0) : Type 0 where
  pub none : (M : Map) (s : S) → visited M [] 0 s s
  pub more : (M : Map) (E F : List Pair) (m n : ℕ) (s t u : S) → visited M E m s t → visited M F n t u → visited M (E ++ F) (m + n) s u
  pub most : (M : Map) (E : List Pair) (m n : ℕ) (s t : S) → m ≤ n → visited M E m s t → visited M E n s t
  pub still : (M : Map) (E F : List Pair) (m n : ℕ) (s t : S) → visited M E m s t → ready M F (m + n) s → ready M F n t
  pub part : (M : Map) (E F : List Pair) (m n : ℕ) (s : S) → Among F E → m ≤ n → ready M E n s → ready M F m s
