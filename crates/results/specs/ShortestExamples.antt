-- Computed examples of numbers in shortest form. Assumes nothing.
use Rattle.std.specs.Prelude.{ℕ, ◌^◌, ◌-◌, ◌≡◌, refl, List, [], ◌∷◌, ◌++◌, map, length}
use Rattle.definitions.specs.SheetNumber.{found, number}
use Rattle.definitions.specs.SheetExamples.{Example, ◌gives◌, nine}
use Rattle.results.specs.Shortest.{shortest}

-- continued groups of zero
abbrev pub eight_zeros : List ℕ
eight_zeros = 128 ∷ 128 ∷ 128 ∷ 128 ∷ 128 ∷ 128 ∷ 128 ∷ 128 ∷ []

unfoldable pub shortest_examples : List (Example (List ℕ))
unfolding shortest
shortest_examples =
    shortest 0 gives (0 ∷ [])
    ∷ shortest 127 gives (127 ∷ [])
    ∷ shortest 128 gives (128 ∷ 1 ∷ [])
    ∷ shortest 300 gives (172 ∷ 2 ∷ [])
    ∷ shortest 16383 gives (255 ∷ 127 ∷ [])
    ∷ shortest 16384 gives (128 ∷ 128 ∷ 1 ∷ [])
    ∷ shortest (2 ^ 63) gives (128 ∷ eight_zeros ++ (1 ∷ []))
    ∷ shortest (2 ^ 64 - 1) gives (nine ++ (1 ∷ []))
    ∷ []

pub shortest_examples_lem : map (λ e. e.computed) shortest_examples ≡ map (λ e. e.expected) shortest_examples
unfolding shortest_examples
shortest_examples_lem = refl

-- each of these numbers is read from its shortest form
abbrev pub some : List ℕ
some = 0 ∷ 1 ∷ 127 ∷ 128 ∷ 16383 ∷ 16384 ∷ (2 ^ 56 - 1) ∷ 2 ^ 63 ∷ (2 ^ 64 - 1) ∷ []

pub read-shortest : map (λ n. number 0 (shortest n)) some ≡ map (λ n. found n (length (shortest n)) []) some
unfolding number shortest
read-shortest = refl
