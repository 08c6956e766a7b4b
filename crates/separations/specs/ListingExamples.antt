-- The list of separations, computed: three boundaries on a map of 4 by 4 cells, one without length, and what is refused. Assumes nothing.
use Rattle.std.specs.Prelude.{◌≡◌, refl, List, [], ◌∷◌, ◌++◌, ℕ, replicate}
use Rattle.definitions.specs.Verdict.{Answer}
use Rattle.separations.specs.Listing.{list_verdict, list_at_exit}

-- of width 8.0, without a ramp
abbrev boundary : ℕ → ℕ → ℕ → ℕ → List ℕ
boundary ax ay bx by = ax ∷ ay ∷ bx ∷ by ∷ 4620693217682128896 ∷ 0 ∷ 0 ∷ 0 ∷ 0 ∷ []

abbrev three : List ℕ
three = boundary 0 0 4 4 ++ boundary 3 2 5 1 ++ boundary 2 2 2 2

-- rows of 0 and 1 (the root of 16 / 32), of 0 and 2 (a shared point), of 1 and 2; the sixteenth entry stays
pub rows_at-exit : list_at_exit three (replicate 16 9) 0 ≡ (0 ∷ 1 ∷ 4604544271217802189 ∷ 16 ∷ 32 ∷ 0 ∷ 2 ∷ 0 ∷ 0 ∷ 1 ∷ 1 ∷ 2 ∷ 4607182418800017408 ∷ 1 ∷ 1 ∷ 9 ∷ [])
unfolding list_at_exit
rows_at-exit = refl

pub left-as_it_was : list_at_exit three (replicate 16 9) 10 ≡ replicate 16 9
unfolding list_at_exit
left-as_it_was = refl

abbrev answer : ℕ → ℕ → Answer
answer number value = record { number = number; value = value }

-- each refusal: a side of 0; a tenth number; an endpoint beyond the map, at the boundary's number; an output of fourteen numbers for three pairs. Fifteen are
-- enough, and no boundary needs no output. Of several faults the first of the table is told.
pub answers : (list_verdict 0 4 three 15 ≡ answer 1 0) × (list_verdict 4 4 (three ++ (1 ∷ [])) 15 ≡ answer 3 0) × (list_verdict 4 4 (three ++ boundary 0 0 33 0) 30 ≡ answer 7 3)
    × (list_verdict 4 4 three 14 ≡ answer 10 0) × (list_verdict 4 4 three 15 ≡ answer 0 3) × (list_verdict 4 4 [] 0 ≡ answer 0 0)
    × (list_verdict 1025 4 (three ++ (1 ∷ [])) 0 ≡ answer 1 0) × (list_verdict 4 4 (three ++ boundary 0 0 33 0) 0 ≡ answer 7 3)
unfolding list_verdict
answers = (refl, refl, refl, refl, refl, refl, refl, refl)
