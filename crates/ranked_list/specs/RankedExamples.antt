-- The ranked junction list, computed: who is taken and who is named, and the one proposal of case J. Assumes nothing.
use Rattle.std.specs.Prelude.{ℕ, ◌≡◌, refl, Bool, true, false, ◌||◌, [], ◌∷◌, eqb}
use Rattle.definitions.specs.CaseJ.{map_j}
use Rattle.ranked_list.specs.RankedList.{Listed, judged_after, ranked_of, flat_ranked}

abbrev listed : ℕ → Bool → ℕ → Listed ℕ
listed item taken by = record { item = item; taken = taken; by = by }

-- these conflict with each other: 3 with 1, 2 and 4
abbrev clashes : ℕ → ℕ → Bool
clashes q p = eqb p 3 || eqb q 3

-- 3 names the earlier of the two that keep it out; 4 conflicts with 3 alone, which was not taken, and is taken
pub earliest-named : judged_after clashes [] (1 ∷ 2 ∷ 3 ∷ 4 ∷ []) ≡ listed 1 true 0 ∷ listed 2 true 0 ∷ listed 3 false 0 ∷ listed 4 true 0 ∷ []
unfolding judged_after
earliest-named = refl

-- 2 conflicts with 3 alone, which has rank 1
pub second-named : judged_after (λ q p. eqb q 3) [] (1 ∷ 3 ∷ 2 ∷ []) ≡ listed 1 true 0 ∷ listed 3 true 0 ∷ listed 2 false 1 ∷ []
unfolding judged_after
second-named = refl

-- case J: the union of regions 3 and 4 at boundary 0 is proposed and taken
pub ranked_j : flat_ranked (ranked_of map_j) ≡ 0 ∷ 0 ∷ 3 ∷ 4 ∷ 1 ∷ 0 ∷ []
unfolding flat_ranked ranked_of map_j
ranked_j = refl
