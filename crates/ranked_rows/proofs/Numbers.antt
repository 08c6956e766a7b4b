-- The rows of the list by their numbers: six for a row, one row behind the other; and those of rows that say 0 or 1 of being taken are the numbers of what the
-- rows stand for. Assumes nothing.
use Rattle.std.specs.Prelude.{ℕ, ◌*◌, ◌≤◌, ◌≡◌, refl, length}
use Rattle.std.proofs.Common.{arith, ap}
use mathlib.Core.List.{List, [], ◌∷◌, ◌++◌, map}
use Rattle.laws.specs.ListLaws.Lists.{All, done, more}
use Rattle.laws.specs.ListLaws.Flags.{digit-bit}
use Rattle.junction_proposals.specs.Rows.{form}
use Rattle.ranked_list.specs.RankedList.{flat_ranked}
use Rattle.ranked_rows.specs.declared.RankedRow.{RankedRow}
use Rattle.ranked_rows.specs.Contract.{listed_form, row_numbers}

pub numbers_append : (l m : List RankedRow) → row_numbers (l ++ m) ≡ row_numbers l ++ row_numbers m
unfolding row_numbers
numbers_append [] m = refl
numbers_append (r ∷ l) m =
    ap {B = List ℕ} (λ t. (form r.candidate).kind ∷ (form r.candidate).index ∷ r.candidate.first ∷ r.candidate.second ∷ r.taken ∷ r.refused_by ∷ t) (numbers_append l m)

pub numbers-length : (l : List RankedRow) → length (row_numbers l) ≡ 6 * length l
unfolding row_numbers
numbers-length [] = refl
numbers-length (r ∷ l) = omega (arith, numbers-length l)

-- a row says by 0 or 1 whether it was taken
abbrev pub IsFlagged : RankedRow → Type 0
IsFlagged r = r.taken ≤ 1

pub numbers_listed : {l : List RankedRow} → All IsFlagged l → row_numbers l ≡ flat_ranked (map listed_form l)
unfolding row_numbers flat_ranked
numbers_listed done = refl
numbers_listed (more {x = r} h hs) =
    λ i. (form r.candidate).kind ∷ (form r.candidate).index ∷ r.candidate.first ∷ r.candidate.second ∷ digit-bit r.taken (omega (arith, h)) i ∷ r.refused_by ∷ numbers_listed hs i
