-- The ranked junction list (docs/SPECIFICATION.md, 'The ranked junction list'; document 02, request 11): every proposal of pass 3 that reaches the ranking, in rank
-- order, whether it was taken, and of a refused one the rank of the earliest taken proposal that conflicts with it. Quotations are of the request. Assumes nothing.
use Rattle.std.specs.Prelude.{ℕ, suc, Bool, ◌&&◌, length, eqb}
use Rattle.std.proofs.Math.Bool.{not, cond}
use mathlib.Core.List.{List, [], ◌∷◌, ◌++◌}
use Rattle.definitions.specs.Scan.{any, bit}
use Rattle.definitions.specs.Grid.{Map, span_count}
use Rattle.definitions.specs.Context.{Context, context_of}
use Rattle.definitions.specs.Junctions.{Proposal, conflict, ranked}

-- what is said of a proposal: `by` is the rank of what it was refused by, and 0 where it was taken
pub record Listed (A : Type 0) : Type 0 where
  pub item : A
  pub taken : Bool
  pub by : ℕ

module _ {A : Type 0} where
  -- the place of the first that passes, 0 where none does
  unfoldable pub first_place : (Listed A → Bool) → List (Listed A) → ℕ
  unfolding any
  first_place f [] = 0
  first_place f (r ∷ l) = cond (f r) 0 (cond (any f l) (suc (first_place f l)) 0)

  module _ (clash : A → A → Bool) where
    -- r is 'taken', and 'conflicts with it'
    abbrev pub blocks : A → Listed A → Bool
    blocks p r = r.taken && clash r.item p

    -- what is said of p behind those that rank before it
    unfoldable pub judged : List (Listed A) → A → Listed A
    unfolding any first_place
    judged earlier p = record { item = p; taken = not (any (blocks p) earlier); by = first_place (blocks p) earlier }

    -- behind these, those of a list
    unfoldable pub judged_after : List (Listed A) → List A → List (Listed A)
    unfolding judged
    judged_after earlier [] = []
    judged_after earlier (p ∷ l) = judged earlier p ∷ judged_after (earlier ++ (judged earlier p ∷ [])) l

-- 'every junction proposal that reaches the ranking, in rank order'
unfoldable pub ranked_rows : Context → List (Listed Proposal)
unfolding judged_after conflict ranked
ranked_rows C = judged_after (conflict C) [] (ranked C)

-- of a map: where span and boundary counts differ nothing is proposed, as nothing is removed
unfoldable pub ranked_of : Map → List (Listed Proposal)
unfolding span_count ranked_rows context_of
ranked_of M = cond (eqb (length M.boundaries) (span_count M)) (ranked_rows (context_of M)) []

-- As the lent list holds them, six numbers a row: kind (0 a union, 1 a bridge), boundary, the regions (of a union its pair, of a bridge pocket and exterior), 1 where it
-- was taken and 0 where it was refused, and the rank of what it was refused by.
abbrev pub numbers_per_ranked : ℕ
numbers_per_ranked = 6

unfoldable pub flat_ranked : List (Listed Proposal) → List ℕ
flat_ranked [] = []
flat_ranked (r ∷ l) = r.item.kind ∷ r.item.index ∷ r.item.first ∷ r.item.second ∷ bit r.taken ∷ r.by ∷ flat_ranked l
