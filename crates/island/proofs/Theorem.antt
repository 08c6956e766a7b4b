-- DEMAND 3 over the definitions, for all three passes. Both maps, restricted to the island, are one map (`restrict_same`); and a pass over a map, seen inside
-- the island, is the pass over the restricted map (`framed` and the lemmas on each pass). So what either keeps on the island is what that one map keeps.
-- Its form over two calls stands in crates/island_calls.
use Rattle.std.specs.Prelude.{ℕ, zero, suc, ◌≡◌, refl, Bool, true, not, cond, List, [], length}
use Rattle.std.proofs.Common.{sym, ap, ap₂, ◌∙◌, eq-eqb}
use Rattle.definitions.specs.Scan.{member}
use Rattle.definitions.specs.Grid.{Map, span_count, boundary_of}
use Rattle.definitions.specs.Context.{Context, context_of}
use Rattle.definitions.specs.Rows.{Row, rows_from, rows_of, removed_by, removed_of, is_kept}
use Rattle.laws.specs.OrderLaws.Ranks.{rank}
use Rattle.island.specs.Premises.{Island, Alike, cuts_island, rank_of, island_only, island_rows}
use Rattle.island.specs.Frame.{Frame, Ids}
use Rattle.island.proofs.Framed.{framed, ids}
use Rattle.island.specs.Restrict.{restrict}
use Rattle.island.proofs.Same.{restrict_same}
use Rattle.island.specs.FrameJunctions
use Rattle.island.specs.FrameMouths
use Rattle.island.specs.FrameInteriors
use Rattle.island.specs.FrameRows.{rows_in}

-- a boundary inside is removed from the large context exactly when its counterpart is removed from the small one
removed_in : {L S : Context} {in_b in_r : ℕ → Bool} → Frame L S in_b in_r → Ids L in_b → (pass i : ℕ) → in_b i ≡ true → member i (removed_by pass L) ≡ member (rank in_b i) (removed_by pass S)
unfolding removed_by member
removed_in F D zero i b = refl
removed_in F D (suc zero) i b = FrameMouths.removed_in F D i b
removed_in F D (suc (suc zero)) i b = FrameInteriors.removed_in F i b
removed_in F D (suc (suc (suc zero))) i b = FrameJunctions.removed_in F i b
removed_in F D (suc (suc (suc (suc n)))) i b = refl

-- with equally many spans and boundaries, the pass runs
runs : (pass : ℕ) (M : Map) → length M.boundaries ≡ span_count M → removed_of pass M ≡ removed_by pass (context_of M)
unfolding removed_of
runs pass M e = ap (λ b. cond b (removed_by pass (context_of M)) []) (eq-eqb (length M.boundaries) (span_count M) e)

abbrev kept_rows : ℕ → Context → List Row
kept_rows pass C = rows_from C.count C.boundary (λ i. not (member i (removed_by pass C)))

rows_run : (pass : ℕ) (M : Map) → length M.boundaries ≡ span_count M → rows_of pass M ≡ kept_rows pass (context_of M)
unfolding rows_of context_of
rows_run pass M e = ap₂ (λ n l. rows_from n (boundary_of M) (λ i. not (member i l))) e (runs pass M e)

-- the island's rows are the rows of the restricted map
rows_restricted : (pass : ℕ) (M : Map) (isl : ℕ → Bool) → Island M isl → island_rows pass M isl ≡ kept_rows pass (context_of (restrict M isl))
unfolding rank_of context_of
rows_restricted pass M isl I =
    ap (island_only M isl) (rows_run pass M I.equally_many)
    ∙ rows_in (framed M isl I) _ _ (λ i b. ap not (removed_in (framed M isl I) (ids M isl I) pass i b))

pub kept_restricted : (pass : ℕ) (M : Map) (isl : ℕ → Bool) → Island M isl → (i : ℕ) → cuts_island M isl i ≡ true → is_kept pass M i ≡ not (member (rank_of M isl i) (removed_by pass (context_of (restrict M isl))))
unfolding is_kept rank_of
kept_restricted pass M isl I i b =
    ap not (ap (member i) (runs pass M I.equally_many) ∙ removed_in (framed M isl I) (ids M isl I) pass i b)

module _ (pass : ℕ) (M M' : Map) (isl : ℕ → Bool) (A : Alike M M' isl) where
  -- "With all other rows struck out, both outputs have equally many, alike one by one from the first."
  pub island_rows_lem : island_rows pass M isl ≡ island_rows pass M' isl
  island_rows_lem =
      rows_restricted pass M isl A.island
      ∙ ap (λ K. kept_rows pass (context_of K)) (restrict_same M M' isl A)
      ∙ sym (rows_restricted pass M' isl A.island')

  -- "a boundary that cuts there is kept under the rules of 2 in the one exactly when its counterpart is kept in the other" (demand 3)
  pub island-kept : (i j : ℕ) → cuts_island M isl i ≡ true → cuts_island M' isl j ≡ true → rank_of M isl i ≡ rank_of M' isl j → is_kept pass M i ≡ is_kept pass M' j
  island-kept i j h k e =
      kept_restricted pass M isl A.island i h
      ∙ ap₂ (λ n K. not (member n (removed_by pass (context_of K)))) e (restrict_same M M' isl A)
      ∙ sym (kept_restricted pass M' isl A.island' j k)
