-- THE ISLAND OF A RUN TO REST (document 02, request 4): "An island edited by itself must still leave its neighbour's final rows alike, as 01 has it for
-- demand 3, and in the same order, under the mission's premises for the starting map, taken in row order with canonical endpoints". The two runs may need
-- different numbers of rounds; rounds beyond the last change nothing, so that both are what a number of rounds that is enough for both leaves
-- (`rested-iterate`), and after equally many passes what is kept of the island is the same (`IslandPasses`). Assumes `Alike` of the starting maps.
use Rattle.std.specs.Prelude.{ℕ, ◌+◌, ◌≤◌, ◌≡◌, refl, Bool, false, ◌||◌, cond, get_or, eqb}
use Rattle.std.proofs.Common.{arith, ap, subst, ◌∙◌, true≢false, eqb-true}
use Rattle.std.proofs.Math.Path.{sym, ap₂}
use Rattle.std.proofs.Math.Bool.{true}
use mathlib.Core.List.{List, [], ◌∷◌, map, map-map}
use Rattle.definitions.specs.Scan.{any, filter, member, run}
use Rattle.definitions.specs.Grid.{Map, no_boundary, span_count}
use Rattle.definitions.specs.Rows.{Row}
use Rattle.laws.specs.ListLaws.Lists.{all_map, filter-ren}
use Rattle.laws.specs.ListLaws.Members.{filter_passes}
use Rattle.laws.specs.ListLaws.NumberLists.{member-ren}
use Rattle.laws.specs.ListLaws.Scans.{all_every, map_ext}
use Rattle.laws.specs.OrderLaws.Ranks.{rank-eqb}
use Rattle.island.specs.Premises.{cuts_island, cutting, rank_of, Island, Alike, ranked, island_only}
use Rattle.rest_definitions.specs.RowOrder.{start_map}
use Rattle.rest_definitions.specs.Rest.{rested}
use Rattle.rest.specs.Rounds.{iterate, rested-iterate}
use Rattle.rest.specs.IslandPasses.{ranks, cutting_at, Together}
use Rattle.rest.proofs.IslandPasses.{together-start, together-iterate}
use Rattle.rest.specs.IslandRest.{row_at, final_rows}

-- ---- of one map: the island's rows go by ranks

-- a filter that i passes says nothing on whether i is there
member_filter : (p : ℕ → Bool) (i : ℕ) (l : List ℕ) → p i ≡ true → member i (filter p l) ≡ member i l
unfolding member any filter
member_filter p i [] h = refl
member_filter p i (x ∷ l) h = go (p x) refl (eqb i x) refl (member_filter p i l h)
  where
    go : (b : Bool) → p x ≡ b → (c : Bool) → eqb i x ≡ c → any (eqb i) (filter p l) ≡ any (eqb i) l
        → any (eqb i) (cond b (x ∷ filter p l) (filter p l)) ≡ (eqb i x || any (eqb i) l)
    go true q c e ih = ap (λ t. eqb i x || t) ih
    go false q true e ih = absurd (true≢false (sym h ∙ ap p (eqb-true i x e) ∙ q))
    go false q false e ih = ih ∙ ap (λ t. t || any (eqb i) l) (sym e)

module _ (N : Map) (isl : ℕ → Bool) (I : Island N isl) where
  -- the row of rank q among those that cut the island
  abbrev rank_row : ℕ → Row
  rank_row q = record { number = q; line = (get_or (cutting N isl) q no_boundary).endpoints }

  row-rank : (k : ℕ) → cuts_island N isl k ≡ true → ranked N isl (row_at N k) ≡ rank_row (rank_of N isl k)
  row-rank k h = λ i. record { number = rank_of N isl k; line = (sym (cutting_at N isl I k h) i).endpoints }

  rows-ranks : (ps : List ℕ) → island_only N isl (map (row_at N) ps) ≡ map rank_row (ranks N isl ps)
  rows-ranks ps =
      ap (map (ranked N isl)) (sym (filter-ren (row_at N) (λ k. k ≡ k) (cuts_island N isl) (λ r. cuts_island N isl r.number) (λ k h. refl) (all_every (λ k. refl) ps)))
      ∙ map-map (ranked N isl) (row_at N) (filter (cuts_island N isl) ps)
      ∙ map_ext (all_map row-rank (filter_passes (cuts_island N isl) ps))
      ∙ sym (map-map rank_row (rank_of N isl) (filter (cuts_island N isl) ps))

-- ---- of two

module _ (N N' : Map) (isl : ℕ → Bool) (A : Alike N N' isl) where
  -- the run comes to what n rounds leave
  rounds-enough : (M : Map) → Island M isl → (n : ℕ) → span_count M ≤ n → (rested M).places ≡ iterate M n (run 0 (span_count M))
  rounds-enough M I n h = rested-iterate M n (omega (arith, I.equally_many)) ∙ ap (λ m. iterate M n (run 0 m)) I.equally_many

  -- at rest, what is kept of the island has the same ranks among the starting boundaries that cut it
  pub together-rested : Together N N' isl A (rested N).places (rested N').places
  together-rested =
      let n = span_count N + span_count N' in
      subst (λ ps. Together N N' isl A ps (rested N').places) (sym (rounds-enough N A.island n (omega arith)))
      (subst (λ ps. Together N N' isl A (iterate N n (run 0 (span_count N))) ps) (sym (rounds-enough N' A.island' n (omega arith)))
      (together-iterate N N' isl A n (together-start N N' isl A)))

  -- the final rows of two maps in row order: those of the island are alike and in the same order
  pub final_rows_lem : island_only N isl (final_rows N) ≡ island_only N' isl (final_rows N')
  final_rows_lem =
      rows-ranks N isl A.island (rested N).places
      ∙ ap₂ (λ c l. map (λ q. record { number = q; line = (get_or c q no_boundary).endpoints }) l) A.counterparts together-rested.same
      ∙ sym (rows-ranks N' isl A.island' (rested N').places)

  -- a boundary that cuts there is kept to the end in the one exactly when its counterpart is in the other
  pub final-kept : (i j : ℕ) → cuts_island N isl i ≡ true → cuts_island N' isl j ≡ true → rank_of N isl i ≡ rank_of N' isl j
      → member i (rested N).places ≡ member j (rested N').places
  unfolding rank_of
  final-kept i j h k e =
      member-rank N i (rested N).places h ∙ ap₂ member e together-rested.same ∙ sym (member-rank N' j (rested N').places k)
    where
      member-rank : (M : Map) (i : ℕ) (ps : List ℕ) → cuts_island M isl i ≡ true → member i ps ≡ member (rank_of M isl i) (ranks M isl ps)
      member-rank M i ps h =
          sym (member_filter (cuts_island M isl) i ps h)
          ∙ member-ren (rank_of M isl) (λ k. cuts_island M isl k ≡ true) (λ a b p q. rank-eqb (cuts_island M isl) a b p q) i h (filter_passes (cuts_island M isl) ps)

-- ---- of maps as lent

-- "under the mission's premises for the starting map, taken in row order with canonical endpoints"
module _ (M M' : Map) (isl : ℕ → Bool) (A : Alike (start_map M) (start_map M') isl) where
  pub rest-island : island_only (start_map M) isl (final_rows (start_map M)) ≡ island_only (start_map M') isl (final_rows (start_map M'))
  rest-island = final_rows_lem (start_map M) (start_map M') isl A
