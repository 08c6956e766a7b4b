-- Which boundaries of the island have a printed row: one exactly when its counterpart has. With the premises of the starting maps, counterparts have the same
-- rank in row order (`rest-kept`); with those of the maps as lent, the same rank in the lists as lent (`rest-kept-lent`). Assumes `Alike`.
use Rattle.std.specs.Prelude.{ℕ, ◌≡◌, refl, Bool, true, false, ◌||◌, cond, List, [], ◌∷◌}
use Rattle.std.proofs.Common.{arith, ap, ◌∙◌, true≢false, eqb-true}
use Rattle.std.proofs.Math.Path.{sym}
use Rattle.std.proofs.Math.Dec.{eqb}
use Rattle.definitions.specs.Scan.{any, filter}
use Rattle.definitions.specs.Grid.{Map}
use Rattle.definitions.specs.Rows.{Row}
use Rattle.laws.specs.ListLaws.Lists.{any-ren}
use Rattle.laws.specs.ListLaws.Members.{filter_passes}
use Rattle.laws.specs.OrderLaws.Ranks.{rank-eqb}
use Rattle.island.specs.Premises.{cuts_island, rank_of, Alike, ranked, island_only}
use Rattle.island.specs.Restrict.{cuts_lt}
use Rattle.rest_definitions.specs.RowOrder.{start_map}
use Rattle.rest_definitions.specs.Rest.{rest_rows}
use Rattle.rest.specs.StartMaps.{start-count}
use Rattle.rest.proofs.IslandRest.{final-kept}
use Rattle.rest.proofs.LentIsland.{rest-island-lent}
use Rattle.rest.specs.KeptAlike.{has_row, number_at, place_kept}

-- with the premises of the starting maps, taken in row order with canonical endpoints
module _ (M M' : Map) (isl : ℕ → Bool) (A : Alike (start_map M) (start_map M') isl) where
  abbrev S : Map
  S = start_map M

  abbrev S' : Map
  S' = start_map M'

  pub rest-kept : (k k' : ℕ) → cuts_island S isl k ≡ true → cuts_island S' isl k' ≡ true → rank_of S isl k ≡ rank_of S' isl k'
      → has_row (number_at M k) (rest_rows M) ≡ has_row (number_at M' k') (rest_rows M')
  rest-kept k k' h h' e =
      place_kept M k (omega (arith, cuts_lt S isl k h, start-count M))
      ∙ final-kept S S' isl A k k' h h' e
      ∙ sym (place_kept M' k' (omega (arith, cuts_lt S' isl k' h', start-count M')))

-- ---- by the number in the list as lent

any-passing : (f p : Row → Bool) → ((r : Row) → f r ≡ true → p r ≡ true) → (rows : List Row) → any f (filter p rows) ≡ any f rows
unfolding any filter
any-passing f p h [] = refl
any-passing f p h (r ∷ rows) = go (f r) refl (p r) refl (any-passing f p h rows)
  where
    go : (a : Bool) → f r ≡ a → (b : Bool) → p r ≡ b → any f (filter p rows) ≡ any f rows
        → any f (cond b (r ∷ filter p rows) (filter p rows)) ≡ (f r || any f rows)
    go a e true k ih = ap (λ c. f r || c) ih
    go true e false k ih = absurd (true≢false (sym (h r e) ∙ k))
    go false e false k ih = ih ∙ ap (λ c. c || any f rows) (sym e)

-- one that cuts the island has a row when its rank has one among the island's
pub row-ranked : (M : Map) (isl : ℕ → Bool) (i : ℕ) (rows : List Row) → cuts_island M isl i ≡ true
    → has_row i rows ≡ has_row (rank_of M isl i) (island_only M isl rows)
unfolding rank_of
row-ranked M isl i rows h =
    sym (any-passing (λ r. eqb i r.number) (λ r. cuts_island M isl r.number) (λ r e. ap (cuts_island M isl) (sym (eqb-true i r.number e)) ∙ h) rows)
    ∙ any-ren (ranked M isl) (λ r. cuts_island M isl r.number ≡ true) (λ r. eqb i r.number) (λ r. eqb (rank_of M isl i) r.number) (λ r k. rank-eqb (cuts_island M isl) i r.number h k)
    (filter_passes (λ r. cuts_island M isl r.number) rows)

-- with the premises of the maps as lent
pub rest-kept-lent : (M M' : Map) (isl : ℕ → Bool) → Alike M M' isl
    → (i j : ℕ) → cuts_island M isl i ≡ true → cuts_island M' isl j ≡ true → rank_of M isl i ≡ rank_of M' isl j
    → has_row i (rest_rows M) ≡ has_row j (rest_rows M')
rest-kept-lent M M' isl A i j h k e =
    row-ranked M isl i (rest_rows M) h ∙ (λ t. has_row (e t) (rest-island-lent M M' isl A t)) ∙ sym (row-ranked M' isl j (rest_rows M') k)
