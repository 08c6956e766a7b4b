-- Which boundaries of the island have a printed row: one exactly when its counterpart has. With the premises of the starting maps, counterparts have the same
-- rank in row order (`rest-kept`); with those of the maps as lent, the same rank in the lists as lent (`rest-kept-lent`). Assumes `Alike`.
use Rattle.std.specs.Prelude.{ℕ, ◌<◌, ◌≡◌, refl, Bool, true, false, List, length}
use Rattle.std.proofs.Common.{arith, ap, eqb-true, eq-eqb, ne_eqb}
use Rattle.std.proofs.Math.Path.{sym}
use Rattle.std.proofs.Math.ListN.{get_or}
use Rattle.std.proofs.Math.Dec.{eqb}
use Rattle.std.proofs.lemmas.Bool.{eqb-false}
use Rattle.definitions.specs.Scan.{any, member}
use Rattle.definitions.specs.Grid.{Map}
use Rattle.definitions.specs.Rows.{Row}
use Rattle.laws.specs.ListLaws.Lists.{all_map, any-ren}
use Rattle.rest_definitions.specs.RowOrder.{start_rows, no_row, start_map}
use Rattle.rest_definitions.specs.Rest.{rested, rest_rows}
use Rattle.rest.specs.StartMaps.{start-boundaries}
use Rattle.rest.specs.Runs.{rested-reached, reached-ascends}
use Rattle.rest.specs.PrintedIsland.{numbers-once}

-- boundary i has a row among these
abbrev pub has_row : ℕ → List Row → Bool
has_row i rows = any (λ r. eqb i r.number) rows

-- ---- by the place in row order

-- the number, in the list as lent, of the boundary at place k of the starting list
abbrev pub number_at : Map → ℕ → ℕ
number_at M k = (get_or (start_rows M) k no_row).number

module _ (M : Map) where
  abbrev size : ℕ
  size = length M.boundaries

  number-eqb : (k j : ℕ) → k < size → j < size → eqb k j ≡ eqb (number_at M k) (number_at M j)
  number-eqb k j h l = go (eqb k j) refl
    where
      go : (b : Bool) → eqb k j ≡ b → b ≡ eqb (number_at M k) (number_at M j)
      go true e = sym (eq-eqb (number_at M k) (number_at M j) (ap (number_at M) (eqb-true k j e)))
      go false e = sym (ne_eqb (number_at M k) (number_at M j) (λ q. eqb-false k j e (numbers-once M k j h l q)))

  -- a boundary has a printed row exactly when its place is kept to the end
  pub place_kept : (k : ℕ) → k < size → has_row (number_at M k) (rest_rows M) ≡ member k (rested (start_map M)).places
  unfolding rest_rows member
  place_kept k h =
      sym
      (any-ren (λ j. get_or (start_rows M) j no_row) (λ j. j < size) (eqb k) (λ r. eqb (number_at M k) r.number) (λ j l. number-eqb k j h l)
      (all_map (λ j l. omega (arith, l, start-boundaries M)) (reached-ascends M (rested-reached M)).within))
