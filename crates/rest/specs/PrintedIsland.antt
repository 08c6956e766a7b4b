-- The island of a run to rest over the printed rows, with the premises in row order: a printed row bears a number of the list as lent, by which its place in
-- the starting list is found (`place_of`), for each boundary stands there once (`numbers-once`). Two printed rows are alike when their endpoints agree and
-- their boundaries have the same rank, in row order, among those cutting the island. Assumes `Alike` of the starting maps.
use Prim.Native.Nat.{ℕ, zero, suc, ◌+◌, ◌≤◌, ◌<◌}
use native.Mathlib.Omega.{arith}
use Rattle.std.specs.Prelude.{◌≡◌, refl, false, cond, get_or, Option, None, Some}
use Rattle.std.proofs.Math.Path.{sym, ap}
use Rattle.std.proofs.Common.{ap₂, ◌∙◌, length-append, eqb-true, eq-eqb, ne_eqb}
use Rattle.std.proofs.Math.Bool.{Bool, true}
use mathlib.Core.List.{List, [], ◌∷◌, map, map-map}
use Rattle.std.proofs.Math.ListN.{length}
use Rattle.std.proofs.lemmas.List.{length-map}
use Rattle.std.proofs.Math.Dec.{eqb}
use Rattle.definitions.specs.Scan.{filter, collect, only_if, count_below, bit}
use Rattle.definitions.specs.Sort.{list_lt}
use Rattle.definitions.specs.Grid.{Map, canonical, boundary_of}
use Rattle.definitions.specs.Rows.{Row, row_key, rows_from}
use Rattle.definitions.specs.Refusals.{first_below_lem}
use Rattle.laws.specs.ListLaws.FirstBelow.{first_found}
use Rattle.laws.specs.ListLaws.Lists.{All, all_map, all_filter, filter-append, filter-ren}
use Rattle.laws.specs.ListLaws.Scans.{picked-length, map_ext}
use Rattle.laws.specs.ListLaws.SortedMembers.{length-sort}
use Rattle.laws.specs.OrderLaws.StableSort.{filter-sort}
use Rattle.laws.specs.OrderLaws.ListOrder.{Three, less, same, over, three, by_key}
use Rattle.laws.specs.OrderLaws.Ranks.{rank_lt}
use Rattle.island.specs.Premises.{cuts_island, rank_of, ranked, island_only}
use Rattle.rest_definitions.specs.RowOrder.{start_rows, no_row, turned, start_map}
use Rattle.rest_definitions.specs.Rest.{rested, rest_rows}
use Rattle.rest.specs.Picking.{filter-picked, first_none}
use Rattle.rest.specs.StartMaps.{start-length, start-boundaries, start-boundary}
use Rattle.rest.specs.Runs.{rested-reached, reached-ascends}
use Rattle.rest.specs.IslandRest.{row_at, final_rows}

-- ---- a number stands once

count_none : (m n : ℕ) → n ≤ m → count_below n (λ k. eqb m k) ≡ 0
unfolding count_below
count_none m zero h = refl
count_none m (suc n) h = ap₂ (λ c b. c + bit b) (count_none m n (omega arith)) (ne_eqb m n (λ e. omega arith))

count_one : (m n : ℕ) → count_below n (λ k. eqb m k) ≤ 1
unfolding count_below
count_one m zero = omega arith
count_one m (suc n) = go (eqb m n) refl (count_one m n)
  where
    go : (b : Bool) → eqb m n ≡ b → count_below n (λ k. eqb m k) ≤ 1 → count_below n (λ k. eqb m k) + bit b ≤ 1
    go true e ih = omega (arith, count_none m n (omega (arith, eqb-true m n e)))
    go false e ih = omega (arith, ih)

-- how many a filter leaves, by place
filter-count : {A : Type 0} (p : A → Bool) (d : A) (l : List A) → length (filter p l) ≡ count_below (length l) (λ k. p (get_or l k d))
filter-count p d l =
    sym (length-map (filter p l) (λ x. x)) ∙ ap length (filter-picked p (λ x. x) d l) ∙ picked-length (λ k. p (get_or l k d)) (λ k. get_or l k d) (length l)

count-collected : (p : Row → Bool) (row : ℕ → Row) (n : ℕ) → length (filter p (collect n (λ i. only_if true (row i)))) ≡ count_below n (λ k. p (row k))
unfolding collect filter count_below
count-collected p row zero = refl
count-collected p row (suc n) =
    ap length (filter-append p (collect n (λ i. only_if true (row i))) (row n ∷ []))
    ∙ length-append (filter p (collect n (λ i. only_if true (row i)))) (filter p (row n ∷ []))
    ∙ ap₂ ◌+◌ (count-collected p row n) (go (p (row n)))
  where
    go : (b : Bool) → length (cond b (row n ∷ []) []) ≡ bit b
    go true = refl
    go false = refl

module _ (M : Map) where
  abbrev S : Map
  S = start_map M

  abbrev size : ℕ
  size = length M.boundaries

  abbrev start_row : ℕ → Row
  start_row k = get_or (start_rows M) k no_row

  -- at most one row of the starting list has number m
  one_row : (m : ℕ) → count_below size (λ k. eqb m (start_row k).number) ≤ 1
  unfolding start_rows rows_from
  one_row m =
      let row : ℕ → Row = λ i. record { number = i; line = canonical (boundary_of M i).endpoints } in
      let listed = collect size (λ i. only_if true (row i)) in
      let lt : Row → Row → Bool = λ r s. list_lt (row_key r) (row_key s) in
      let p : Row → Bool = λ r. eqb m r.number in
      omega (
        arith,
        ap (λ n. count_below n (λ k. eqb m (start_row k).number)) (start-length M),
        filter-count p no_row (start_rows M),
        ap length (filter-sort lt (by_key row_key) p listed),
        length-sort lt (filter p listed),
        count-collected p row size,
        count_one m size,
      )

  numbers_apart : (i j : ℕ) → i < j → j < size → (start_row i).number ≡ (start_row j).number → ⊥
  numbers_apart i j h k e =
      let m = (start_row i).number in
      let p : ℕ → Bool = λ k. eqb m (start_row k).number in
      let at_i : p i ≡ true = eq-eqb m (start_row i).number refl in
      let at_j : p j ≡ true = eq-eqb m (start_row j).number e in
      omega (arith, one_row m, rank_lt p i j at_i h, rank_lt p j size at_j k)

  -- each boundary stands once in the starting list
  pub numbers-once : (i j : ℕ) → i < size → j < size → (start_row i).number ≡ (start_row j).number → i ≡ j
  numbers-once i j h k e = go (three i j)
    where
      go : Three i j → i ≡ j
      go (less l) = absurd (numbers_apart i j l k e)
      go (same q) = q
      go (over l) = absurd (numbers_apart j i l h (sym e))

  -- ---- the place of a boundary in row order

  abbrev or_zero : Option ℕ → ℕ
  or_zero None = 0
  or_zero (Some k) = k

  -- the place in the starting list of the boundary of this number
  unfoldable pub place_of : ℕ → ℕ
  unfolding first_below_lem start_rows
  place_of n = or_zero (first_below_lem size (λ k. only_if (eqb n (start_row k).number) k))

  pub place_is : (k : ℕ) → k < size → place_of (start_row k).number ≡ k
  unfolding place_of
  place_is k h =
      let n = (start_row k).number in
      let f : ℕ → Option ℕ = λ j. only_if (eqb n (start_row j).number) j in
      ap or_zero
      (first_found f size k k h
      (first_none f k (λ j l. ap (λ b. only_if b j) (ne_eqb n (start_row j).number (λ e. numbers_apart j k l h (sym e)))))
      (ap (λ b. only_if b k) (eq-eqb n (start_row k).number refl)))

  -- "With all other rows struck out": of printed rows those of boundaries that cut the island, each with its rank in row order
  abbrev pub printed_island : (ℕ → Bool) → List Row → List Row
  printed_island isl rows =
      map (λ r. record { number = rank_of S isl (place_of r.number); line = r.line }) (filter (λ r. cuts_island S isl (place_of r.number)) rows)

  pub printed-final : (isl : ℕ → Bool) → printed_island isl (rest_rows M) ≡ island_only S isl (final_rows S)
  unfolding rest_rows turned
  printed-final isl =
      ap (map seen) (sym (filter-ren start_row (λ k. k < size) (cuts_island S isl) (λ r. cuts_island S isl (place_of r.number)) (λ k h. ap (cuts_island S isl) (sym (place_is k h))) places_in))
      ∙ map-map seen start_row (filter (cuts_island S isl) places)
      ∙ map_ext (all_map one (all_filter (cuts_island S isl) places_in))
      ∙ sym (map-map (ranked S isl) (row_at S) (filter (cuts_island S isl) places))
      ∙ ap (map (ranked S isl)) (filter-ren (row_at S) (λ k. k < size) (cuts_island S isl) (λ r. cuts_island S isl r.number) (λ k h. refl) places_in)
    where
      places : List ℕ
      places = (rested S).places

      places_in : All (λ k. k < size) places
      places_in = all_map (λ k h. omega (arith, start-boundaries M)) (reached-ascends M (rested-reached M)).within

      seen : Row → Row
      seen r = record { number = rank_of S isl (place_of r.number); line = r.line }

      one : (k : ℕ) → k < size → seen (start_row k) ≡ ranked S isl (row_at S k)
      one k h = λ t. record { number = rank_of S isl (place_is k h t); line = (sym (start-boundary M k h) t).endpoints }
