-- The rows: whatever is kept alike inside, the rows of the boundaries inside are the small context's rows, in the same order, with ranks in place of
-- numbers. Rows are sorted by endpoints, then number, and ranks stand in the order of the numbers. Assumes a frame.
use Prim.Native.Nat.{ℕ}
use Rattle.std.specs.Prelude.{◌≡◌, Bool, true, false, ◌&&◌, ◌||◌, [], ◌∷◌, map, Option}
use Rattle.std.proofs.Math.Path.{refl, ap}
use Rattle.std.proofs.Common.{sym, ◌∙◌}
use Rattle.std.proofs.Math.ListN.{length}
use Rattle.definitions.specs.Scan.{filter, collect, only_if}
use Rattle.definitions.specs.Sort.{sort, list_lt}
use Rattle.definitions.specs.Grid.{Segment, canonical}
use Rattle.definitions.specs.Context.{Context, endpoints_key}
use Rattle.definitions.specs.Rows.{Row, row_key, rows_from}
use Rattle.laws.specs.OrderLaws.StableSort.{filter-sort, map-sort}
use Rattle.laws.specs.OrderLaws.ListOrder.{by_key, prefix_lt}
use Rattle.laws.specs.OrderLaws.Ranks.{rank, rank-ltb, rank-eqb, collect-rank}
use Rattle.laws.specs.ListLaws.Options.{on_only, only_map, option_in, option_out}
use Rattle.laws.specs.ListLaws.Members.{filter_passes}
use Rattle.island.specs.Frame.{Frame}

module _ (in_b : ℕ → Bool) where
  abbrev pub ren_row : Row → Row
  ren_row r = record { number = rank in_b r.number; line = r.line }

  abbrev pub in_row : Row → Bool
  in_row r = in_b r.number

  row_key_in : (r s : Row) → in_row r ≡ true → in_row s ≡ true → list_lt (row_key r) (row_key s) ≡ list_lt (row_key (ren_row r)) (row_key (ren_row s))
  unfolding row_key list_lt
  row_key_in r s h k =
      prefix_lt (endpoints_key r.line) (endpoints_key s.line) (r.number ∷ []) (s.number ∷ []) (rank in_b r.number ∷ []) (rank in_b s.number ∷ [])
      (equally_long r.line s.line)
      (λ t. rank-ltb in_b r.number s.number h t || (rank-eqb in_b r.number s.number h k t && false))
    where
      equally_long : (g h : Segment) → length (endpoints_key g) ≡ length (endpoints_key h)
      equally_long g h = refl

module _ {L S : Context} {in_b in_r : ℕ → Bool} (F : Frame L S in_b in_r) where
  pub rows_in : (k k' : ℕ → Bool) → ((i : ℕ) → in_b i ≡ true → k i ≡ k' (rank in_b i)) → map (ren_row in_b) (filter (in_row in_b) (rows_from L.count L.boundary k)) ≡ rows_from S.count S.boundary k'
  unfolding rows_from
  rows_in k k' same =
      ap (map (ren_row in_b)) (filter-sort _ (by_key row_key) (in_row in_b) (collect L.count row))
      ∙ map-sort (ren_row in_b) (λ r. in_row in_b r ≡ true) _ _ (row_key_in in_b) (filter_passes (in_row in_b) (collect L.count row))
      ∙ ap (sort (λ r s. list_lt (row_key r) (row_key s)))
      (collect-rank in_b (in_row in_b) (ren_row in_b) row row' L.count
      (λ i l b.
      option_in (ren_row in_b) (in_row in_b) (on_only (k i) _ b)
      (sym (only_map (ren_row in_b) (k i) (record { number = i; line = canonical (L.boundary i).endpoints }))
      ∙ (λ t. only_if (same i b t) (record { number = rank in_b i; line = canonical (F.boundary i b t).endpoints }))))
      (λ i l b. option_out (in_row in_b) (on_only (k i) _ b))
      ∙ ap (λ n. collect n row') (sym F.count))
    where
      row : ℕ → Option Row
      row i = only_if (k i) (record { number = i; line = canonical (L.boundary i).endpoints })

      row' : ℕ → Option Row
      row' i = only_if (k' i) (record { number = i; line = canonical (S.boundary i).endpoints })
