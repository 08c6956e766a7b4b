-- What `with_run` is asked for where the cells of a stretch are added, and what it gives: the record of the region's cells before the stretch's end. Assumes nothing.
use Prim.Native.Nat.{ℕ, zero, suc, ◌+◌, ◌-◌, ◌*◌, ◌/◌, ◌%◌, ◌≤◌, ◌<◌}
use native.Mathlib.Omega.{arith}
use native.Mathlib.Nat.{mul-le-mul, div-add-mod'}
use mathlib.Core.Path.{◌≡◌, refl, sym, ap, ap₂, ◌∙◌, subst}
use mathlib.Core.List.{List}
use lib.ListN.{length, get_or, take, drop, length-drop}
use lib.Seq.{get_or-take, get_or-drop, length-take-le}
use Rattle.definitions.specs.Limits.{max_side}
use Rattle.definitions.specs.Grid.{Map, cell_count, elevation}
use Rattle.definitions.specs.Partition.{labels}
use Rattle.definitions.specs.RegionRecord.{Region}
use Rattle.laws.specs.FloatLaws.MapPixels.{side-bounds}
use Rattle.grid_steps.proofs.StepTests.{cell-y}
use Rattle.context.specs.Records.{max_cells, Counted}
use Rattle.context.specs.Cells.{add_cell, add_run}
use Rattle.context.specs.Runs.{FittingRun}
use Rattle.context.proofs.RecordLaws.{record_where}
use Rattle.context.proofs.RecordCounts.{where_counted, where_cells, where_left, where_right}
use Rattle.stretches.specs.Stretches.{region_up_to, Adding}
use Rattle.stretches.proofs.UpTo.{is_of, up_where, up_run, up-few}

-- a run of the bytes by themselves
add_run_part : (s : Region) (x y : ℕ) (part bytes : List ℕ) (c n : ℕ) → ((i : ℕ) → i < n → get_or part (0 + i) 0 ≡ get_or bytes (c + i) 0) → add_run s x y part 0 n ≡ add_run s x y bytes c n
unfolding add_run add_cell
add_run_part s x y part bytes c zero h = refl
add_run_part s x y part bytes c (suc n) h = ap₂ (λ r b. add_cell r (x + n) y b) (add_run_part s x y part bytes c n (λ i l. h i (omega arith))) (h n (omega arith))

module _ {M : Map} {w : ℕ} {bytes : List ℕ} {from end r : ℕ} {s : Region} (A : Adding M w bytes from end r s) where
  few : cell_count M ≤ max_cells
  unfolding cell_count
  few = mul-le-mul (side-bounds M.height A.high).1 (side-bounds M.width A.wide).1

  pub wide : 0 < w
  wide = rw A.width at (side-bounds M.width A.wide).0

  is_where : s ≡ record_where M (is_of (labels M) r A.numbered from)
  is_where = A.before ∙ up_where (labels M) r A.numbered M from

  pub adding-counted : Counted s
  adding-counted = rw is_where (where_counted M (is_of (labels M) r A.numbered from) few)

  -- the stretch begins at column from % w and ends in the same row
  columns : from % M.width + (end - from) ≤ M.width
  columns = omega (arith, div-add-mod' from M.width, A.row, A.more, next)
    where
      next : (from / M.width + 1) * M.width ≡ from / M.width * M.width + M.width
      next = omega arith

  row : from / M.width < max_side
  unfolding cell_count
  row = omega (arith, cell-y from M.width M.height inside, (side-bounds M.height A.high).1)
    where
      inside : from < cell_count M
      inside = omega (arith, A.more, A.inside)

  pub stretch-inside : (from ≤ end) × (end ≤ length bytes)
  stretch-inside = (omega (arith, A.more), omega (arith, A.inside, A.bytes_long))

  -- its bytes
  abbrev part : List ℕ
  part = take (end - from) (drop from bytes)

  part-length : length part ≡ end - from
  part-length = length-take-le (end - from) (drop from bytes) (omega (arith, length-drop from bytes, stretch-inside.0, stretch-inside.1))

  part_at : (i : ℕ) → i < end - from → get_or part (0 + i) 0 ≡ get_or bytes (from + i) 0
  part_at i l = ap (λ k. get_or part k 0) (omega arith) ∙ get_or-take (end - from) (drop from bytes) i 0 l ∙ get_or-drop from bytes i 0

  pub adding-fits : FittingRun s (from % w) (from / w) part 0 (length part)
  adding-fits =
      record {
        within =
            record {
              some = omega (arith, A.more, part-length);
              inside = omega arith;
              narrow = omega (arith, columns, (side-bounds M.width A.wide).1, part-length);
              counted = λ k h l. low k (omega (arith, l, part-length));
            };
        room = omega (arith, ap (λ s. s.cells) is_where, where_cells M (is_of (labels M) r A.numbered from), up-few (labels M) r A.numbered from (cell_count M), A.more, A.inside, few, part-length);
        columns = omega (arith, rw A.width at in_map, part-length);
        row = rw A.width at row;
        left = rw is_where (where_left M (is_of (labels M) r A.numbered from) A.wide);
        right = rw is_where (where_right M (is_of (labels M) r A.numbered from) A.wide);
      }
    where
      low : (k : ℕ) → k < end - from → elevation (get_or part k 0) < 4
      low k l =
          subst (λ b. elevation b < 4) (sym (ap (λ i. get_or part i 0) (omega arith) ∙ part_at k l)) (rw A.cells at (A.low (from + k) (omega arith) (omega (arith, l))))

      in_map : from % M.width + (end - from) ≤ max_side
      in_map = omega (arith, columns, (side-bounds M.width A.wide).1)

  pub added : {t : Region} → t ≡ add_run s (from % w) (from / w) part 0 (length part) → t ≡ region_up_to M (labels M) r end
  added e =
      e
      ∙ ap (add_run s (from % w) (from / w) part 0) part-length
      ∙ add_run_part s (from % w) (from / w) part bytes from (end - from) part_at
      ∙ rw (← A.width, ← A.cells, A.before) refl
      ∙ up_run (labels M) r A.numbered M A.wide A.high from (end - from) (omega (arith, A.more, A.inside)) (omega (arith, A.more, A.row))
      (λ d h l. A.mine d h (omega (arith, A.more, l))) (λ d h l. A.low d h (omega (arith, A.more, l)))
      ∙ ap (region_up_to M (labels M) r) (omega (arith, A.more))
