-- The records of all regions add up to the grid: of every map (`records-add-up`), and of the records at exit of every call that ran a pass and returned 0 (`call-adds-up`), the
-- first R of them, R the number of regions; those beyond are as they were lent and count nowhere. The argument: a cell has a label from 1 to R exactly when it is walkable, so
-- that counting region by region counts each walkable cell once. Assumes nothing.
use Prim.Native.Nat.{ℕ, zero, suc, ◌+◌, ◌<◌}
use native.Mathlib.Omega.{arith}
use Rattle.std.specs.Prelude.{◌≡◌, refl, Bool, true, false, ◌&&◌, List, map, length, get_or, take, drop, eqb, leb}
use Rattle.std.proofs.Math.Path.{sym, ap}
use Rattle.std.proofs.Common.{ap₂, ◌∙◌, le-leb}
use Rattle.std.proofs.Math.Bool.{and-true}
use Rattle.std.proofs.Math.ListN.{length-map}
use Rattle.std.proofs.Math.Seq.{take-append_seam}
use Rattle.definitions.specs.Scan.{count_below, run}
use Rattle.definitions.specs.Grid.{Map, cell_count, cell_at, is_ramp}
use Rattle.definitions.specs.Partition.{labels, region_count, walkable_at}
use Rattle.definitions.specs.RegionRecord.{Region, region_of}
use Rattle.definitions.specs.Context.{context_of}
use Rattle.definitions.specs.Lists.{overwrite}
use Rattle.definitions.specs.Verdict.{Lent, Answer, map_in}
use Rattle.definitions.specs.AtExit.{records_of, call_exit, exit_with, stage_of}
use Rattle.laws.specs.ListLaws.Lists.{length_run}
use Rattle.laws.specs.ListLaws.Below.{count_ext}
use Rattle.laws.specs.RegionLaws.Regions.{label-range, label-blocked}
use Rattle.call_partition.specs.Contract.{Ran}
use Rattle.record_sums.specs.Totals.{total, walkable_cells, walkable_ramp_cells, AddUp}
use Rattle.record_sums.specs.ByLabel.{sum_below, sum_first, count_by_label}

-- ---- along the numbers of the regions

sum_ext : (n : ℕ) {f g : ℕ → ℕ} → ((k : ℕ) → f k ≡ g k) → sum_below n f ≡ sum_below n g
sum_ext n h = λ i. sum_below n (λ k. h k i)

total-run : (f : Region → ℕ) (region : ℕ → Region) (k n : ℕ) → total f (map region (run k n)) ≡ sum_below n (λ i. f (region (i + k)))
unfolding total run sum_below
total-run f region k zero = refl
total-run f region k (suc n) =
    ap₂ (λ a b. a + b) (ap (λ j. f (region j)) first) (total-run f region (suc k) n ∙ sum_ext n (λ i. ap (λ j. f (region j)) (next i)))
    ∙ sym (sum_first n (λ i. f (region (i + k))))
  where
    first : k ≡ 0 + k
    first = omega arith

    next : (i : ℕ) → i + suc k ≡ suc i + k
    next i = omega arith

module _ (M : Map) where
  abbrev label : ℕ → ℕ
  label c = get_or (labels M) c 0

  -- a label of a region exactly where the cell is walkable
  in_range_lem : (c : ℕ) → c < cell_count M → (leb 1 (label c) && leb (label c) (region_count M)) ≡ walkable_at M c
  in_range_lem c h = go (walkable_at M c) refl
    where
      go : (b : Bool) → walkable_at M c ≡ b → (leb 1 (label c) && leb (label c) (region_count M)) ≡ b
      go true w = ap₂ ◌&&◌ (le-leb 1 (label c) (label-range M c h w).0) (le-leb (label c) (region_count M) (label-range M c h w).1)
      go false w = ap (λ k. leb 1 k && leb k (region_count M)) (label-blocked M c h w)

  -- what f counts of a record is what passes g of the region's cells
  adds-up : (f : Region → ℕ) (g : ℕ → Bool) → ((r : ℕ) → f (region_of M (labels M) r) ≡ count_below (cell_count M) (λ c. eqb (label c) r && g c))
      → total f (records_of (context_of M)) ≡ count_below (cell_count M) (λ c. walkable_at M c && g c)
  unfolding records_of context_of
  adds-up f g counts =
      total-run f (region_of M (labels M)) 1 (region_count M)
      ∙ sum_ext (region_count M) (λ k. ap (λ r. f (region_of M (labels M) r)) (after k) ∙ counts (suc k))
      ∙ count_by_label (cell_count M) label g (region_count M)
      ∙ count_ext (cell_count M) _ _ (λ c h. ap (λ b. b && g c) (in_range_lem c h))
    where
      after : (k : ℕ) → k + 1 ≡ suc k
      after k = omega arith

  pub records-add-up : AddUp M (records_of (context_of M))
  unfolding region_of walkable_cells walkable_ramp_cells
  records-add-up =
      record {
        ramps = adds-up (λ s. s.ramp_cells_lem) (λ c. is_ramp (cell_at M c)) (λ r. refl);
        cells =
            adds-up (λ s. s.cells) (λ c. true) (λ r. count_ext (cell_count M) _ _ (λ c h. sym (and-true (eqb (label c) r))))
            ∙ count_ext (cell_count M) _ _ (λ c h. and-true (walkable_at M c));
      }

  record_count : length (records_of (context_of M)) ≡ region_count M
  unfolding records_of context_of
  record_count = length-map (run 1 (region_count M)) (region_of M (labels M)) ∙ length_run 1 (region_count M)

  -- a list that begins with them
  front : (old : List Region) → take (region_count M) (overwrite (records_of (context_of M)) old) ≡ records_of (context_of M)
  front old =
      ap (λ n. take n (overwrite (records_of (context_of M)) old)) (sym record_count)
      ∙ take-append_seam (records_of (context_of M)) (drop (length (records_of (context_of M))) old)

-- ---- over calls: what was lent, the answer, and at exit labels, masks, queue, tallies, pairs, records s and output

pub call-adds-up : {L : Lent} {a : Answer} {l m q t p : List ℕ} {s : List Region} {o : List ℕ} → Ran L a l m q t p s o → a.number ≡ 0
    → AddUp (map_in L) (take (region_count (map_in L)) s)
unfolding call_exit exit_with stage_of
call-adds-up {L} {s = s} ran success = rw (filled ∙ front (map_in L) L.records) (records-add-up (map_in L))
  where
    at_exit : s ≡ overwrite (records_of (context_of (map_in L))) L.records
    at_exit = ran.records ∙ ap (λ n. (call_exit L n).records) success

    filled : take (region_count (map_in L)) s ≡ take (region_count (map_in L)) (overwrite (records_of (context_of (map_in L))) L.records)
    filled = ap (take (region_count (map_in L))) at_exit
