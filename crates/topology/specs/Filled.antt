-- The words of the contracts of `add_stretch`, `fill`, `clear_records` and `renew`. Definitions only; assumes nothing.
use Rattle.std.specs.Prelude.{ℕ, ◌-◌, ◌≤◌, ◌≡◌, List, map, length, get_or, set, drop, replicate}
use Rattle.definitions.specs.Lists.{overwrite}
use Rattle.definitions.specs.Grid.{Map}
use Rattle.definitions.specs.Partition.{labels, region_count}
use Rattle.definitions.specs.RegionRecord.{empty_region}
use Rattle.definitions.specs.Context.{context_of}
use Rattle.definitions.specs.AtExit.{records_of}
use Rattle.context.specs.declared.Region.{Region}
use Rattle.context.specs.Records.{record_of}
use Rattle.stretches.specs.Queue.{Shown}
use Rattle.stretches.specs.Stretches.{region_up_to, Adding}

-- a stretch of region `label` can be added to that region's record, which stands at label - 1; one of label 0 is of no region
pub record Adds (M : Map) (w : ℕ) (bytes : List ℕ) (from end label : ℕ) (rs : List Region) : Type 0 where
  pub room : label ≤ length rs
  pub adding : 1 ≤ label → (d : Region) → Adding M w bytes from end label (record_of (get_or rs (label - 1) d))

-- that record is the one of the region's cells before `end`, and all others are as they were
pub record Added (M : Map) (end label : ℕ) (was rs : List Region) : Type 0 where
  pub none : label ≡ 0 → rs ≡ was
  pub one : 1 ≤ label → (s : Region) × ((rs ≡ set was (label - 1) s) × (record_of s ≡ region_up_to M (labels M) label end))

-- the lists show the map M, of so many regions, and there is room for a record of each
pub record Fills (M : Map) (room regions w : ℕ) (bytes l q : List ℕ) : Type 0 where
  pub shown : Shown M w bytes l q
  pub count : regions ≡ region_count M
  pub enough : region_count M ≤ room

-- the records at exit, where they were `was`: one a region, and beyond these as they were
pub record Filled (M : Map) (was rs : List Region) : Type 0 where
  pub records : map record_of rs ≡ overwrite (records_of (context_of M)) (map record_of was)
  pub beyond : drop (region_count M) rs ≡ drop (region_count M) was

-- the first n records are empty, and beyond these they are as they were
pub record Emptied (n : ℕ) (was rs : List Region) : Type 0 where
  pub records : map record_of rs ≡ overwrite (replicate n empty_region) (map record_of was)
  pub beyond : drop n rs ≡ drop n was

-- one record a region, then empty ones up to `first`, and beyond both as they were
pub record Renewed (M : Map) (first : ℕ) (was rs : List Region) : Type 0 where
  pub records : map record_of rs ≡ overwrite (records_of (context_of M)) (overwrite (replicate first empty_region) (map record_of was))
  pub beyond : (n : ℕ) → first ≤ n → region_count M ≤ n → drop n rs ≡ drop n was
