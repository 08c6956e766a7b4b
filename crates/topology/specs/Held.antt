-- The records of a context in the lent slice, as the loops over it ask for them, and that `fill` puts them there; that a map's records are counted. Assumes
-- nothing.
use Rattle.std.specs.Prelude.{ℕ, suc, ◌-◌, ◌≤◌, ◌<◌, ◌≡◌, List, ◌++◌, map, length, get_or}
use Rattle.std.proofs.Common.{arith, sym, ap, ◌∙◌, length-append}
use Rattle.std.proofs.lemmas.List.{length-map}
use Rattle.std.proofs.Math.ListN.{get_or-map, get_or-append}
use Rattle.definitions.specs.Scan.{run}
use Rattle.definitions.specs.Grid.{Map, cell_count}
use Rattle.definitions.specs.Partition.{labels}
use Rattle.definitions.specs.RegionRecord as def
use Rattle.definitions.specs.Context.{Context, context_of}
use Rattle.definitions.specs.AtExit.{records_of}
use Rattle.laws.specs.ListLaws.Lists.{length_run, get_d_tab}
use Rattle.context.specs.declared.Region.{Region}
use Rattle.context.specs.Records.{record_of, max_cells, Counted}
use Rattle.context.proofs.RecordCounts.{region-counted}
use Rattle.topology.specs.Filled.{Filled}

-- the record of region r stands at r - 1
pub record HoldsRecords (C : Context) (records : List Region) : Type 0 where
  pub long : C.regions ≤ length records
  pub at : (r : ℕ) → 1 ≤ r → r ≤ C.regions → (d : Region) → record_of (get_or records (r - 1) d) ≡ C.region r

module _ {C : Context} {records : List Region} (h : HoldsRecords C records) {i r : ℕ} (e : i ≡ r - 1) (from : 1 ≤ r) (to : r ≤ C.regions) where
  pub place_in : i < length records
  place_in = omega (arith, h.long)

  -- s was read at place i
  pub record_is : {s : Region} → ((d : Region) → s ≡ get_or records i d) → record_of s ≡ C.region r
  record_is {s} read = ap record_of (read s) ∙ ap (λ i. record_of (get_or records i s)) e ∙ h.at r from to s

-- `rest` is what stands beyond them
pub held_first : (C : Context) (records : List Region) (rest : List def.Region) → map record_of records ≡ records_of C ++ rest → HoldsRecords C records
unfolding records_of run
held_first C records rest e =
    record {
      long = omega (arith, sym (length-map records record_of) ∙ ap length e ∙ length-append (records_of C) rest, size);
      at = λ r a l d.
          sym (get_or-map record_of records (r - 1) d)
          ∙ ap (λ l. get_or l (r - 1) (record_of d)) e
          ∙ get_or-append (records_of C) rest (record_of d) (r - 1) (omega (arith, size))
          ∙ get_d_tab C.region (record_of d) (suc C.regions) (suc (r - 1)) (omega arith)
          ∙ ap C.region (omega arith);
    }
  where
    size : length (records_of C) ≡ C.regions
    size = length-map (run 1 C.regions) C.region ∙ length_run 1 C.regions

pub filled-held : {M : Map} {was records : List Region} → Filled M was records → HoldsRecords (context_of M) records
filled-held {M} {records = records} f = held_first (context_of M) records _ f.records

-- what the loops ask besides
pub map-counted : (M : Map) → cell_count M ≤ max_cells → (r : ℕ) → Counted ((context_of M).region r)
unfolding context_of
map-counted M h r = region-counted M (labels M) r h
