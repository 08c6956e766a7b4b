-- The words of the contracts of `removed_marks` and `mark_removed`: what a pass is lent, and what it leaves. Definitions only; assumes nothing.
use Rattle.std.specs.Prelude.{ℕ, ◌*◌, ◌/◌, ◌≤◌, ◌≡◌, Bool, List, length, Option}
use Rattle.definitions.specs.Limits.{numbers_per_span, numbers_per_boundary}
use Rattle.definitions.specs.Grid.{Map}
use Rattle.definitions.specs.Context.{Context, context_of}
use Rattle.laws.specs.FloatLaws.Pixels.{PixelContext}
use Rattle.laws.specs.RustContext.SoundContext.{Sound}
use Rattle.laws.specs.RustContext.CheckedContext.{Checked}
use Rattle.laws.specs.ListLaws.Beyond.{Beyond}
use Rattle.areas.specs.declared.lists.PartitionLists.{PartitionLists}
use Rattle.call_partition.specs.declared.Ready.{Ready}
use Rattle.call_partition.specs.declared.asked.Asked.{Asked}
use Rattle.context.specs.declared.Region.{Region}
use Rattle.region_pairs.specs.declared.Pair.{Pair}
use Rattle.context.specs.Records.{max_cells, Counted}
use Rattle.context.specs.Shown.{ShownBoundaries, ShownTallies, ShownPairs, ShownFullPairs, ShownAnchored, ShownIncidents}
use Rattle.pass_lists.specs.declared.SpanPartition.{SpanPartition}
use Rattle.pass_lists.specs.Contract.{Partitioned, FreshMarks}
use Rattle.pass_lists.specs.Finished.{MarkedBy}
use Rattle.topology.specs.Held.{HoldsRecords}

-- what the context of a map that passes the checks always meets
pub record MapContext (C : Context) : Type 0 where
  pub few : C.regions ≤ max_cells
  pub sound : Sound C
  pub checked : Checked C
  pub pixels : PixelContext C
  pub counted : (r : ℕ) → Counted (C.region r)

-- ---- one pass

-- the records and the lists show the context C, of so many regions and boundaries
pub record Shows (C : Context) (records : List Region) (regions count : ℕ) (boundaries tallies pairs starts : List ℕ) (full : List (Option Pair)) (marks counts : List ℕ) : Type 0 where
  pub on_map : MapContext C
  pub labelled : C.regions ≡ regions
  pub counted : C.count ≡ count
  pub held : HoldsRecords C records
  pub bounds : ShownBoundaries C boundaries
  pub tallied : ShownTallies C tallies
  pub paired : ShownPairs C pairs starts
  pub shown_full : ShownFullPairs C full
  pub anchored : ShownAnchored C marks
  pub fresh : FreshMarks C marks
  pub incidents : ShownIncidents C counts

-- the pass has marked what it removes
pub record Removed (pass : ℕ) (C : Context) (removed : List Bool) : Type 0 where
  pub marked : MarkedBy pass C removed

-- ---- the pass of a call, if it runs

-- The lists are those of map M as the partition left them, with its records and, where it has as many boundaries as spans, its boundaries. Masks and queue have
-- these lengths.
pub record Lent (M : Map) (records : List Region) (w needed : ℕ) (labels anchors : List ℕ) (regions rows count : ℕ) (boundaries tallies pairs : List ℕ) (masks queue : ℕ) : Type 0 where
  pub on_map : MapContext (context_of M)
  pub partitioned : Partitioned M w needed labels anchors regions rows count tallies pairs masks queue
  pub held : HoldsRecords (context_of M) records
  pub bounds : length boundaries / numbers_per_boundary ≡ count → ShownBoundaries (context_of M) boundaries

-- the same of a struct of them
abbrev pub LentAs : Map → List Region → SpanPartition → ℕ → ℕ → Type 0
LentAs M records x masks queue = Lent M records x.width x.needed x.labels.now x.anchors.now x.regions x.rows x.count x.boundaries.now x.tallies.now x.pairs.now masks queue

-- and of what a call is asked, whose partition is ready
abbrev pub AskedLent : Map → List Region → Asked → Ready → (labels tallies pairs : List ℕ) → ℕ → ℕ → Type 0
AskedLent M records x r labels tallies pairs masks queue =
    Lent M records x.width (x.height * x.width) labels x.anchors.now r.regions r.rows (length x.spans.now / numbers_per_span) x.boundaries.now tallies pairs masks queue

-- of the lists of a partition those that a pass only reads hold what they held
pub record SameFilled (x y : PartitionLists) : Type 0 where
  pub labels : y.labels.now ≡ x.labels.now
  pub tallies : y.tallies.now ≡ x.tallies.now
  pub pairs : y.pairs.now ≡ x.pairs.now

-- Where there are as many boundaries as spans, the marks are the pass's; otherwise they are as they were. Masks m and queue q have become m' and q', over the
-- needed length alone.
pub record MarkedFor (pass : ℕ) (M : Map) (needed count : ℕ) (boundaries m q m' q' : List ℕ) (was removed : List Bool) : Type 0 where
  pub equal : length boundaries / numbers_per_boundary ≡ count → MarkedBy pass (context_of M) removed
  pub differ : (length boundaries / numbers_per_boundary ≡ count → ⊥) → removed ≡ was
  pub masks : Beyond needed m m'
  pub queue : Beyond needed q q'
