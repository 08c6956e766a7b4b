-- What the lists that pass 1 reads have to meet for it to run, and that they show a context. Definitions only; assumes nothing.
use Rattle.std.specs.Prelude.{ℕ, ◌+◌, ◌*◌, ◌^◌, ◌≤◌, ◌<◌, ◌≡◌, List, length, get_or}
use Rattle.definitions.specs.Limits.{numbers_per_boundary}
use Rattle.definitions.specs.Grid.{segment_at}
use Rattle.definitions.specs.Context.{Context}
use Rattle.laws.specs.FloatLaws.Pixels.{PixelSegment}
use Rattle.geometry.specs.Placed.{HasBoundary}
use Rattle.mouth_proposals.specs.declared.regions.RegionMarks.{RegionMarks}
use Rattle.context.specs.declared.PartitionContext.{PartitionContext}
use Rattle.context.specs.Rows.{NamedRow}
use Rattle.context.specs.Shown.{ShownBoundaries, ShownTallies, ShownPairs, ShownIncidents, ShownAnchored}

-- `Placed` of geometry, and more: boundary i stands in the list, its endpoints on a map; its width is finite, and the sign bit clear
pub record Placed (boundaries : List ℕ) (i : ℕ) : Type 0 where
  pub whole : HasBoundary boundaries i
  pub pixels : PixelSegment (segment_at boundaries (numbers_per_boundary * i))
  pub finite : get_or boundaries (numbers_per_boundary * i + 4) 0 < 2047 * 2 ^ 52

-- every boundary of the pass stands in the list
abbrev pub HasBoundaries : PartitionContext → Type 0
HasBoundaries given = numbers_per_boundary * given.count ≤ length given.boundaries.now

-- the lists show the context C, but for its tallies
pub record Shows (boundaries pairs starts counts marks : List ℕ) (count : ℕ) (C : Context) : Type 0 where
  pub counted : C.count ≡ count
  pub bounds : ShownBoundaries C boundaries
  pub placed : (i : ℕ) → i < count → Placed boundaries i
  pub rows : ShownPairs C pairs starts
  pub incidents : ShownIncidents C counts
  pub anchored : ShownAnchored C marks

-- they show some context, with its tallies
pub record Shown (boundaries tallies pairs starts counts marks : List ℕ) (count : ℕ) : Type 0 where
  pub context : Context
  pub shows : Shows boundaries pairs starts counts marks count context
  pub cuts : ShownTallies context tallies

-- what the rows from one place to another name stands in both lists of regions
abbrev pub NamedBetween : List ℕ → RegionMarks → ℕ → ℕ → Type 0
NamedBetween pairs regions start end =
    (k : ℕ) → start ≤ k → k < end → NamedRow pairs (length regions.counts.now) k × NamedRow pairs (length regions.marks.now) k

-- ---- the same of what the pass is given

abbrev pub PassShows : PartitionContext → RegionMarks → Context → Type 0
PassShows given regions C = Shows given.boundaries.now given.pairs.now given.starts.now regions.counts.now regions.marks.now given.count C

abbrev pub PassShown : PartitionContext → RegionMarks → Type 0
PassShown given regions = Shown given.boundaries.now given.tallies.now given.pairs.now given.starts.now regions.counts.now regions.marks.now given.count
