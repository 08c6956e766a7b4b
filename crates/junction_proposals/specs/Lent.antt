-- What the lists that pass 3 reads have to meet for it to run, and that they show a context. Definitions only; assumes nothing.
use Rattle.std.specs.Prelude.{ℕ, ◌+◌, ◌*◌, ◌^◌, ◌≤◌, ◌<◌, ◌≡◌, List, length, get_or, Option, IfSome}
use Rattle.definitions.specs.Limits.{max_side, max_entries, numbers_per_boundary}
use Rattle.definitions.specs.Grid.{segment_at}
use Rattle.definitions.specs.Context.{Context}
use Rattle.laws.specs.FloatLaws.Pixels.{PixelSegment, PixelContext}
use Rattle.laws.specs.RustContext.SoundContext.{Sound}
use Rattle.region_pairs.specs.declared.Pair as declared
use Rattle.context.specs.Shown.{ShownBoundaries, ShownFullPairs, ShownIncidents, ShownAnchored}
use Rattle.junction_proposals.specs.Ports.{pair_of}
use Rattle.junction_proposals.specs.declared.lists.JunctionLists.{JunctionLists}

-- `count` boundaries; a width is finite, and its sign bit is clear
pub record LentBoundaries (boundaries : List ℕ) (count : ℕ) : Type 0 where
  pub few : count ≤ max_entries
  pub long : numbers_per_boundary * count ≤ length boundaries
  pub pixels : (i : ℕ) → i < count → PixelSegment (segment_at boundaries (numbers_per_boundary * i))
  pub finite : (i : ℕ) → i < count → get_or boundaries (numbers_per_boundary * i + 4) 0 < 2047 * 2 ^ 52

-- a full pair names two different regions, the smaller first
pub record LentPairs (full : List (Option declared.Pair)) (count regions : ℕ) : Type 0 where
  pub named : (i : ℕ) → i < count → IfSome (pair_of full i) (λ p. (1 ≤ p.lo) × ((p.lo < p.hi) × (p.hi ≤ regions)))

-- the whole: a count of incidents and a mark for each region besides
pub record Lent (boundaries : List ℕ) (full : List (Option declared.Pair)) (counts marks : List ℕ) (count regions : ℕ) : Type 0 where
  pub bounds : LentBoundaries boundaries count
  pub pairs : LentPairs full count regions
  pub counts_long : regions ≤ length counts
  pub marks_long : regions ≤ length marks
  pub labels : regions ≤ max_side * max_side

-- the lists show the context C, which is one of a map
pub record Shows (boundaries : List ℕ) (full : List (Option declared.Pair)) (counts marks : List ℕ) (count regions : ℕ) (C : Context) : Type 0 where
  pub counted : C.count ≡ count
  pub labelled : C.regions ≡ regions
  pub labels : regions ≤ max_side * max_side
  pub bounds : ShownBoundaries C boundaries
  pub pairs : ShownFullPairs C full
  pub incidents : ShownIncidents C counts
  pub anchored : ShownAnchored C marks
  pub sound : Sound C
  pub pixels : PixelContext C

-- the same of the lists as a function takes them
abbrev pub LentIn : JunctionLists → Type 0
LentIn l = Lent l.boundaries.now l.full.now l.counts.now l.marks.now l.count l.regions

abbrev pub ShowsIn : JunctionLists → Context → Type 0
ShowsIn l C = Shows l.boundaries.now l.full.now l.counts.now l.marks.now l.count l.regions C
