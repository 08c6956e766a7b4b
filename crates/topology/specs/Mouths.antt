-- The words of the contracts of `mouth_pass`: what its functions are lent and give, and what the pass marks. Definitions only; assumes nothing.
use Rattle.mouth_proposals.specs.Listed.{blank, max_candidates, proposal_in}
use Rattle.mouth_proposals.specs.declared.candidates.Candidate.{Candidate}
use Rattle.mouth_proposals.specs.declared.candidates.MouthProposal as declared
use Rattle.std.specs.Prelude.{ℕ, ◌-◌, ◌≤◌, ◌<◌, ◌≡◌, Bool, false, List, length, get_or, Option}
use Rattle.definitions.specs.Limits.{max_entries}
use Rattle.definitions.specs.Scan.{member}
use Rattle.definitions.specs.Context.{Context}
use Rattle.definitions.specs.RampMouths.{MouthProposal, removed}
use Rattle.laws.specs.FloatLaws.Pixels.{PixelContext}
use Rattle.laws.specs.ListLaws.Options.{OnO}
use Rattle.context.specs.declared.PartitionContext.{PartitionContext}
use Rattle.context.specs.declared.Region.{Region}
use Rattle.context.specs.Shown.{ShownBoundaries, ShownTallies, ShownPairs}
use Rattle.mouth_proposals.specs.Candidates.{is_broad}
use Rattle.mouth_proposals.specs.Lent.{Placed, Shows}
use Rattle.mouth_selection.specs.declared.taken.Taken.{Taken}
use Rattle.mouth_selection.specs.Entries.{Known, proposed}
use Rattle.mouth_selection.specs.Held.{TakenState}
use Rattle.mouth_selection.specs.Selecting.{Progress, is_stale}
use Rattle.mouth_selection.specs.Rounds.{better_near, near_least}
use Rattle.mouth_regions.specs.Inner.{inner_at, passes}
use Rattle.mouth_regions.specs.Near.{region_near}
use Rattle.topology.specs.Held.{HoldsRecords}

-- the lists and the records show C, of which m and a are boundaries
pub record Locates (C : Context) (records : List Region) (boundaries pairs starts : List ℕ) (m a : ℕ) : Type 0 where
  pub held : HoldsRecords C records
  pub bounds : ShownBoundaries C boundaries
  pub rows : ShownPairs C pairs starts
  pub pixels : PixelContext C
  pub mouth : m < C.count
  pub ramp : a < C.count
  pub mouth-placed : Placed boundaries m
  pub ramp-placed : Placed boundaries a

-- the region at place k, if it is not the one outside, is near
abbrev pub near_at : Context → List ℕ → List ℕ → declared.MouthProposal → ℕ → Bool
near_at C pairs starts p k = passes (λ r. region_near C p.mouth p.ramp (is_broad p.kind) (C.region r)) (inner_at pairs starts p.mouth p.outer k)

-- ---- the best of a ramp

-- an entry is a candidate of C
pub record EntryAsked (C : Context) (records : List Region) (boundaries pairs starts marks : List ℕ) (entry : Candidate) : Type 0 where
  pub located : Locates C records boundaries pairs starts entry.mouth entry.ramp
  pub known : Known C entry
  pub long : C.regions ≤ length marks

-- so are the first n entries
pub record NearAsked (C : Context) (records : List Region) (boundaries pairs starts marks : List ℕ) (entries : List Candidate) (n : ℕ) : Type 0 where
  pub few : n ≤ max_candidates
  pub entry : (k : ℕ) → k < n → EntryAsked C records boundaries pairs starts marks (get_or entries k blank)

-- r is the better one of `best` and the entry, if that is left and near
pub record BetterNear (C : Context) (taken : List MouthProposal) (best : Option Candidate) (entry : Candidate) (r : Option Candidate) : Type 0 where
  pub known : OnO (Known C) r
  pub least : proposed C r ≡ better_near C taken (proposed C best) (proposal_in C entry)

-- r is the least of the first n entries that are left and near
pub record NearBest (C : Context) (taken : List MouthProposal) (entries : List Candidate) (n : ℕ) (r : Option Candidate) : Type 0 where
  pub known : OnO (Known C) r
  pub least : proposed C r ≡ near_least C taken entries n

-- a is a boundary of C, which the lists and the records show
pub record RampAsked (C : Context) (records : List Region) (boundaries tallies pairs starts : List ℕ) (count : ℕ) (marks counts : List ℕ) (a : ℕ) : Type 0 where
  pub shows : Shows boundaries pairs starts counts marks count C
  pub cuts : ShownTallies C tallies
  pub held : HoldsRecords C records
  pub pixels : PixelContext C
  pub below : a < count

-- ---- the pass

-- The lists and the records show C, a context of a map. Marks say no more than that a region is anchored.
pub record Replaces (C : Context) (records : List Region) (boundaries tallies pairs starts : List ℕ) (count : ℕ) (marks counts : List ℕ) : Type 0 where
  pub shows : Shows boundaries pairs starts counts marks count C
  pub cuts : ShownTallies C tallies
  pub held : HoldsRecords C records
  pub pixels : PixelContext C
  pub fresh : (r : ℕ) → 1 ≤ r → r ≤ C.regions → get_or marks (r - 1) 0 < 2

-- room for a mark of each of 256 boundaries, and none is marked
pub record NoMarks (marked : List Bool) : Type 0 where
  pub long : length marked ≡ max_entries
  pub clear : (i : ℕ) → get_or marked i false ≡ false

-- the marked boundaries are those that pass 1 removes
pub record Replaced (C : Context) (count : ℕ) (marked : List Bool) : Type 0 where
  pub at : (j : ℕ) → j < count → get_or marked j false ≡ member j (removed C)

-- ---- the same of what the pass is given

abbrev pub PassLocates : Context → List Region → PartitionContext → declared.MouthProposal → Type 0
PassLocates C records given p = Locates C records given.boundaries.now given.pairs.now given.starts.now p.mouth p.ramp

abbrev pub PassEntryAsked : Context → List Region → PartitionContext → List ℕ → Candidate → Type 0
PassEntryAsked C records given marks = EntryAsked C records given.boundaries.now given.pairs.now given.starts.now marks

abbrev pub PassNearAsked : Context → List Region → PartitionContext → List ℕ → List Candidate → ℕ → Type 0
PassNearAsked C records given marks = NearAsked C records given.boundaries.now given.pairs.now given.starts.now marks

abbrev pub PassRampAsked : Context → List Region → PartitionContext → List ℕ → List ℕ → ℕ → Type 0
PassRampAsked C records given = RampAsked C records given.boundaries.now given.tallies.now given.pairs.now given.starts.now given.count

abbrev pub PassReplaces : Context → List Region → PartitionContext → List ℕ → List ℕ → Type 0
PassReplaces C records given = Replaces C records given.boundaries.now given.tallies.now given.pairs.now given.starts.now given.count

-- the same of what is taken, as a function takes it
abbrev pub TakenIn : Context → List MouthProposal → Taken → Type 0
TakenIn C chosen t = TakenState C chosen t.removed.now t.ramp_ends t.marks.now

abbrev pub ProgressIn : Context → Taken → List (Option Candidate) → ℕ → Type 0
ProgressIn C t = Progress C t.marks.now t.removed.now t.ramp_ends

abbrev pub stale_in : PartitionContext → Taken → Option Candidate → Bool
stale_in given t = is_stale given.pairs.now given.starts.now t.marks.now t.removed.now t.ramp_ends
