-- What pass 2 reads and what it keeps of regions: the lists that show a context, the marks of regions and the names of their components. Definitions only; assumes nothing.
use Rattle.std.specs.Prelude.{ℕ, suc, ◌+◌, ◌-◌, ◌*◌, ◌≤◌, ◌<◌, ◌≡◌, Bool, false, cond, List, [], length, get_or, eqb}
use Rattle.definitions.specs.Limits.{max_side}
use Rattle.definitions.specs.Scan.{bit, run}
use Rattle.definitions.specs.Grid.{Pair}
use Rattle.definitions.specs.Context.{Context, incident_count}
use Rattle.definitions.specs.RampInteriors.{is_ordinary, components}
use Rattle.laws.specs.RustContext.SoundContext.{Sound}
use Rattle.context.specs.Shown.{ShownBoundaries, ShownTallies, ShownPairs, ShownAnchored, ShownIncidents}
use Rattle.interior_proposals.specs.Forest.{Parented, Names}

-- ---- what is read

-- the lists show C, which is the context of a map
pub record Given (C : Context) (boundaries tallies pairs starts : List ℕ) : Type 0 where
  pub bounds : ShownBoundaries C boundaries
  pub tallied : ShownTallies C tallies
  pub paired : ShownPairs C pairs starts
  pub sound : Sound C

-- besides, a mark and a count for each region
pub record Lent (C : Context) (boundaries tallies pairs starts : List ℕ) (count regions : ℕ) (marks counts : List ℕ) : Type 0 where
  pub given : Given C boundaries tallies pairs starts
  pub counted : C.count ≡ count
  pub labelled : C.regions ≡ regions
  pub few : regions ≤ max_side * max_side
  pub anchored : ShownAnchored C marks
  pub incidents : ShownIncidents C counts

-- some context is so
abbrev pub SomeLent : List ℕ → List ℕ → List ℕ → List ℕ → ℕ → ℕ → List ℕ → List ℕ → Type 0
SomeLent boundaries tallies pairs starts count regions marks counts = (C : Context) × Lent C boundaries tallies pairs starts count regions marks counts

-- ---- what is kept

-- whether a region is anchored, has exactly one incident, and is an exterior of the port that is looked at
unfoldable pub flags_of : Bool → Bool → Bool → ℕ
flags_of anchored single exterior = bit anchored + 2 * bit single + 4 * bit exterior

pub record Marked (C : Context) (exterior : ℕ → Bool) (marks : List ℕ) : Type 0 where
  pub long : C.regions ≤ length marks
  pub at : (x : ℕ) → 1 ≤ x → x ≤ C.regions → get_or marks (x - 1) 0 ≡ flags_of (C.anchored x) (eqb (incident_count C x) 1) (exterior x)

-- before any pair is joined, every region is its own parent
abbrev pub alone : Context → List ℕ
alone C = run 0 (suc C.regions)

pub record Prepared (C : Context) (marks parents : List ℕ) : Type 0 where
  pub marked : Marked C (λ x. false) marks
  pub parented : Parented (alone C) parents

-- the pairs of regions that boundary i joins
abbrev pub links_of : Context → ℕ → List Pair
links_of C i = cond (is_ordinary C i) (C.pairs i) []

module _ (boundaries tallies pairs starts parents : List ℕ) where
  -- the lists show some context, and the parents are those of some names of its regions
  abbrev pub CutJoinable : ℕ → Type 0
  CutJoinable i = (C : Context) × (Given C boundaries tallies pairs starts × ((i < C.count) × ((cs : List ℕ) × (Parented cs parents × (length cs ≡ suc C.regions)))))

  abbrev pub CutsJoinable : ℕ → Type 0
  CutsJoinable count = (C : Context) × (Given C boundaries tallies pairs starts × ((C.count ≡ count) × Parented (alone C) parents))

-- after: the names are those of components
pub record Known (C : Context) (marks names : List ℕ) : Type 0 where
  pub marked : Marked C (λ x. false) marks
  pub named : Names (components C) names

-- what is read and not written once the components are named
pub record Kept (C : Context) (boundaries tallies pairs starts names : List ℕ) : Type 0 where
  pub given : Given C boundaries tallies pairs starts
  pub named : Names (components C) names
  pub few : C.regions ≤ max_side * max_side

module _ (boundaries tallies pairs starts names : List ℕ) where
  abbrev pub SomeKept : ℕ → Type 0
  SomeKept i = (C : Context) × (Kept C boundaries tallies pairs starts names × (i < C.count))

  abbrev pub AllKept : ℕ → Type 0
  AllKept count = (C : Context) × (Kept C boundaries tallies pairs starts names × (C.count ≡ count))
