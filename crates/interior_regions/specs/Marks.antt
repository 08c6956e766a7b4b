-- What is known once the components are proposed, and which of them the pass takes. Definitions only; assumes nothing.
use Rattle.std.specs.Prelude.{ℕ, ◌+◌, ◌*◌, ◌≤◌, ◌<◌, ◌≡◌, Bool, false, ◌&&◌, List, length, Option, MatchOption}
use Rattle.definitions.specs.Limits.{max_side}
use Rattle.definitions.specs.Scan.{any_below_lem}
use Rattle.definitions.specs.Context.{Context}
use Rattle.laws.specs.FloatLaws.Pixels.{PixelContext}
use Rattle.interior_proposals.specs.declared.ports.Ports.{Ports}
use Rattle.context.specs.declared.found_regions.FoundRegions.{FoundRegions}
use Rattle.interior_proposals.specs.Owners.{one_owner, owned_by, owner_at, name_at}
use Rattle.interior_proposals.specs.Proposals.{found_ports, Settled, Owning, FoundAll, records_fit}
use Rattle.interior_regions.specs.Places.{AllReadable, interior_fits_lem}
use Rattle.interior_regions.specs.declared.Interior.{Interior}

-- the lists show C, and hold what was found of its components
pub record Interiors (C : Context) (boundaries tallies pairs starts names : List ℕ) (owners : List FoundRegions) (ports : List (Option Ports)) (count : ℕ) : Type 0 where
  pub owning : Owning C boundaries tallies pairs starts owners count
  pub found : FoundAll C owners ports C.count
  pub settled : (j : ℕ) → j < C.count → Settled C owners names j
  pub long : C.regions ≤ length names
  pub few : C.regions ≤ max_side * max_side
  pub pixels : PixelContext C

-- some context and lists are so
abbrev pub SomeInteriors : List ℕ → List ℕ → List FoundRegions → List (Option Ports) → ℕ → Type 0
SomeInteriors pairs starts owners ports count =
    (C : Context) × ((boundaries : List ℕ) × ((tallies : List ℕ) × ((names : List ℕ) × Interiors C boundaries tallies pairs starts names owners ports count)))

-- the component whose first boundary is i is proposed: two ports were found there, and the records fit
unfoldable pub accepted : Context → List FoundRegions → ℕ → Bool
unfolding found_ports records_fit
accepted C owners i = records_fit C (name_at owners i) (found_ports C owners i)

-- boundary j is an edge of one of which the first boundary is before i
abbrev pub marked_before : Context → List FoundRegions → ℕ → ℕ → Bool
marked_before C owners i j = any_below_lem i (λ k. accepted C owners k && owned_by (name_at owners k) (owner_at owners j))

-- ---- what stands at boundary i

-- the component with the name owns no boundary from n on
pub record EndOf (owners : List FoundRegions) (count name n : ℕ) : Type 0 where
  pub upto : n ≤ count
  pub none : (j : ℕ) → n ≤ j → j < count → owned_by name (owner_at owners j) ≡ false

-- the last boundary that it owns, if it owns one
abbrev pub LastEdge : List FoundRegions → ℕ → ℕ → Option ℕ → Type 0
LastEdge owners count name last = MatchOption last (EndOf owners count name 0) (λ j. (j < count) × EndOf owners count name (j + 1))

-- the component, the places of its regions, and its ports
pub record Stretched (C : Context) (pairs names : List ℕ) (owners : List FoundRegions) (i : ℕ) (x : Interior) : Type 0 where
  pub name : owner_at owners i ≡ one_owner x.name
  pub rising : x.begin ≤ x.end
  pub readable : AllReadable pairs C.regions x.begin x.end
  pub first : x.ports.first < C.count
  pub second : x.ports.second < C.count
  pub judged : interior_fits_lem C pairs names x.name x.begin x.ports.first x.ports.second x.end ≡ accepted C owners i

-- where nothing stands, no component that is proposed has i for its first boundary
abbrev pub StandsAt : Context → List ℕ → List ℕ → List FoundRegions → ℕ → Option Interior → Type 0
StandsAt C pairs names owners i found = MatchOption found (accepted C owners i ≡ false) (Stretched C pairs names owners i)
