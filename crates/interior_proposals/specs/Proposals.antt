-- A component and what is found about it before its records are looked at. Definitions only; assumes nothing.
use Rattle.std.specs.Prelude.{ℕ, ◌≤◌, ◌<◌, ◌≡◌, Bool, true, false, not, ◌&&◌, ◌⊎◌, length, get_or, Option, None, Some, MatchOption}
use Rattle.std.proofs.Math.Bool.{cond}
use mathlib.Core.List.{List, [], ◌∷◌}
use Rattle.definitions.specs.Scan.{any, all, member, any_below_lem}
use Rattle.definitions.specs.RegionRecord.{has_ramp}
use Rattle.definitions.specs.Context.{Context, no_ramp}
use Rattle.definitions.specs.RampInteriors.{Expansion, components, component_regions, component_ports, ports_fit, region_fits, expand_port}
use Rattle.laws.specs.ListLaws.Beyond.{Beyond}
use Rattle.interior_proposals.specs.Given.{Given}
use Rattle.interior_proposals.specs.Owners.{entry_at, one_owner, is_one, owned_by, owner_at, name_at, edge, Owners}
use Rattle.interior_proposals.specs.Candidates.{Told, Mapped, candidate, both_ports}
use Rattle.interior_proposals.specs.Leaves.{Inside, Single, Cleared, from}
use Rattle.context.specs.declared.found_regions.FoundRegions.{FoundRegions}
use Rattle.interior_proposals.specs.declared.ports.Ports.{Ports}

-- the lists show C, r is a region, and the owners of boundaries are known
pub record Facing (C : Context) (boundaries tallies pairs starts names marks : List ℕ) (owners : List FoundRegions) (count r : ℕ) : Type 0 where
  pub given : Given C boundaries tallies pairs starts
  pub mapped : Mapped C pairs starts names marks r
  pub counted : C.count ≡ count
  pub owned : Owners C owners

abbrev pub SomeFacing : List ℕ → List ℕ → List ℕ → List ℕ → List ℕ → List ℕ → List FoundRegions → ℕ → ℕ → Type 0
SomeFacing boundaries tallies pairs starts names marks owners count r = (C : Context) × Facing C boundaries tallies pairs starts names marks owners count r

module _ (C : Context) (r : ℕ) where
  -- the regions of the component, and what they expand to beyond the ports a and b
  abbrev pub own : Expansion
  own = from (component_regions C (components C) r) true

  abbrev pub expanded_of : ℕ → ℕ → Expansion
  expanded_of a b = expand_port C (expand_port C own a) b

  -- the two ports, if they fit and are valid
  unfoldable pub fitting_ports : List ℕ → Option Ports
  unfolding ports_fit expand_port component_regions
  fitting_ports [] = None
  fitting_ports (a ∷ []) = None
  fitting_ports (a ∷ b ∷ []) = cond (ports_fit C a b && (expanded_of a b).valid) (both_ports a b) None
  fitting_ports (a ∷ b ∷ c ∷ l) = None

  unfoldable pub proposed_ports : Option Ports
  unfolding fitting_ports component_ports
  proposed_ports = cond (candidate C r) (fitting_ports (component_ports C (components C) r)) None

  -- a region beyond the component: its one incident is a port, and it is one of the expansion
  pub record Leafed (x : ℕ) : Type 0 where
    pub first : ℕ
    pub second : ℕ
    pub candidates : candidate C r ≡ true
    pub two : component_ports C (components C) r ≡ first ∷ second ∷ []
    pub fit : ports_fit C first second ≡ true
    pub one : ℕ
    pub below : one < C.count
    pub single : Single C one x
    pub ramp : no_ramp C one ≡ false
    pub found : member x (expanded_of first second).regions ≡ true

  -- the names, once `was`, are as they were, but for such regions, which may be named r
  pub record Spread (was names : List ℕ) : Type 0 where
    pub beyond : Beyond C.regions was names
    pub each : (x : ℕ) → 1 ≤ x → x ≤ C.regions → (entry_at names x ≡ entry_at was x) ⊎ ((entry_at names x ≡ r) × Leafed x)

  -- x is what was found; where it is two ports, the names hold what the component expands to
  pub record Proposed (was names wasMarks marks : List ℕ) (x : Option Ports) : Type 0 where
    pub result : x ≡ proposed_ports
    pub holds : (a b : ℕ) → x ≡ both_ports a b → Inside C r (expanded_of a b).regions names
    pub spread : Spread was names
    pub cleared : Cleared C wasMarks marks

-- ---- all components

-- a boundary before i has the component r for its owner
unfoldable pub owned_before : List FoundRegions → ℕ → ℕ → Bool
unfolding any_below_lem
owned_before owners i r = any_below_lem i (λ j. owned_by r (owner_at owners j))

-- boundary i is the first that its owner, a component, has
unfoldable pub is_first : List FoundRegions → ℕ → Bool
unfolding owned_before
is_first owners i = is_one (owner_at owners i) && not (owned_before owners i (name_at owners i))

-- r is the component of which boundary i is the first
abbrev pub FirstOf : List FoundRegions → ℕ → Option ℕ → Type 0
FirstOf owners i found = MatchOption found (is_first owners i ≡ false) (λ r. (owner_at owners i ≡ one_owner r) × (is_first owners i ≡ true))

-- what is found at boundary i
unfoldable pub found_ports : Context → List FoundRegions → ℕ → Option Ports
unfolding is_first proposed_ports
found_ports C owners i = cond (is_first owners i) (proposed_ports C (name_at owners i)) None

module _ (C : Context) (owners : List FoundRegions) (names : List ℕ) where
  -- a component that no boundary before i has, and has an edge, is told by the names
  abbrev pub Unmet : ℕ → Type 0
  Unmet i = (q : ℕ) → 1 ≤ q → q ≤ C.regions → any_below_lem C.count (edge C q) ≡ true → owned_before owners i q ≡ false → Told C q names

  -- what is found at boundary j expands to the regions that have the owner's name
  abbrev pub Settled : ℕ → Type 0
  Settled j = (a b : ℕ) → found_ports C owners j ≡ both_ports a b → Inside C (name_at owners j) (expanded_of C (name_at owners j) a b).regions names

-- the boundaries before i are done
pub record Progress (C : Context) (owners : List FoundRegions) (was names wasMarks marks : List ℕ) (i : ℕ) : Type 0 where
  pub long : C.regions ≤ length names
  pub unmet : Unmet C owners names i
  pub settled : (j : ℕ) → j < i → Settled C owners names j
  pub beyond : Beyond C.regions was names
  pub cleared : Cleared C wasMarks marks

-- the lists show C, and the owners are known
pub record Owning (C : Context) (boundaries tallies pairs starts : List ℕ) (owners : List FoundRegions) (count : ℕ) : Type 0 where
  pub given : Given C boundaries tallies pairs starts
  pub counted : C.count ≡ count
  pub owned : Owners C owners

-- some context is so, of which the boundaries before i are done
abbrev pub SomeProgress : List ℕ → List ℕ → List ℕ → List ℕ → List ℕ → List ℕ → List FoundRegions → ℕ → ℕ → Type 0
SomeProgress boundaries tallies pairs starts names marks owners count i =
    (C : Context) × (Owning C boundaries tallies pairs starts owners count × Progress C owners names names marks marks i)

-- the ports found at the boundaries before i are stored
abbrev pub FoundAll : Context → List FoundRegions → List (Option Ports) → ℕ → Type 0
FoundAll C owners found i = (j : ℕ) → j < i → get_or found j None ≡ found_ports C owners j

-- what is asked of the records of the regions that a component with these ports expands to
unfoldable pub records_fit : Context → ℕ → Option Ports → Bool
unfolding any all region_fits
records_fit C r None = false
records_fit C r (Some p) =
    let regions = (expanded_of C r p.first p.second).regions in
    any (λ q. has_ramp (C.region q)) regions && all (region_fits C p.first p.second) regions
