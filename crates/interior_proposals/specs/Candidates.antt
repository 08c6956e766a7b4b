-- What is read of the lists to tell whether a component is a candidate, and which are its ports. Definitions only; assumes nothing.
use Rattle.std.specs.Prelude.{ℕ, ◌%◌, ◌≤◌, ◌<◌, ◌≡◌, Bool, true, false, not, ◌&&◌, ◌||◌, List, [], ◌∷◌, length, eqb, Option, None, Some, MatchOption}
use Rattle.definitions.specs.Scan.{any}
use Rattle.definitions.specs.Grid.{Pair}
use Rattle.definitions.specs.Context.{Context}
use Rattle.definitions.specs.MouthShapes.{regions_of}
use Rattle.definitions.specs.RampInteriors.{components, component_of, is_candidate, is_port}
use Rattle.laws.specs.RustContext.SoundContext.{Sound}
use Rattle.context.specs.Shown.{ShownPairs}
use Rattle.interior_proposals.specs.Given.{Marked}
use Rattle.interior_proposals.specs.Owners.{entry_at, all_in_lem, edge}
use Rattle.interior_proposals.specs.declared.ports.Ports.{Ports}

-- the names tell which regions are in the component named r; elsewhere they may be others
pub record Told (C : Context) (r : ℕ) (names : List ℕ) : Type 0 where
  pub long : C.regions ≤ length names
  pub at : (x : ℕ) → 1 ≤ x → x ≤ C.regions → eqb (entry_at names x) r ≡ eqb (component_of C (components C) x) r

-- the lists show C, and r is a region
pub record Mapped (C : Context) (pairs starts names marks : List ℕ) (r : ℕ) : Type 0 where
  pub paired : ShownPairs C pairs starts
  pub told : Told C r names
  pub marked : Marked C (λ x. false) marks
  pub sound : Sound C
  pub from : 1 ≤ r
  pub upto : r ≤ C.regions

abbrev pub SomeMapped : List ℕ → List ℕ → List ℕ → List ℕ → ℕ → ℕ → Type 0
SomeMapped pairs starts names marks r i = (C : Context) × (Mapped C pairs starts names marks r × (i < C.count))

abbrev pub AllMapped : List ℕ → List ℕ → List ℕ → List ℕ → ℕ → ℕ → Type 0
AllMapped pairs starts names marks r count = (C : Context) × (Mapped C pairs starts names marks r × (C.count ≡ count))

-- the lowest bit of a region's mark
abbrev pub is_marked : List ℕ → ℕ → Bool
is_marked marks x = eqb (entry_at marks x % 2) 1

abbrev pub pair_marked : List ℕ → Pair → Bool
pair_marked marks p = is_marked marks p.lo || is_marked marks p.hi

module _ (C : Context) where
  -- an edge that keeps the component named r from being a candidate
  unfoldable pub spoils_at : ℕ → ℕ → Bool
  unfolding any
  spoils_at r i = edge C r i && (not (all_in_lem C r i) || any C.anchored (regions_of (C.pairs i)))

  abbrev pub candidate : ℕ → Bool
  candidate r = is_candidate C (components C) r

  abbrev pub port : ℕ → ℕ → Bool
  port r i = is_port C (components C) r i

  -- no boundary from `first` on, before `end`, is a port
  abbrev pub NoPort : ℕ → ℕ → ℕ → Type 0
  NoPort r first end = (k : ℕ) → first ≤ k → k < end → port r k ≡ false

  -- j is the first port from `first` on, before `count`
  abbrev pub PortFrom : ℕ → ℕ → ℕ → ℕ → Type 0
  PortFrom r count first j = (first ≤ j) × (j < count) × (port r j ≡ true) × NoPort r first j

  abbrev pub NextPort : ℕ → ℕ → ℕ → Option ℕ → Type 0
  NextPort r count first found = MatchOption found (NoPort r first count) (PortFrom r count first)

abbrev pub both_ports : ℕ → ℕ → Option Ports
both_ports a b = Some (record { first = a; second = b })

-- two ports and no more
abbrev pub two_ports : List ℕ → Option Ports
two_ports [] = None
two_ports (a ∷ []) = None
two_ports (a ∷ b ∷ []) = both_ports a b
two_ports (a ∷ b ∷ c ∷ l) = None
