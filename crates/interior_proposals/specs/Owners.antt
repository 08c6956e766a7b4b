-- The component that the pairs of an ordinary full cut lie in. Definitions only; assumes nothing.
use Rattle.std.specs.Prelude.{ℕ, suc, ◌-◌, ◌*◌, ◌≤◌, ◌<◌, ◌≡◌, Bool, true, false, ◌&&◌, ◌||◌, List, [], length, get_or, eqb}
use Rattle.definitions.specs.Limits.{numbers_per_pair}
use Rattle.definitions.specs.Scan.{any, all}
use Rattle.definitions.specs.Grid.{Pair}
use Rattle.definitions.specs.Context.{Context}
use Rattle.definitions.specs.RampInteriors.{is_ordinary, components, component_of, is_edge}
use Rattle.interior_proposals.specs.Forest.{Rows}
use Rattle.context.specs.declared.found_regions.FoundRegions.{FoundRegions}
use Rattle.context.specs.declared.found_regions.FoundRegions.TheVariants as owner-is

-- the rows from `first` on, before `end`, stand in the list, and what they name has one of n entries
pub record Walkable (rows : List ℕ) (first end n : ℕ) : Type 0 where
  pub rising : first ≤ end
  pub long : numbers_per_pair * end ≤ length rows
  pub placed : Rows (suc n) rows first end

-- what is kept of region x
abbrev pub entry_at : List ℕ → ℕ → ℕ
entry_at l x = get_or l (x - 1) 0

-- the smaller region of p is named r
abbrev pub low_named : List ℕ → ℕ → Pair → Bool
low_named names r p = eqb (entry_at names p.lo) r

-- a region of p is
abbrev pub pair_named : List ℕ → ℕ → Pair → Bool
pair_named names r p = eqb (entry_at names p.lo) r || eqb (entry_at names p.hi) r

abbrev pub nobody : FoundRegions
nobody = owner-is.None

abbrev pub one_owner : ℕ → FoundRegions
one_owner r = owner-is.One r

abbrev pub several : FoundRegions
several = owner-is.Several

abbrev pub is_one : FoundRegions → Bool
is_one owner-is.None = false
is_one (owner-is.One r) = true
is_one owner-is.Several = false

-- the owner is the component named r
abbrev pub owned_by : ℕ → FoundRegions → Bool
owned_by r owner-is.None = false
owned_by r (owner-is.One n) = eqb n r
owned_by r owner-is.Several = false

-- the component, if it is one; else 0, which names none
abbrev pub name_of : FoundRegions → ℕ
name_of owner-is.None = 0
name_of (owner-is.One n) = n
name_of owner-is.Several = 0

abbrev pub owner_at : List FoundRegions → ℕ → FoundRegions
owner_at owners i = get_or owners i nobody

-- the component that boundary i has for its owner
abbrev pub name_at : List FoundRegions → ℕ → ℕ
name_at owners i = name_of (owner_at owners i)

-- the component whose name the smaller regions of all pairs of l have
pub data Common (names : List ℕ) (l : List Pair) : FoundRegions → Type 0 where
  none : l ≡ [] → Common names l nobody
  one : (n : ℕ) → all (low_named names n) l ≡ true → any (low_named names n) l ≡ true → Common names l (one_owner n)
  several_names : (m n : ℕ) → (m ≡ n → ⊥) → any (low_named names m) l ≡ true → any (low_named names n) l ≡ true → Common names l several

module _ (C : Context) where
  -- every pair of boundary i is in the component named r
  abbrev pub all_in_lem : ℕ → ℕ → Bool
  all_in_lem r i = all (λ p. eqb (component_of C (components C) p.lo) r) (C.pairs i)

  abbrev pub edge : ℕ → ℕ → Bool
  edge r i = is_edge C (components C) r i

  -- v is the component in which all pairs of boundary i lie, if it is an ordinary full cut with a pair
  pub record Owned (i : ℕ) (v : FoundRegions) : Type 0 where
    pub range : (r : ℕ) → v ≡ one_owner r → (1 ≤ r) × (r ≤ C.regions)
    pub whole : (r : ℕ) → 1 ≤ r → r ≤ C.regions → owned_by r v ≡ (edge r i && all_in_lem r i)
    pub part : (r : ℕ) → 1 ≤ r → r ≤ C.regions → edge r i ≡ true → (v ≡ several → ⊥) → all_in_lem r i ≡ true
    pub ordinary : v ≡ several → is_ordinary C i ≡ true

  abbrev pub Owners : List FoundRegions → Type 0
  Owners owners = (i : ℕ) → i < C.count → Owned i (owner_at owners i)
