-- Leaves: what the walk over the rows of a port leaves of names and marks. Definitions only; assumes nothing.
use Rattle.std.specs.Prelude.{ℕ, ◌+◌, ◌≤◌, ◌<◌, ◌≡◌, Bool, true, false, ◌&&◌, ◌⊎◌, List, length, get_or, eqb, leb}
use Rattle.definitions.specs.Limits.{max_entries}
use Rattle.definitions.specs.Scan.{all, member}
use Rattle.definitions.specs.Grid.{Pair}
use Rattle.definitions.specs.Context.{Context, is_incident, incident_count}
use Rattle.definitions.specs.RampInteriors.{Expansion, inside_count, exteriors, expand_port}
use Rattle.laws.specs.ListLaws.Beyond.{Beyond}
use Rattle.context.specs.Shown.{pairs_between}
use Rattle.interior_proposals.specs.Given.{Marked}
use Rattle.interior_proposals.specs.Owners.{Walkable, entry_at}

-- the rows name regions up to n, for which there are names and marks
abbrev pub Reachable : List ℕ → ℕ → ℕ → List ℕ → List ℕ → Type 0
Reachable rows first end names marks = (n : ℕ) × (Walkable rows first end n × ((n ≤ length names) × (n ≤ length marks)))

-- of the rows of boundary i
pub record PortReachable (rows starts names marks : List ℕ) (i : ℕ) : Type 0 where
  pub few : i < max_entries
  pub reachable : Reachable rows (get_or starts i 0) (get_or starts (i + 1) 0) names marks

-- the regions named r are those of rs
pub record Inside (C : Context) (r : ℕ) (rs names : List ℕ) : Type 0 where
  pub long : C.regions ≤ length names
  pub at : (x : ℕ) → 1 ≤ x → x ≤ C.regions → eqb (entry_at names x) r ≡ member x rs

-- region x has boundary i for its only incident
pub record Single (C : Context) (i x : ℕ) : Type 0 where
  pub one : incident_count C x ≡ 1
  pub mine : is_incident C i x ≡ true

-- the names, once `was`, are as they were, but for regions with the one incident i, which may be named r
pub record Grown (C : Context) (i r : ℕ) (was names : List ℕ) : Type 0 where
  pub beyond : Beyond C.regions was names
  pub each : (x : ℕ) → 1 ≤ x → x ≤ C.regions → (entry_at names x ≡ entry_at was x) ⊎ ((entry_at names x ≡ r) × Single C i x)

-- ---- exteriors

-- the exteriors of the pairs of l are marked, and `fit` says that no pair has two regions in rs
pub record Exteriored (C : Context) (rs : List ℕ) (l : List Pair) (was marks : List ℕ) (fit : Bool) : Type 0 where
  pub marked : Marked C (λ x. member x (exteriors rs l)) marks
  pub beyond : Beyond C.regions was marks
  pub fits : fit ≡ all (λ p. leb (inside_count rs p) 1) l

-- none is marked
pub record Cleared (C : Context) (was marks : List ℕ) : Type 0 where
  pub marked : Marked C (λ x. false) marks
  pub beyond : Beyond C.regions was marks

-- ---- leaves

abbrev pub from : List ℕ → Bool → Expansion
from rs v = record { regions = rs; valid = v }

-- the names hold the regions of s, and `fit` says whether s is valid as far as v was
pub record Held (C : Context) (i r : ℕ) (s : Expansion) (v : Bool) (was names : List ℕ) (fit : Bool) : Type 0 where
  pub inside : Inside C r s.regions names
  pub grown : Grown C i r was names
  pub fits : (v && fit) ≡ s.valid

-- the rows from `first` on are the pairs of boundary i
pub record Ported (C : Context) (rows : List ℕ) (first end i : ℕ) : Type 0 where
  pub walk : Walkable rows first end C.regions
  pub at : C.pairs i ≡ pairs_between rows first end

-- a pair of boundary i names the regions lo and hi
pub record RowOf (C : Context) (i lo hi : ℕ) : Type 0 where
  pub low_from : 1 ≤ lo
  pub low_upto : lo ≤ C.regions
  pub high_from : 1 ≤ hi
  pub high_upto : hi ≤ C.regions
  pub low_incident : is_incident C i lo ≡ true
  pub high_incident : is_incident C i hi ≡ true

-- a port was walked: the names hold the regions of the expansion, and no mark of an exterior is left
pub record Walked (C : Context) (i r : ℕ) (rs : List ℕ) (v : Bool) (wasNames names wasMarks marks : List ℕ) (fit : Bool) : Type 0 where
  pub held : Held C i r (expand_port C (from rs v) i) v wasNames names fit
  pub cleared : Cleared C wasMarks marks

-- two ports were walked, one after the other
pub record BothWalked (C : Context) (a b r : ℕ) (rs wasNames names wasMarks marks : List ℕ) (fit : Bool) : Type 0 where
  pub fits : fit ≡ (expand_port C (expand_port C (from rs true) a) b).valid
  pub inside : Inside C r (expand_port C (expand_port C (from rs true) a) b).regions names
  pub beyond : Beyond C.regions wasNames names
  pub each : (x : ℕ) → 1 ≤ x → x ≤ C.regions → (entry_at names x ≡ entry_at wasNames x) ⊎ ((entry_at names x ≡ r) × (Single C a x ⊎ Single C b x))
  pub cleared : Cleared C wasMarks marks
