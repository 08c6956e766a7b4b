-- A list of parents, as crate `parents` has them, that stands for a list of names: what is said of region r stands at r - 1 in the former, and at r in the latter. Definitions only; assumes nothing.
use Rattle.std.specs.Prelude.{ℕ, suc, ◌-◌, ◌≤◌, ◌<◌, ◌≡◌, List, length, get_or}
use Rattle.definitions.specs.Grid.{Pair}
use Rattle.definitions.specs.Partition.{merge_all}
use Rattle.laws.specs.ListLaws.Beyond.{Beyond}
use Rattle.context.specs.Shown.{pair_at}
use Rattle.parents.specs.Forest as parents

-- the class of number c, where region c + 1 has its name from cs: one less than the name
abbrev pub class_of : List ℕ → ℕ → ℕ
class_of cs c = get_or cs (suc c) 0 - 1

-- cs names regions, and the list has parents of their classes
pub record Parented (cs ps : List ℕ) : Type 0 where
  pub named : (x : ℕ) → 1 ≤ x → x < length cs → 1 ≤ get_or cs x 0
  pub classes : parents.Forest (length cs - 1) (class_of cs) ps

-- both regions of a pair have names, of a list of n names
pub record Placed (n : ℕ) (p : Pair) : Type 0 where
  pub low_from : 1 ≤ p.lo
  pub low_upto : p.lo < n
  pub high_from : 1 ≤ p.hi
  pub high_upto : p.hi < n

-- the pairs of the rows from `first` on, before `end`, have names, of a list of n names
abbrev pub Rows : ℕ → List ℕ → ℕ → ℕ → Type 0
Rows n rows first end = (k : ℕ) → first ≤ k → k < end → Placed n (pair_at rows k)

abbrev pub RowsJoinable : List ℕ → List ℕ → ℕ → ℕ → Type 0
RowsJoinable ps rows first end = (cs : List ℕ) × (Parented cs ps × Rows (length cs) rows first end)

-- the parents are those of the names of `regions` regions
abbrev pub Forest : List ℕ → ℕ → Type 0
Forest ps regions = (cs : List ℕ) × (Parented cs ps × (length cs ≡ suc regions))

-- the parents, once `was`, have the names of the list in which pairs are merged
pub record Merged (cs was : List ℕ) (l : List Pair) (ps : List ℕ) : Type 0 where
  pub parented : Parented (merge_all cs l) ps
  pub beyond : Beyond (length cs - 1) was ps

-- the list has for each region its name, which is no larger
pub record Names (cs ps : List ℕ) : Type 0 where
  pub long : length cs ≤ suc (length ps)
  pub low : (x : ℕ) → 1 ≤ x → x < length cs → 1 ≤ get_or ps (x - 1) 0
  pub high : (x : ℕ) → 1 ≤ x → x < length cs → get_or ps (x - 1) 0 ≤ x
  pub at : (x : ℕ) → 1 ≤ x → x < length cs → get_or ps (x - 1) 0 ≡ get_or cs x 0
