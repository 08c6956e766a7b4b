-- Labels in place of parents: the words of the contract of `number`. Definitions only; assumes nothing.
use Rattle.std.specs.Prelude.{ℕ, suc, ◌+◌, ◌≤◌, ◌<◌, ◌≡◌, Bool, true, ◌&&◌, cond, List, length, get_or, drop, eqb}
use Rattle.definitions.specs.Scan.{count_below}
use Rattle.laws.specs.ListLaws.Beyond.{Beyond}
use Rattle.parents.specs.Forest.{Forest}
use Rattle.row_runs.specs.Stretch.{walks}
use Rattle.row_runs.specs.South.{Kept}

-- Stretches of alike cells from cell c to before n: the queue has, at the first cell of each, where it ends. The cells of a run have one name.
pub data NamedRuns (cells q : List ℕ) (name : ℕ → ℕ) (n : ℕ) : ℕ → Type 0 where
  ended : NamedRuns cells q name n n
  more : {c e : ℕ} → c < e → e ≤ n → get_or q c 0 ≡ e → ((d : ℕ) → c ≤ d → d < e → walks cells d ≡ walks cells c) → (walks cells c ≡ true → (d : ℕ) → c ≤ d → d < e → name d ≡ name c) → NamedRuns cells q name n e → NamedRuns cells q name n c

-- a walkable cell that is its own name
abbrev pub is_named : List ℕ → (ℕ → ℕ) → ℕ → Bool
is_named cells name c = walks cells c && eqb (name c) c

-- names that number to labels: the parents p lead to them, walkable cells have walkable names, and each run has one
pub record Named (cells p q : List ℕ) (n : ℕ) (name : ℕ → ℕ) : Type 0 where
  pub forest : Forest n name p
  pub walkable : Kept n name (walks cells)
  pub runs : NamedRuns cells q name n 0

pub record NumberAsked (cells p q : List ℕ) (n : ℕ) : Type 0 where
  pub cells_long : n ≤ length cells
  pub queue_long_lem : n ≤ length q
  pub name : ℕ → ℕ
  pub named : Named cells p q n name

-- a walkable cell has one more than the number of names before its own, any other 0; r is the number of names
pub record Numbered (cells : List ℕ) (n : ℕ) (name : ℕ → ℕ) (was l : List ℕ) (r : ℕ) : Type 0 where
  pub labels : (c : ℕ) → c < n → get_or l c 0 ≡ cond (walks cells c) (suc (count_below (name c) (is_named cells name))) 0
  pub count : r ≡ count_below n (is_named cells name)
  pub beyond : Beyond n was l

-- ---- one stretch

-- The label of a stretch from cell c on, where l has labels before c, parents from c on, and the labels given are those up to `id`.
abbrev pub label_at : List ℕ → List ℕ → ℕ → ℕ → ℕ
label_at cells l c id = cond (walks cells c) (cond (eqb (get_or l c 0) c) (id + 1) (get_or l (get_or l c 0) 0)) 0

pub record LabelAsked (cells l : List ℕ) (c id : ℕ) : Type 0 where
  pub cells_long : c < length cells
  pub labels_long : c < length l
  pub parent_low : get_or l c 0 ≤ c
  pub few : id ≤ 1048576

-- the entries from `from` up to `end` are v, all others as they were
pub record Filled (from end v : ℕ) (was l : List ℕ) : Type 0 where
  pub inside : (c : ℕ) → from ≤ c → c < end → get_or l c 0 ≡ v
  pub before : (c : ℕ) → c < from → get_or l c 0 ≡ get_or was c 0
  pub behind : (c : ℕ) → end ≤ c → get_or l c 0 ≡ get_or was c 0
  pub long : length l ≡ length was
  pub rest : (n : ℕ) → end ≤ n → drop n l ≡ drop n was
