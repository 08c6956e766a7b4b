-- Names of the numbers below n, and a list of parents that leads to them: the words of the contracts. A name is a function, and no list holds it. Definitions
-- only; assumes nothing.
use Rattle.std.specs.Prelude.{ℕ, ◌≤◌, ◌<◌, ◌≡◌, List, length, get_or}
use Rattle.laws.specs.ListLaws.Beyond.{Beyond}
use Rattle.laws.specs.RegionLaws.Merging.{merged}

-- v may be the parent of c: it is no larger, is named alike, and who is his own parent is his own name
pub record Parent (name : ℕ → ℕ) (c v : ℕ) : Type 0 where
  pub low : v ≤ c
  pub same : name v ≡ name c
  pub top : v ≡ c → name c ≡ c

-- the first n entries of p are parents; n is at most the number of cells of the largest map
pub record Forest (n : ℕ) (name : ℕ → ℕ) (p : List ℕ) : Type 0 where
  pub few : n ≤ 1048576
  pub long : n ≤ length p
  pub parent : (c : ℕ) → c < n → Parent name c (get_or p c 0)

-- The names where the classes of a and b become one, named by the lesser: `merge` of definitions, number by number.
abbrev pub joined_name : (ℕ → ℕ) → ℕ → ℕ → ℕ → ℕ
joined_name name a b c = merged (name a) (name b) (name c)

-- ---- what is asked

-- some names make p parents, of c too
pub record Placed (p : List ℕ) (c : ℕ) : Type 0 where
  pub n : ℕ
  pub name : ℕ → ℕ
  pub forest : Forest n name p
  pub inside : c < n

-- of a and b
pub record PlacedTwo (p : List ℕ) (a b : ℕ) : Type 0 where
  pub n : ℕ
  pub name : ℕ → ℕ
  pub forest : Forest n name p
  pub first : a < n
  pub second : b < n

-- ---- what is left

-- parents of these names, beyond n as they were
pub record Left (n : ℕ) (name : ℕ → ℕ) (was p : List ℕ) : Type 0 where
  pub forest : Forest n name p
  pub beyond : Beyond n was p

-- the same names, and r is the name of c
pub record Found (n : ℕ) (name : ℕ → ℕ) (c : ℕ) (was p : List ℕ) (r : ℕ) : Type 0 where
  pub left : Left n name was p
  pub is : r ≡ name c
