-- What lent lists hold before a call, and which of their entries are written of them after it. Definitions only; assumes nothing.
use Rattle.std.specs.Prelude.{ℕ, ◌+◌, ◌%◌, ◌≤◌, ◌<◌, ◌≡◌, List, length, get_or, Bool, true, false, not, nat_eq}

-- entry i before the call
abbrev pub held_at : ℕ → ℕ
held_at i = 60000 + i % 5000

-- the first n entries are those before the call, as their type holds them
abbrev pub HeldBefore : {A : Type 0} → (ℕ → A → Type 0) → ℕ → List A → Type 0
HeldBefore {A} gives n l = (i : ℕ) (e : A) → i < n → gives (held_at i) (get_or l i e)

-- whether entry i is not as it was, where an entry is a number as `converts` says
pub record IsOther {A : Type 0} (converts : A → ℕ → Type 0) (l : List A) (i : ℕ) (answer : Bool) : Type 0 where
  pub number : ℕ
  pub converted : (e : A) → converts (get_or l i e) number
  pub said : answer ≡ not (nat_eq number (held_at i))

-- r is how many entries there are up to the last one that is not as it was
pub record Changed {A : Type 0} (converts : A → ℕ → Type 0) (l : List A) (r : ℕ) : Type 0 where
  pub within : r ≤ length l
  pub left : (i : ℕ) → r ≤ i → i < length l → IsOther converts l i false
  pub last : (i : ℕ) → r ≡ i + 1 → IsOther converts l i true

-- r is how many entries in front are zero
pub record Zeros {A : Type 0} (converts : A → ℕ → Type 0) (l : List A) (r : ℕ) : Type 0 where
  pub within : r ≤ length l
  pub front : (i : ℕ) (e : A) → i < r → converts (get_or l i e) 0
  pub ends : (e : A) → r < length l → (n : ℕ) × converts (get_or l r e) n × (n ≡ 0 → ⊥)
