-- Scans: over the numbers below n, the way a loop goes, and over lists; by structural recursion, so that they compute.
-- The Rust's sets are put as such scans: a set is its test, its size a count, a walk over it in ascending order a `collect`. Assumes nothing.
use Rattle.std.specs.Prelude.{ℕ, zero, suc, ◌+◌, Bool, true, false, ◌&&◌, ◌||◌, cond, List, [], ◌∷◌, ◌++◌, eqb, Option, None, Some}

-- ---- over the numbers below n

unfoldable pub any_below_lem : ℕ → (ℕ → Bool) → Bool
any_below_lem zero f = false
any_below_lem (suc n) f = any_below_lem n f || f n

unfoldable pub all_below : ℕ → (ℕ → Bool) → Bool
all_below zero f = true
all_below (suc n) f = all_below n f && f n

abbrev pub bit : Bool → ℕ
bit true = 1
bit false = 0

unfoldable pub count_below : ℕ → (ℕ → Bool) → ℕ
count_below zero f = 0
count_below (suc n) f = count_below n f + bit (f n)

module _ {A : Type 0} where
  abbrev pub to_list : Option A → List A
  to_list None = []
  to_list (Some a) = a ∷ []

  abbrev pub only_if : Bool → A → Option A
  only_if true a = Some a
  only_if false a = None

  -- what f finds at the numbers below n, in ascending order
  unfoldable pub collect : ℕ → (ℕ → Option A) → List A
  collect zero f = []
  collect (suc n) f = collect n f ++ to_list (f n)

  -- the lists that f gives at the numbers below n, joined in ascending order
  unfoldable pub gather : ℕ → (ℕ → List A) → List A
  gather zero f = []
  gather (suc n) f = gather n f ++ f n

-- n, n + 1, .., of k numbers
unfoldable pub run : ℕ → ℕ → List ℕ
run n zero = []
run n (suc k) = n ∷ run (suc n) k

-- ---- over lists

module _ {A : Type 0} where
  unfoldable pub any : (A → Bool) → List A → Bool
  any f [] = false
  any f (x ∷ l) = f x || any f l

  unfoldable pub all : (A → Bool) → List A → Bool
  all f [] = true
  all f (x ∷ l) = f x && all f l

  unfoldable pub filter : (A → Bool) → List A → List A
  filter f [] = []
  filter f (x ∷ l) = cond (f x) (x ∷ filter f l) (filter f l)

module _ {A B : Type 0} where
  unfoldable pub concat_map : (A → List B) → List A → List B
  concat_map f [] = []
  concat_map f (x ∷ l) = f x ++ concat_map f l

unfoldable pub member : ℕ → List ℕ → Bool
unfolding any
member r l = any (eqb r) l

-- l with x behind it, if x is not there
unfoldable pub add_new : List ℕ → ℕ → List ℕ
unfolding member
add_new l x = cond (member x l) l (l ++ (x ∷ []))

unfoldable pub add_all : List ℕ → List ℕ → List ℕ
unfolding add_new
add_all l [] = l
add_all l (x ∷ xs) = add_all (add_new l x) xs
