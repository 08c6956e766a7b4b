-- More sweeps find more places, and after as many as there are places a sweep finds no new one: each sweep that changes anything adds a place. Assumes nothing.
use Prim.Native.Nat.{ℕ, zero, suc, ◌≤◌, ◌<◌, ◌+◌, ◌*◌, ◌-◌, ◌/◌, ◌%◌}
use native.Mathlib.Omega.{arith}
use Rattle.std.proofs.Common.{suc-mul, mul-le-mul_right, sym, ap, ap₂, ◌∙◌, inl, inr, ltb-true, ltb-false, leb-true, leb-false}
use Rattle.std.specs.Prelude.{◌≡◌, ◌⊎◌, Bool, not, ◌&&◌, ◌||◌, eqb, ltb, leb}
use Rattle.std.proofs.Math.Path.{refl, subst}
use Rattle.std.proofs.Math.Bool.{true, false}
use Rattle.std.proofs.Math.Arith.{digits_div, digits_mod}
use Rattle.definitions.specs.Scan.{all_below, count_below, bit}
use Rattle.laws.specs.ListLaws.Tests.{both, same_test}
use Rattle.laws.specs.ListLaws.ScanSteps.{count-le as count-top}
use Rattle.game.specs.Game.{Game, Place, move_to, is_move, runner_has_won, is_over, Inside}
use Rattle.game.specs.Places.{size, code, place_of}
use Rattle.game.specs.Search.{some_move, every_move, sweep, wins_within, sweeps}
use Rattle.game.proofs.Sweeps.{Least, least_is, some_at, every_at, sweep-won, sweep-over, sweep-runner, sweep-guard, region-below, moved_in}

-- ---- counts of two tests, the second of which passes wherever the first does

module _ (f g : ℕ → Bool) where
  bit_le : (a b : Bool) → (a ≡ true → b ≡ true) → bit a ≤ bit b
  bit_le true b h = subst (λ c. 1 ≤ bit c) (sym (h refl)) (omega arith)
  bit_le false b h = omega arith

  bit_same : (a b : Bool) → (a ≡ true → b ≡ true) → bit b ≤ bit a → a ≡ b
  bit_same true b h l = sym (h refl)
  bit_same false true h l = absurd (omega arith)
  bit_same false false h l = refl

  pub count-le : (n : ℕ) → ((c : ℕ) → c < n → f c ≡ true → g c ≡ true) → count_below n f ≤ count_below n g
  unfolding count_below
  count-le zero u = omega arith
  count-le (suc n) u = omega (arith, count-le n (λ c l. u c (omega arith)), bit_le (f n) (g n) (u n (omega arith)))

  -- where the counts agree, so do the tests
  pub count_same : (n : ℕ) → ((c : ℕ) → c < n → f c ≡ true → g c ≡ true) → count_below n g ≤ count_below n f → (c : ℕ) → c < n → f c ≡ g c
  unfolding count_below
  count_same zero u h c l = absurd (omega arith)
  count_same (suc n) u h c l = go (ltb c n) refl (λ k. count_same n (λ c l. u c (omega arith)) (omega (arith, bit_le (f n) (g n) (u n (omega arith)))) c k)
    where
      here : f n ≡ g n
      here = bit_same (f n) (g n) (u n (omega arith)) (omega (arith, count-le n (λ c l. u c (omega arith))))

      go : (b : Bool) → ltb c n ≡ b → (c < n → f c ≡ g c) → f c ≡ g c
      go true e ih = ih (ltb-true c n e)
      go false e ih = subst (λ k. f k ≡ g k) (omega (arith, ltb-false c n e)) here

module _ (G : Game) where
  -- ---- a sweep is no less where it starts from no less

  module _ (f g : Place → Bool) (x : Place) (u : (d : ℕ) → is_move G x d ≡ true → f (move_to x d) ≡ true → g (move_to x d) ≡ true) where
    some_le : some_move G f x ≡ true → some_move G g x ≡ true
    unfolding some_move
    some_le h = go (least_is (suc G.regions) (λ d. is_move G x d && f (move_to x d)) h)
      where
        go : {d : ℕ} → Least (λ d. is_move G x d && f (move_to x d)) (suc G.regions) d → some_move G g x ≡ true
        go {d} l = some_at G g x d l.below (both (is_move G x d) (f (move_to x d)) l.found).0 (u d (both (is_move G x d) (f (move_to x d)) l.found).0 (both (is_move G x d) (f (move_to x d)) l.found).1)

    every_le : every_move G f x ≡ true → every_move G g x ≡ true
    unfolding all_below every_move
    every_le h = all_from (suc G.regions) (λ d l. go d l (is_move G x d) refl)
      where
        go : (d : ℕ) → d < suc G.regions → (b : Bool) → is_move G x d ≡ b → (not b || g (move_to x d)) ≡ true
        go d l true m = u d m (every_at G f x h d l m)
        go d l false m = refl

        all_from : (n : ℕ) → ((d : ℕ) → d < n → (not (is_move G x d) || g (move_to x d)) ≡ true) → all_below n (λ d. not (is_move G x d) || g (move_to x d)) ≡ true
        all_from zero h = refl
        all_from (suc n) h = ap₂ ◌&&◌ (all_from n (λ d l. h d (omega arith))) (h n (omega arith))

    pub sweep-le : sweep G f x ≡ true → sweep G g x ≡ true
    sweep-le h = go (is_over G x) refl x.runners_turn refl
      where
        go : (o : Bool) → is_over G x ≡ o → (t : Bool) → x.runners_turn ≡ t → sweep G g x ≡ true
        go true o t q = sweep-won G g x (sym (sweep-over G f x o) ∙ h)
        go false o true q = sweep-runner G g x o q ∙ some_le (sym (sweep-runner G f x o q) ∙ h)
        go false o false q = sweep-guard G g x o q ∙ every_le (sym (sweep-guard G f x o q) ∙ h)

  -- ---- more sweeps find more

  pub wins_more : (k : ℕ) (x : Place) → wins_within G k x ≡ true → wins_within G (suc k) x ≡ true
  unfolding wins_within
  wins_more zero x h = sweep-won G (wins_within G zero) x h
  wins_more (suc k) x h = sweep-le (wins_within G k) (wins_within G (suc k)) x (λ d m. wins_more k (move_to x d)) h

  pub wins_by : (k j : ℕ) (x : Place) → wins_within G k x ≡ true → wins_within G (j + k) x ≡ true
  wins_by k zero x h = subst (λ n. wins_within G n x ≡ true) (omega arith) h
  wins_by k (suc j) x h = subst (λ n. wins_within G n x ≡ true) (omega arith) (wins_more (j + k) x (wins_by k j x h))

  pub wins-le : (k m : ℕ) (x : Place) → k ≤ m → wins_within G k x ≡ true → wins_within G m x ≡ true
  wins-le k m x l h = subst (λ n. wins_within G n x ≡ true) (omega arith) (wins_by k (m - k) x h)

  pub won-wins : (m : ℕ) (x : Place) → runner_has_won G x ≡ true → wins_within G m x ≡ true
  unfolding wins_within
  won-wins zero x h = h
  won-wins (suc m) x h = sweep-won G (wins_within G m) x h

  pub over-wins : (m : ℕ) (x : Place) → is_over G x ≡ true → wins_within G m x ≡ runner_has_won G x
  unfolding wins_within
  over-wins zero x o = refl
  over-wins (suc m) x o = sweep-over G (wins_within G m) x o

  -- ---- sweeps settle

  -- a sweep after k finds no new place
  abbrev Still : ℕ → Type 0
  Still k = (x : Place) → Inside G x → wins_within G k x ≡ wins_within G (suc k) x

  still_on : (k : ℕ) → Still k → Still (suc k)
  unfolding wins_within
  still_on k s x i = same_test (wins_more (suc k) x) (sweep-le (wins_within G (suc k)) (wins_within G k) x (λ d m h. s (move_to x d) (moved_in G x d i m) ∙ h))

  -- ---- places as numbers

  bit_lt : (b : Bool) → bit b < 2
  bit_lt true = omega arith
  bit_lt false = omega arith

  bit-back : (b : Bool) → eqb (bit b) 1 ≡ b
  bit-back true = refl
  bit-back false = refl

  pub code-back : (x : Place) → Inside G x → place_of G (code G x) ≡ x
  unfolding code place_of
  code-back x i = λ j. record { runner = runner-back j; guard = guard-back j; runners_turn = turn-back j }
    where
      half : code G x / 2 ≡ x.runner * size G + x.guard
      half = digits_div (x.runner * size G + x.guard) (bit_lt x.runners_turn)

      runner-back : code G x / 2 / size G ≡ x.runner
      runner-back = ap (λ h. h / size G) half ∙ digits_div x.runner (region-below G x.guard i.guard_in)

      guard-back : code G x / 2 % size G ≡ x.guard
      guard-back = ap (λ h. h % size G) half ∙ digits_mod x.runner (region-below G x.guard i.guard_in)

      turn-back : eqb (code G x % 2) 1 ≡ x.runners_turn
      turn-back = ap (λ h. eqb h 1) (digits_mod (x.runner * size G + x.guard) (bit_lt x.runners_turn)) ∙ bit-back x.runners_turn

  pub code_below : (x : Place) → Inside G x → code G x < 2 * (size G * size G)
  unfolding code
  code_below x i = omega (arith, region-below G x.guard i.guard_in, grid, bit_lt x.runners_turn)
    where
      grid : x.runner * size G + size G ≤ size G * size G
      grid = subst (λ n. n ≤ size G * size G) (suc-mul x.runner (size G)) (mul-le-mul_right (size G) (region-below G x.runner i.runner_in))

  -- ---- how many places are found

  found : ℕ → ℕ
  found k = count_below (2 * (size G * size G)) (λ c. wins_within G k (place_of G c))

  -- where no more are found, none is new
  found-still : (k : ℕ) → found (suc k) ≤ found k → Still k
  unfolding found
  found-still k l x i = subst (λ y. wins_within G k y ≡ wins_within G (suc k) y) (code-back x i) (count_same _ _ (2 * (size G * size G)) (λ c h. wins_more k (place_of G c)) l (code G x) (code_below x i))

  found-top : (k : ℕ) → found k ≤ 2 * (size G * size G)
  unfolding found
  found-top k = count-top (λ c. wins_within G k (place_of G c)) (2 * (size G * size G))

  -- after k sweeps they have settled, or have found k places at least
  grows : (k : ℕ) → Still k ⊎ (k ≤ found k)
  grows zero = inr (omega arith)
  grows (suc k) = go (grows k) (leb (found (suc k)) (found k)) refl
    where
      go : Still k ⊎ (k ≤ found k) → (b : Bool) → leb (found (suc k)) (found k) ≡ b → Still (suc k) ⊎ (suc k ≤ found (suc k))
      go (inl s) b e = inl (still_on k s)
      go (inr l) true e = inl (still_on k (found-still k (leb-true _ _ e)))
      go (inr l) false e = inr (omega (arith, leb-false (found (suc k)) (found k) e))

  -- a sweep more finds nothing new
  pub settled : (x : Place) → Inside G x → wins_within G (sweeps G) x ≡ wins_within G (suc (sweeps G)) x
  unfolding sweeps
  settled = go (grows (sweeps G))
    where
      go : Still (sweeps G) ⊎ (sweeps G ≤ found (sweeps G)) → Still (sweeps G)
      go (inl s) = s
      go (inr l) = absurd (omega (arith, found-top (sweeps G)))

  still_from : (j : ℕ) → Still (j + sweeps G)
  still_from zero = subst (λ n. Still n) (omega arith) settled
  still_from (suc j) = subst (λ n. Still n) (omega arith) (still_on (j + sweeps G) (still_from j))

  still_ever : (j : ℕ) (x : Place) → Inside G x → wins_within G (j + sweeps G) x ≡ true → wins_within G (sweeps G) x ≡ true
  still_ever zero x i h = subst (λ n. wins_within G n x ≡ true) (omega arith) h
  still_ever (suc j) x i h = still_ever j x i (still_from j x i ∙ subst (λ n. wins_within G n x ≡ true) (omega arith) h)

  -- whatever is found at all is found by then
  pub found_by_then : (m : ℕ) (x : Place) → Inside G x → wins_within G m x ≡ true → wins_within G (sweeps G) x ≡ true
  found_by_then m x i h = still_ever m x i (wins-le m (m + sweeps G) x (omega arith) h)
