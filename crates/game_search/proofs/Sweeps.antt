-- A sweep over sets is a sweep of the search: where the sets have just the places that pass f, the new ones have just those that pass after one move more.
-- Regions of the game are 1 to R, bits are from 0: a scan over the regions is the scan over the bits moved by one. Assumes nothing.
use Prim.Native.Nat.{ℕ, zero, suc, ◌+◌, ◌-◌, ◌≤◌, ◌<◌}
use native.Mathlib.Omega.{arith}
use mathlib.Core.Path.{◌≡◌, refl, sym, ap, ap₂, ◌∙◌}
use mathlib.Core.Bool.{Bool, true, false, not, ◌&&◌, ◌||◌, false≢true, or-true, or-false}
use mathlib.Core.List.{List}
use lib.ListN.{get_or}
use lib.Dec.{eqb, leb}
use borrow.Author.Tests.{eqb-true, eqb-false, eq-eqb, ne_eqb, le-leb, lt-leb}
use Rattle.definitions.specs.Scan.{any_below_lem, all_below}
use Rattle.definitions.specs.RegionRecord.{has_bit}
use Rattle.laws.specs.ListLaws.Tests.{eqb_same}
use Rattle.laws.specs.ListLaws.Below.{below_ext, all_below_at}
use Rattle.game.specs.Game.{Game, Place, mover, move_to, is_captured, is_region, is_step, is_move, runner_has_won, is_over, Inside}
use Rattle.game.specs.Search.{some_move, every_move, sweep}
use Rattle.game.proofs.Sweeps.{sweep-over, sweep-runner, sweep-guard}
use Rattle.game_sets.specs.Words.{bit_at, do_meet, Plays, runner_bit, guard_bit}
use Rattle.game_search.specs.Words.{at}

-- ---- scans moved by one

any_from_one : (n : ℕ) (h : ℕ → Bool) → any_below_lem (suc n) h ≡ (h 0 || any_below_lem n (λ d. h (suc d)))
unfolding any_below_lem
any_from_one zero h = sym (or-false (h 0))
any_from_one (suc n) h = ap (λ b. b || h (suc n)) (any_from_one n h) ∙ assoc (h 0) (any_below_lem n (λ d. h (suc d))) (h (suc n))
  where
    assoc : (a b c : Bool) → ((a || b) || c) ≡ (a || (b || c))
    assoc true b c = refl
    assoc false b c = refl

all_from_one : (n : ℕ) (h : ℕ → Bool) → all_below (suc n) h ≡ (h 0 && all_below n (λ d. h (suc d)))
unfolding all_below
all_from_one zero h = one (h 0)
  where
    one : (b : Bool) → b ≡ (b && true)
    one true = refl
    one false = refl
all_from_one (suc n) h = ap (λ b. b && h (suc n)) (all_from_one n h) ∙ assoc (h 0) (all_below n (λ d. h (suc d))) (h (suc n))
  where
    assoc : (a b c : Bool) → ((a && b) && c) ≡ (a && (b && c))
    assoc true b c = refl
    assoc false b c = refl

all_ext : (n : ℕ) (f g : ℕ → Bool) → ((c : ℕ) → c < n → f c ≡ g c) → all_below n f ≡ all_below n g
unfolding all_below
all_ext zero f g h = refl
all_ext (suc n) f g h = ap₂ ◌&&◌ (all_ext n f g (λ c l. h c (omega arith))) (h n (omega arith))

-- one that fails makes all fail
all-fails : (n : ℕ) (f : ℕ → Bool) (c : ℕ) → c < n → f c ≡ false → all_below n f ≡ false
all-fails n f c l e = go (all_below n f) refl
  where
    go : (b : Bool) → all_below n f ≡ b → all_below n f ≡ false
    go true h = absurd (false≢true (sym e ∙ all_below_at n f h c l))
    go false h = h

-- what fails from m on is found below m
any-cut : (k m : ℕ) (f : ℕ → Bool) → ((c : ℕ) → m ≤ c → c < k + m → f c ≡ false) → any_below_lem (k + m) f ≡ any_below_lem m f
unfolding any_below_lem
any-cut zero m f h = ap (λ n. any_below_lem n f) none
  where
    none : 0 + m ≡ m
    none = omega arith
any-cut (suc k) m f h =
    ap (λ n. any_below_lem n f) next ∙ ap (λ b. any_below_lem (k + m) f || b) (h (k + m) (omega arith) (omega arith)) ∙ or-false (any_below_lem (k + m) f) ∙ any-cut k m f (λ c l u. h c l (omega arith))
  where
    next : suc k + m ≡ suc (k + m)
    next = omega arith

-- ---- the game of the steps

module _ (near : List ℕ) (regions goal : ℕ) (G : Game) (P : Plays near regions goal G) (few : regions ≤ 32) where
  -- no step leads out of the graph
  step_in : (i j : ℕ) → i < regions → regions ≤ j → j < 32 → bit_at near i j ≡ false
  unfolding is_step
  step_in i j h k l =
      P.steps i j (omega arith) l
      ∙ (λ m. ne_eqb (suc j) (suc i) (λ e. apart e) m || (outside m && G.edge (suc i) (suc j)))
    where
      apart : suc j ≡ suc i → ⊥
      apart e = omega arith

      outside : is_region G.regions (suc j) ≡ false
      outside = ap (λ n. leb 1 (suc j) && leb (suc j) n) P.regions_are ∙ ap (λ b. leb 1 (suc j) && b) (lt-leb (suc j) regions (omega arith)) ∙ none (leb 1 (suc j))
        where
          none : (b : Bool) → (b && false) ≡ false
          none true = refl
          none false = refl

  pub place_in : (r g : ℕ) (t : Bool) → r < regions → g < regions → Inside G (at r g t)
  place_in r g t h k = record { runner_in = region r h; guard_in = region g k }
    where
      region : (d : ℕ) → d < regions → is_region G.regions (suc d) ≡ true
      region d l = ap (λ n. leb 1 (suc d) && leb (suc d) n) P.regions_are ∙ ap₂ ◌&&◌ (le-leb 1 (suc d) (omega arith)) (le-leb (suc d) regions (omega arith))

  same_suc : (a b : ℕ) → eqb a b ≡ eqb (suc a) (suc b)
  same_suc a b = eqb_same a b (suc a) (suc b) ((λ e. ap suc e), (λ e. omega arith))

  captured_is : (r g : ℕ) (t : Bool) → is_captured (at r g t) ≡ eqb r g
  unfolding is_captured
  captured_is r g t = sym (same_suc r g)

  won_is : (r g : ℕ) (t : Bool) → runner_has_won G (at r g t) ≡ (not (eqb r g) && eqb r goal)
  unfolding runner_has_won
  won_is r g t = (λ i. not (captured_is r g t i) && eqb (suc r) (P.goal_is i)) ∙ ap (λ b. not (eqb r g) && b) (sym (same_suc r goal))

  over_is : (r g : ℕ) (t : Bool) → is_over G (at r g t) ≡ (eqb r g || (not (eqb r g) && eqb r goal))
  unfolding is_over
  over_is r g t = λ i. captured_is r g t i || won_is r g t i

  -- nobody goes to region 0
  nowhere : (r g : ℕ) (t : Bool) → is_move G (at r g t) 0 ≡ false
  unfolding is_move is_step mover
  nowhere r g true = ap (λ b. b || false) (ne_eqb 0 (suc r) (λ e. not-zero e))
    where
      not-zero : {n : ℕ} → 0 ≡ suc n → ⊥
      not-zero e = omega arith
  nowhere r g false = ap (λ b. b || false) (ne_eqb 0 (suc g) (λ e. not-zero e))
    where
      not-zero : {n : ℕ} → 0 ≡ suc n → ⊥
      not-zero e = omega arith

  module _ (f : Place → Bool) where
    -- the set has the runner's regions from which f holds, the guard on g + 1
    abbrev Row : Bool → ℕ → ℕ → Type 0
    Row t g set = (r : ℕ) → r < regions → has_bit set r ≡ f (at r g t)

    meets_is : (set g r : ℕ) → Row false g set → r < regions → do_meet (get_or near r 0) set ≡ some_move G f (at r g true)
    unfolding do_meet some_move move_to is_move mover
    meets_is set g r row h =
        ap (λ n. any_below_lem n (λ d. bit_at near r d && has_bit set d)) whole ∙ any-cut (32 - regions) regions (λ d. bit_at near r d && has_bit set d) (λ c l u. ap (λ b. b && has_bit set c) (step_in r c h l (omega arith)))
        ∙ below_ext regions (λ d. bit_at near r d && has_bit set d) (λ d. is_step G (suc r) (suc d) && f (at d g false)) (λ d l. (λ i. P.steps r d (omega arith) (omega arith) i && row d l i))
        ∙ sym (ap (λ n. any_below_lem (suc n) step) P.regions_are ∙ any_from_one regions step ∙ ap (λ b. (b && f (record { runner = 0; guard = suc g; runners_turn = false })) || any_below_lem regions (λ d. step (suc d))) (nowhere r g true))
      where
        step : ℕ → Bool
        step d = is_step G (suc r) d && f (record { runner = d; guard = suc g; runners_turn = false })

        whole : 32 ≡ 32 - regions + regions
        whole = omega arith

    every_is : (sets : List ℕ) (g r : ℕ) → ((d : ℕ) → d < regions → Row true d (get_or sets d 0)) → g < regions → r < regions
        → all_below regions (λ d. not (bit_at near g d) || bit_at sets d r) ≡ every_move G f (at r g false)
    unfolding every_move move_to is_move mover
    every_is sets g r rows h k =
        all_ext regions (λ d. not (bit_at near g d) || bit_at sets d r) (λ d. step (suc d)) (λ d l. (λ i. not (P.steps g d (omega arith) (omega arith) i) || rows d l r k i))
        ∙ sym (ap (λ n. all_below (suc n) step) P.regions_are ∙ all_from_one regions step ∙ ap (λ b. (not b || f (record { runner = suc r; guard = 0; runners_turn = true })) && all_below regions (λ d. step (suc d))) (nowhere r g false))
      where
        step : ℕ → Bool
        step d = not (is_step G (suc g) d) || f (record { runner = suc r; guard = d; runners_turn = true })

    pub runner_bit_is : (set g r : ℕ) → Row false g set → r < regions → runner_bit near goal set g r ≡ sweep G f (at r g true)
    unfolding runner_bit
    runner_bit_is set g r row h = go (eqb r g) refl (eqb r goal) refl
      where
        go : (a : Bool) → eqb r g ≡ a → (b : Bool) → eqb r goal ≡ b → (not a && (b || do_meet (get_or near r 0) set)) ≡ sweep G f (at r g true)
        go true p b q = sym (sweep-over G f (at r g true) (over_is r g true ∙ (λ i. p i || (not (p i) && eqb r goal))) ∙ won_is r g true ∙ ap (λ a. not a && eqb r goal) p)
        go false p true q =
            sym (sweep-over G f (at r g true) (over_is r g true ∙ (λ i. p i || (not (p i) && q i))) ∙ won_is r g true ∙ (λ i. not (p i) && q i))
        go false p false q = meets_is set g r row h ∙ sym (sweep-runner G f (at r g true) (over_is r g true ∙ (λ i. p i || (not (p i) && q i))) refl)

    pub guard_bit_is : (sets : List ℕ) (g r : ℕ) → ((d : ℕ) → d < regions → Row true d (get_or sets d 0)) → f (at g g true) ≡ false → g < regions → r < regions
        → guard_bit near regions goal sets g r ≡ sweep G f (at r g false)
    unfolding guard_bit is_step
    guard_bit_is sets g r rows caught h k = go (eqb r g) refl (eqb r goal) refl
      where
        all : Bool
        all = all_below regions (λ d. not (bit_at near g d) || bit_at sets d r)

        stays : r ≡ g → not (bit_at near g g) || bit_at sets g r ≡ false
        stays e =
            (λ i. not (P.steps g g (omega arith) (omega arith) i) || rows g h r k i)
            ∙ (λ i. not (eq-eqb (suc g) (suc g) refl i || (is_region G.regions (suc g) && G.edge (suc g) (suc g))) || f (at (e i) g true)) ∙ caught

        elsewhere : r ≡ g → (not (eqb g goal) && eqb r goal) ≡ false
        elsewhere e = ap (λ n. not (eqb g goal) && eqb n goal) e ∙ never (eqb g goal)
          where
            never : (b : Bool) → (not b && b) ≡ false
            never true = refl
            never false = refl

        go : (a : Bool) → eqb r g ≡ a → (b : Bool) → eqb r goal ≡ b → (all || (not (eqb g goal) && eqb r goal)) ≡ sweep G f (at r g false)
        go true p b q =
            let e = eqb-true r g p in
            (λ i. all-fails regions (λ d. not (bit_at near g d) || bit_at sets d r) g h (stays e) i || elsewhere e i)
            ∙ sym (sweep-over G f (at r g false) (over_is r g false ∙ (λ i. p i || (not (p i) && eqb r goal))) ∙ won_is r g false ∙ ap (λ a. not a && eqb r goal) p)
        go false p true q =
            (λ i. all || (not (ne_eqb g goal (away p q) i) && q i)) ∙ or-true all
            ∙ sym (sweep-over G f (at r g false) (over_is r g false ∙ (λ i. p i || (not (p i) && q i))) ∙ won_is r g false ∙ (λ i. not (p i) && q i))
          where
            away : eqb r g ≡ false → eqb r goal ≡ true → g ≡ goal → ⊥
            away p q e = eqb-false r g p (eqb-true r goal q ∙ sym e)
        go false p false q =
            (λ i. all || (not (eqb g goal) && q i)) ∙ none (not (eqb g goal)) ∙ every_is sets g r rows h k
            ∙ sym (sweep-guard G f (at r g false) (over_is r g false ∙ (λ i. p i || (not (p i) && q i))) refl)
          where
            none : (b : Bool) → (all || (b && false)) ≡ all
            none true = or-false all
            none false = or-false all
