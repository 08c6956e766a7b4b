-- What a sweep of the search says, by who is to move; more sweeps find more; and the least number that passes a test. Assumes nothing.
use Rattle.std.specs.Prelude.{ℕ, zero, suc, ◌≤◌, ◌<◌, ◌≡◌, ltb, leb}
use Rattle.std.proofs.Common.{arith, sym, ◌∙◌}
use Rattle.std.proofs.Math.Path.{refl, ap, subst}
use mathlib.Core.Bool.{Bool, true, false, not, ◌&&◌, ◌||◌, cond, false≢true, or-true}
use Rattle.std.proofs.Math.Dec.{eqb}
use borrow.Author.Tests.{ltb-true, ltb-false, leb-true, eqb-true, eq-eqb, not-true}
use Rattle.definitions.specs.Scan.{any_below_lem, all_below}
use Rattle.laws.specs.ListLaws.Tests.{both}
use Rattle.laws.specs.ListLaws.Below.{below_at, all_below_at}
use Rattle.game.specs.Game.{Game, Place, mover, move_to, is_region, is_step, is_move, is_captured, runner_has_won, is_over, Inside}
use Rattle.game.specs.Search.{least_below, some_move, every_move, sweep}

-- ---- the least number

pub record Least (f : ℕ → Bool) (n : ℕ) (d : ℕ) : Type 0 where
  pub below : d < n
  pub found : f d ≡ true
  pub none : (e : ℕ) → e < d → f e ≡ false

pub none_at : (n : ℕ) (f : ℕ → Bool) → any_below_lem n f ≡ false → (e : ℕ) → e < n → f e ≡ false
none_at n f h e l = go (f e) refl
  where
    go : (b : Bool) → f e ≡ b → f e ≡ false
    go true q = absurd (false≢true (sym h ∙ below_at n f e l q))
    go false q = q

pub least_is : (n : ℕ) (f : ℕ → Bool) → any_below_lem n f ≡ true → Least f n (least_below n f)
unfolding any_below_lem least_below
least_is zero f h = absurd (false≢true h)
least_is (suc n) f h = go (any_below_lem n f) refl h (least_is n f)
  where
    wider : {d : ℕ} → Least f n d → Least f (suc n) d
    wider r = record { below = omega (arith, r.below); found = r.found; none = r.none }

    go : (b : Bool) → any_below_lem n f ≡ b → (b || f n) ≡ true → (any_below_lem n f ≡ true → Least f n (least_below n f)) → Least f (suc n) (cond b (least_below n f) n)
    go true e k ih = wider (ih e)
    go false e k ih = record { below = omega arith; found = k; none = none_at n f e }

-- not past any number that passes
pub least_le : (n : ℕ) (f : ℕ → Bool) (d : ℕ) → d < n → f d ≡ true → least_below n f ≤ d
least_le n f d l k = go (ltb d (least_below n f)) refl
  where
    found : Least f n (least_below n f)
    found = least_is n f (below_at n f d l k)

    go : (b : Bool) → ltb d (least_below n f) ≡ b → least_below n f ≤ d
    go true e = absurd (false≢true (sym (found.none d (ltb-true d (least_below n f) e)) ∙ k))
    go false e = ltb-false d (least_below n f) e

-- ---- some place fails where not all pass
pub fails_at : (n : ℕ) (f : ℕ → Bool) → all_below n f ≡ false → any_below_lem n (λ d. not (f d)) ≡ true
unfolding all_below any_below_lem
fails_at zero f h = absurd (false≢true (sym h))
fails_at (suc n) f h = go (all_below n f) refl h (fails_at n f)
  where
    go : (b : Bool) → all_below n f ≡ b → (b && f n) ≡ false → (all_below n f ≡ false → any_below_lem n (λ d. not (f d)) ≡ true) → (any_below_lem n (λ d. not (f d)) || not (f n)) ≡ true
    go true e k ih = ap (λ b. any_below_lem n (λ d. not (f d)) || not b) k ∙ or-true (any_below_lem n (λ d. not (f d)))
    go false e k ih = ap (λ b. b || not (f n)) (ih e)

module _ (G : Game) where
  -- ---- the end of play

  pub won-over : (x : Place) → runner_has_won G x ≡ true → is_over G x ≡ true
  unfolding is_over
  won-over x w = ap (λ b. is_captured x || b) w ∙ or-true (is_captured x)

  pub unfinished : (x : Place) → is_over G x ≡ false → runner_has_won G x ≡ false
  unfinished x o = go (runner_has_won G x) refl
    where
      go : (b : Bool) → runner_has_won G x ≡ b → runner_has_won G x ≡ false
      go true e = absurd (false≢true (sym o ∙ won-over x e))
      go false e = e

  -- where play is over and the runner has not won it is by capture, and the other way round
  pub over_captured : (x : Place) → is_over G x ≡ true → runner_has_won G x ≡ false → is_captured x ≡ true
  unfolding is_over
  over_captured x o w = go (is_captured x) (runner_has_won G x) o w
    where
      go : (c r : Bool) → (c || r) ≡ true → r ≡ false → c ≡ true
      go true r p q = refl
      go false r p q = absurd (false≢true (sym q ∙ p))

  pub won_uncaptured : (x : Place) → runner_has_won G x ≡ true → is_captured x ≡ false
  unfolding runner_has_won
  won_uncaptured x w = not-true (is_captured x) (both (not (is_captured x)) (eqb x.runner G.goal) w).0

  -- ---- moves stay in the graph

  pub region-below : (d : ℕ) → is_region G.regions d ≡ true → d < suc G.regions
  region-below d h = omega (arith, leb-true d G.regions (both (leb 1 d) (leb d G.regions) h).1)

  pub mover_in : (x : Place) → Inside G x → is_region G.regions (mover x) ≡ true
  unfolding mover
  mover_in x i = go x.runners_turn
    where
      go : (b : Bool) → is_region G.regions (cond b x.runner x.guard) ≡ true
      go true = i.runner_in
      go false = i.guard_in

  pub move_region : (x : Place) (d : ℕ) → Inside G x → is_move G x d ≡ true → is_region G.regions d ≡ true
  unfolding is_move is_step
  move_region x d i m = go (eqb d (mover x)) refl m
    where
      go : (b : Bool) → eqb d (mover x) ≡ b → (b || (is_region G.regions d && G.edge (mover x) d)) ≡ true → is_region G.regions d ≡ true
      go true e k = subst (λ n. is_region G.regions n ≡ true) (sym (eqb-true d (mover x) e)) (mover_in x i)
      go false e k = (both (is_region G.regions d) (G.edge (mover x) d) k).0

  pub move_in : (x : Place) (d : ℕ) → Inside G x → is_move G x d ≡ true → d < suc G.regions
  move_in x d i m = region-below d (move_region x d i m)

  pub stays : (x : Place) → is_move G x (mover x) ≡ true
  unfolding is_move is_step
  stays x = ap (λ b. b || (is_region G.regions (mover x) && G.edge (mover x) (mover x))) (eq-eqb (mover x) (mover x) refl)

  pub moved_in : (x : Place) (d : ℕ) → Inside G x → is_move G x d ≡ true → Inside G (move_to x d)
  unfolding move_to
  moved_in x d i m = go x.runners_turn
    where
      go : (b : Bool) → Inside G (cond b (record { runner = d; guard = x.guard; runners_turn = false }) (record { runner = x.runner; guard = d; runners_turn = true }))
      go true = record { runner_in = move_region x d i m; guard_in = i.guard_in }
      go false = record { runner_in = i.runner_in; guard_in = move_region x d i m }

  -- ---- a sweep, by the end of play and by who is to move

  module _ (f : Place → Bool) (x : Place) where
    pub sweep-won : runner_has_won G x ≡ true → sweep G f x ≡ true
    unfolding sweep
    sweep-won w = λ i. w i || not (is_over G x) && cond x.runners_turn (some_move G f x) (every_move G f x)

    pub sweep-over : is_over G x ≡ true → sweep G f x ≡ runner_has_won G x
    unfolding sweep
    sweep-over o = (λ i. runner_has_won G x || not (o i) && cond x.runners_turn (some_move G f x) (every_move G f x)) ∙ mathlib.Core.Bool.or-false (runner_has_won G x)

    pub sweep-runner : is_over G x ≡ false → x.runners_turn ≡ true → sweep G f x ≡ some_move G f x
    unfolding sweep
    sweep-runner o t = λ i. unfinished x o i || not (o i) && cond (t i) (some_move G f x) (every_move G f x)

    pub sweep-guard : is_over G x ≡ false → x.runners_turn ≡ false → sweep G f x ≡ every_move G f x
    unfolding sweep
    sweep-guard o t = λ i. unfinished x o i || not (o i) && cond (t i) (some_move G f x) (every_move G f x)

    -- ---- moves one by one

    pub some_at : (d : ℕ) → d < suc G.regions → is_move G x d ≡ true → f (move_to x d) ≡ true → some_move G f x ≡ true
    unfolding some_move
    some_at d l m k = below_at (suc G.regions) (λ d. is_move G x d && f (move_to x d)) d l (λ i. m i && k i)

    pub every_at : every_move G f x ≡ true → (d : ℕ) → d < suc G.regions → is_move G x d ≡ true → f (move_to x d) ≡ true
    unfolding every_move
    every_at h d l m = (λ i. not (sym m i) || f (move_to x d)) ∙ all_below_at (suc G.regions) (λ d. not (is_move G x d) || f (move_to x d)) h d l

    -- a move after which f fails, where it does not hold after every one
    pub some_fails : every_move G f x ≡ false → any_below_lem (suc G.regions) (λ d. is_move G x d && not (f (move_to x d))) ≡ true
    unfolding every_move
    some_fails h = subst (λ g. any_below_lem (suc G.regions) g ≡ true) (λ i d. not_or (is_move G x d) (f (move_to x d)) i) (fails_at (suc G.regions) (λ d. not (is_move G x d) || f (move_to x d)) h)
      where
        not_or : (a b : Bool) → not (not a || b) ≡ (a && not b)
        not_or true b = refl
        not_or false b = refl
