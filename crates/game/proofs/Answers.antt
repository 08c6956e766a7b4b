-- Who goes by the search's regions wins: the runner within the fewest moves, the guard in every play. The runner's moves each leave one move less; the guard's keep the place
-- among those where the search finds no win. Assumes nothing.
use Prim.Native.Nat.{ℕ, zero, suc, ◌≤◌, ◌-◌}
use native.Mathlib.Omega.{arith}
use Rattle.std.specs.Prelude.{◌≡◌, Bool, not, ◌&&◌, List, leb}
use Rattle.std.proofs.Math.Path.{refl, sym, ap, subst}
use Rattle.std.proofs.Common.{◌∙◌}
use Rattle.std.proofs.Math.Bool.{true, false, cond}
use Rattle.std.proofs.lemmas.Bool.{false≢true}
use borrow.Author.Tests.{not-true}
use Rattle.definitions.specs.Scan.{any_below_lem}
use Rattle.laws.specs.ListLaws.Tests.{both}
use Rattle.laws.specs.ListLaws.Below.{below_at}
use Rattle.game.specs.Game.{Game, Place, mover, move_to, is_move, runner_has_won, is_over, Inside}
use Rattle.game.specs.Play.{Play, Next, moved, rests, PlayFrom, guard_wins, Strategy, Follows, RunnerForces, GuardForces}
use Rattle.game.specs.Search.{least_below, some_move, sweep, wins_within, sweeps, runner_wins, fewest, serves, region_for}
use Rattle.game.proofs.Sweeps.{Least, least_is, least_le, unfinished, over_captured, move_in, stays, sweep-runner, sweep-guard, some_at, every_at, some_fails}
use Rattle.game.proofs.Settled.{wins-le, won-wins, over-wins, settled, found_by_then}
use Rattle.game.proofs.Versus.{stays_in}

one_back : (n : ℕ) → n ≡ suc n - 1
one_back n = omega arith

module _ (G : Game) where
  -- ---- a strategy from a choice of regions: where that is no move, stay

  unfoldable pub or_stay : Place → ℕ → ℕ
  or_stay x d = cond (is_move G x d) d (mover x)

  pub or_stay_move : (x : Place) (d : ℕ) → is_move G x (or_stay x d) ≡ true
  unfolding or_stay
  or_stay_move x d = go (is_move G x d) refl
    where
      go : (b : Bool) → is_move G x d ≡ b → is_move G x (cond b d (mover x)) ≡ true
      go true e = e
      go false e = stays G x

  pub or_stay_is : (x : Place) (d : ℕ) → is_move G x d ≡ true → or_stay x d ≡ d
  unfolding or_stay
  or_stay_is x d e = ap (λ b. cond b d (mover x)) e

  unfoldable pub by_choice : (List Place → Place → ℕ) → Strategy G
  unfolding or_stay
  by_choice f = record { choose = λ h x. or_stay x (f h x); lawful = λ h x. or_stay_move x (f h x) }

  -- "the least region that serves", at every place: what the table says
  pub by_answers : Strategy G
  by_answers = by_choice (λ h x. region_for G x)

  -- ---- the fewest moves

  pub fewest-wins : (x : Place) → runner_wins G x ≡ true → wins_within G (fewest G x) x ≡ true
  unfolding fewest runner_wins
  fewest-wins x h = (least_is (suc (sweeps G)) (λ k. wins_within G k x) (below_at (suc (sweeps G)) (λ k. wins_within G k x) (sweeps G) (omega arith) h)).found

  pub fewest-le : (m : ℕ) (x : Place) → Inside G x → wins_within G m x ≡ true → fewest G x ≤ m
  unfolding fewest
  fewest-le m x i h = go (leb m (sweeps G)) refl
    where
      top : least_below (suc (sweeps G)) (λ k. wins_within G k x) ≤ sweeps G
      top = least_le (suc (sweeps G)) (λ k. wins_within G k x) (sweeps G) (omega arith) (found_by_then G m x i h)

      go : (b : Bool) → leb m (sweeps G) ≡ b → least_below (suc (sweeps G)) (λ k. wins_within G k x) ≤ m
      go true e = least_le (suc (sweeps G)) (λ k. wins_within G k x) m (omega (arith, borrow.Author.Tests.leb-true m (sweeps G) e)) h
      go false e = omega (arith, borrow.Author.Tests.leb-false m (sweeps G) e, top)

  pub fewest-found : (m : ℕ) (x : Place) → Inside G x → wins_within G m x ≡ true → wins_within G (fewest G x) x ≡ true
  unfolding runner_wins
  fewest-found m x i h = fewest-wins x (found_by_then G m x i h)

  -- play is not over: at least one move
  pub fewest_some : (x : Place) → is_over G x ≡ false → wins_within G (fewest G x) x ≡ true → 1 ≤ fewest G x
  unfolding wins_within
  fewest_some x o h = go (fewest G x) h
    where
      go : (n : ℕ) → wins_within G n x ≡ true → 1 ≤ n
      go zero k = absurd (false≢true (sym (unfinished G x o) ∙ k))
      go (suc n) k = omega arith

  -- ---- the runner's answers

  module _ (x : Place) (o : is_over G x ≡ false) (r : x.runners_turn ≡ true) where
    -- a move that leaves one move less, from the sweep before
    runner_some : (n : ℕ) → wins_within G (suc n) x ≡ true → some_move G (wins_within G n) x ≡ true
    unfolding wins_within
    runner_some n h = sym (sweep-runner G (wins_within G n) x o r) ∙ h

    pub runner-serves : (d : ℕ) → serves G x d ≡ (is_move G x d && wins_within G (fewest G x - 1) (move_to x d))
    unfolding serves
    runner-serves d = λ i. is_move G x d && cond (r i) (wins_within G (fewest G x - 1) (move_to x d)) (not (runner_wins G (move_to x d)))

    pub runner-answer : (m : ℕ) → Inside G x → wins_within G m x ≡ true → Least (serves G x) (suc G.regions) (region_for G x)
    unfolding region_for some_move
    runner-answer m i h = least_is (suc G.regions) (serves G x) (subst (λ f. any_below_lem (suc G.regions) f ≡ true) (λ j d. sym (runner-serves d) j) (one_less (fewest G x) (fewest-found m x i h) (fewest_some x o (fewest-found m x i h))))
      where
        one_less : (n : ℕ) → wins_within G n x ≡ true → 1 ≤ n → any_below_lem (suc G.regions) (λ d. is_move G x d && wins_within G (n - 1) (move_to x d)) ≡ true
        one_less zero k l = absurd (omega arith)
        one_less (suc n) k l = subst (λ j. any_below_lem (suc G.regions) (λ d. is_move G x d && wins_within G j (move_to x d)) ≡ true) (one_back n) (runner_some n k)

    pub runner-goes : (m : ℕ) → Inside G x → wins_within G m x ≡ true → (is_move G x (region_for G x) ≡ true) × (wins_within G (fewest G x - 1) (move_to x (region_for G x)) ≡ true)
    runner-goes m i h = both _ _ (sym (runner-serves (region_for G x)) ∙ (runner-answer m i h).found)

  -- whatever the guard does leaves one move less
  guard_less : (x : Place) → Inside G x → (n : ℕ) → wins_within G n x ≡ true → is_over G x ≡ false → x.runners_turn ≡ false → (d : ℕ) → is_move G x d ≡ true → wins_within G (n - 1) (move_to x d) ≡ true
  unfolding wins_within
  guard_less x i zero h o r d m = absurd (false≢true (sym (unfinished G x o) ∙ h))
  guard_less x i (suc n) h o r d m =
      subst (λ j. wins_within G j (move_to x d) ≡ true) (one_back n) (every_at G (wins_within G n) x (sym (sweep-guard G (wins_within G n) x o r) ∙ h) d (move_in G x d i m) m)

  -- ---- the runner's theorem: his answers win within the fewest moves

  -- along a play by the answers, each move leaves one move less
  less_left : (p : Play) (k m : ℕ) → Inside G (p k) → Next G (p k) (p (suc k)) → Follows G true by_answers p → wins_within G m (p k) ≡ true → wins_within G (m - 1) (p (suc k)) ≡ true
  unfolding by_answers by_choice
  less_left p k m i n f h = go n
    where
      over : is_over G (p k) ≡ true → p (suc k) ≡ p k → wins_within G (m - 1) (p (suc k)) ≡ true
      over o e = subst (λ y. wins_within G (m - 1) y ≡ true) (sym e) (won-wins G (m - 1) (p k) (sym (over-wins G m (p k) o) ∙ h))

      answered : is_over G (p k) ≡ false → (p k).runners_turn ≡ true → p (suc k) ≡ move_to (p k) (region_for G (p k))
      answered o r = f k o r ∙ ap (move_to (p k)) (or_stay_is (p k) (region_for G (p k)) (runner-goes (p k) o r m i h).0)

      guarded : (n : ℕ) → wins_within G n (p k) ≡ true → is_over G (p k) ≡ false → (p k).runners_turn ≡ false → (d : ℕ) → is_move G (p k) d ≡ true → wins_within G (n - 1) (move_to (p k) d) ≡ true
      guarded = guard_less (p k) i

      go : Next G (p k) (p (suc k)) → wins_within G (m - 1) (p (suc k)) ≡ true
      go (rests o e) = over o e
      go (moved o d mv e) = turn (p k).runners_turn refl
        where
          turn : (t : Bool) → (p k).runners_turn ≡ t → wins_within G (m - 1) (p (suc k)) ≡ true
          turn true r = subst (λ y. wins_within G (m - 1) y ≡ true) (sym (answered o r)) (wins-le G (fewest G (p k) - 1) (m - 1) (move_to (p k) (region_for G (p k))) (omega (arith, fewest-le m (p k) i h)) (runner-goes (p k) o r m i h).1)
          turn false r = subst (λ y. wins_within G (m - 1) y ≡ true) (sym e) (guarded m h o r d mv)

  left_after : (x : Place) (p : Play) (n : ℕ) → Inside G x → PlayFrom G x p → Follows G true by_answers p → wins_within G n x ≡ true → (k : ℕ) → wins_within G (n - k) (p k) ≡ true
  left_after x p n i q f h zero = subst (λ y. wins_within G (n - 0) y ≡ true) (sym q.starts) (subst (λ j. wins_within G j x ≡ true) none_less h)
    where
      none_less : n ≡ n - 0
      none_less = omega arith
  left_after x p n i q f h (suc k) = subst (λ j. wins_within G j (p (suc k)) ≡ true) one_less (less_left p k (n - k) (stays_in G x p i q k) (q.goes k) f (left_after x p n i q f h k))
    where
      one_less : n - k - 1 ≡ n - suc k
      one_less = omega arith

  -- the runner's answers win within n moves wherever the search finds a win within n sweeps
  pub answers-win : (n : ℕ) (x : Place) → Inside G x → wins_within G n x ≡ true → (p : Play) → PlayFrom G x p → Follows G true by_answers p → runner_has_won G (p n) ≡ true
  unfolding wins_within
  answers-win n x i h p q f = subst (λ j. wins_within G j (p n) ≡ true) none_left (left_after x p n i q f h n)
    where
      none_left : n - n ≡ 0
      none_left = omega arith

  pub within_forces : (n : ℕ) (x : Place) → Inside G x → wins_within G n x ≡ true → RunnerForces G n x
  within_forces n x i h = record { strategy = by_answers; wins = answers-win n x i h }

  -- ---- the guard's theorem: his answers win wherever the search finds no win of the runner

  module _ (x : Place) (o : is_over G x ≡ false) (i : Inside G x) (h : runner_wins G x ≡ false) where
    -- one sweep more finds no win either
    not_after : sweep G (runner_wins G) x ≡ false
    unfolding wins_within runner_wins
    not_after = sym (settled G x i) ∙ h

    -- whatever the runner does keeps it so
    runner-keeps : x.runners_turn ≡ true → (d : ℕ) → is_move G x d ≡ true → runner_wins G (move_to x d) ≡ false
    runner-keeps r d m = go (runner_wins G (move_to x d)) refl
      where
        go : (b : Bool) → runner_wins G (move_to x d) ≡ b → runner_wins G (move_to x d) ≡ false
        go true e = absurd (false≢true (sym not_after ∙ sweep-runner G (runner_wins G) x o r ∙ some_at G (runner_wins G) x d (move_in G x d i m) m e))
        go false e = e

    pub guard_serves : x.runners_turn ≡ false → (d : ℕ) → serves G x d ≡ (is_move G x d && not (runner_wins G (move_to x d)))
    unfolding serves
    guard_serves r d = λ j. is_move G x d && cond (r j) (wins_within G (fewest G x - 1) (move_to x d)) (not (runner_wins G (move_to x d)))

    pub guard-answer : x.runners_turn ≡ false → Least (serves G x) (suc G.regions) (region_for G x)
    unfolding region_for
    guard-answer r =
        least_is (suc G.regions) (serves G x)
        (subst (λ f. any_below_lem (suc G.regions) f ≡ true) (λ j d. sym (guard_serves r d) j) (some_fails G (runner_wins G) x (sym (sweep-guard G (runner_wins G) x o r) ∙ not_after)))

    pub guard-goes : x.runners_turn ≡ false → (is_move G x (region_for G x) ≡ true) × (runner_wins G (move_to x (region_for G x)) ≡ false)
    guard-goes r = (found.0, not-true _ found.1)
      where
        found : (is_move G x (region_for G x) ≡ true) × (not (runner_wins G (move_to x (region_for G x))) ≡ true)
        found = both _ _ (sym (guard_serves r (region_for G x)) ∙ (guard-answer r).found)

  still-held : (p : Play) (k : ℕ) → Inside G (p k) → Next G (p k) (p (suc k)) → Follows G false by_answers p → runner_wins G (p k) ≡ false → runner_wins G (p (suc k)) ≡ false
  unfolding by_answers by_choice
  still-held p k i n f h = go n
    where
      go : Next G (p k) (p (suc k)) → runner_wins G (p (suc k)) ≡ false
      go (rests o e) = ap (runner_wins G) e ∙ h
      go (moved o d m e) = turn (p k).runners_turn refl
        where
          turn : (t : Bool) → (p k).runners_turn ≡ t → runner_wins G (p (suc k)) ≡ false
          turn true r = ap (runner_wins G) e ∙ runner-keeps (p k) o i h r d m
          turn false r =
              ap (runner_wins G) (f k o r ∙ ap (move_to (p k)) (or_stay_is (p k) (region_for G (p k)) (guard-goes (p k) o i h r).0)) ∙ (guard-goes (p k) o i h r).1

  held : (x : Place) (p : Play) → Inside G x → PlayFrom G x p → Follows G false by_answers p → runner_wins G x ≡ false → (k : ℕ) → runner_wins G (p k) ≡ false
  held x p i q f h zero = ap (runner_wins G) q.starts ∙ h
  held x p i q f h (suc k) = still-held p k (stays_in G x p i q k) (q.goes k) f (held x p i q f h k)

  pub answers-hold : (x : Place) → Inside G x → runner_wins G x ≡ false → (p : Play) → PlayFrom G x p → Follows G false by_answers p → guard_wins G p
  unfolding runner_wins
  answers-hold x i h p q f k o = over_captured G (p k) o (sym (over-wins G (sweeps G) (p k) o) ∙ held x p i q f h k)

  pub lost-holds : (x : Place) → Inside G x → runner_wins G x ≡ false → GuardForces G x
  lost-holds x i h = record { strategy = by_answers; wins = answers-hold x i h }
