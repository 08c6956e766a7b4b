-- No strategy of the runner does better than the search: against any of them a guard who delays keeps a place that is not won within n sweeps so, with one sweep less after
-- each move. Assumes nothing.
use Prim.Native.Nat.{ℕ, zero, suc, ◌+◌, ◌-◌}
use Rattle.std.proofs.Common.{arith, ap₂, ◌∙◌}
use Rattle.std.specs.Prelude.{◌≡◌, Bool, true, false, ◌&&◌, length}
use Rattle.std.proofs.Math.Path.{refl, sym, ap}
use Rattle.std.proofs.Math.Bool.{not}
use Rattle.std.proofs.lemmas.Bool.{false≢true}
use borrow.Author.Tests.{not-true}
use Rattle.laws.specs.ListLaws.Tests.{both}
use Rattle.game.specs.Game.{Game, Place, move_to, is_move, is_over, Inside}
use Rattle.game.specs.Play.{Play, before, Next, moved, rests, PlayFrom, Strategy, Follows, RunnerForces}
use Rattle.game.specs.Search.{least_below, sweep, wins_within}
use Rattle.game.proofs.Sweeps.{least_is, move_in, sweep-runner, sweep-guard, some_at, some_fails}
use Rattle.game.proofs.Settled.{over-wins}
use Rattle.game.proofs.Versus.{stays_in, length_before, versus, versus_play, versus-runner, versus-guard}
use Rattle.game.proofs.Answers.{or_stay, or_stay_is, by_choice}

module _ (G : Game) where
  -- ---- no strategy of the runner does better than the search

  -- the guard's delay: while the runner cannot win within the moves that are left, keep it so
  delay : ℕ → Strategy G
  delay n = by_choice G (λ h x. least_below (suc G.regions) (λ d. is_move G x d && not (wins_within G (n - suc (length h)) (move_to x d))))

  module _ (x : Place) (o : is_over G x ≡ false) (n : ℕ) (h : wins_within G (suc n) x ≡ false) where
    not_next : sweep G (wins_within G n) x ≡ false
    unfolding wins_within
    not_next = h

    runner-short : Inside G x → x.runners_turn ≡ true → (d : ℕ) → is_move G x d ≡ true → wins_within G n (move_to x d) ≡ false
    runner-short i r d m = go (wins_within G n (move_to x d)) refl
      where
        go : (b : Bool) → wins_within G n (move_to x d) ≡ b → wins_within G n (move_to x d) ≡ false
        go true e = absurd (false≢true (sym not_next ∙ sweep-runner G (wins_within G n) x o r ∙ some_at G (wins_within G n) x d (move_in G x d i m) m e))
        go false e = e

    delayed : ℕ
    delayed = least_below (suc G.regions) (λ d. is_move G x d && not (wins_within G n (move_to x d)))

    guard-short : x.runners_turn ≡ false → (is_move G x delayed ≡ true) × (wins_within G n (move_to x delayed) ≡ false)
    unfolding delayed
    guard-short r = (found.0, not-true _ found.1)
      where
        found : (is_move G x delayed ≡ true) × (not (wins_within G n (move_to x delayed)) ≡ true)
        found =
            both _ _
            (least_is (suc G.regions) (λ d. is_move G x d && not (wins_within G n (move_to x d))) (some_fails G (wins_within G n) x (sym (sweep-guard G (wins_within G n) x o r) ∙ not_next))
            ).found

  -- one move on against the delay
  short_next : (p : Play) (n k j : ℕ) → Inside G (p k) → Next G (p k) (p (suc k)) → Follows G false (delay n) p → suc k + j ≡ n → wins_within G (suc j) (p k) ≡ false → wins_within G j (p (suc k)) ≡ false
  unfolding delay by_choice delayed
  short_next p n k j i (rests o e) f l h = ap (wins_within G j) e ∙ over-wins G j (p k) o ∙ sym (over-wins G (suc j) (p k) o) ∙ h
  short_next p n k j i (moved o d m e) f l h = turn (p k).runners_turn refl
    where
      left : n - suc (length (before p k)) ≡ j
      left = omega (arith, length_before p k)

      turn : (t : Bool) → (p k).runners_turn ≡ t → wins_within G j (p (suc k)) ≡ false
      turn true r = ap (wins_within G j) e ∙ runner-short (p k) o j h i r d m
      turn false r =
          ap (wins_within G j)
          (f k o r
          ∙ ap (λ l. move_to (p k) (or_stay G (p k) (least_below (suc G.regions) (λ d. is_move G (p k) d && not (wins_within G l (move_to (p k) d)))))) left
          ∙ ap (move_to (p k)) (or_stay_is G (p k) (delayed (p k) o j h) (guard-short (p k) o j h r).0))
          ∙ (guard-short (p k) o j h r).1

  short-after : (x : Place) (p : Play) (n : ℕ) → Inside G x → PlayFrom G x p → Follows G false (delay n) p → wins_within G n x ≡ false → (k j : ℕ) → k + j ≡ n → wins_within G j (p k) ≡ false
  short-after x p n i q f h zero j e = ap₂ (λ m y. wins_within G m y) same q.starts ∙ h
    where
      same : j ≡ n
      same = omega arith
  short-after x p n i q f h (suc k) j e = short_next p n k j (stays_in G x p i q k) (q.goes k) f e (short-after x p n i q f h k (suc j) (omega arith))

  pub forces_within : (n : ℕ) (x : Place) → Inside G x → RunnerForces G n x → wins_within G n x ≡ true
  unfolding wins_within
  forces_within n x i a = go (wins_within G n x) refl
    where
      p : Play
      p = versus G a.strategy (delay n) x

      go : (b : Bool) → wins_within G n x ≡ b → wins_within G n x ≡ true
      go true e = e
      go false e =
          absurd
          (false≢true
          (sym (short-after x p n i (versus_play G a.strategy (delay n) x) (versus-guard G a.strategy (delay n) x) e n 0 (omega arith))
          ∙ a.wins p (versus_play G a.strategy (delay n) x) (versus-runner G a.strategy (delay n) x)))
