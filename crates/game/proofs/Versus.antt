-- Two strategies, one of each side, make one play; so not both sides can force a win. And every play stays in the graph. Assumes nothing.
use Prim.Native.Nat.{ℕ, zero, suc}
use Rattle.std.specs.Prelude.{◌≡◌, Bool, length}
use Rattle.std.proofs.Math.Path.{refl, ap}
use Rattle.std.proofs.Common.{sym, ◌∙◌, subst}
use Rattle.std.proofs.Math.Bool.{true, false, cond}
use Rattle.std.proofs.lemmas.Bool.{false≢true}
use mathlib.Core.List.{List, [], ◌∷◌}
use Rattle.game.specs.Game.{Game, Place, move_to, is_move, runner_has_won, is_over, Inside}
use Rattle.game.specs.Play.{Play, before, Next, moved, rests, PlayFrom, Strategy, Follows, RunnerForces, GuardForces}
use Rattle.game.proofs.Sweeps.{moved_in, won-over, won_uncaptured}

-- a place and those before it, the latest first
record Past : Type 0 where
  now : Place
  earlier : List Place

pub length_before : (p : Play) (k : ℕ) → length (before p k) ≡ k
unfolding before
length_before p zero = refl
length_before p (suc k) = ap suc (length_before p k)

module _ (G : Game) where
  -- a play never leaves the graph
  pub stays_in : (x : Place) (p : Play) → Inside G x → PlayFrom G x p → (k : ℕ) → Inside G (p k)
  stays_in x p i f zero = subst (λ y. Inside G y) (sym f.starts) i
  stays_in x p i f (suc k) = go (stays_in x p i f k) (f.goes k)
    where
      go : Inside G (p k) → Next G (p k) (p (suc k)) → Inside G (p (suc k))
      go j (moved o d m e) = subst (λ y. Inside G y) (sym e) (moved_in G (p k) d j m)
      go j (rests o e) = subst (λ y. Inside G y) (sym e) j

  -- the play of s, the runner's, against t, the guard's
  module _ (s t : Strategy G) (x : Place) where
    choice : Past → ℕ
    choice q = cond q.now.runners_turn (s.choose q.earlier q.now) (t.choose q.earlier q.now)

    after : Past → Place
    after q = cond (is_over G q.now) q.now (move_to q.now (choice q))

    past : ℕ → Past
    past zero = record { now = x; earlier = [] }
    past (suc k) = record { now = after (past k); earlier = (past k).now ∷ (past k).earlier }

    pub versus : Play
    versus k = (past k).now

    earlier_is : (k : ℕ) → before versus k ≡ (past k).earlier
    unfolding before past versus
    earlier_is zero = refl
    earlier_is (suc k) = ap {B = List Place} (λ l. versus k ∷ l) (earlier_is k)

    choice_move : (q : Past) → is_move G q.now (choice q) ≡ true
    unfolding choice
    choice_move q = go q.now.runners_turn
      where
        go : (b : Bool) → is_move G q.now (cond b (s.choose q.earlier q.now) (t.choose q.earlier q.now)) ≡ true
        go true = s.lawful q.earlier q.now
        go false = t.lawful q.earlier q.now

    pub versus_play : PlayFrom G x versus
    unfolding versus past after
    versus_play = record { starts = refl; goes = λ k. go k (is_over G (versus k)) refl }
      where
        go : (k : ℕ) (o : Bool) → is_over G (versus k) ≡ o → Next G (versus k) (versus (suc k))
        go k true o = rests o (ap (λ b. cond b (versus k) (move_to (versus k) (choice (past k)))) o)
        go k false o = moved o (choice (past k)) (choice_move (past k)) (ap (λ b. cond b (versus k) (move_to (versus k) (choice (past k)))) o)

    step_is : (k : ℕ) → is_over G (versus k) ≡ false → versus (suc k) ≡ move_to (versus k) (choice (past k))
    unfolding versus past after
    step_is k o = ap (λ b. cond b (versus k) (move_to (versus k) (choice (past k)))) o

    pub versus-runner : Follows G true s versus
    unfolding versus choice
    versus-runner k o r =
        step_is k o ∙ ap (move_to (versus k)) ((λ i. cond (r i) (s.choose (past k).earlier (versus k)) (t.choose (past k).earlier (versus k))) ∙ ap (λ h. s.choose h (versus k)) (sym (earlier_is k)))

    pub versus-guard : Follows G false t versus
    unfolding versus choice
    versus-guard k o r =
        step_is k o ∙ ap (move_to (versus k)) ((λ i. cond (r i) (s.choose (past k).earlier (versus k)) (t.choose (past k).earlier (versus k))) ∙ ap (λ h. t.choose h (versus k)) (sym (earlier_is k)))

  -- not both can force a win
  pub not_both_lem : (n : ℕ) (x : Place) → RunnerForces G n x → GuardForces G x → ⊥
  not_both_lem n x a b = false≢true (sym (won_uncaptured G (p n) won) ∙ b.wins p from (versus-guard a.strategy b.strategy x) n (won-over G (p n) won))
    where
      p : Play
      p = versus a.strategy b.strategy x

      from : PlayFrom G x p
      from = versus_play a.strategy b.strategy x

      won : runner_has_won G (p n) ≡ true
      won = a.wins p from (versus-runner a.strategy b.strategy x)
