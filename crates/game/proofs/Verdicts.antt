-- The theorems of request 14 over a graph: the search's verdict is the one over all ways of play (`judged`), and no other is (`judged_one`); who goes by its regions wins.
-- Assumes nothing.
use Rattle.std.specs.Prelude.{ℕ, ◌≤◌, ◌<◌, ◌-◌, ◌≡◌, refl, ◌↔◌, ◌⊎◌, Bool, not, ◌&&◌, ltb}
use Rattle.std.proofs.Common.{le_antisymm, sym, ◌∙◌, inl, inr, ltb-true, ltb-false}
use Rattle.std.proofs.Math.Path.{ap, subst}
use Rattle.std.proofs.Math.Bool.{true, false, cond, beq}
use Rattle.std.proofs.lemmas.Bool.{false≢true}
use Rattle.game.specs.Game.{Game, Place, move_to, runner_has_won, is_over, Inside}
use Rattle.game.specs.Play.{Play, PlayFrom, guard_wins, Follows, RunnerForces, GuardForces, Verdict, LeastOf, RunnerServed, GuardServed, Judged}
use Rattle.game.specs.Search.{wins_within, runner_wins, fewest, region_for, verdict_of}
use Rattle.game.proofs.Sweeps.{moved_in}
use Rattle.game.proofs.Versus.{not_both_lem}
use Rattle.game.proofs.Answers.{by_answers, fewest-wins, fewest-le, runner-serves, runner-answer, runner-goes, guard_serves, guard-answer, guard-goes, answers-win, within_forces, answers-hold, lost-holds}
use Rattle.game.proofs.Delay.{forces_within}

-- no two numbers are both the least
least_one : (P : ℕ → Type 0) (d e : ℕ) → LeastOf P d → LeastOf P e → d ≡ e
least_one P d e h k = le_antisymm (not_less d e h.1 k.0) (not_less e d k.1 h.0)
  where
    not_less : (a b : ℕ) → ((e : ℕ) → e < a → P e → ⊥) → P b → a ≤ b
    not_less a b none p = go (ltb b a) refl
      where
        go : (t : Bool) → ltb b a ≡ t → a ≤ b
        go true q = absurd (none b (ltb-true b a q) p)
        go false q = ltb-false b a q

module _ (G : Game) where
  -- the search finds a win within n sweeps exactly where the runner can force one within n moves of both sides
  pub within_is : (n : ℕ) (x : Place) → Inside G x → (wins_within G n x ≡ true) ↔ RunnerForces G n x
  within_is n x i = (within_forces G n x i, forces_within G n x i)

  -- whoever the search names can force a win ..
  pub runner_can : (x : Place) → Inside G x → runner_wins G x ≡ true → RunnerForces G (fewest G x) x
  runner_can x i h = within_forces G (fewest G x) x i (fewest-wins G x h)

  pub guard_can : (x : Place) → Inside G x → runner_wins G x ≡ false → GuardForces G x
  guard_can = lost-holds G

  -- .. and the other cannot
  pub runner_cannot : (x : Place) → Inside G x → runner_wins G x ≡ false → (n : ℕ) → RunnerForces G n x → ⊥
  runner_cannot x i h n a = not_both_lem G n x a (guard_can x i h)

  pub guard_cannot : (x : Place) → Inside G x → runner_wins G x ≡ true → GuardForces G x → ⊥
  guard_cannot x i h b = not_both_lem G (fewest G x) x (runner_can x i h) b

  -- one of the two can force a win, and not both (Versus, `not_both_lem`)
  pub determined : (x : Place) → Inside G x → RunnerForces G (fewest G x) x ⊎ GuardForces G x
  determined x i = go (runner_wins G x) refl
    where
      go : (b : Bool) → runner_wins G x ≡ b → RunnerForces G (fewest G x) x ⊎ GuardForces G x
      go true h = inl (runner_can x i h)
      go false h = inr (guard_can x i h)

  -- "the fewest moves of both sides that he can force"
  pub fewest_least : (x : Place) → Inside G x → (n : ℕ) → RunnerForces G n x → fewest G x ≤ n
  fewest_least x i n a = fewest-le G n x i (forces_within G n x i a)

  -- ---- "the least region that serves"

  module _ (x : Place) (i : Inside G x) (o : is_over G x ≡ false) where
    runner-region : x.runners_turn ≡ true → runner_wins G x ≡ true → LeastOf (RunnerServed G (fewest G x) x) (region_for G x)
    runner-region r h =
        let goes = runner-goes G x o r (fewest G x) i (fewest-wins G x h) in
        ((goes.0, within_forces G (fewest G x - 1) (move_to x (region_for G x)) (moved_in G x (region_for G x) i goes.0) goes.1), no_less)
      where
        no_less : (e : ℕ) → e < region_for G x → RunnerServed G (fewest G x) x e → ⊥
        no_less e l s =
            false≢true
            (sym ((runner-answer G x o r (fewest G x) i (fewest-wins G x h)).none e l)
            ∙ runner-serves G x o r e
            ∙ (λ j. s.0 j && forces_within G (fewest G x - 1) (move_to x e) (moved_in G x e i s.0) s.1 j))

    guard-region : x.runners_turn ≡ false → runner_wins G x ≡ false → LeastOf (GuardServed G x) (region_for G x)
    guard-region r h =
        let goes = guard-goes G x o i h r in
        ((goes.0, guard_can (move_to x (region_for G x)) (moved_in G x (region_for G x) i goes.0) goes.1), no_less)
      where
        no_less : (e : ℕ) → e < region_for G x → GuardServed G x e → ⊥
        no_less e l s = lost (runner_wins G (move_to x e)) refl
          where
            lost : (b : Bool) → runner_wins G (move_to x e) ≡ b → ⊥
            lost true w = guard_cannot (move_to x e) (moved_in G x e i s.0) w s.1
            lost false w = false≢true (sym ((guard-answer G x o i h r).none e l) ∙ guard_serves G x o i h r e ∙ (λ j. s.0 j && not (w j)))

  -- ---- the verdict

  -- what `verdict_of` names, by whether play is over and whether the runner wins
  pub named : Place → Bool → Bool → ℕ
  named x o w = cond o 0 (cond (beq x.runners_turn w) (region_for G x) 0)

  pub judged : (x : Place) → Inside G x → Judged G x (verdict_of G x)
  unfolding verdict_of named
  judged x i =
      record {
        runner = λ w. subst (λ m. RunnerForces G m x × ((n : ℕ) → RunnerForces G n x → m ≤ n)) (sym (ap (λ b. cond b (fewest G x) 0) w)) (runner_can x i w, fewest_least x i);
        guard = λ w. (guard_can x i w, ap (λ b. cond b (fewest G x) 0) w);
        runners_region =
            λ o r w.
            subst (λ m. LeastOf (RunnerServed G m x) (named x (is_over G x) (runner_wins G x))) (sym (ap (λ b. cond b (fewest G x) 0) w))
            (subst (LeastOf (RunnerServed G (fewest G x) x)) (sym (goes o (runner_wins G x) (ap (λ t. beq t (runner_wins G x)) r ∙ ap (beq true) w))) (runner-region x i o r w));
        guards_region =
            λ o r w.
            subst (LeastOf (GuardServed G x)) (sym (goes o (runner_wins G x) (ap (λ t. beq t (runner_wins G x)) r ∙ ap (beq false) w))) (guard-region x i o r w);
        over = λ o. ap (λ b. named x b (runner_wins G x)) o;
        waits = λ b. ap (λ t. cond (is_over G x) 0 (cond t (region_for G x) 0)) b ∙ nothing (is_over G x);
      }
    where
      goes : is_over G x ≡ false → (w : Bool) → beq x.runners_turn w ≡ true → named x (is_over G x) w ≡ region_for G x
      goes o w b = (λ j. cond (o j) 0 (cond (b j) (region_for G x) 0))

      nothing : (o : Bool) → cond {A = ℕ} o 0 0 ≡ 0
      nothing true = refl
      nothing false = refl

  -- no other verdict is one over all ways of play
  pub judged_one : (x : Place) (v w : Verdict) → Judged G x v → Judged G x w → v ≡ w
  judged_one x v w h k = λ j. record { runners_win = wins j; moves = moves j; region = region j }
    where
      wins : v.runners_win ≡ w.runners_win
      wins = go v.runners_win refl w.runners_win refl
        where
          go : (a : Bool) → v.runners_win ≡ a → (b : Bool) → w.runners_win ≡ b → a ≡ b
          go true p true q = refl
          go true p false q = absurd (not_both_lem G v.moves x (h.runner p).0 (k.guard q).0)
          go false p true q = absurd (not_both_lem G w.moves x (k.runner q).0 (h.guard p).0)
          go false p false q = refl

      moves : v.moves ≡ w.moves
      moves = go v.runners_win refl
        where
          go : (a : Bool) → v.runners_win ≡ a → v.moves ≡ w.moves
          go true p = le_antisymm ((h.runner p).1 w.moves (k.runner (sym wins ∙ p)).0) ((k.runner (sym wins ∙ p)).1 v.moves (h.runner p).0)
          go false p = (h.guard p).1 ∙ sym (k.guard (sym wins ∙ p)).1

      region : v.region ≡ w.region
      region = go (is_over G x) refl x.runners_turn refl v.runners_win refl
        where
          idle : (b : Bool) → beq x.runners_turn v.runners_win ≡ false → v.region ≡ w.region
          idle b e = h.waits e ∙ sym (k.waits (ap (beq x.runners_turn) (sym wins) ∙ e))

          go : (o : Bool) → is_over G x ≡ o → (t : Bool) → x.runners_turn ≡ t → (a : Bool) → v.runners_win ≡ a → v.region ≡ w.region
          go true o t r a p = h.over o ∙ sym (k.over o)
          go false o true r true p =
              least_one (RunnerServed G v.moves x) v.region w.region (h.runners_region o r p)
              (subst (λ m. LeastOf (RunnerServed G m x) w.region) (sym moves) (k.runners_region o r (sym wins ∙ p)))
          go false o false r false p = least_one (GuardServed G x) v.region w.region (h.guards_region o r p) (k.guards_region o r (sym wins ∙ p))
          go false o true r false p = idle true (ap (λ t. beq t v.runners_win) r ∙ ap (beq true) p)
          go false o false r true p = idle true (ap (λ t. beq t v.runners_win) r ∙ ap (beq false) p)

  -- ---- "his moves keep to it": who goes by the regions that the verdicts name wins

  pub runner-keeps_to_it : (x : Place) → Inside G x → runner_wins G x ≡ true → (p : Play) → PlayFrom G x p → Follows G true (by_answers G) p → runner_has_won G (p (fewest G x)) ≡ true
  runner-keeps_to_it x i h = answers-win G (fewest G x) x i (fewest-wins G x h)

  pub guard-holds : (x : Place) → Inside G x → runner_wins G x ≡ false → (p : Play) → PlayFrom G x p → Follows G false (by_answers G) p → guard_wins G p
  guard-holds = answers-hold G
