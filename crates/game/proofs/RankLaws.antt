-- Ranks that are one more than the fewest moves where the runner wins and 0 elsewhere give the search's verdicts (`verdict_by_lem`); the computed list of ranks holds just these
-- (`ranks-are`). Assumes nothing.
use Prim.Native.Nat.{ℕ, zero, suc, ◌≤◌, ◌<◌, ◌+◌, ◌-◌}
use native.Mathlib.Omega.{arith}
use Rattle.std.specs.Prelude.{◌≡◌, not, ◌&&◌, map, get_or}
use Rattle.std.proofs.Math.Path.{refl, sym, ap}
use Rattle.std.proofs.Common.{◌∙◌}
use Rattle.std.proofs.Math.Bool.{Bool, true, false, cond}
use Rattle.std.proofs.lemmas.Bool.{false≢true}
use Rattle.std.specs.Bool.{beq}
use Rattle.std.proofs.Math.Dec.{ltb}
use borrow.Author.Tests.{ltb-true, ltb-false, lt-ltb}
use Rattle.definitions.specs.Scan.{run, bit}
use Rattle.laws.specs.ListLaws.Tests.{same_test}
use Rattle.laws.specs.ListLaws.Below.{below_ext}
use Rattle.game.specs.Game.{Game, Place, move_to, is_move, runner_has_won, is_over, Inside}
use Rattle.game.specs.Search.{least_below, sweep, wins_within, sweeps, runner_wins, fewest, serves, region_for, verdict_of}
use Rattle.game.proofs.Sweeps.{moved_in}
use Rattle.game.specs.Places.{code, place_of}
use Rattle.game.proofs.Settled.{code-back, code_below, sweep-le, wins_more, found_by_then, wins-le}
use Rattle.game.proofs.Answers.{fewest-wins, fewest-le, fewest-found, fewest_some}
use Rattle.game.specs.Ranks.{is_found, serves_by, verdict_by, places, rank_in, rank_next, ranks, solved}
use Rattle.game.specs.RankLaws.{rank_of}

map-run_at : (f : ℕ → ℕ) (s n i : ℕ) → i < n → get_or (map f (run s n)) i 0 ≡ f (i + s)
unfolding run
map-run_at f s zero i l = absurd (omega arith)
map-run_at f s (suc n) zero l = ap f first
  where
    first : s ≡ 0 + s
    first = omega arith
map-run_at f s (suc n) (suc i) l = map-run_at f (suc s) n i (omega arith) ∙ ap f next
  where
    next : i + suc s ≡ suc i + s
    next = omega arith

least_ext : (n : ℕ) (f g : ℕ → Bool) → ((c : ℕ) → c < n → f c ≡ g c) → least_below n f ≡ least_below n g
unfolding least_below
least_ext zero f g h = refl
least_ext (suc n) f g h = λ i. cond (below_ext n f g (λ c l. h c (omega arith)) i) (least_ext n f g (λ c l. h c (omega arith)) i) n

module _ (G : Game) where
  at_place : (f : ℕ → ℕ) (x : Place) → Inside G x → get_or (map f (run 0 (places G))) (code G x) 0 ≡ f (code G x)
  at_place f x i = map-run_at f 0 (places G) (code G x) (code_below G x i) ∙ ap f same
    where
      same : code G x + 0 ≡ code G x
      same = omega arith

  -- sweeps from tests that agree in the graph agree there
  pub sweep_same : (f g : Place → Bool) → ((y : Place) → Inside G y → f y ≡ g y) → (x : Place) → Inside G x → sweep G f x ≡ sweep G g x
  sweep_same f g e x i =
      same_test (sweep-le G f g x (λ d m h. sym (e (move_to x d) (moved_in G x d i m)) ∙ h)) (sweep-le G g f x (λ d m h. e (move_to x d) (moved_in G x d i m) ∙ h))

  -- found by the sweep after k and not before: suc k moves
  pub fewest-new : (k : ℕ) (x : Place) → Inside G x → wins_within G k x ≡ false → wins_within G (suc k) x ≡ true → fewest G x ≡ suc k
  fewest-new k x i n h = omega (arith, fewest-le G (suc k) x i h, more (ltb k (fewest G x)) refl)
    where
      more : (b : Bool) → ltb k (fewest G x) ≡ b → k < fewest G x
      more true e = ltb-true k (fewest G x) e
      more false e = absurd (false≢true (sym n ∙ wins-le G (fewest G x) k x (ltb-false k (fewest G x) e) (fewest-found G (suc k) x i h)))

  pub fewest_none : (x : Place) → Inside G x → runner_has_won G x ≡ true → fewest G x ≡ 0
  unfolding wins_within
  fewest_none x i h = omega (arith, fewest-le G 0 x i h)

  -- ---- ranks that are one more than the fewest moves

  module _ (rank : Place → ℕ) (are : (x : Place) → Inside G x → rank x ≡ rank_of G x) where
    found_is : (x : Place) → Inside G x → is_found G rank x ≡ runner_wins G x
    unfolding is_found rank_of
    found_is x i = ap (ltb 0) (are x i) ∙ go (runner_wins G x)
      where
        go : (b : Bool) → ltb 0 (cond b (suc (fewest G x)) 0) ≡ b
        go true = lt-ltb 0 (suc (fewest G x)) (omega arith)
        go false = refl

    -- a place whose rank is less: its win is one move nearer
    nearer : (x y : Place) → Inside G y → runner_wins G x ≡ true → 1 ≤ fewest G x → (is_found G rank y && ltb (rank y) (suc (fewest G x))) ≡ wins_within G (fewest G x - 1) y
    unfolding runner_wins rank_of
    nearer x y i w l = (λ j. found_is y i j && ltb (are y i j) (suc (fewest G x))) ∙ go (runner_wins G y) refl
      where
        go : (b : Bool) → runner_wins G y ≡ b → (b && ltb (cond b (suc (fewest G y)) 0) (suc (fewest G x))) ≡ wins_within G (fewest G x - 1) y
        go true e =
            same_test
            (λ h. wins-le G (fewest G y) (fewest G x - 1) y (omega (arith, ltb-true (suc (fewest G y)) (suc (fewest G x)) h)) (fewest-wins G y e))
            (λ h. lt-ltb (suc (fewest G y)) (suc (fewest G x)) (omega (arith, fewest-le G (fewest G x - 1) y i h)))
        go false e = none (wins_within G (fewest G x - 1) y) refl
          where
            none : (b : Bool) → wins_within G (fewest G x - 1) y ≡ b → false ≡ wins_within G (fewest G x - 1) y
            none true q = absurd (false≢true (sym e ∙ found_by_then G (fewest G x - 1) y i q))
            none false q = sym q

    -- the winner to move is served by the same regions
    serves_is : (x : Place) → Inside G x → is_over G x ≡ false → beq x.runners_turn (runner_wins G x) ≡ true → (d : ℕ) → serves_by G rank x d ≡ serves G x d
    unfolding serves_by serves rank_of
    serves_is x i o b d = go (is_move G x d) refl
      where
        by_ranks : Bool → Bool
        by_ranks t = cond t (is_found G rank (move_to x d) && ltb (rank (move_to x d)) (rank x)) (not (is_found G rank (move_to x d)))

        by_sweeps : Bool → Bool
        by_sweeps t = cond t (wins_within G (fewest G x - 1) (move_to x d)) (not (runner_wins G (move_to x d)))

        told : is_move G x d ≡ true → (t w : Bool) → runner_wins G x ≡ w → beq t w ≡ true → by_ranks t ≡ by_sweeps t
        told m true true w b =
            ap (λ e. is_found G rank (move_to x d) && ltb (rank (move_to x d)) e) (are x i ∙ ap (λ c. cond c (suc (fewest G x)) 0) w)
            ∙ nearer x (move_to x d) (moved_in G x d i m) w (fewest_some G x o (fewest-wins G x w))
        told m true false w b = absurd (false≢true b)
        told m false true w b = absurd (false≢true b)
        told m false false w b = ap not (found_is (move_to x d) (moved_in G x d i m))

        go : (m : Bool) → is_move G x d ≡ m → (m && by_ranks x.runners_turn) ≡ (m && by_sweeps x.runners_turn)
        go true m = told m x.runners_turn (runner_wins G x) refl b
        go false m = refl

    pub verdict_by_lem : (x : Place) → Inside G x → verdict_by G rank x ≡ verdict_of G x
    unfolding verdict_by verdict_of region_for rank_of
    verdict_by_lem x i = λ j. record { runners_win = found_is x i j; moves = moves-are j; region = region_is j }
      where
        moves-are : rank x - 1 ≡ cond (runner_wins G x) (fewest G x) 0
        moves-are = ap (λ n. n - 1) (are x i) ∙ go (runner_wins G x)
          where
            go : (b : Bool) → cond b (suc (fewest G x)) 0 - 1 ≡ cond b (fewest G x) 0
            go true = omega arith
            go false = refl

        named : (ℕ → Bool) → Bool → Bool → ℕ
        named f o w = cond o 0 (cond (beq x.runners_turn w) (least_below (suc G.regions) f) 0)

        region_is : named (serves_by G rank x) (is_over G x) (is_found G rank x) ≡ named (serves G x) (is_over G x) (runner_wins G x)
        region_is = ap (named (serves_by G rank x) (is_over G x)) (found_is x i) ∙ go (is_over G x) refl (beq x.runners_turn (runner_wins G x)) refl
          where
            go : (o : Bool) → is_over G x ≡ o → (b : Bool) → beq x.runners_turn (runner_wins G x) ≡ b
                → cond o 0 (cond b (least_below (suc G.regions) (serves_by G rank x)) 0) ≡ cond o 0 (cond b (least_below (suc G.regions) (serves G x)) 0)
            go true o b e = refl
            go false o true e = least_ext (suc G.regions) (serves_by G rank x) (serves G x) (λ d l. serves_is x i o e d)
            go false o false e = refl

  -- ---- the computed list

  -- the rank of a place after k sweeps
  unfoldable pub rank_after : ℕ → Place → ℕ
  unfolding wins_within fewest
  rank_after k x = cond (wins_within G k x) (suc (fewest G x)) 0

  rank-found : (k : ℕ) (x : Place) → ltb 0 (rank_after k x) ≡ wins_within G k x
  unfolding rank_after
  rank-found k x = go (wins_within G k x)
    where
      go : (b : Bool) → ltb 0 (cond b (suc (fewest G x)) 0) ≡ b
      go true = lt-ltb 0 (suc (fewest G x)) (omega arith)
      go false = refl

  rank_next_lem : (k : ℕ) (x : Place) → Inside G x → ((y : Place) → Inside G y → rank_in G (ranks G k) y ≡ rank_after k y) → rank_next G k (ranks G k) (code G x) ≡ rank_after (suc k) x
  unfolding rank_next rank_after wins_within is_found rank_in
  rank_next_lem k x i ih = (λ j. cond (ltb 0 (ih x i j)) (ih x i j) (cond (swept j) (suc (suc k)) 0)) ∙ go (wins_within G k x) refl (wins_within G (suc k) x) refl
    where
      swept : sweep G (is_found G (rank_in G (ranks G k))) (place_of G (code G x)) ≡ wins_within G (suc k) x
      swept =
          ap (sweep G (is_found G (rank_in G (ranks G k)))) (code-back G x i)
          ∙ sweep_same (is_found G (rank_in G (ranks G k))) (wins_within G k) (λ y j. ap (ltb 0) (ih y j) ∙ rank-found k y) x i

      go : (b : Bool) → wins_within G k x ≡ b → (c : Bool) → wins_within G (suc k) x ≡ c
          → cond (ltb 0 (cond b (suc (fewest G x)) 0)) (cond b (suc (fewest G x)) 0) (cond c (suc (suc k)) 0) ≡ cond c (suc (fewest G x)) 0
      go true e true q = ap (λ t. cond t (suc (fewest G x)) (suc (suc k))) (lt-ltb 0 (suc (fewest G x)) (omega arith))
      go true e false q = absurd (false≢true (sym q ∙ wins_more G k x e))
      go false e true q = ap suc (sym (fewest-new k x i e q))
      go false e false q = refl

  ranks-after : (k : ℕ) (x : Place) → Inside G x → rank_in G (ranks G k) x ≡ rank_after k x
  unfolding ranks rank_after wins_within rank_in
  ranks-after zero x i = at_place (λ c. bit (runner_has_won G (place_of G c))) x i ∙ ap (λ y. bit (runner_has_won G y)) (code-back G x i) ∙ go (runner_has_won G x) refl
    where
      go : (b : Bool) → runner_has_won G x ≡ b → bit b ≡ cond b (suc (fewest G x)) 0
      go true e = ap suc (sym (fewest_none x i e))
      go false e = refl
  ranks-after (suc k) x i = at_place (rank_next G k (ranks G k)) x i ∙ rank_next_lem k x i (ranks-after k)

  pub ranks-are : (x : Place) → Inside G x → rank_in G (solved G) x ≡ rank_of G x
  unfolding solved rank_of rank_after runner_wins
  ranks-are = ranks-after (sweeps G)
