-- Runner and guard (document 02, request 14): the graph, the places of both, the moves, and when play is over. Quotations are of the request. Definitions only;
-- assumes nothing.
use Rattle.std.specs.Prelude.{ℕ, ◌≡◌, Bool, true, false, ◌&&◌, ◌||◌, cond, leb}
use Rattle.std.proofs.Math.Bool.{not}
use Rattle.std.proofs.Math.Dec.{eqb}

-- The regions are the numbers 1 to `regions`; `edge` is asked of two of them.
pub record Game : Type 0 where
  pub regions : ℕ
  pub edge : ℕ → ℕ → Bool
  pub goal : ℕ

-- "every place of both and either to move"
pub record Place : Type 0 where
  pub runner : ℕ
  pub guard : ℕ
  pub runners_turn : Bool

-- ---- moves

-- the region of the one to move
unfoldable pub mover : Place → ℕ
mover x = cond x.runners_turn x.runner x.guard

-- the place after the one to move went to region d; the other is to move then
unfoldable pub move_to : Place → ℕ → Place
move_to x d = cond x.runners_turn (record { runner = d; guard = x.guard; runners_turn = false }) (record { runner = x.runner; guard = d; runners_turn = true })

-- "standing on the same region at any time wins for the guard"
unfoldable pub is_captured : Place → Bool
is_captured x = eqb x.runner x.guard

abbrev pub is_region : ℕ → ℕ → Bool
is_region regions d = leb 1 d && leb d regions

module _ (G : Game) where
  -- "along edges or stay"
  unfoldable pub is_step : ℕ → ℕ → Bool
  is_step a d = eqb d a || (is_region G.regions d && G.edge a d)

  -- "runner and guard move by turns": whoever is to move
  unfoldable pub is_move : Place → ℕ → Bool
  unfolding mover is_step
  is_move x d = is_step (mover x) d

  -- ---- the end of play

  -- "A taken goal region wins for the runner [..] Capture is judged before the goal"
  unfoldable pub runner_has_won : Place → Bool
  unfolding is_captured
  runner_has_won x = not (is_captured x) && eqb x.runner G.goal

  unfoldable pub is_over : Place → Bool
  unfolding is_captured runner_has_won
  is_over x = is_captured x || runner_has_won x

-- both stand in the graph
pub record Inside (G : Game) (x : Place) : Type 0 where
  pub runner_in : is_region G.regions x.runner ≡ true
  pub guard_in : is_region G.regions x.guard ≡ true
