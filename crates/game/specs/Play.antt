-- Ways of play, and what each of the two can force (document 02, request 14: "Verdicts are defined over all ways of play and not over the search").
-- A strategy may look at all that went before. Definitions only; assumes nothing.
use Rattle.std.specs.Prelude.{ℕ, zero, suc, ◌-◌, ◌≤◌, ◌<◌, ◌≡◌, Bool, true, false, List, [], ◌∷◌}
use Rattle.std.specs.Bool.{beq}
use Rattle.game.specs.Game.{Game, Place, move_to, is_move, runner_has_won, is_over, is_captured}

-- ---- plays

-- the places one after the other: p k is the place after k moves, of both sides together
abbrev pub Play : Type 0
Play = ℕ → Place

-- the places before the k-th, the latest first
unfoldable pub before : Play → ℕ → List Place
before p zero = []
before p (suc k) = p k ∷ before p k

module _ (G : Game) where
  -- from one place to the next: a move of whoever is to move; once play is over nothing moves
  pub data Next (x y : Place) : Type 0 where
    moved : is_over G x ≡ false → (d : ℕ) → is_move G x d ≡ true → y ≡ move_to x d → Next x y
    rests : is_over G x ≡ true → y ≡ x → Next x y

  -- a way of play from x
  pub record PlayFrom (x : Place) (p : Play) : Type 0 where
    pub starts : p zero ≡ x
    pub goes : (k : ℕ) → Next (p k) (p (suc k))

  -- "A taken goal region wins for the runner": he has won after k moves or earlier
  abbrev pub runner_wins_by : Play → ℕ → Type 0
  runner_wins_by p k = runner_has_won G (p k) ≡ true

  -- The guard "also wins if play never ends": where play is over it is by capture.
  abbrev pub guard_wins : Play → Type 0
  guard_wins p = (k : ℕ) → is_over G (p k) ≡ true → is_captured (p k) ≡ true

  -- ---- strategies

  -- the region to go to, from the places before and the place now; it is a move whatever these are
  pub record Strategy : Type 0 where
    pub choose : List Place → Place → ℕ
    pub lawful : (h : List Place) (x : Place) → is_move G x (choose h x) ≡ true

  -- one of the two, the runner where `side` is true, plays p by the strategy
  abbrev pub Follows : Bool → Strategy → Play → Type 0
  Follows side s p = (k : ℕ) → is_over G (p k) ≡ false → (p k).runners_turn ≡ side → p (suc k) ≡ move_to (p k) (s.choose (before p k) (p k))

  -- ---- what can be forced

  -- the runner can force a win within n moves of both sides
  pub record RunnerForces (n : ℕ) (x : Place) : Type 0 where
    pub strategy : Strategy
    pub wins : (p : Play) → PlayFrom x p → Follows true strategy p → runner_wins_by p n

  -- the guard can force a win: capture, or play for ever
  pub record GuardForces (x : Place) : Type 0 where
    pub strategy : Strategy
    pub wins : (p : Play) → PlayFrom x p → Follows false strategy p → guard_wins p

-- ---- verdicts

-- of a place: `moves` is 0 where the guard wins; `region` is 0 where play is over or the winner is not to move
pub record Verdict : Type 0 where
  pub runners_win : Bool
  pub moves : ℕ
  pub region : ℕ

-- d passes, and nothing less does
abbrev pub LeastOf : (ℕ → Type 0) → ℕ → Type 0
LeastOf P d = P d × ((e : ℕ) → e < d → P e → ⊥)

module _ (G : Game) where
  -- going to d serves a runner to move who can win within n moves: "his moves keep to it"
  abbrev pub RunnerServed : ℕ → Place → ℕ → Type 0
  RunnerServed n x d = (is_move G x d ≡ true) × RunnerForces G (n - 1) (move_to x d)

  -- going to d serves a guard to move
  abbrev pub GuardServed : Place → ℕ → Type 0
  GuardServed x d = (is_move G x d ≡ true) × GuardForces G (move_to x d)

  -- "Say for every place of both and either to move who can force a win, and, unless play is over, give a winner to move the least region that serves. The
  -- runner's win names the fewest moves of both sides that he can force"
  pub record Judged (x : Place) (v : Verdict) : Type 0 where
    pub runner : v.runners_win ≡ true → RunnerForces G v.moves x × ((n : ℕ) → RunnerForces G n x → v.moves ≤ n)
    pub guard : v.runners_win ≡ false → GuardForces G x × (v.moves ≡ 0)
    pub runners_region : is_over G x ≡ false → x.runners_turn ≡ true → v.runners_win ≡ true → LeastOf (RunnerServed v.moves x) v.region
    pub guards_region : is_over G x ≡ false → x.runners_turn ≡ false → v.runners_win ≡ false → LeastOf (GuardServed x) v.region
    pub over : is_over G x ≡ true → v.region ≡ 0
    pub waits : beq x.runners_turn v.runners_win ≡ false → v.region ≡ 0
