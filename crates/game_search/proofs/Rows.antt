-- The loops of a sweep over rows: all rows, and the ranks. Each invariant says what is done so far; the rest is as it was. Assumes nothing.
use Prim.Native.Nat.{ℕ, ◌+◌, ◌/◌, ◌%◌, ◌≤◌, ◌<◌}
use native.Mathlib.Omega.{arith}
use mathlib.Core.Path.{◌≡◌, refl, sym, ap, ◌∙◌}
use mathlib.Core.Bool.{Bool, true, false, ◌&&◌, cond}
use mathlib.Core.List.{List}
use lib.ListN.{length, get_or}
use lib.Dec.{eqb, ltb}
use borrow.Author.Tests.{eqb-true, eqb-false, ltb-true, ltb-false, lt-ltb, le-ltb}
use Rattle.game_sets.specs.Words.{bit_at, runner_bit, guard_bit}
use Rattle.game_search.specs.Words.{set_for, is_new, is_found_now, ranked_by}

-- ---- all rows

pub record Sweeping (near : List ℕ) (regions goal : ℕ) (runner guard : List ℕ) (k : ℕ) (runners guards : List ℕ) : Type 0 where
  pub upto : k ≤ regions
  pub runners_long : length runners ≡ 32
  pub guards_long : length guards ≡ 32
  pub of_runner : (g j : ℕ) → g < k → j < regions → bit_at runners g j ≡ runner_bit near goal (get_or guard g 0) g j
  pub of_guard : (g j : ℕ) → g < k → j < regions → bit_at guards g j ≡ guard_bit near regions goal runner g j

-- ---- the ranks of one guard's region and turn: the places of the runner's regions below r are put

pub record RankRow (old new at rank : ℕ) (ranks₀ : List ℕ) (r : ℕ) (ranks : List ℕ) : Type 0 where
  pub upto : r ≤ 32
  pub long : length ranks ≡ 2048
  pub put : (i : ℕ) → i < 2048 → get_or ranks i 0 ≡ cond (eqb (i % 64) at && (ltb (i / 64) r && is_new old new (i / 64))) rank (get_or ranks₀ i 0)

-- ---- all ranks: those of the first k guard's regions and turns are put

pub record Ranking (runner guard runners guards : List ℕ) (rank : ℕ) (ranks₀ : List ℕ) (k : ℕ) (ranks : List ℕ) : Type 0 where
  pub upto : k ≤ 64
  pub long : length ranks ≡ 2048
  pub put : (i : ℕ) → i < 2048 → get_or ranks i 0 ≡ cond (ltb (i % 64) k && is_found_now runner guard runners guards i) rank (get_or ranks₀ i 0)

pub ranking-starts : (runner guard runners guards : List ℕ) (rank : ℕ) (ranks : List ℕ) → length ranks ≡ 2048 → Ranking runner guard runners guards rank ranks 0 ranks
ranking-starts runner guard runners guards rank ranks l =
    record {
      upto = omega arith;
      long = l;
      put = λ i h. sym (ap (λ b. cond (b && is_found_now runner guard runners guards i) rank (get_or ranks i 0)) (le-ltb (i % 64) 0 (omega arith)));
    }

-- the set of a place is that of its row
set-of_row : (a b : List ℕ) (i k : ℕ) → i % 64 ≡ k → set_for a b k ≡ set_for a b i
set-of_row a b i k e = λ j. cond (eqb (turn j) 0) (get_or a (row j) 0) (get_or b (row j) 0)
  where
    turn : k % 2 ≡ i % 2
    turn = omega arith

    row : k % 64 / 2 ≡ i % 64 / 2
    row = omega arith

pub ranking_more : (runner guard runners guards : List ℕ) (rank : ℕ) (ranks₀ : List ℕ) (k : ℕ) (ranks ranks' : List ℕ) (old new : ℕ)
    → Ranking runner guard runners guards rank ranks₀ k ranks → k < 64 → old ≡ set_for runner guard k → new ≡ set_for runners guards k
    → ((i : ℕ) → i < 2048 → get_or ranks' i 0 ≡ cond (eqb (i % 64) k && is_new old new (i / 64)) rank (get_or ranks i 0)) → length ranks' ≡ 2048
    → Ranking runner guard runners guards rank ranks₀ (k + 1) ranks'
ranking_more runner guard runners guards rank ranks₀ k ranks ranks' old new R h e f p m =
    record { upto = omega arith; long = m; put = λ i l. p i l ∙ go i l (eqb (i % 64) k) refl }
  where
    found : ℕ → Bool
    found i = is_found_now runner guard runners guards i

    go : (i : ℕ) → i < 2048 → (t : Bool) → eqb (i % 64) k ≡ t
        → cond (eqb (i % 64) k && is_new old new (i / 64)) rank (get_or ranks i 0) ≡ cond (ltb (i % 64) (k + 1) && found i) rank (get_or ranks₀ i 0)
    go i l true q =
        (λ j. cond (q j && is_new (was j) (is j) (i / 64)) rank (get_or ranks i 0))
        ∙ ap (cond (found i) rank) (R.put i l ∙ ap (λ b. cond (b && found i) rank (get_or ranks₀ i 0)) (le-ltb (i % 64) k (omega (arith, row))))
        ∙ ap (λ b. cond (b && found i) rank (get_or ranks₀ i 0)) (sym (lt-ltb (i % 64) (k + 1) (omega (arith, row))))
      where
        row : i % 64 ≡ k
        row = eqb-true (i % 64) k q

        was : old ≡ set_for runner guard i
        was = e ∙ set-of_row runner guard i k row

        is : new ≡ set_for runners guards i
        is = f ∙ set-of_row runners guards i k row
    go i l false q =
        ap (λ b. cond (b && is_new old new (i / 64)) rank (get_or ranks i 0)) q ∙ R.put i l
        ∙ ap (λ b. cond (b && found i) rank (get_or ranks₀ i 0)) (same (ltb (i % 64) k) refl)
      where
        same : (b : Bool) → ltb (i % 64) k ≡ b → b ≡ ltb (i % 64) (k + 1)
        same true w = sym (lt-ltb (i % 64) (k + 1) (omega (arith, ltb-true (i % 64) k w)))
        same false w = sym (le-ltb (i % 64) (k + 1) (omega (arith, ltb-false (i % 64) k w, eqb-false (i % 64) k q)))

pub ranking-ends : (runner guard runners guards : List ℕ) (rank : ℕ) (ranks₀ : List ℕ) (k : ℕ) (ranks : List ℕ)
    → Ranking runner guard runners guards rank ranks₀ k ranks → 64 ≤ k → (i : ℕ) → i < 2048 → get_or ranks i 0 ≡ ranked_by runner guard runners guards rank ranks₀ i
ranking-ends runner guard runners guards rank ranks₀ k ranks R h i l =
    R.put i l ∙ ap (λ b. cond (b && is_found_now runner guard runners guards i) rank (get_or ranks₀ i 0)) (lt-ltb (i % 64) k (omega arith))
