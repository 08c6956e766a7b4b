-- Request 13: "The order of up to 10,000 runs does not alter the report", and "a run beyond them [..] changes nothing". The argument: two runs that follow one another add the same
-- in either order, also modulo 2^64, and any order comes about by exchanges of neighbours. Assumes nothing.
use Rattle.std.specs.Prelude.{ℕ, zero, suc, ◌+◌, ◌-◌, ◌<◌, ◌≤◌, ◌^◌, ◌≡◌, refl, List, [], ◌∷◌, length}
use Rattle.std.proofs.Common.{arith, mod-eq_of_lt, sym, ap, ◌∙◌, lt-ltb, le-ltb}
use Rattle.report.specs.Runs.{Figures, Run, refused_run, accepted_run}
use Rattle.report.specs.Report.{Report, max_runs, sum64, count_at, with_figures, figures_at, added_by, add_run_by, add_runs_by, add_run, add_runs}

-- the same runs in another order: the least relation with exchanges of neighbours
pub data Reordered : List Run → List Run → Type 0 where
  done : Reordered [] []
  same : {x : Run} {l m : List Run} → Reordered l m → Reordered (x ∷ l) (x ∷ m)
  swap : {x y : Run} {l : List Run} → Reordered (x ∷ y ∷ l) (y ∷ x ∷ l)
  then : {l m n : List Run} → Reordered l m → Reordered m n → Reordered l n

reordered_length : {l m : List Run} → Reordered l m → length l ≡ length m
reordered_length done = refl
reordered_length (same p) = ap suc (reordered_length p)
reordered_length swap = refl
reordered_length (then p q) = reordered_length p ∙ reordered_length q

-- ---- two runs in either order

exchange : (x y z : ℕ) → sum64 (sum64 x y) z ≡ sum64 (sum64 x z) y
exchange x y z = omega arith

count-swap : (i j : ℕ) (l : List ℕ) → count_at sum64 i (count_at sum64 j l) ≡ count_at sum64 j (count_at sum64 i l)
unfolding count_at
count-swap i j [] = refl
count-swap zero zero (n ∷ l) = refl
count-swap zero (suc j) (n ∷ l) = refl
count-swap (suc i) zero (n ∷ l) = refl
count-swap (suc i) (suc j) (n ∷ l) = ap {B = List ℕ} (λ m. n ∷ m) (count-swap i j l)

figures-swap : (i j : ℕ) (r s : Figures) (l : List Figures) → figures_at sum64 i r (figures_at sum64 j s l) ≡ figures_at sum64 j s (figures_at sum64 i r l)
unfolding figures_at
figures-swap i j r s [] = refl
figures-swap zero zero r s (f ∷ l) = ap {B = List Figures} (λ g. g ∷ l) both
  where
    both : with_figures sum64 (with_figures sum64 f s) r ≡ with_figures sum64 (with_figures sum64 f r) s
    both =
        λ i. record {
          accepted = exchange f.accepted s.accepted r.accepted i;
          boundaries = exchange f.boundaries s.boundaries r.boundaries i;
          kept = exchange f.kept s.kept r.kept i;
          removed = exchange f.removed s.removed r.removed i;
        }
figures-swap zero (suc j) r s (f ∷ l) = refl
figures-swap (suc i) zero r s (f ∷ l) = refl
figures-swap (suc i) (suc j) r s (f ∷ l) = ap {B = List Figures} (λ n. f ∷ n) (figures-swap i j r s l)

abbrev added : Report → Run → Report
added = added_by sum64

added-swap : (R : Report) (x y : Run) → added (added R x) y ≡ added (added R y) x
unfolding added_by
added-swap R (refused_run n) (refused_run m) =
    λ i. record { runs = sum64 (sum64 R.runs 1) 1; refused = count-swap m n R.refused i; passes = R.passes; squared = R.squared }
added-swap R (refused_run n) (accepted_run p f s) = refl
added-swap R (accepted_run p f s) (refused_run n) = refl
added-swap R (accepted_run p f s) (accepted_run q g t) =
    λ i. record {
      runs = sum64 (sum64 R.runs 1) 1;
      refused = R.refused;
      passes = figures-swap (q - 1) (p - 1) g f R.passes i;
      squared = exchange R.squared s t i;
    }

added-runs : (R : Report) (x : Run) → R.runs < max_runs → (added R x).runs ≡ R.runs + 1
unfolding added_by
added-runs R (refused_run n) h = mod-eq_of_lt {m = 2 ^ 64} (omega arith)
added-runs R (accepted_run p f s) h = mod-eq_of_lt {m = 2 ^ 64} (omega arith)

-- ---- any order

pub within : (R : Report) (x : Run) → R.runs < max_runs → add_run R x ≡ added R x
unfolding add_run add_run_by
within R x h = rw (lt-ltb R.runs max_runs h) refl

-- "a run beyond them [..] changes nothing"
pub beyond : (R : Report) (x : Run) → max_runs ≤ R.runs → add_run R x ≡ R
unfolding add_run add_run_by
beyond R x h = rw (le-ltb R.runs max_runs h) refl

both-added : (R : Report) (x y : Run) → R.runs + 2 ≤ max_runs → add_run (add_run R x) y ≡ added (added R x) y
both-added R x y h = ap (λ Q. add_run Q y) (within R x (omega arith)) ∙ within (added R x) y (omega (arith, added-runs R x (omega arith)))

-- from any report with room for them
pub order-free : (R : Report) {l m : List Run} → Reordered l m → R.runs + length l ≤ max_runs → add_runs R l ≡ add_runs R m
unfolding add_runs add_runs_by add_run
order-free R done h = refl
order-free R (same {x = x} {l = l} {m = m} p) h =
    order-free (add_run R x) p (omega (arith, ap (λ Q. Q.runs) (within R x (omega arith)), added-runs R x (omega arith)))
order-free R (swap {x = x} {y = y} {l = l}) h =
    let room : R.runs + 2 ≤ max_runs = omega arith in
    ap (λ Q. add_runs Q l) (both-added R x y room ∙ added-swap R x y ∙ sym (both-added R y x room))
order-free R (then p q) h = order-free R p h ∙ order-free R q (omega (arith, reordered_length p))
