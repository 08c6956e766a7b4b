-- Request 13: what holds of every report that runs of calls and sheets were added to from the empty one. Its invariant (`Within`): at most 10,000 runs, so that every figure of a pass
-- is at most 256 times the runs, the squared lengths 2^35 times; of each pass boundaries in are kept and removed together; accepted and refused runs are all runs. So no sum wraps.
-- Assumes nothing.
use Prim.Native.Nat.{ℕ, zero, suc, ◌+◌, ◌*◌, ◌-◌, ◌≤◌, ◌<◌, ◌^◌}
use Rattle.std.proofs.Common.{arith, mod-eq_of_lt, sym, ◌∙◌, ltb-true}
use Rattle.std.specs.Prelude.{◌≡◌, Bool, length, replicate}
use Rattle.std.proofs.Math.Path.{refl, ap, subst}
use Rattle.std.proofs.Math.Bool.{true, false, cond}
use mathlib.Core.List.{List, [], ◌∷◌}
use Rattle.std.proofs.Math.Dec.{ltb}
use Rattle.definitions.specs.Limits.{max_entries}
use Rattle.laws.specs.ListLaws.Lists.{All, done, more, all_map}
use Rattle.report.specs.Runs.{Figures, Run}
use Rattle.report.specs.Report.{Report, max_runs, pass_count, refusal_numbers, no_figures, empty_report, sum64, count_at, with_figures, figures_at, added_by, add_run_by, add_runs_by, add_runs, exact_runs}
use Rattle.report.specs.ReportLaws.Possible.{max_squares, OneRun, Possible, refusing, accepting, Made, made_possible}

-- ---- counted runs

unfoldable pub total : List ℕ → ℕ
total [] = 0
total (n ∷ l) = n + total l

unfoldable pub total_accepted : List Figures → ℕ
total_accepted [] = 0
total_accepted (f ∷ l) = f.accepted + total_accepted l

-- ---- the invariant

-- of a pass, where there are n runs
pub record PassWithin (n : ℕ) (f : Figures) : Type 0 where
  pub few : f.accepted ≤ n
  pub bounded : f.boundaries ≤ max_entries * n
  pub sum : f.boundaries ≡ f.kept + f.removed

pub record Within (R : Report) : Type 0 where
  pub few : R.runs ≤ max_runs
  pub numbers : length R.refused ≡ refusal_numbers
  pub three : length R.passes ≡ pass_count
  pub refusals : All (λ n. n ≤ R.runs) R.refused
  pub passes : All (PassWithin R.runs) R.passes
  pub squares : R.squared ≤ max_squares * R.runs
  pub counted : total_accepted R.passes + total R.refused ≡ R.runs

empty-within : Within empty_report
unfolding empty_report total total_accepted
empty-within =
    record {
      few = omega arith;
      numbers = refl;
      three = refl;
      refusals = zeros refusal_numbers;
      passes = nones pass_count;
      squares = omega arith;
      counted = refl;
    }
  where
    zeros : (k : ℕ) → All (λ n. n ≤ 0) (replicate k 0)
    zeros zero = done
    zeros (suc k) = more {x = 0} (omega arith) (zeros k)

    nones : (k : ℕ) → All (PassWithin 0) (replicate k no_figures)
    nones zero = done
    nones (suc k) = more {x = no_figures} (record { few = omega arith; bounded = omega arith; sum = refl }) (nones k)

-- ---- a refused run

count-length : (plus : ℕ → ℕ → ℕ) (i : ℕ) (l : List ℕ) → length (count_at plus i l) ≡ length l
unfolding count_at
count-length plus i [] = refl
count-length plus zero (n ∷ l) = refl
count-length plus (suc i) (n ∷ l) = ap suc (count-length plus i l)

count-within : (k i : ℕ) {l : List ℕ} → All (λ n. n ≤ k) l → All (λ n. n ≤ k + 1) (count_at ◌+◌ i l)
unfolding count_at
count-within k i done = done
count-within k zero (more {x = n} h a) = more {x = n + 1} (omega arith) (all_map (λ n m. omega arith) a)
count-within k (suc i) (more {x = n} h a) = more {x = n} (omega arith) (count-within k i a)

count-total : (i : ℕ) (l : List ℕ) → i < length l → total (count_at ◌+◌ i l) ≡ total l + 1
unfolding count_at total
count-total i [] h = absurd (omega arith)
count-total zero (n ∷ l) h = omega arith
count-total (suc i) (n ∷ l) h = omega (arith, count-total i l (omega arith))

small-sum : (a b : ℕ) → a + b < 2 ^ 64 → sum64 a b ≡ a + b
small-sum a b h = mod-eq_of_lt h

count-exact : (k i : ℕ) {l : List ℕ} → k ≤ max_runs → All (λ n. n ≤ k) l → count_at sum64 i l ≡ count_at ◌+◌ i l
unfolding count_at
count-exact k i few done = refl
count-exact k zero few (more {x = n} {l = l} h a) = ap {B = List ℕ} (λ m. m ∷ l) (small-sum n 1 (omega arith))
count-exact k (suc i) few (more {x = n} h a) = ap {B = List ℕ} (λ m. n ∷ m) (count-exact k i few a)

-- ---- an accepted run

module _ (run : Figures) where
  figures-length : (plus : ℕ → ℕ → ℕ) (i : ℕ) (l : List Figures) → length (figures_at plus i run l) ≡ length l
  unfolding figures_at
  figures-length plus i [] = refl
  figures-length plus zero (f ∷ l) = refl
  figures-length plus (suc i) (f ∷ l) = ap suc (figures-length plus i l)

  module _ (k : ℕ) (one : OneRun run) where
    later : (f : Figures) → PassWithin k f → PassWithin (k + 1) f
    later f h = record { few = omega (arith, h.few); bounded = omega (arith, h.bounded); sum = h.sum }

    figures-within : (i : ℕ) {l : List Figures} → All (PassWithin k) l → All (PassWithin (k + 1)) (figures_at ◌+◌ i run l)
    unfolding figures_at
    figures-within i done = done
    figures-within zero (more {x = f} h a) =
        more {x = with_figures ◌+◌ f run} (record { few = omega (arith, h.few, one.one); bounded = omega (arith, h.bounded, one.few); sum = omega (arith, h.sum, one.sum) })
        (all_map later a)
    figures-within (suc i) (more {x = f} h a) = more (later f h) (figures-within i a)

    figures-total : (i : ℕ) (l : List Figures) → i < length l → total_accepted (figures_at ◌+◌ i run l) ≡ total_accepted l + 1
    unfolding figures_at total_accepted
    figures-total i [] h = absurd (omega arith)
    figures-total zero (f ∷ l) h = omega (arith, one.one)
    figures-total (suc i) (f ∷ l) h = omega (arith, figures-total i l (omega arith))

    figures-exact : (i : ℕ) {l : List Figures} → k ≤ max_runs → All (PassWithin k) l → figures_at sum64 i run l ≡ figures_at ◌+◌ i run l
    unfolding figures_at
    figures-exact i small done = refl
    figures-exact zero small (more {x = f} {l = l} h a) = ap {B = List Figures} (λ g. g ∷ l) same
      where
        same : with_figures sum64 f run ≡ with_figures ◌+◌ f run
        same =
            λ i. record {
              accepted = small-sum f.accepted run.accepted (omega (arith, h.few, one.one)) i;
              boundaries = small-sum f.boundaries run.boundaries (omega (arith, h.bounded, one.few)) i;
              kept = small-sum f.kept run.kept (omega (arith, h.bounded, h.sum, one.few, one.sum)) i;
              removed = small-sum f.removed run.removed (omega (arith, h.bounded, h.sum, one.few, one.sum)) i;
            }
    figures-exact (suc i) small (more {x = f} h a) = ap {B = List Figures} (λ l. f ∷ l) (figures-exact i small a)

-- ---- a run more

module _ (R : Report) (W : Within R) (room : R.runs < max_runs) where
  added-exact : {run : Run} → Possible run → added_by sum64 R run ≡ added_by ◌+◌ R run
  unfolding added_by
  added-exact (refusing {n = n} h) =
      λ i. record { runs = small-sum R.runs 1 (omega arith) i; refused = count-exact R.runs n W.few W.refusals i; passes = R.passes; squared = R.squared }
  added-exact (accepting {pass = pass} {f = f} {squared = s} h k one few) =
      λ i. record {
        runs = small-sum R.runs 1 (omega arith) i;
        refused = R.refused;
        passes = figures-exact f R.runs one (pass - 1) W.few W.passes i;
        squared = small-sum R.squared s (omega (arith, W.squares, few)) i;
      }

  added-within : {run : Run} → Possible run → Within (added_by ◌+◌ R run)
  unfolding added_by
  added-within (refusing {n = n} h) =
      record {
        few = omega arith;
        numbers = count-length ◌+◌ n R.refused ∙ W.numbers;
        three = W.three;
        refusals = count-within R.runs n W.refusals;
        passes = all_map (λ f k. record { few = omega (arith, k.few); bounded = omega (arith, k.bounded); sum = k.sum }) W.passes;
        squares = omega (arith, W.squares);
        counted = omega (arith, W.counted, count-total n R.refused (omega (arith, W.numbers)));
      }
  added-within (accepting {pass = pass} {f = f} {squared = s} h k one few) =
      record {
        few = omega arith;
        numbers = W.numbers;
        three = figures-length f ◌+◌ (pass - 1) R.passes ∙ W.three;
        refusals = all_map (λ n m. omega arith) W.refusals;
        passes = figures-within f R.runs one (pass - 1) W.passes;
        squares = omega (arith, W.squares);
        counted = omega (arith, W.counted, figures-total f R.runs one (pass - 1) R.passes (omega (arith, W.three)));
      }

module _ (R : Report) (W : Within R) {run : Run} (P : Possible run) where
  add-exact : add_run_by sum64 R run ≡ add_run_by ◌+◌ R run
  unfolding add_run_by
  add-exact = go (ltb R.runs max_runs) refl
    where
      go : (b : Bool) → ltb R.runs max_runs ≡ b → cond b (added_by sum64 R run) R ≡ cond b (added_by ◌+◌ R run) R
      go true e = added-exact R W (ltb-true R.runs max_runs e) P
      go false e = refl

  add-within : Within (add_run_by ◌+◌ R run)
  unfolding add_run_by
  add-within = go (ltb R.runs max_runs) refl
    where
      go : (b : Bool) → ltb R.runs max_runs ≡ b → Within (cond b (added_by ◌+◌ R run) R)
      go true e = added-within R W (ltb-true R.runs max_runs e) P
      go false e = W

runs-within : (R : Report) → Within R → {l : List Run} → All Made l → (add_runs_by sum64 R l ≡ add_runs_by ◌+◌ R l) × Within (add_runs_by ◌+◌ R l)
unfolding add_runs_by
runs-within R W done = (refl, W)
runs-within R W (more {x = run} {l = l} made all) =
    let P = made_possible made in
    let rest = runs-within (add_run_by ◌+◌ R run) (add-within R W P) all in
    (ap (λ Q. add_runs_by sum64 Q l) (add-exact R W P) ∙ rest.0, rest.1)

-- ---- every report reached from the empty one

module _ {l : List Run} (made : All Made l) where
  -- no sum wraps
  pub exact : add_runs empty_report l ≡ exact_runs empty_report l
  unfolding add_runs exact_runs
  exact = (runs-within empty_report empty-within made).0

  pub reached : Within (add_runs empty_report l)
  unfolding add_runs
  reached = subst Within (sym (runs-within empty_report empty-within made).0) (runs-within empty_report empty-within made).1

  -- "Boundaries in [..] equals their sum."
  pub in_is_kept_and_removed : All (λ f. f.boundaries ≡ f.kept + f.removed) (add_runs empty_report l).passes
  in_is_kept_and_removed = all_map (λ f h. h.sum) reached.passes

  -- accepted and refused runs are all runs, at most 10,000
  pub runs-counted : total_accepted (add_runs empty_report l).passes + total (add_runs empty_report l).refused ≡ (add_runs empty_report l).runs
  runs-counted = reached.counted

  pub squares-few : (add_runs empty_report l).squared < 2 ^ 49
  squares-few = omega (arith, reached.squares, reached.few)
