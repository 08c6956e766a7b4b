-- A report with a run more, from its parts. Assumes nothing.
use Rattle.std.proofs.Common.{◌≡◌, ℕ, zero, suc, ◌<◌, ◌≤◌, List, [], ◌∷◌, length, get_or, set, replicate, refl, ap, ap₂, arith}
use Rattle.report.specs.Runs as def
use Rattle.report.specs.Runs.{refused_run, accepted_run, squared_lengths}
use Rattle.report.specs.Report as def'
use Rattle.report.specs.Report.{sum64, pass_count, count_at, with_figures, figures_at, added_by, mean_of, mean_kept}
use Rattle.report_figures.specs.declared.Figures.{Figures}
use Rattle.report_figures.specs.declared.Report.{Report}
use Rattle.checks.specs.Passes.{pass_number}
use Rattle.checks.specs.declared.passes.Pass.{Pass}
use Rattle.checks.specs.declared.passes.Pass.TheVariants as pass
use Rattle.report_figures.specs.Forms.{figures_form, report_form}

pub counted : (l : List ℕ) (i : ℕ) → i < length l → set l i (sum64 (get_or l i 0) 1) ≡ count_at sum64 i l
unfolding count_at
counted [] i h = absurd (omega arith)
counted (n ∷ l) zero h = refl
counted (n ∷ l) (suc i) h = ap {B = List ℕ} (λ m. n ∷ m) (counted l i (omega arith))

pub not-counted : (l : List ℕ) (i : ℕ) → length l ≤ i → l ≡ count_at sum64 i l
unfolding count_at
not-counted [] i h = refl
not-counted (n ∷ l) zero h = absurd (omega arith)
not-counted (n ∷ l) (suc i) h = ap {B = List ℕ} (λ m. n ∷ m) (not-counted l i (omega arith))

-- counts that are all 0
pub zeros : (l : List ℕ) (n : ℕ) → length l ≡ n → ((i d : ℕ) → i < n → get_or l i d ≡ 0) → l ≡ replicate n 0
zeros [] zero e h = refl
zeros [] (suc n) e h = absurd (omega arith)
zeros (k ∷ l) zero e h = absurd (omega arith)
zeros (k ∷ l) (suc n) e h = ap₂ {C = List ℕ} (λ m t. m ∷ t) (h 0 0 (omega arith)) (zeros l n (omega (arith, e)) (λ i d m. h (suc i) d (omega arith)))

-- ---- means

-- ---- figures

-- the report whose parts are these
abbrev made : ℕ → List ℕ → def.Figures → def.Figures → def.Figures → ℕ → def'.Report
made runs refused f g h squared = record { runs = runs; refused = refused; passes = f ∷ g ∷ h ∷ []; squared = squared }

pub refused-added : (r : Report) (number : ℕ) {runs : ℕ} {counts : List ℕ} → runs ≡ sum64 r.runs 1 → counts ≡ count_at sum64 number r.refused
    → made runs counts (figures_form r.pass_1) (figures_form r.pass_2) (figures_form r.pass_3) r.squared ≡ added_by sum64 (report_form r) (refused_run number)
unfolding added_by
refused-added r number e k = λ i. made (e i) (k i) (figures_form r.pass_1) (figures_form r.pass_2) (figures_form r.pass_3) r.squared

-- a run of each pass: the figures f of its pass are with those of the run, and those of the others as they were
module _ (r : Report) (run : Figures) (squared : ℕ) where
  abbrev Added : Pass → def.Figures → def.Figures → def.Figures → Type 0
  Added p a b d = made (sum64 r.runs 1) r.refused a b d (sum64 r.squared squared) ≡ added_by sum64 (report_form r) (accepted_run (pass_number p) (figures_form run) squared)

  pub first-added : {p : Pass} {f : def.Figures} → p ≡ pass.ReplaceRampMouths → f ≡ with_figures sum64 (figures_form r.pass_1) (figures_form run) → Added p f (figures_form r.pass_2) (figures_form r.pass_3)
  unfolding added_by figures_at
  first-added e h = rw e (λ i. made (sum64 r.runs 1) r.refused (h i) (figures_form r.pass_2) (figures_form r.pass_3) (sum64 r.squared squared))

  pub second-added : {p : Pass} {f : def.Figures} → p ≡ pass.CollapseRampInteriors → f ≡ with_figures sum64 (figures_form r.pass_2) (figures_form run) → Added p (figures_form r.pass_1) f (figures_form r.pass_3)
  unfolding added_by figures_at
  second-added e h = rw e (λ i. made (sum64 r.runs 1) r.refused (figures_form r.pass_1) (h i) (figures_form r.pass_3) (sum64 r.squared squared))

  pub third-added : {p : Pass} {f : def.Figures} → p ≡ pass.RemoveJunctionBoundaries → f ≡ with_figures sum64 (figures_form r.pass_3) (figures_form run) → Added p (figures_form r.pass_1) (figures_form r.pass_2) f
  unfolding added_by figures_at
  third-added e h = rw e (λ i. made (sum64 r.runs 1) r.refused (figures_form r.pass_1) (figures_form r.pass_2) (h i) (sum64 r.squared squared))
