-- The steps of the choice by bests: the best of a ramp is put, a proposal is taken, and what falls with each. Assumes nothing.
use Rattle.mouth_proposals.specs.declared.candidates.Candidate.{Candidate}
use Prim.Native.Nat.{ℕ, ◌-◌, ◌%◌, ◌≤◌, ◌<◌}
use native.Mathlib.Omega.{arith}
use mathlib.Core.Path.{◌≡◌, refl, sym, ap, ◌∙◌, subst}
use mathlib.Core.Logic.{⊎_elim}
use mathlib.Core.Bool.{Bool, true, false, not, cond}
use Rattle.std.specs.Prelude.{Option, None, Some}
use mathlib.Core.List.{List, [], ◌∷◌, ◌++◌}
use lib.ListN.{length, get_or, set}
use lib.Seq.{get_or-set_same, get_or-set_other}
use lib.Dec.{eqb}
use Rattle.definitions.specs.Scan.{count_below}
use Rattle.definitions.specs.Context.{Context}
use Rattle.definitions.specs.RampMouths.{MouthProposal, ranks_before, proposals}
use Rattle.laws.specs.ListLaws.Options.{OnO, absent, on_cond}
use Rattle.laws.specs.ListLaws.ScanSteps.{count-le}
use Rattle.laws.specs.NumberLaws.Comparisons.{same_or}
use Rattle.laws.specs.RegionLaws.OneMore.{OneMore, count_more}
use Rattle.context.specs.Shown.{ShownPairs, ShownAnchored}
use Rattle.mouth_selection.specs.Held.{is_refused, TakenState}
use Rattle.mouth_selection.specs.Entries.{proposed}
use Rattle.mouth_selection.specs.Rounds.{Under, same, least_among}
use Rattle.mouth_selection.specs.Selecting.{Ended, row_of, ForRamp, BestOf, Progress, Renewed, is_stale, weight}
use Rattle.mouth_selection.proofs.SelectionLaws.{one_round, round_last}
use Rattle.mouth_selection.proofs.BestLaws.{under_stays}
use Rattle.mouth_selection.proofs.GoneMouths.{used_none}

-- what is known of the best of ramp a
abbrev UnderOf : Context → List MouthProposal → ℕ → Option Candidate → Type 0
UnderOf C T a o = Under (ranks_before C) (λ p. not (is_refused C T p)) (proposed C o) (least_among C T (row_of C a))

module _ {C : Context} {marks : List ℕ} {gone ends : List Bool} {bests : List (Option Candidate)} {n : ℕ} (P : Progress C marks gone ends bests n) where
  -- nothing is left
  pub ended : None ≡ least_among C P.chosen (proposals C) → Ended C gone
  ended e = record { at = round_last P.chosen P.state P.same e }

  -- ---- the best of ramp a is put

  pub best_put : {a : ℕ} {best : Option Candidate} → BestOf C P.chosen a best → a < length bests → {k : ℕ} → ((i : ℕ) → i < k → (i ≡ a → ⊥) → i < n) → Progress C marks gone ends (set bests a best) k
  best_put {a} {best} H long {k} more =
      record {
        chosen = P.chosen;
        state = P.state;
        same = P.same;
        of_ramps = record {
          known = λ i h. put_keeps (λ i o. OnO (ForRamp C i) o) i H.known (λ d. P.of_ramps.known i (more i h d));
          under = λ i h. put_keeps (UnderOf C P.chosen) i (subst (Under (ranks_before C) (λ p. not (is_refused C P.chosen p)) (proposed C best)) H.least same) (λ d. P.of_ramps.under i (more i h d));
        };
        anchored = P.anchored;
      }
    where
      put_keeps : (Q : ℕ → Option Candidate → Type 0) (i : ℕ) → Q a best → ((i ≡ a → ⊥) → Q i (get_or bests i None)) → Q i (get_or (set bests a best) i None)
      put_keeps Q i new old =
          ⊎_elim (λ s. subst (λ i. Q i (get_or (set bests a best) i None)) (sym s) (subst (Q a) (sym (get_or-set_same bests a best None long)) new))
          (λ d. subst (Q i) (sym (get_or-set_other bests a i best None d)) (old d)) (same_or i a)

  -- ---- a proposal is taken

  pub taken-progress : (p : MouthProposal) → Some p ≡ least_among C P.chosen (proposals C) → {pairs starts : List ℕ} → ShownPairs C pairs starts
      → {marks' : List ℕ} {gone' ends' : List Bool} {bests' : List (Option Candidate)} → n ≤ C.count → TakenState C (P.chosen ++ (p ∷ [])) gone' ends' marks' → ShownAnchored C marks' → Renewed ends' bests bests' n
      → Progress C marks' gone' ends' bests' n
  taken-progress p least rows {ends' = ends'} {bests' = bests'} few S A N =
      record {
        chosen = P.chosen ++ (p ∷ []);
        state = S;
        same = sym (one_round C (proposals C) P.chosen p least) ∙ P.same;
        of_ramps = record {
          known = λ i h. subst (OnO (ForRamp C i)) (sym (N.at i h)) (on_cond (get_or ends' i false) absent (P.of_ramps.known i h));
          under = λ i h. subst (UnderOf C (P.chosen ++ (p ∷ [])) i) (sym (N.at i h)) (under i h (get_or ends' i false) refl);
        };
        anchored = A;
      }
    where
      under : (i : ℕ) → i < n → (u : Bool) → get_or ends' i false ≡ u → UnderOf C (P.chosen ++ (p ∷ [])) i (cond u None (get_or bests i None))
      under i h true e =
          subst (Under (ranks_before C) (λ q. not (is_refused C (P.chosen ++ (p ∷ [])) q)) None) (used_none C (P.chosen ++ (p ∷ [])) rows i (sym (S.ends i (omega (arith, h, few))) ∙ e)) same
      under i h false e = under_stays C P.chosen p i (P.of_ramps.under i h)

pub still-anchored : {C : Context} {marks marks' : List ℕ} → ShownAnchored C marks → length marks' ≡ length marks → ((i : ℕ) → i < length marks → get_or marks' i 0 % 2 ≡ get_or marks i 0 % 2) → ShownAnchored C marks'
still-anchored A e odd = record { long = omega (arith, A.long, e); at = λ r h k. A.at r h k ∙ sym (ap (λ n. eqb n 1) (odd (r - 1) (omega (arith, h, k, A.long)))) }

-- ---- what falls

module _ (pairs starts marks : List ℕ) (gone ends : List Bool) where
  pub weight-put : (count : ℕ) (bests : List (Option Candidate)) (a : ℕ) (best : Option Candidate) → a < count → a < length bests → is_stale pairs starts marks gone ends (get_or bests a None) ≡ true
      → is_stale pairs starts marks gone ends best ≡ false → weight pairs starts count marks gone ends (set bests a best) < weight pairs starts count marks gone ends bests
  unfolding weight
  weight-put count bests a best h l e f = omega (arith, count_more one count h)
    where
      one : OneMore (λ i. is_stale pairs starts marks gone ends (get_or (set bests a best) i None)) (λ i. is_stale pairs starts marks gone ends (get_or bests i None)) a
      one =
          record {
            before = ap (is_stale pairs starts marks gone ends) (get_or-set_same bests a best None l) ∙ f;
            after = e;
            rest = λ d k. sym (ap (is_stale pairs starts marks gone ends) (get_or-set_other bests a d best None k));
          }

  pub weight-taken : {count : ℕ} (bests : List (Option Candidate)) (marks' : List ℕ) (gone' ends' : List Bool) (bests' : List (Option Candidate)) → count ≤ 256
      → count_below count (λ i. not (get_or gone' i false)) < count_below count (λ i. not (get_or gone i false)) → weight pairs starts count marks' gone' ends' bests' ≤ weight pairs starts count marks gone ends bests
  unfolding weight
  weight-taken {count} bests marks' gone' ends' bests' few less = omega (arith, few, less, count-le (λ i. is_stale pairs starts marks' gone' ends' (get_or bests' i None)) count)
