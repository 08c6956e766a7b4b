-- The least of the candidates of a ramp that are left and whose inner regions are near, candidate by candidate: it is the least of the ramp's proposals that are left.
-- Assumes nothing.
use Rattle.mouth_proposals.specs.Listed.{blank, proposal_in, entry_at, Filled}
use Rattle.mouth_proposals.specs.declared.candidates.Candidate.{Candidate}
use Prim.Native.Nat.{ℕ, ◌+◌, ◌≤◌}
use lib.ListN.{length, take}
use lib.Seq.{get_or-take, length-take-le}
use native.Mathlib.Omega.{arith}
use mathlib.Core.Path.{◌≡◌, refl, sym, ap, ◌∙◌}
use mathlib.Core.Bool.{Bool, true, false, not, ◌&&◌, cond}
use Rattle.std.specs.Prelude.{Option, None, Some}
use mathlib.Core.List.{List, [], ◌∷◌, ◌++◌, append-nil}
use Rattle.definitions.specs.Scan.{filter, collect}
use Rattle.definitions.specs.Context.{Context}
use Rattle.definitions.specs.RampMouths.{MouthProposal, corners_near_lem, ranks_before}
use Rattle.laws.specs.ListLaws.Lists.{all_filter, filter-append}
use Rattle.laws.specs.ListLaws.Options.{OnO, absent, present}
use Rattle.laws.specs.ListLaws.Scans.{collect_ext}
use Rattle.laws.specs.ListLaws.ScanSteps.{collect_next}
use Rattle.context.specs.Shown.{ShownPairs}
use Rattle.mouth_proposals.specs.Candidates.{proposal_of, mouth_candidate}
use Rattle.mouth_selection.specs.Held.{is_refused}
use Rattle.mouth_selection.specs.Entries.{Known, proposed}
use Rattle.mouth_selection.specs.Rounds.{better, least_from, least_among, better_near, near_least}
use Rattle.mouth_selection.specs.Selecting.{row_of, ForRamp, BestOf}
use Rattle.mouth_selection.proofs.Greedy.{least_last}
use Rattle.mouth_selection.proofs.GoneMouths.{row_ramps}
use Rattle.mouth_selection.proofs.ProposalLists.{row_is}
use Rattle.mouth_selection.proofs.SelectionLaws.{least_passes}

module _ (C : Context) (T : List MouthProposal) where
  -- ---- entry by entry

  pub near_next : (entries : List Candidate) (k : ℕ) → near_least C T entries (k + 1) ≡ better_near C T (near_least C T entries k) (entry_at C entries k)
  unfolding near_least least_among filter
  near_next entries k =
      ap (λ l. least_from (ranks_before C) None (filter free (filter near l))) (collect_next (λ i. Some (entry_at C entries i)) k)
      ∙ ap (λ l. least_from (ranks_before C) None (filter free l)) (filter-append near before (p ∷ []))
      ∙ ap (least_from (ranks_before C) None) (filter-append free (filter near before) (filter near (p ∷ [])))
      ∙ go (near p) (free p) refl (filter free (filter near before))
    where
      near : MouthProposal → Bool
      near q = corners_near_lem C q

      free : MouthProposal → Bool
      free q = not (is_refused C T q)

      p : MouthProposal
      p = entry_at C entries k

      before : List MouthProposal
      before = collect k (λ i. Some (entry_at C entries i))

      go : (b c : Bool) → free p ≡ c → (l : List MouthProposal) → least_from (ranks_before C) None (l ++ filter free (cond b (p ∷ []) []))
          ≡ cond (b && c) (better (ranks_before C) (least_from (ranks_before C) None l) p) (least_from (ranks_before C) None l)
      go true true e l = ap (λ c. least_from (ranks_before C) None (l ++ cond c (p ∷ []) [])) e ∙ least_last (ranks_before C) None l p
      go true false e l = ap (λ c. least_from (ranks_before C) None (l ++ cond c (p ∷ []) [])) e ∙ ap (least_from (ranks_before C) None) (append-nil l)
      go false c e l = ap (least_from (ranks_before C) None) (append-nil l)

  -- of the first n entries, which are a list of their own
  pub near_front : (entries : List Candidate) (n : ℕ) → n ≤ length entries → near_least C T (take n entries) (length (take n entries)) ≡ near_least C T entries n
  unfolding near_least
  near_front entries n l =
      ap (λ m. least_among C T (filter (corners_near_lem C) (collect m (λ i. Some (entry_at C (take n entries) i))))) (length-take-le n entries l)
      ∙ ap (λ k. least_among C T (filter (corners_near_lem C) k)) (collect_ext n (λ i. Some (entry_at C (take n entries) i)) (λ i. Some (entry_at C entries i)) (λ i h. ap (λ e. Some (proposal_in C e)) (get_or-take n entries i blank h)))

  pub near_none : (entries : List Candidate) → None ≡ near_least C T entries 0
  unfolding near_least least_among collect filter least_from
  near_none entries = refl

  -- ---- the best of the ramp

  module _ {pairs starts : List ℕ} (P : ShownPairs C pairs starts) {a : ℕ} where
    for_ramp : {best : Option Candidate} → OnO (Known C) best → proposed C best ≡ least_among C T (row_of C a) → OnO (ForRamp C a) best
    unfolding least_among proposal_of
    for_ramp absent e = absent
    for_ramp (present {x = x} k) e =
        present
        (record {
          known = k;
          ramp = least_passes {P = λ p. p.ramp_index ≡ a} (ranks_before C) None (proposal_in C x) (λ q f. absurd (apart f)) (all_filter (λ p. not (is_refused C T p)) (row_ramps P a)) (sym e);
        })
      where
        apart : {q : MouthProposal} → None ≡ Some q → ⊥
        apart f = let z : ◌≡◌ {A = ℕ} 0 1 = cc in omega arith

    pub best_of : {entries : List Candidate} {n : ℕ} → Filled C entries n (collect C.count (mouth_candidate C a)) → {best : Option Candidate} → OnO (Known C) best → proposed C best ≡ near_least C T entries n
        → BestOf C T a best
    unfolding near_least
    best_of F K e =
        let least = e ∙ ap (λ l. least_among C T (filter (corners_near_lem C) l)) F.proposed ∙ ap (least_among C T) (sym (row_is C a C.count)) in
        record { known = for_ramp K least; least = least }
