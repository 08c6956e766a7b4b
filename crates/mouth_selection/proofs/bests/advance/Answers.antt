-- `bests::advance` meets its contract. The invariant: what is known of every context that is shown, and what has not risen; the measure is how many boundaries are not
-- removed. A turn takes the least of the bests, which is the least of all that is left. Assumes nothing.
use Rattle.mouth_proposals.specs.Candidates.{Numbered, proposal_of}
use Rattle.mouth_proposals.specs.Listed.{proposal_as, proposal_form}
use Rattle.mouth_proposals.specs.declared.candidates.Candidate.{Candidate}
use Rattle.mouth_proposals.specs.declared.candidates.MouthProposal as declared
use Prim.Native.Nat.{ℕ, ◌%◌, ◌≤◌, ◌<◌}
use native.Mathlib.Omega.{arith}
use native.Mathlib.Nat.{le_trans}
use mathlib.Core.Path.{◌≡◌, sym, ap, ◌∙◌, subst}
use mathlib.Core.Bool.{Bool, true, false, not}
use mathlib.Core.List.{List, [], ◌∷◌, ◌++◌}
use Rattle.std.specs.Prelude.{Option, None, Some}
use lib.ListN.{length, get_or}
use borrow.Author.Tests.{not-true}
use Rattle.definitions.specs.Scan.{count_below}
use Rattle.definitions.specs.Context.{Context}
use Rattle.definitions.specs.RampMouths.{proposals}
use Rattle.laws.specs.ListLaws.Options.{absent, present, on_map_lem}
use Rattle.mouth_selection.specs.Entries.{SafeMouth, Known}
use Rattle.context.specs.Shown.{ShownBoundaries, ShownPairs}
use Rattle.mouth_selection.specs.Held.{is_refused, left_at, TakenState}
use Rattle.mouth_selection.specs.Rounds.{least_among}
use Rattle.mouth_selection.specs.Selecting.{Lists, LeastLeft, NextBest, Progress, Renewed, is_stale}
use Rattle.mouth_selection.proofs.SelectionLaws.{safe-mouth, all-rows, mouth-left, fewer-left}
use Rattle.mouth_selection.proofs.RoundLaws.{of_some, safe-key}
use Rattle.mouth_selection.proofs.BestSteps.{ended, still-anchored, taken-progress, weight-taken}
use Rattle.mouth_selection.proofs.bests.advance.Goals as goal
use Rattle.mouth_selection.proofs.bests.advance.Goals.{At-loop-best}

-- what is known at the loop's head, of the context that is there
module _ (c : goal.At-loop-best) where
  abbrev C₀ : Context
  C₀ = c.requires.0

  abbrev shown : Lists c.args.context.boundaries.now c.args.context.pairs.now c.args.context.starts.now c.args.context.count C₀
  shown = c.requires.1.0

  abbrev known : Progress C₀ c.loop-best.taken.marks.now c.loop-best.taken.removed.now c.loop-best.taken.ramp_ends c.loop-best.bests c.args.context.count
  known = c.loop-best.invariant.1.1 C₀ shown c.requires.1.1

-- p is the next best
module _ {boundaries pairs starts marks : List ℕ} {gone ends : List Bool} {bests : List (Option Candidate)} {count : ℕ} {C : Context} (L : Lists boundaries pairs starts count C)
    (P : Progress C marks gone ends bests count) {o : Option Candidate} (N : NextBest C P.chosen bests count o) {e : Candidate} (is : o ≡ Some e) {p : declared.MouthProposal} (same : p ≡ proposal_form e) where
  of_entry : (Q : declared.MouthProposal → Type 0) → Q (proposal_form e) → Q p
  of_entry Q = subst Q (sym same)

  abbrev listed : Known C e × ((e.ramp < count) × (get_or bests e.ramp None ≡ Some e))
  listed = of_some is N.listed

  safe : SafeMouth pairs starts marks p.mouth p.outer
  safe = of_entry (λ p. SafeMouth pairs starts marks p.mouth p.outer) (safe-mouth L marks P.anchored.long listed.0)

  mouth-in : p.mouth < C.count
  mouth-in = of_entry (λ p. p.mouth < C.count) listed.0.mouth

  ramp-in : p.ramp < C.count
  ramp-in = of_entry (λ p. p.ramp < C.count) listed.0.ramp

  outer-in : Numbered C.regions p.outer
  outer-in = of_entry (λ p. Numbered C.regions p.outer) listed.0.outer

  ramp-below : p.ramp < count
  ramp-below = of_entry (λ p. p.ramp < count) listed.1.0

  stale : left_at pairs starts marks gone ends p ≡ false → is_stale pairs starts marks gone ends (get_or bests p.ramp None) ≡ true
  stale f =
      ap (is_stale pairs starts marks gone ends) (of_entry (λ p. get_or bests p.ramp None ≡ Some e) listed.1.1)
      ∙ ap not (of_entry (λ q. left_at pairs starts marks gone ends (proposal_form e) ≡ left_at pairs starts marks gone ends q) (λ i. left_at pairs starts marks gone ends (proposal_form e)) ∙ f)

  -- it is left, as the code found, and taken
  module _ {x : Bool} (left : ShownPairs C pairs starts → TakenState C P.chosen gone ends marks → p.mouth < C.count → p.ramp < C.count → Numbered C.regions p.outer → x ≡ not (is_refused C P.chosen (proposal_as C p))) (yes : x ≡ true)
      {marks' : List ℕ} {gone' ends' : List Bool}
      (take : C.count ≡ count → ShownBoundaries C boundaries → ShownPairs C pairs starts → C.regions ≤ length marks → TakenState C P.chosen gone ends marks → p.mouth < C.count → Numbered C.regions p.outer
      → is_refused C P.chosen (proposal_as C p) ≡ false → TakenState C (P.chosen ++ (proposal_as C p ∷ [])) gone' ends' marks') where
    free : is_refused C P.chosen (proposal_as C p) ≡ false
    free = not-true _ (sym (left L.rows P.state mouth-in ramp-in outer-in) ∙ yes)

    state : TakenState C (P.chosen ++ (proposal_as C p ∷ [])) gone' ends' marks'
    state = take L.counted L.bounds L.rows P.anchored.long P.state mouth-in outer-in free

    least : Some (proposal_as C p) ≡ least_among C P.chosen (proposals C)
    least = of_entry (λ p. is_refused C P.chosen (proposal_as C p) ≡ false → Some (proposal_as C p) ≡ least_among C P.chosen (proposals C)) (subst (LeastLeft C P.chosen) is N.least) free

    smaller : count_below count (λ i. not (get_or gone' i false)) < count_below count (λ i. not (get_or gone i false))
    unfolding proposal_of
    smaller = fewer-left L.counted P.chosen (proposal_as C p) P.state state mouth-in (mouth-left C P.chosen (proposal_as C p) free)

    on : length marks' ≡ length marks → ((i : ℕ) → i < length marks → get_or marks' i 0 % 2 ≡ get_or marks i 0 % 2) → {bests' : List (Option Candidate)} → Renewed ends' bests bests' count → Progress C marks' gone' ends' bests' count
    on long odd R = taken-progress P (proposal_as C p) least L.rows (omega (arith, L.counted)) state (still-anchored P.anchored long odd) R

pub next_best-requires-clause-rows : goal.next_best-requires-clause-rows
next_best-requires-clause-rows c = all-rows (shown c) _ (known c).anchored.long

pub next_best-requires-clause-safe : goal.next_best-requires-clause-safe
next_best-requires-clause-safe c = λ a h. on_map_lem (λ e F. safe-key (shown c).bounds F.known) ((known c).of_ramps.known a h)

pub is_left-requires-clause-safe : goal.is_left-requires-clause-safe
is_left-requires-clause-safe c =
    let head = (goal.at.is_left-requires-clause-safe c).At-loop-best in
    let P = known head in
    safe (shown head) P (c.next_best.ensures (C₀ head) P.chosen (shown head) P.state P.of_ramps) c.in-Some.is c.proposal-proposal.ensures

pub returns-then-not-is_left-clause-stale : goal.returns-then-not-is_left-clause-stale
returns-then-not-is_left-clause-stale c =
    let head = (goal.at.returns-then-not-is_left-clause-stale c).At-loop-best in
    let P = known head in
    let N = c.next_best.ensures (C₀ head) P.chosen (shown head) P.state P.of_ramps in
    present (ramp-below (shown head) P N c.in-Some.is c.proposal-proposal.ensures, stale (shown head) P N c.in-Some.is c.proposal-proposal.ensures (sym c.is_left.ensures.marked ∙ c.if-not-is_left.true))

pub take-requires-clause-ramp_within : goal.take-requires-clause-ramp_within
take-requires-clause-ramp_within c =
    let head = (goal.at.take-requires-clause-ramp_within c).At-loop-best in
    let P = known head in
    ramp-below (shown head) P (c.next_best.ensures (C₀ head) P.chosen (shown head) P.state P.of_ramps) c.in-Some.is c.proposal-proposal.ensures

pub take-requires-clause-safe : goal.take-requires-clause-safe
take-requires-clause-safe c =
    let head = (goal.at.take-requires-clause-safe c).At-loop-best in
    let P = known head in
    safe (shown head) P (c.next_best.ensures (C₀ head) P.chosen (shown head) P.state P.of_ramps) c.in-Some.is c.proposal-proposal.ensures

pub loop-best-smaller : goal.loop-best-smaller
loop-best-smaller c =
    let head = (goal.at.loop-best-smaller c).At-loop-best in
    let P = known head in
    smaller (shown head) P (c.next_best.ensures (C₀ head) P.chosen (shown head) P.state P.of_ramps) c.in-Some.is c.proposal-proposal.ensures (c.is_left.ensures.left (C₀ head) P.chosen) c.if-not-is_left.false
    (c.take.ensures.taken (C₀ head) P.chosen)

pub loop-best-preserved : goal.loop-best-preserved
loop-best-preserved c =
    let head = (goal.at.loop-best-preserved c).At-loop-best in
    let inv = c.loop-best.invariant in
    let T = c.take.ensures in (
      (T.same_marks ∙ inv.0.0, (T.long ∙ inv.0.1.0, T.same_removed ∙ inv.0.1.1)),
      (
        le_trans (weight-taken _ _ _ _ _ _ _ _ _ _ (omega (arith, (shown head).counted, (shown head).bounds.few)) (loop-best-smaller c)) inv.1.0,
        λ C L P₀.
            let P = inv.1.1 C L P₀ in
            on L P (c.next_best.ensures C P.chosen L P.state P.of_ramps) c.in-Some.is c.proposal-proposal.ensures (c.is_left.ensures.left C P.chosen) c.if-not-is_left.false
            (T.taken C P.chosen) T.long T.odd_parts c.renew.ensures,
      ),
    )

pub returns-clause-stale : goal.returns-clause-stale
returns-clause-stale c = absent

pub returns-clause-progress : goal.returns-clause-progress
returns-clause-progress c = λ C L P₀.
    let P = c.loop-best.invariant.1.1 C L P₀ in
    record {
      progress = P;
      ended = λ e. ended P (subst (LeastLeft C P.chosen) c.in_default.is (c.next_best.ensures C P.chosen L P.state P.of_ramps).least);
    }
