-- `bests::least_best` meets its contract. What the fold keeps: `least` is the least of the bests passed. Assumes nothing.
use native.Mathlib.Omega.{arith}
use mathlib.Core.Path.{◌≡◌, sym, ap₂, ◌∙◌, subst}
use mathlib.Core.List.{List}
use Prim.Native.Nat.{ℕ, ◌<◌}
use Rattle.std.proofs.Common.{rules, tests}
use Rattle.std.specs.Prelude.{Option, None}
use lib.ListN.{length, get_or}
use Rattle.std.proofs.lemmas.List.{get_or_default}
use Rattle.std.proofs.lemmas.Iterator.{YieldsList-from_slice}
use Rattle.laws.specs.ListLaws.Options.{OnO}
use Rattle.mouth_proposals.specs.declared.candidates.Candidate.{Candidate}
use Rattle.mouth_selection.specs.Keys.{SafeKey, better_of, least_of}
use Rattle.mouth_selection.proofs.Folds.{callable_in_fold, kept_by_fold}
use Rattle.mouth_selection.proofs.RoundLaws.{least_none, least_more, least_keeps}
use Rattle.mouth_selection.proofs.bests.least_best.Goals as goal

-- the best at place k
item : (bests : List (Option Candidate)) {k : ℕ} {best : Option Candidate} → k < length bests → best ≡ get_or bests k best → best ≡ get_or bests k None
item bests {k} {best} l e = e ∙ get_or_default bests k best None l

pub fold-requires-clause-callable : goal.fold-requires-clause-callable
fold-requires-clause-callable c =
    let s = c.args in
    let bests = s.bests.now in
    let least : ℕ → Option Candidate → Type 0 = λ k b. b ≡ least_of s.boundaries.now bests k in
    callable_in_fold (YieldsList-from_slice bests cc) _ _ least None
    (λ b x k q r at i w.
    let h = ap₂ (better_of s.boundaries.now) i (item bests at.0 at.1) ∙ sym (least_more s.boundaries.now bests k) in
    search (rules, tests, h))
    (least_none s.boundaries.now bests)
    (λ b x k at i.
    let safe : OnO (SafeKey s.boundaries.now) b = subst (OnO (SafeKey s.boundaries.now)) (sym i) (least_keeps s.boundaries.now bests k (λ a m. c.requires.safe a (omega (arith, m, at.0)))) in
    let own : OnO (SafeKey s.boundaries.now) x.now = subst (OnO (SafeKey s.boundaries.now)) (sym (item bests at.0 at.1)) (c.requires.safe k at.0) in
    search (rules, tests))

pub returns : goal.returns
returns c =
    let s = c.args in
    let bests = s.bests.now in
    let least : ℕ → Option Candidate → Type 0 = λ k b. b ≡ least_of s.boundaries.now bests k in
    kept_by_fold (YieldsList-from_slice bests cc) _ _ least None
    (λ b x k q r at i w.
    let h = ap₂ (better_of s.boundaries.now) i (item bests at.0 at.1) ∙ sym (least_more s.boundaries.now bests k) in
    search (rules, tests, h))
    (least_none s.boundaries.now bests) _ c.fold.ensures.ran
