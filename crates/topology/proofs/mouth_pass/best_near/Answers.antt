-- `mouth_pass::best_near` meets its contract. What the fold keeps: of every context that is shown, `best` is the least of the entries before `k` that are left
-- and near, and it is not stale. Assumes nothing.
use Prim.Native.Nat.{ℕ, ◌+◌, ◌<◌}
use mathlib.Core.Path.{◌≡◌, refl, sym, ap, ◌∙◌, subst}
use mathlib.Core.Bool.{Bool, false}
use mathlib.Core.List.{List}
use lib.ListN.{length, get_or}
use Rattle.std.proofs.lemmas.List.{get_or_default}
use Rattle.std.proofs.lemmas.Iterator.{YieldsList-from_slice}
use borrow.Author.Rules.{rules}
use Rattle.std.specs.Prelude.{Option, None}
use Rattle.definitions.specs.Context.{Context}
use Rattle.definitions.specs.RampMouths.{MouthProposal}
use Rattle.laws.specs.ListLaws.Options.{OnO, absent}
use Rattle.context.specs.declared.PartitionContext.{PartitionContext}
use Rattle.context.specs.declared.Region.{Region}
use Rattle.mouth_proposals.specs.Listed.{blank, entry_at}
use Rattle.mouth_proposals.specs.declared.candidates.Candidate.{Candidate}
use Rattle.mouth_selection.specs.Entries.{Known}
use Rattle.mouth_selection.specs.Held.{TakenState}
use Rattle.mouth_selection.specs.Rounds.{better_near}
use Rattle.mouth_selection.specs.Selecting.{is_stale}
use Rattle.mouth_selection.proofs.Folds.{callable_in_fold, kept_by_fold}
use Rattle.mouth_selection.proofs.NearLeast.{near_none, near_next}
use Rattle.topology.specs.Mouths.{BetterNear, NearBest, PassEntryAsked, PassNearAsked}
use Rattle.topology.proofs.mouth_pass.best_near.Goals as goal

abbrev BetterAt : List Region → PartitionContext → List ℕ → List Bool → List Bool → Option Candidate → Option Candidate → Candidate → Type 0
BetterAt records given marks removed ends best r entry =
    (C : Context) (chosen : List MouthProposal) → PassEntryAsked C records given marks entry → OnO (Known C) best → TakenState C chosen removed ends marks → BetterNear C chosen best entry r

module _ (records : List Region) (given : PartitionContext) (marks : List ℕ) (removed ends : List Bool) (entries : List Candidate) where
  abbrev Kept : ℕ → Option Candidate → Type 0
  Kept k best =
      (is_stale given.pairs.now given.starts.now marks removed ends best ≡ false)
      × ((C : Context) (chosen : List MouthProposal) → PassNearAsked C records given marks entries (length entries) → TakenState C chosen removed ends marks → NearBest C chosen entries k best)

  start : Kept 0 None
  start = (refl, λ C T A S. record { known = absent; least = near_none C T entries })

  -- what a turn gives, of an entry, as of that at k
  abbrev Better : ℕ → Option Candidate → Option Candidate → Type 0
  Better k best r = BetterAt records given marks removed ends best r (get_or entries k blank)

  abbrev Left : Option Candidate → Option Candidate → Type 0
  Left best r = is_stale given.pairs.now given.starts.now marks removed ends best ≡ false → is_stale given.pairs.now given.starts.now marks removed ends r ≡ false

  more : {k : ℕ} {best r : Option Candidate} → k < length entries → Kept k best → Better k best r → Left best r → Kept (k + 1) r
  more {k} below inv better left = (
    left inv.0,
    λ C T A S.
        let W = inv.1 C T A S in
        let B = better C T (A.entry k below) W.known S in
        record {
          known = B.known;
          least = B.least ∙ ap (λ o. better_near C T o (entry_at C entries k)) W.least ∙ sym (near_next C T entries k);
        },
  )

pub fold-requires-clause-callable : goal.fold-requires-clause-callable
fold-requires-clause-callable c =
    let s = c.args in
    let t = s.taken.now in
    callable_in_fold (YieldsList-from_slice s.entries.now cc) _ _ (Kept s.records.now s.context t.marks.now t.removed.now t.ramp_ends s.entries.now) None
    (λ b x k q r at i w.
    let item : x.now ≡ get_or s.entries.now k blank = at.1 ∙ get_or_default s.entries.now k x.now blank at.0 in
    let better : Better s.records.now s.context t.marks.now t.removed.now t.ramp_ends s.entries.now k b r = subst (BetterAt s.records.now s.context t.marks.now t.removed.now t.ramp_ends b r) item (search rules) in
    let left : Left s.records.now s.context t.marks.now t.removed.now t.ramp_ends s.entries.now b r = search rules in
    let m = more s.records.now s.context t.marks.now t.removed.now t.ramp_ends s.entries.now at.0 i better left in
    (search rules, m))
    (start s.records.now s.context t.marks.now t.removed.now t.ramp_ends s.entries.now)
    (λ b x k at i.
    let C = c.requires.asked.0 in
    let A = c.requires.asked.1.1.0 in
    let item : x.now ≡ get_or s.entries.now k blank = at.1 ∙ get_or_default s.entries.now k x.now blank at.0 in
    let pre : (C : Context) × (PassEntryAsked C s.records.now s.context t.marks.now x.now × OnO (Known C) b) = (C, (subst (PassEntryAsked C s.records.now s.context t.marks.now) (sym item) (A.entry k at.0), (i.1 C c.requires.asked.1.0 A c.requires.asked.1.1.1).known)) in
    search rules)

pub returns : goal.returns
returns c =
    let s = c.args in
    let t = s.taken.now in
    let end = kept_by_fold (YieldsList-from_slice s.entries.now cc) _ _ (Kept s.records.now s.context t.marks.now t.removed.now t.ramp_ends s.entries.now) None
    (λ b x k q r at i w.
    let item : x.now ≡ get_or s.entries.now k blank = at.1 ∙ get_or_default s.entries.now k x.now blank at.0 in
    let better : Better s.records.now s.context t.marks.now t.removed.now t.ramp_ends s.entries.now k b r = subst (BetterAt s.records.now s.context t.marks.now t.removed.now t.ramp_ends b r) item (search rules) in
    let left : Left s.records.now s.context t.marks.now t.removed.now t.ramp_ends s.entries.now b r = search rules in
    let m = more s.records.now s.context t.marks.now t.removed.now t.ramp_ends s.entries.now at.0 i better left in
    (search rules, m))
    (start s.records.now s.context t.marks.now t.removed.now t.ramp_ends s.entries.now) _ c.fold.ensures.ran
    in
    record { least = end.1; left = end.0 }
