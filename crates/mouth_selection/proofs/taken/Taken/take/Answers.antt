-- `taken::Taken::take` meets its contract: its mouth, its ramp end and its regions are marked. Assumes nothing.
use Rattle.mouth_proposals.specs.Candidates.{proposal_of}
use Prim.Native.Nat.{◌%◌, ◌<◌}
use native.Mathlib.Omega.{arith}
use mathlib.Core.Path.{refl, sym, ap, ◌∙◌, subst}
use mathlib.Core.Bool.{false, ◌&&◌, ◌||◌}
use mathlib.Core.List.{[], ◌∷◌, ◌++◌}
use lib.ListN.{get_or}
use borrow.Author.Rules.{rules}
use borrow.Author.Tests.{lt-ltb}
use Rattle.definitions.specs.MouthShapes.{regions_of}
use Rattle.mouth_selection.specs.Held.{HeldMarks, same_end_lem, outer_hold, mark_outer, mark_inner}
use Rattle.mouth_selection.proofs.Marks.{outer-length, inner-odd, outer-odd}
use Rattle.mouth_selection.proofs.TakenLaws.{refused-parts, mouth-taken, end-taken, held-taken}
use Rattle.mouth_selection.proofs.taken.Taken.take.Goals as goal

pub returns-clause-taken : goal.returns-clause-taken
unfolding proposal_of
returns-clause-taken c =
    let s = c.args in
    let now = s.self.now in
    let m = s.proposal.mouth in
    let a = s.proposal.ramp in
    let outer = s.proposal.outer in
    let kind = s.proposal.kind in
    λ C T n B P long S hm ho free.
    let p = proposal_of C m a outer kind in
    let ha : a < C.count = subst (λ k. a < k) (sym n) c.requires.ramp_within in
    record {
      gone = λ i hi. mouth-taken T p now.removed.now m i refl (omega arith) (S.gone i hi);
      ends = λ j hj.
          c.use_end.ensures j
          ∙ ap (λ b. get_or now.ramp_ends j false || b && same_end_lem s.context.boundaries.now a j) (lt-ltb j s.context.count (subst (λ k. j < k) n hj))
          ∙ end-taken B T p a j refl ha hj (S.ends j hj);
      holds =
          subst (HeldMarks C (T ++ (p ∷ [])))
          (sym (c.hold_proposal.ensures ∙ ap (λ l. mark_inner outer (mark_outer (outer_hold kind) outer now.marks.now) (regions_of l)) (sym (P.at m hm))))
          (held-taken C T m a outer kind now.marks.now S.holds long (P.named m hm) ho (refused-parts C T m a outer kind free));
    }

pub returns-clause-odd_parts : goal.returns-clause-odd_parts
returns-clause-odd_parts c =
    let s = c.args in
    let marks = s.self.now.marks.now in
    let outer = s.proposal.outer in
    let hold = outer_hold s.proposal.kind in
    λ i h.
    ap (λ l. get_or l i 0 % 2) c.hold_proposal.ensures
    ∙ inner-odd outer (mark_outer hold outer marks) _ i (omega (arith, h, outer-length hold outer marks))
    ∙ outer-odd hold outer marks i h
