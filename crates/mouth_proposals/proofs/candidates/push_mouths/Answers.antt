-- `candidates::push_mouths` meets its contract. The invariant: the entries are the candidates of the mouths passed, at most one a mouth. Assumes nothing.
use native.Mathlib.Omega.{arith}
use mathlib.Core.Path.{sym}
use Rattle.definitions.specs.Scan.{collect}
use Rattle.laws.specs.ListLaws.ScanSteps.{collect_next}
use Rattle.mouth_proposals.specs.Candidates.{mouth_candidate}
use Rattle.mouth_proposals.proofs.CandidateRoom.{filled_as, filled-start}
use borrow.Author.Rules.{rules}
use Rattle.mouth_proposals.proofs.candidates.push_mouths.Goals as goal

pub loop-m-init : goal.loop-m-init
loop-m-init c =
    (search rules, (omega arith, (c.requires.roomy, λ C S T ramp cut E. filled-start (mouth_candidate C c.args.ramp.boundary))))

pub loop-m-preserved : goal.loop-m-preserved
loop-m-preserved c =
    let at = c.loop-m in (
      search rules,
      (
        omega (arith, c.push_mouth-n.ensures.bound.1, at.invariant.1.0),
        (
          c.push_mouth-n.ensures.still_roomy,
          λ C S T ramp cut E. filled_as (c.push_mouth-n.ensures.filled C (collect at.m (mouth_candidate C c.args.ramp.boundary)) S T ramp cut E (at.invariant.1.1.1 C S T ramp cut E)) (sym (collect_next (mouth_candidate C c.args.ramp.boundary) at.m)),
        ),
      ),
    )
