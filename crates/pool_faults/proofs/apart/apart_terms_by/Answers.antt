-- `apart::apart_terms_by` meets its contract. The invariant: the first `apart` terms are apart. The measure: more are known to be apart, or fewer are left to ask about. Assumes
-- nothing.
use native.Mathlib.Omega.{arith}
use mathlib.Core.Path.{subst}
use Prim.Native.Nat.{◌*◌, ◌≤◌}
use lib.ListN.{take}
use Rattle.pool_faults.specs.Apart.{ApartTo}
use Rattle.pool_faults.proofs.Taking.{front-count, apart-front}
use borrow.Author.Rules.{rules}
use Rattle.pool_faults.proofs.apart.apart_terms_by.Goals.{then-whole, else-whole}
use Rattle.pool_faults.proofs.apart.apart_terms_by.Goals as goal

pub loop-apart-preserved : goal.loop-apart-preserved
loop-apart-preserved c =
    let D = c.doubt_of_all-doubt.ensures in
    let l = c.args.terms.now in
    let part = c.if-whole.part in
    let more : part ≤ c.loop-apart.high = elim c.if-whole.branch [ then-whole w ↦ omega (arith, w.part-is) | else-whole w ↦ omega (arith, w.part-is) ] in
    let counted = front-count l part (omega (arith, more, c.loop-apart.invariant.1)) in
    let first = subst (ApartTo (take (7 * part) l)) counted (D.1 (omega (arith, counted, D.0, c.if-doubt-part.false))) in
    (omega (arith, more, c.loop-apart.invariant.1), search rules, search rules, search rules, apart-front l part part (omega arith) first)
