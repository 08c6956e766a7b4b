-- `held::hold_inner_region` meets its contract, by its test. Assumes nothing.
use Rattle.std.proofs.Common.{not, Some}
use Rattle.std.specs.Option.{option_eq}
use Rattle.std.specs.Prelude.{Option, None}
use Prim.Native.Nat.{ℕ}
use mathlib.Core.Path.{◌≡◌, refl, sym, ap, ◌∙◌}
use mathlib.Core.Bool.{Bool, true, false, cond}
use lib.Dec.{eqb}
use Rattle.laws.specs.OrderLaws.ListOrder.{eqb_sym}
use Rattle.mouth_proposals.specs.Rows.{is_outer}
use Rattle.mouth_selection.specs.Held.{mark_held, mark_inner}
use Rattle.mouth_selection.proofs.held.hold_inner_region.Goals as goal

-- the code's test
outside : (o : Option ℕ) (r : ℕ) → option_eq eqb o (Some r) ≡ is_outer o r
outside None r = refl
outside (Some o) r = eqb_sym o r

tested : {x y b : Bool} → x ≡ not y → x ≡ not b → y ≡ b
tested {y = true} {b = true} e f = refl
tested {y = false} {b = false} e f = refl
tested {y = true} {b = false} e f = sym f ∙ e
tested {y = false} {b = true} e f = sym f ∙ e

pub returns-then-ne : goal.returns-then-ne
unfolding mark_inner
returns-then-ne c =
    let s = c.args in
    c.hold_region.ensures ∙ sym (ap (λ b. cond b s.marks.now (mark_held 2 s.marks.now s.r)) (sym (outside s.outer s.r) ∙ tested {b = false} c.ne.ensures c.if-ne.true))

pub returns-else-ne : goal.returns-else-ne
unfolding mark_inner
returns-else-ne c =
    let s = c.args in
    sym (ap (λ b. cond b s.marks.now (mark_held 2 s.marks.now s.r)) (sym (outside s.outer s.r) ∙ tested {b = true} c.ne.ensures c.if-ne.false))
