-- `extents::near_axis` meets its contract. Assumes nothing.
use Prim.Native.Nat.{◌-◌}
use mathlib.Core.Path.{sym, ap, ◌∙◌}
use mathlib.Core.Bool.{cond}
use Rattle.cut_steps.proofs.Beyond.{near-axis-of}
use Rattle.cut_steps.proofs.extents.near_axis.Goals as goal

pub returns-then-strip : goal.returns-then-strip
returns-then-strip c =
    let a = c.args in
    near-axis-of a.strip a.limit c.axis_range-range.ensures c.narrowed.ensures (sym (ap (λ v. cond v a.strip.major1 (a.strip.major1 - 8)) c.if-strip.true))

pub returns : goal.returns
returns c =
    let a = c.args in
    near-axis-of a.strip a.limit c.axis_range-range.ensures c.narrowed-2.ensures
    (c.saturating_sub.ensures ∙ sym (ap (λ v. cond v a.strip.major1 (a.strip.major1 - 8)) c.if-strip.false))
