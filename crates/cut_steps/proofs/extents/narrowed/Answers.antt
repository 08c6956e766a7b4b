-- `extents::narrowed` meets its contract. Assumes nothing.
use Prim.Native.Nat.{◌/◌, max}
use mathlib.Core.Path.{◌≡◌, subst}
use Rattle.cut_steps.proofs.Beyond.{narrows}
use Rattle.cut_steps.proofs.extents.narrowed.Goals as goal

pub returns : goal.returns
returns c =
    let a = c.args in
    narrows a.least a.greatest a.range _ (subst (λ n. c.max.result ≡ max a.range.first (n / 8)) c.saturating_sub-after.ensures c.max.ensures) c.min.ensures
