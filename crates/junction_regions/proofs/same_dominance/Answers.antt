-- `same_dominance` meets its contract: two elevations that there may be are compared. Assumes nothing.
use Prim.Native.Nat.{ℕ}
use mathlib.Core.Path.{◌≡◌, refl, ◌∙◌}
use mathlib.Core.Bool.{Bool, true, false, ◌&&◌}
use lib.Dec.{eqb}
use Rattle.std.specs.Option.{is_some, option_eq}
use Rattle.definitions.specs.Scan.{only_if}
use Rattle.definitions.specs.RegionRecord.{accepts, dominance, same_dominance}
use Rattle.context.specs.Records.{record_of}
use Rattle.junction_regions.specs.Tests.{accepted_of}
use Rattle.junction_regions.proofs.same_dominance.Goals as goal

same : (x y : Bool) (a b : ℕ) → (is_some (only_if x a) && option_eq eqb (only_if x a) (only_if y b)) ≡ (x && y && eqb a b)
same true true a b = refl
same true false a b = refl
same false y a b = refl

pub returns : goal.returns
unfolding same_dominance accepted_of
returns c =
    let a = dominance (record_of c.args.first) in
    let b = dominance (record_of c.args.second) in
    (λ i. c.is_some.ensures i && c.eq.ensures i)
    ∙ (λ i. is_some (c.accepted_elevation-elevation.ensures i) && option_eq eqb (c.accepted_elevation-elevation.ensures i) (c.accepted_elevation-other.ensures i))
    ∙ same (accepts a.share) (accepts b.share) a.elevation b.elevation
