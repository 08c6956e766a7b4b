-- `interior_at` meets its contract. Assumes nothing.
use Prim.Native.Nat.{ℕ, ◌+◌, ◌*◌, ◌≤◌, ◌<◌, min, max}
use native.Mathlib.Omega.{arith}
use mathlib.Core.Path.{◌≡◌, ap, ◌∙◌}
use mathlib.Core.List.{List}
use lib.ListN.{length, get_or}
use borrow.Author.Rules.{rules}
use Rattle.std.specs.Prelude.{Option, None, Some, unwrap_or}
use Rattle.definitions.specs.Limits.{max_entries}
use Rattle.interior_proposals.specs.declared.ports.Ports.{Ports}
use Rattle.context.specs.declared.found_regions.FoundRegions.{FoundRegions}
use Rattle.interior_regions.specs.Marks.{SomeInteriors, EndOf, LastEdge}
use Rattle.interior_regions.proofs.PlaceLaws.{starts_fit}
use Rattle.interior_regions.proofs.Stretches.{stretched_none, stretched_other, ports-below, stretched_two}
use Rattle.interior_regions.proofs.interior_at.Goals as goal

-- what the bounds need, over plain variables
module _ {pairs starts : List ℕ} {owners : List FoundRegions} {found : List (Option Ports)} {count i : ℕ} (pre : SomeInteriors pairs starts owners found count) (l : i < count) where
  few : count ≤ max_entries
  few = let I = pre.1.1.1.1 in omega (arith, I.owning.counted, I.owning.given.paired.few)

  short : (j : ℕ) → j ≤ count → 2 * get_or starts j 0 ≤ length pairs
  short j h = let I = pre.1.1.1.1 in starts_fit I.owning.given.paired j (omega (arith, I.owning.counted))

  module _ {p : Ports} (e : get_or found i None ≡ Some p) where
    after : max p.first p.second < count
    after = let I = pre.1.1.1.1 in omega (arith, ports-below I i (omega (arith, I.owning.counted)) e)

    high : {name : ℕ} (n : ℕ) → EndOf owners count name (n + 1) → max n (max p.first p.second) < count
    high n E = omega (arith, after, E.upto)

  -- boundary i stands for the last edge where there is none
  ended : {name : ℕ} (o : Option ℕ) → LastEdge owners count name o → EndOf owners count name (unwrap_or o i + 1)
  ended None E = record { upto = omega (arith, l); none = λ j a b. E.none j (omega arith) b }
  ended (Some j) E = E.1

pub returns-in_default : goal.returns-in_default
returns-in_default c = λ C bs t ns I. stretched_other I _ (omega (arith, I.owning.counted, c.requires.i_within)) c.in_default.not-One-1

pub returns-in_default-2 : goal.returns-in_default-2
returns-in_default-2 c = λ C bs t ns I. stretched_none I _ (omega (arith, I.owning.counted, c.requires.i_within)) c.in_default.is-0

pub overflow_mul-result : goal.overflow_mul-result
overflow_mul-result c =
    let low : c.min-low.result ≤ c.args.context.count = omega (arith, c.min-low.ensures, c.requires.i_within) in
    rw c.rows.ensures.0 (search (rules, short c.requires.interiors c.requires.i_within c.min-low.result low))

pub rows-requires-2 : goal.rows-requires-2
rows-requires-2 c =
    let E = ended c.requires.interiors c.requires.i_within c.last_edge.result c.last_edge.ensures in
    omega (arith, c.max.ensures, c.max-high.ensures, c.unwrap_or-last.ensures, high c.requires.interiors c.requires.i_within c.in-Some-One.is-0 _ E, few c.requires.interiors c.requires.i_within)

pub overflow_mul-result-2 : goal.overflow_mul-result-2
overflow_mul-result-2 c =
    let E = ended c.requires.interiors c.requires.i_within c.last_edge.result c.last_edge.ensures in
    let upto : c.max-high.result + 1 ≤ c.args.context.count = omega (arith, c.max.ensures, c.max-high.ensures, c.unwrap_or-last.ensures, high c.requires.interiors c.requires.i_within c.in-Some-One.is-0 _ E) in
    rw c.rows-2.ensures.1 (search (rules, short c.requires.interiors c.requires.i_within (c.max-high.result + 1) upto))

pub returns : goal.returns
returns c =
    λ C bs t ns I.
    let E = ended c.requires.interiors c.requires.i_within c.last_edge.result c.last_edge.ensures in
    rw (c.rows.ensures.0, c.rows-2.ensures.1) (stretched_two I c.args.i (omega (arith, I.owning.counted, c.requires.i_within)) c.in-Some-One.is-0 c.in-Some-One.is-1 E
    (c.min-low.ensures ∙ ap (min c.args.i) c.min.ensures) (omega (arith, c.max-high.ensures, c.max.ensures, c.unwrap_or-last.ensures)))
