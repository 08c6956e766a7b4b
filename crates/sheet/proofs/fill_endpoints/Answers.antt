-- `sheet::fill_endpoints` meets its contract. The loop's invariant: the endpoints of the first i boundaries are stored, and nothing else. Assumes nothing.
use Prim.Native.Nat.{◌*◌, ◌/◌, ◌<◌}
use native.Mathlib.Omega.{arith}
use mathlib.Core.Path.{◌≡◌, refl, ap, ◌∙◌}
use mathlib.Core.List.{[]}
use lib.ListN.{length}
use lib.Seq.{sets, get_or-take, length-take-le}
use borrow.Author.Rules.{rules}
use Rattle.definitions.specs.Scan.{gather}
use Rattle.definitions.specs.Lists.{overwrite}
use Rattle.definitions.specs.Grid.{segment_at}
use Rattle.definitions.specs.Sheet.{endpoints, endpoints_in}
use Rattle.sheet.proofs.Endpoints.{endpoints-read, endpoints-stored}
use Rattle.sheet.proofs.fill_endpoints.Goals as goal

pub loop-i-init : goal.loop-i-init
unfolding endpoints_in gather
loop-i-init c = (omega arith, refl, refl)

pub loop-i-preserved : goal.loop-i-preserved
loop-i-preserved c =
    let boundaries = c.args.boundaries.now in
    let old = c.args.spans.now in
    let i = c.loop-i.i in
    let few = length-take-le c.args.count c.as_chunks.result.0.now (omega (arith, c.requires, c.as_chunks.ensures.front_len)) in
    let asked : i < c.args.count = omega (arith, c.loop-i-test.true, few) in
    let inside : i < length boundaries / 9 = omega (arith, asked, c.requires) in (
      omega (arith, asked),
      search rules,
      c.put_endpoints.ensures
          ∙ ap (λ l. sets c.loop-i.spans (4 * i) (endpoints (segment_at l 0))) (get_or-take c.args.count c.as_chunks.result.0.now i [] asked)
          ∙ ap (sets c.loop-i.spans (4 * i)) (endpoints-read boundaries i c.as_chunks.ensures.front inside)
          ∙ ap (λ l. sets l (4 * i) (endpoints (segment_at boundaries (9 * i)))) c.loop-i.invariant.2
          ∙ endpoints-stored i boundaries old (omega (arith, asked, c.requires)),
    )

pub returns : goal.returns
returns c =
    let few = length-take-le c.args.count c.as_chunks.result.0.now (omega (arith, c.requires, c.as_chunks.ensures.front_len)) in
    let all : c.loop-i.i ≡ c.args.count = omega (arith, c.loop-i.invariant.0, c.loop-i-test.false, few) in
    c.loop-i.invariant.2 ∙ ap (λ n. overwrite (endpoints_in n c.args.boundaries.now) c.args.spans.now) all
