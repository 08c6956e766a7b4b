-- `sheet_converter::is_one_list` meets its contract. The loop's invariant: the first i spans are the endpoints of the first i boundaries. Assumes nothing.
use Prim.Native.Nat.{◌+◌, ◌*◌, ◌/◌, ◌≤◌}
use native.Mathlib.Omega.{arith}
use mathlib.Core.Path.{◌≡◌, refl, sym, ap, ◌∙◌}
use lib.ListN.{length}
use lib.Seq.{take_all}
use Rattle.definitions.specs.Scan.{gather}
use Rattle.definitions.specs.Sheet.{endpoints_in, endpoints_of}
use Rattle.laws.specs.SheetReading.Endpoints.{endpoints-long}
use Rattle.sheet_converter.proofs.Same.{same_lists, other-lists}
use Rattle.sheet_converter.proofs.Comparing.{span_more, agreeing, differing, span_is}
use Rattle.sheet_converter.proofs.is_one_list.Goals as goal

pub returns-then-spans-count : goal.returns-then-spans-count
unfolding endpoints_of
returns-then-spans-count c =
    let boundaries = c.args.boundaries.now in
    other-lists c.args.spans.now _ (λ e. omega (arith, c.if-spans-count.true, ap length e, endpoints-long (length boundaries / 9) boundaries))

pub loop-i-init : goal.loop-i-init
unfolding endpoints_in gather
loop-i-init c = refl

pub returns-then-ne : goal.returns-then-ne
unfolding endpoints_of
returns-then-ne c =
    let spans = c.args.spans.now in
    let boundaries = c.args.boundaries.now in
    let i = c.loop-i.i in
    let inside : 4 * i + 4 ≤ length spans = omega (arith, c.loop-i-test.true, c.if-spans-count.false) in
    let inside' : 9 * i + 4 ≤ length boundaries = omega (arith, c.loop-i-test.true) in
    other-lists spans _ (λ e. differing spans boundaries (4 * i) (9 * i) inside inside' (omega arith) (omega arith) c.ne.ensures (omega arith) c.if-ne.true
    (span_is i _ spans boundaries c.loop-i-test.true e))

pub loop-i-preserved : goal.loop-i-preserved
loop-i-preserved c =
    let spans = c.args.spans.now in
    let boundaries = c.args.boundaries.now in
    let i = c.loop-i.i in
    let inside : 4 * i + 4 ≤ length spans = omega (arith, c.loop-i-test.true, c.if-spans-count.false) in
    let inside' : 9 * i + 4 ≤ length boundaries = omega (arith, c.loop-i-test.true) in
    span_more i spans boundaries inside c.loop-i.invariant
    (agreeing spans boundaries (4 * i) (9 * i) inside inside' (omega arith) (omega arith) c.ne.ensures (omega arith) (omega arith) c.if-ne.false)

pub returns : goal.returns
unfolding endpoints_of
returns c =
    let spans = c.args.spans.now in
    let boundaries = c.args.boundaries.now in
    let all : c.loop-i.i ≡ length boundaries / 9 = omega (arith, c.loop-i.auto.i-end, c.loop-i-test.false) in
    same_lists spans _ (sym (ap (λ n. endpoints_in n boundaries) (sym all) ∙ c.loop-i.invariant ∙ take_all _ spans (omega (arith, all, c.if-spans-count.false))))
