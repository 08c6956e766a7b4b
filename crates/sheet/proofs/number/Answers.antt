-- `sheet::number` meets its contract. The loop's invariant: the groups read so far have the value so far, below 2 ^ (7 * group), and reading on from here
-- gives what the number is. Assumes nothing.
use Prim.Native.Nat.{◌+◌}
use mathlib.Core.Path.{◌≡◌, sym, ◌∙◌}
use native.Mathlib.Omega.{arith}
use Rattle.sheet.proofs.Groups.{behind-inside, behind-ends, behind-byte, start, early-end, bad, fits, last, more, scale-fits}
use Rattle.sheet.proofs.number.Goals as goal

pub loop-group-init : goal.loop-group-init
loop-group-init c =
    let none : c.args.at + 0 ≡ c.args.at = omega arith in
    rw none (start _ _ c.requires)

pub returns-then-ill_formed : goal.returns-then-ill_formed
returns-then-ill_formed c =
    let test = c.loop-group-test.true in
    bad c.loop-group.invariant (behind-inside _ _ c.requires _ test) (behind-byte _ _ c.requires _ test c.from-byte.ensures) (sym c.ill_formed.ensures ∙ c.if-ill_formed.true)

pub overflow_mul-value : goal.overflow_mul-value
overflow_mul-value c =
    let test = c.loop-group-test.true in
    omega (arith, fits c.loop-group.invariant (behind-inside _ _ c.requires _ test) (behind-byte _ _ c.requires _ test c.from-byte.ensures) (sym c.ill_formed.ensures ∙ c.if-ill_formed.false))

pub overflow_add-value : goal.overflow_add-value
overflow_add-value c =
    let test = c.loop-group-test.true in
    omega (arith, fits c.loop-group.invariant (behind-inside _ _ c.requires _ test) (behind-byte _ _ c.requires _ test c.from-byte.ensures) (sym c.ill_formed.ensures ∙ c.if-ill_formed.false))

pub returns-then-byte-lt128 : goal.returns-then-byte-lt128
returns-then-byte-lt128 c =
    let test = c.loop-group-test.true in
    last c.loop-group.invariant (behind-inside _ _ c.requires _ test) (behind-byte _ _ c.requires _ test c.from-byte.ensures) (sym c.ill_formed.ensures ∙ c.if-ill_formed.false)
    c.if-byte-lt128.true

pub overflow_mul-scale : goal.overflow_mul-scale
overflow_mul-scale c =
    let test = c.loop-group-test.true in
    omega (
      arith,
      scale-fits c.loop-group.invariant (behind-inside _ _ c.requires _ test) (behind-byte _ _ c.requires _ test c.from-byte.ensures) (sym c.ill_formed.ensures ∙ c.if-ill_formed.false)
          c.if-byte-lt128.false,
    )

pub loop-group-preserved : goal.loop-group-preserved
loop-group-preserved c =
    let test = c.loop-group-test.true in
    let one_more : c.args.at + (c.loop-group.group + 1) ≡ c.args.at + c.loop-group.group + 1 = omega arith in
    rw one_more
    (more c.loop-group.invariant (behind-inside _ _ c.requires _ test) (behind-byte _ _ c.requires _ test c.from-byte.ensures) (sym c.ill_formed.ensures ∙ c.if-ill_formed.false)
    c.if-byte-lt128.false)

pub returns : goal.returns
returns c = early-end c.loop-group.invariant (behind-ends _ _ c.requires _ c.loop-group-test.false)
