-- `printed::put_decimal` meets its contract. The loop's invariant is `Written`: the digits of the places from this one on are written. Assumes nothing.
use Rattle.std.proofs.Common.{◌≡◌, ◌+◌, ◌-◌, ◌/◌, ◌%◌, ◌<◌, ap, sym, ◌∙◌, subst, rules}
use Rattle.printed.proofs.Digits.{some_power, Written, written_room, written_more, written_all}
use Rattle.printed.proofs.put_decimal.Goals as goal

pub nonzero_div-n : goal.nonzero_div-n
nonzero_div-n c = subst (λ n. 0 < n) (sym c.pow.ensures) (some_power (c.loop-place.place - 1))

pub put_byte-requires : goal.put_byte-requires
put_byte-requires c = written_room c.loop-place.invariant.0 c.loop-place.invariant.1 c.requires (search rules)

pub loop-place-preserved : goal.loop-place-preserved
loop-place-preserved c =
    let k = c.loop-place.place - 1 in (
      c.loop-place.invariant.0,
      written_more c.loop-place.invariant.0 c.loop-place.invariant.1 k (search rules) (c.digit.ensures ∙ ap (λ m. 48 + c.args.n / m % 10) c.pow.ensures) c.put_byte.ensures,
    )

pub returns-clause-put : goal.returns-clause-put
returns-clause-put c =
    let last : c.loop-place.place ≡ 0 = search rules in
    (written_all c.loop-place.invariant.0 (subst (λ p. Written c.args.w.now c.args.n c.digit_count-count.result p c.loop-place.w) last c.loop-place.invariant.1)).0
