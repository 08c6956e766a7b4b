-- The loop's invariant: the first i records are written, one behind the other, and nothing else.
use Rattle.std.proofs.Common.{ℕ, List, ◌+◌, ◌*◌, ◌≤◌, ◌<◌, ◌≡◌, refl, ap, ◌∙◌, map, length, take, get_or, rules, arith}
use lib.Seq.{get_or-take, length-take-le}
use Rattle.std.proofs.lemmas.List.Edits.{sets}
use Rattle.definitions.specs.Lists.{overwrite}
use Rattle.rest.specs.Picking.{get_d_inside}
use Rattle.context.specs.declared.Region.{Region}
use Rattle.context.specs.Records.{record_of}
use Rattle.topology.specs.Numbers.{record_numbers, all_numbers}
use Rattle.topology.proofs.Numbering.{record_more, all-written}
use Rattle.topology.proofs.numbers.put_records.Goals as goal

-- a record more, over plain variables
step : (rs : List Region) (given : List ℕ) {numbers after : List ℕ} {i : ℕ} {r : Region} → after ≡ sets numbers (11 * i) (record_numbers (record_of r))
    → ((d : Region) → r ≡ get_or rs i d) → numbers ≡ overwrite (all_numbers (map record_of (take i rs))) given → i < length rs → 11 * (i + 1) ≤ length given
    → after ≡ overwrite (all_numbers (map record_of (take (i + 1) rs))) given
step rs given {i = i} {r = r} stored read before inside room =
    stored
    ∙ ap (λ l. sets l (11 * i) (record_numbers (record_of r))) before
    ∙ ap (λ s. sets (overwrite (all_numbers (map record_of (take i rs))) given) (11 * i) (record_numbers (record_of s))) (read r)
    ∙ record_more rs given i r inside room

pub loop-i-init : goal.loop-i-init
loop-i-init c = (omega arith, refl, refl)

-- the records that are walked are the first `count`
pub put_numbers-requires : goal.put_numbers-requires
put_numbers-requires c =
    let few : c.min-count.result ≤ length c.args.records.now = omega (arith, c.min-count.ensures) in
    omega (arith, c.loop-i-test.true, length-take-le c.min-count.result c.args.records.now few, c.loop-i.invariant.1, c.min-count.ensures)

pub loop-i-preserved : goal.loop-i-preserved
loop-i-preserved c =
    let few : c.min-count.result ≤ length c.args.records.now = omega (arith, c.min-count.ensures) in
    let below : c.loop-i.i < c.min-count.result = omega (arith, c.loop-i-test.true, length-take-le c.min-count.result c.args.records.now few) in
    let inside : c.loop-i.i < length c.args.records.now = omega (arith, below, few) in (
      omega (arith, below),
      search rules,
      step c.args.records.now c.args.numbers.now c.put_numbers.ensures
          (λ d. get_or-take c.min-count.result c.args.records.now c.loop-i.i _ below ∙ get_d_inside c.args.records.now _ d c.loop-i.i inside)
          c.loop-i.invariant.2 inside (omega (arith, below, c.min-count.ensures)),
    )

pub returns : goal.returns
returns c =
    let few : c.min-count.result ≤ length c.args.records.now = omega (arith, c.min-count.ensures) in
    let all : c.loop-i.i ≡ c.min-count.result = omega (arith, c.loop-i.invariant.0, c.loop-i-test.false, length-take-le c.min-count.result c.args.records.now few) in
    c.loop-i.invariant.2
    ∙ ap (λ k. overwrite (all_numbers (map record_of (take k c.args.records.now))) c.args.numbers.now) all
    ∙ all-written c.args.records.now c.args.numbers.now c.min-count.ensures
