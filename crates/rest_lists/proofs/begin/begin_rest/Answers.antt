-- `rest_lists::begin::begin_rest` meets its contract: a check before 11 refuses, or the starting list is written and divided (Beginning). Assumes nothing.
use native.Mathlib.Omega.{arith}
use Rattle.std.proofs.Common.{rules, sym, ap, subst, ◌*◌, ◌/◌, ◌≡◌, length, take}
use lib.Seq.{length-take-le}
use Rattle.std.specs.Prelude.{Err}
use Rattle.areas.specs.Lists.{of_lists}
use Rattle.call_partition.specs.Asking.{grid_in}
use Rattle.call_partition.specs.Prepared.{DividedAs}
use Rattle.call_partition.proofs.OnGrid.{divided_on}
use Rattle.rest_lists.proofs.Beginning.{begun-refused, count-few, begun-fits, begun_divided}
use Rattle.rest_lists.proofs.Holding.{start-held}
use Rattle.rest_lists.proofs.begin.begin_rest.Goals as goal

pub returns-in_err-rest_checks-clause-begun : goal.returns-in_err-rest_checks-clause-begun
returns-in_err-rest_checks-clause-begun c =
    let given = c.args in
    let r : c.from_residual.result ≡ Err c.in_err-rest_checks.field-0.0 = search rules in
    rw r (begun-refused given.asked.width given.asked.height given.asked.cells.now given.asked.spans.now given.asked.boundaries.now given.asked.anchors.now given.room given.output
    given.lists.now.labels.now given.lists.now.masks.now given.lists.now.queue.now given.lists.now.tallies.now given.lists.now.pairs.now
    c.in_err-rest_checks.field-0.0 given.kept.now.numbers.now given.kept.now.spans.now given.kept.now.boundaries.now c.in_err-rest_checks.ensures)

pub start_lists-requires : goal.start_lists-requires
start_lists-requires c =
    let given = c.args in
    let few = count-few given.asked.width given.asked.height given.asked.cells.now given.asked.spans.now given.asked.boundaries.now given.asked.anchors.now given.room given.output
    given.lists.now.labels.now given.lists.now.masks.now given.lists.now.queue.now given.lists.now.tallies.now given.lists.now.pairs.now
    c.in_ok-rest_checks.ensures in
    record {
      sizes = (few, omega arith);
      room = (search (rules, few), search (rules, few), search (rules, few));
    }

pub slice_bounds-divide-end : goal.slice_bounds-divide-end
slice_bounds-divide-end c =
    let given = c.args in
    let few = count-few given.asked.width given.asked.height given.asked.cells.now given.asked.spans.now given.asked.boundaries.now given.asked.anchors.now given.room given.output
    given.lists.now.labels.now given.lists.now.masks.now given.lists.now.queue.now given.lists.now.tallies.now given.lists.now.pairs.now
    c.in_ok-rest_checks.ensures in
    sym (length-take-le _ _ (omega (arith, few, ap length c.ends.ensures)))

pub divide-requires : goal.divide-requires
divide-requires c =
    let lists = c.start_lists in
    let given = c.args in
    rw (c.grid.ensures, c.ends.ensures) (begun-fits given.asked.width given.asked.height given.asked.cells.now given.asked.spans.now given.asked.boundaries.now given.asked.anchors.now given.room given.output
    given.lists.now.labels.now given.lists.now.masks.now given.lists.now.queue.now given.lists.now.tallies.now given.lists.now.pairs.now
    c.in_ok-rest_checks.ensures
    (start-held given.asked.width given.asked.height given.asked.cells.now given.asked.spans.now given.asked.boundaries.now given.asked.anchors.now given.kept.now.numbers.now given.kept.now.spans.now given.kept.now.boundaries.now
    lists.ensures.numbers lists.ensures.spans lists.ensures.boundaries))

pub returns-clause-begun : goal.returns-clause-begun
returns-clause-begun c =
    let divided = c.divide in
    let lists = c.start_lists in
    let given = c.args in
    let last = divided.new.lists in
    begun_divided given.asked.width given.asked.height given.asked.cells.now given.asked.spans.now given.asked.boundaries.now given.asked.anchors.now given.room given.output
    given.lists.now.labels.now given.lists.now.masks.now given.lists.now.queue.now given.lists.now.tallies.now given.lists.now.pairs.now
    c.in_ok-rest_checks.ensures
    (start-held given.asked.width given.asked.height given.asked.cells.now given.asked.spans.now given.asked.boundaries.now given.asked.anchors.now given.kept.now.numbers.now given.kept.now.spans.now given.kept.now.boundaries.now
    lists.ensures.numbers lists.ensures.spans lists.ensures.boundaries)
    last.labels.now last.masks.now last.queue.now last.tallies.now last.pairs.now divided.result
    (subst (λ spans. of_lists (of_lists (DividedAs given.asked.width given.asked.height given.asked.cells.now (take (4 * (length given.asked.boundaries.now / 9)) spans) given.room) given.lists.now divided.result) last)
    c.ends.ensures (divided_on (grid_in c.args.asked) _ _ c.args.lists.now c.divide.new.lists _ c.grid.ensures divided.ensures.divided))
