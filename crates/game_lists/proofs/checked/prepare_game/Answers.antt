-- `game_lists::checked::prepare_game` meets its contract: a check before it refuses, or the lists fit and are divided. Assumes nothing.
use Rattle.std.proofs.Common.{rules, ◌≡◌}
use Rattle.std.specs.Prelude.{Ok, Err}
use Rattle.call_partition.specs.Asking.{grid_in}
use Rattle.call_partition.proofs.OnGrid.{divided_on}
use Rattle.game_lists.proofs.PreparingGame.{refused-early, lists-fit, refused-late, prepared_game}
use Rattle.game_lists.proofs.checked.prepare_game.Goals as goal

pub returns-in_err-pass-clause-prepared : goal.returns-in_err-pass-clause-prepared
returns-in_err-pass-clause-prepared c =
    let r : c.from_residual.result ≡ Err c.in_err-pass.field-0.0 = search rules in
    rw r (refused-early _ _ _ _ _ _ _ _ _ _ _ _ _ _ _ _ c.in_err-pass.ensures.refused)

pub divide-requires : goal.divide-requires
divide-requires c = rw c.grid.ensures (lists-fit _ _ _ _ _ _ _ _ _ _ _ _ _ c.in_ok-pass.ensures.refused)

pub returns-in_err-ready-clause-prepared : goal.returns-in_err-ready-clause-prepared
returns-in_err-ready-clause-prepared c =
    let a = c.args in
    let last = c.divide.new.lists in
    let r : c.from_residual-in_err-ready.result ≡ Err c.in_err-ready.field-0.0 = search rules in
    rw r (refused-late a.pass a.asked.width a.asked.height a.asked.cells.now a.asked.spans.now a.asked.boundaries.now a.asked.anchors.now a.room a.output a.verdicts
    a.lists.now.labels.now a.lists.now.masks.now a.lists.now.queue.now a.lists.now.tallies.now a.lists.now.pairs.now
    c.in_ok-pass.ensures.refused last.labels.now last.masks.now last.queue.now last.tallies.now last.pairs.now c.in_err-ready.field-0.0
    (divided_on (grid_in c.args.asked) _ _ c.args.lists.now c.divide.new.lists (Err c.in_err-ready.field-0.0) c.grid.ensures c.in_err-ready.ensures.divided))

pub returns-clause-prepared : goal.returns-clause-prepared
returns-clause-prepared c =
    let a = c.args in
    let last = c.divide.new.lists in
    prepared_game a.pass a.asked.width a.asked.height a.asked.cells.now a.asked.spans.now a.asked.boundaries.now a.asked.anchors.now a.room a.output a.verdicts
    a.lists.now.labels.now a.lists.now.masks.now a.lists.now.queue.now a.lists.now.tallies.now a.lists.now.pairs.now
    c.in_ok-pass.ensures.refused last.labels.now last.masks.now last.queue.now last.tallies.now last.pairs.now (c.in_ok-pass.pass, c.in_ok-ready.ready) c.in_ok-pass.ensures.named
    (divided_on (grid_in c.args.asked) _ _ c.args.lists.now c.divide.new.lists (Ok c.in_ok-ready.ready) c.grid.ensures c.in_ok-ready.ensures.divided)
