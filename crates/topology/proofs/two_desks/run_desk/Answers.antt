-- A desk over the terrain: its own checks, then the pass and the rows of the call with its lists alone (TwoDesks).
use Rattle.std.proofs.Common.{rules, sym, ◌≡◌, arith}
use Rattle.std.specs.Prelude.{Err}
use Rattle.topology.proofs.Calling.{marked_as, finished-on}
use Rattle.topology.proofs.TwoDesks.{sides-within, desk-refused, desk-few, desk-lent, desk_finishes, desk-ran}
use Rattle.topology.proofs.two_desks.run_desk.Goals as goal

pub check_desk-requires : goal.check_desk-requires
check_desk-requires c = sides-within c.requires.1.partitioned

pub returns-in_err-pass : goal.returns-in_err-pass
returns-in_err-pass c = λ G T.
    let d = c.args.desk in
    let given : c.from_residual.result ≡ Err c.in_err-pass.field-0.0 = search rules in
    rw given (desk-refused T d.pass d.boundaries.now d.anchors.now c.args.output.now c.in_err-pass.field-0.0 c.in_err-pass.ensures.refused)

pub overflow_mul-grid : goal.overflow_mul-grid
overflow_mul-grid c =
    let d = c.args.desk in
    rw c.grid-grid.ensures (record { fits = omega (arith, desk-few c.requires.1 d.pass d.boundaries.now d.anchors.now c.args.output.now (sym c.in_ok-pass.ensures.refused)) })

pub mark_lent-requires-clause-few : goal.mark_lent-requires-clause-few
mark_lent-requires-clause-few c =
    let d = c.args.desk in desk-few c.requires.1 d.pass d.boundaries.now d.anchors.now c.args.output.now (sym c.in_ok-pass.ensures.refused)

pub mark_lent-requires-clause-map_shown : goal.mark_lent-requires-clause-map_shown
mark_lent-requires-clause-map_shown c =
    let d = c.args.desk in
    (_, desk-lent c.requires.1 d.pass d.boundaries.now d.anchors.now c.args.output.now (sym c.in_ok-pass.ensures.refused))

pub finish-kept-requires : goal.finish-kept-requires
finish-kept-requires c =
    let T = c.requires.1 in
    let d = c.args.desk in
    let passed = sym c.in_ok-pass.ensures.refused in
    let lent = desk-lent T d.pass d.boundaries.now d.anchors.now c.args.output.now passed in
    rw c.grid-grid.ensures
    (desk_finishes T d.pass d.boundaries.now d.anchors.now c.args.output.now passed (marked_as _ _ _ _ c.in_ok-pass.ensures.named (c.mark_lent.ensures _ lent)))

pub returns : goal.returns
returns c = λ G T.
    let d = c.args.desk in
    let passed = sym c.in_ok-pass.ensures.refused in
    let lent = desk-lent T d.pass d.boundaries.now d.anchors.now c.args.output.now passed in
    desk-ran T d.pass d.boundaries.now d.anchors.now c.args.output.now passed (marked_as _ _ _ _ c.in_ok-pass.ensures.named (c.mark_lent.ensures _ lent))
    (finished-on _ c.grid-grid.ensures c.finish-kept.ensures)
