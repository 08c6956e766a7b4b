-- `accession::line::put_line` meets its contract. The loop's invariant (`Putting`): the line's front is written, and the records that are left make up the rest.
-- Assumes nothing.
use Rattle.std.proofs.Common.{arith}
use Rattle.std.proofs.lemmas.Iterator.Adapters.{YieldsList-from_rev_slice}
use Rattle.std.proofs.lemmas.Iterator.Consumers.{YieldsList-turn, YieldsList-end}
use Rattle.std.proofs.lemmas.List.{length_push}
use Rattle.accession.proofs.Putting.{putting_none, putting-done}
use Rattle.accession.proofs.Turning.{turn-room, turn-put, turn-left, none_left}
use Rattle.accession.proofs.line.put_line.Goals as goal

pub loop-record-init : goal.loop-record-init
loop-record-init c = putting_none c.args.records.now c.args.number c.args.output.now

pub overflow_add-k : goal.overflow_add-k
overflow_add-k c =
    let a = c.args in
    let t = YieldsList-turn (YieldsList-from_rev_slice c.as_chunks.result.0.now cc) c.loop-record.yielded _ c.loop-record.yielded_by _ _ c.in-Some.record c.in-Some.is c.next.ensures.steps in
    let room = turn-room a.records.now a.number a.output.now c.requires c.as_chunks.ensures.front _ _ t c.loop-record.invariant c.if-on_map-number.true in
    omega (arith, room)

pub offset_bounds-output-k : goal.offset_bounds-output-k
offset_bounds-output-k c =
    let a = c.args in
    let t = YieldsList-turn (YieldsList-from_rev_slice c.as_chunks.result.0.now cc) c.loop-record.yielded _ c.loop-record.yielded_by _ _ c.in-Some.record c.in-Some.is c.next.ensures.steps in
    let room = turn-room a.records.now a.number a.output.now c.requires c.as_chunks.ensures.front _ _ t c.loop-record.invariant c.if-on_map-number.true in
    omega (arith, room)

pub slice_bounds-copy_from_slice-end : goal.slice_bounds-copy_from_slice-end
slice_bounds-copy_from_slice-end c =
    let a = c.args in
    let t = YieldsList-turn (YieldsList-from_rev_slice c.as_chunks.result.0.now cc) c.loop-record.yielded _ c.loop-record.yielded_by _ _ c.in-Some.record c.in-Some.is c.next.ensures.steps in
    let room = turn-room a.records.now a.number a.output.now c.requires c.as_chunks.ensures.front _ _ t c.loop-record.invariant c.if-on_map-number.true in
    omega (arith, room)

pub loop-record-preserved : goal.loop-record-preserved
loop-record-preserved c =
    let a = c.args in
    let t = YieldsList-turn (YieldsList-from_rev_slice c.as_chunks.result.0.now cc) c.loop-record.yielded _ c.loop-record.yielded_by _ _ c.in-Some.record c.in-Some.is c.next.ensures.steps in
    turn-left a.records.now a.number a.output.now c.requires c.as_chunks.ensures.front _ _ t c.loop-record.invariant c.if-on_map-number.false (length_push c.loop-record.yielded c.in-Some.record)

pub loop-record-preserved-then-on_map-number : goal.loop-record-preserved-then-on_map-number
loop-record-preserved-then-on_map-number c =
    let a = c.args in
    let t = YieldsList-turn (YieldsList-from_rev_slice c.as_chunks.result.0.now cc) c.loop-record.yielded _ c.loop-record.yielded_by _ _ c.in-Some.record c.in-Some.is c.next.ensures.steps in
    turn-put a.records.now a.number a.output.now c.requires c.as_chunks.ensures.front _ _ t c.loop-record.invariant c.if-on_map-number.true c.copy_from_slice.ensures.after (length_push c.loop-record.yielded c.in-Some.record)

pub returns : goal.returns
returns c =
    let t = YieldsList-end (YieldsList-from_rev_slice c.as_chunks.result.0.now cc) c.loop-record.yielded _ c.loop-record.yielded_by _ _ c.in-None.is c.next.ensures.steps in
    putting-done c.args.records.now c.args.number c.args.output.now c.requires c.loop-record.invariant (none_left c.args.records.now c.as_chunks.ensures.front t.1)
