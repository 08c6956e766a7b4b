-- What the call answered is added to the report; a run beyond the last is refused (Reporting).
use Rattle.topology.proofs.Reporting.{ran-left, ran-reported, beyond-reported}
use Rattle.topology.proofs.runs.topology_report_run.Goals as goal

pub answered-requires : goal.answered-requires
answered-requires c = ran-left c.topology_kept_boundaries-kept.ensures.ran

pub returns-then-has_room-clause-reported : goal.returns-then-has_room-clause-reported
returns-then-has_room-clause-reported c =
    ran-reported c.topology_kept_boundaries-kept.ensures.ran c.args.report c.has_room.ensures c.if-has_room.true c.answered.ensures

pub returns-else-has_room-clause-reported : goal.returns-else-has_room-clause-reported
returns-else-has_room-clause-reported c = beyond-reported c.args.report c.has_room.ensures c.if-has_room.false c.beyond.ensures
