-- Each pass is lent a part of what is lent here, as `Choosing` has it.
use Rattle.topology.proofs.Choosing.{clear-marks, mouths-lent, interiors-lent, junctions-lent, marked-mouths, marked-interiors, marked-junctions}
use Rattle.topology.proofs.marks.removed_marks.Goals as goal

pub replace_ramp_mouths-requires-clause-lists_show : goal.replace_ramp_mouths-requires-clause-lists_show
replace_ramp_mouths-requires-clause-lists_show c = (_, mouths-lent c.requires.lists_show.0 c.requires.lists_show.1)

pub returns-in-ReplaceRampMouths : goal.returns-in-ReplaceRampMouths
returns-in-ReplaceRampMouths c = λ C S. rw c.in-ReplaceRampMouths.is (marked-mouths C S (c.replace_ramp_mouths.ensures C (mouths-lent C S)))

pub collapse_ramp_interiors-requires-clause-lists_show : goal.collapse_ramp_interiors-requires-clause-lists_show
collapse_ramp_interiors-requires-clause-lists_show c = (_, interiors-lent c.requires.lists_show.0 c.requires.lists_show.1)

pub collapse_ramp_interiors-requires-clause-none_marked : goal.collapse_ramp_interiors-requires-clause-none_marked
collapse_ramp_interiors-requires-clause-none_marked c =
    let none = c.requires.none_marked in (none.long, clear-marks c.requires.lists_show.0 c.requires.lists_show.1 none)

pub returns-in-CollapseRampInteriors : goal.returns-in-CollapseRampInteriors
returns-in-CollapseRampInteriors c = λ C S. rw c.in-CollapseRampInteriors.is (marked-interiors C S (c.collapse_ramp_interiors.ensures C (interiors-lent C S)))

pub remove_junction_boundaries-requires-clause-lists_show : goal.remove_junction_boundaries-requires-clause-lists_show
remove_junction_boundaries-requires-clause-lists_show c = (_, junctions-lent c.requires.lists_show.0 c.requires.lists_show.1)

pub remove_junction_boundaries-requires-clause-none_marked : goal.remove_junction_boundaries-requires-clause-none_marked
remove_junction_boundaries-requires-clause-none_marked c = clear-marks c.requires.lists_show.0 c.requires.lists_show.1 c.requires.none_marked

pub returns-in-RemoveJunctionBoundaries : goal.returns-in-RemoveJunctionBoundaries
returns-in-RemoveJunctionBoundaries c = λ C S. rw c.in-RemoveJunctionBoundaries.is (marked-junctions C S (c.remove_junction_boundaries.ensures C (junctions-lent C S)))
