-- The visit of the assessment meets the trait's contract: the steps in four directions, one after the other, are those that the span cuts. Assumes nothing.
use native.Mathlib.Omega.{arith}
use Rattle.assessments.specs.Assessing.{kept_none, kept-then, assesses_none, assessed-then}
use Rattle.assessments.proofs.Directions.{steps-four, steps_none, leads-cut}
use Rattle.assessments.proofs.Gathering.{assessed_as, room_none, room_after}
use Rattle.assessments.proofs.AssessingStepVisitor.visit.Goals as goal

pub returns-then-directions-eq0 : goal.returns-then-directions-eq0
returns-then-directions-eq0 c =
    let s = c.args.self.now in
    record { kept = kept_none s; assessed = assessed_as s s (steps_none c.requires.directions c.if-directions-eq0.true) assesses_none; room = room_none s }

pub direction-requires-clause-leads : goal.direction-requires-clause-leads
direction-requires-clause-leads c =
    let p = c.requires.asked in
    (leads-cut c.requires.directions p.narrow p.short p.in_x p.in_y, omega arith, omega arith)

pub direction-requires-2-clause-leads : goal.direction-requires-2-clause-leads
direction-requires-2-clause-leads c =
    let p = c.requires.asked in
    (leads-cut c.requires.directions p.narrow p.short p.in_x p.in_y, omega arith, omega arith)

pub direction-requires-3-clause-leads : goal.direction-requires-3-clause-leads
direction-requires-3-clause-leads c =
    let p = c.requires.asked in
    (leads-cut c.requires.directions p.narrow p.short p.in_x p.in_y, omega arith, omega arith)

pub direction-requires-4-clause-leads : goal.direction-requires-4-clause-leads
direction-requires-4-clause-leads c =
    let p = c.requires.asked in
    (leads-cut c.requires.directions p.narrow p.short p.in_x p.in_y, omega arith, omega arith)

pub returns : goal.returns
returns c =
    let a = c.direction.ensures in
    let b = c.direction-2.ensures in
    let d = c.direction-3.ensures in
    let e = c.direction-4.ensures in
    let last = c.direction-4.new.self in
    let ab = kept-then a.kept b.kept in
    let abd = kept-then ab d.kept in
    let three = assessed-then c.direction-3.new.self ab (assessed-then c.direction-2.new.self a.kept a.assessed b.assessed) d.assessed in
    record {
      kept = kept-then abd e.kept;
      assessed = assessed_as c.args.self.now last (steps-four c.requires.directions) (assessed-then last abd three e.assessed);
      room = room_after c.args.self.now last e.still_counting (omega (arith, a.still_counting.few, b.still_counting.few, d.still_counting.few, e.still_counting.few));
    }
