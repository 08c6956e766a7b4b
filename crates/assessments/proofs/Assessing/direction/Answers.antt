-- `direction` meets its contract: a direction of the mask leads to a cell of the grid, so that both cells have labels. Assumes nothing.
use Prim.Native.Nat.{◌+◌, ◌*◌, ◌<◌}
use mathlib.Core.Path.{◌≡◌, sym, ap, ap₂, ◌∙◌, subst}
use mathlib.Core.Bool.{true, false}
use mathlib.Core.List.{[], ◌∷◌}
use native.Mathlib.Omega.{arith}
use lib.Arith.{digits_lt}
use Rattle.definitions.specs.Grid.{at}
use Rattle.grid_steps.specs.Masks.{bit_of}
use Rattle.cut_steps.specs.CutSteps.{is_set}
use Rattle.assessments.specs.Held.{pair_of}
use Rattle.assessments.specs.Assess.{step_in_lem, Assesses}
use Rattle.assessments.specs.Assessing.{assesses_none}
use Rattle.assessments.proofs.Assessing.direction.Goals as goal

pub returns-then-not-is_set-clause-assessed : goal.returns-then-not-is_set-clause-assessed
unfolding step_in_lem
returns-then-not-is_set-clause-assessed c =
    let e : is_set c.args.mask (bit_of (at c.args.direction.dx c.args.direction.dy)) ≡ false = sym (c.is_set.ensures ∙ ap (is_set c.args.mask) c.bit.ensures) ∙ c.if-not-is_set.true in
    rw e assesses_none

pub towards-requires : goal.towards-requires
towards-requires c =
    let d = c.args.direction in
    let leads = c.requires.leads.0 in
    let inside = leads.lands (at d.dx d.dy) c.requires.leads.1 c.requires.leads.2 (sym (c.is_set.ensures ∙ ap (is_set c.args.mask) c.bit.ensures) ∙ c.if-not-is_set.false) in
    record {
      whole = (inside.left, inside.up);
      small = (omega (arith, leads.in_x, leads.narrow), omega (arith, leads.in_y, leads.short), c.requires.leads.1, c.requires.leads.2);
    }

pub index-to-requires : goal.index-to-requires
index-to-requires c =
    let d = c.args.direction in
    let leads = c.requires.leads.0 in
    let inside = leads.lands (at d.dx d.dy) c.requires.leads.1 c.requires.leads.2 (sym (c.is_set.ensures ∙ ap (is_set c.args.mask) c.bit.ensures) ∙ c.if-not-is_set.false) in
    (leads.narrow, leads.short, omega (arith, inside, c.towards.ensures), omega (arith, inside, c.towards.ensures))

pub step-requires-clause-labels_room : goal.step-requires-clause-labels_room
step-requires-clause-labels_room c =
    let a = c.args in
    let d = a.direction in
    let leads = c.requires.leads.0 in
    let inside = leads.lands (at d.dx d.dy) c.requires.leads.1 c.requires.leads.2 (sym (c.is_set.ensures ∙ ap (is_set c.args.mask) c.bit.ensures) ∙ c.if-not-is_set.false) in
    let far : c.towards.result.y * a.grid.width + c.towards.result.x < a.grid.height * a.grid.width = digits_lt (omega (arith, inside, c.towards.ensures)) (omega (arith, inside, c.towards.ensures)) in
    (omega (arith, c.index-from.ensures, digits_lt leads.in_y leads.in_x, c.requires.labels_long), omega (arith, c.index-to.ensures, far, c.requires.labels_long))

pub returns-clause-assessed : goal.returns-clause-assessed
unfolding step_in_lem
returns-clause-assessed c =
    let a = c.args in
    let s = a.self.now in
    let t = c.step.new.self in
    let e : is_set a.mask (bit_of (at a.direction.dx a.direction.dy)) ≡ true = sym (c.is_set.ensures ∙ ap (is_set a.mask) c.bit.ensures) ∙ c.if-not-is_set.false in
    let to = c.index-to.ensures ∙ ap₂ (λ x y. y * a.grid.width + x) c.towards.ensures.0 c.towards.ensures.1 in
    rw e
    (subst (λ p. Assesses s.labels.now s.span s.first (p ∷ []) s.found s.pairs.now t.found t.pairs.now) (ap₂ pair_of c.index-from.ensures to) c.step.ensures.assessed)
