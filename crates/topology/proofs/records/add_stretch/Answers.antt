-- Where the label is above 0, the record that stands at label - 1 is read, and put back with the stretch added; else nothing is done.
use Rattle.std.proofs.Common.{◌≡◌, ℕ, ◌-◌, ◌≤◌, ◌<◌, List, length, get_or, slice_set, refl, sym, subst, arith}
use Rattle.definitions.specs.Grid.{Map}
use Rattle.definitions.specs.Partition.{labels}
use Rattle.context.specs.declared.Region.{Region}
use Rattle.context.specs.Records.{record_of}
use Rattle.rest.specs.Picking.{get_d_inside}
use Rattle.stretches.specs.Stretches.{region_up_to, Adding}
use Rattle.topology.specs.Filled.{Adds, Added}
use Rattle.topology.proofs.records.add_stretch.Goals as goal

module _ {records : List Region} {width : ℕ} {cells : List ℕ} {from end label : ℕ} (some : 1 ≤ label) {s : Region} (at : (d : Region) → s ≡ get_or records (label - 1) d) where
  here : {M : Map} → Adds M width cells from end label records → Adding M width cells from end label (record_of s)
  here {M} A = subst (λ r. Adding M width cells from end label (record_of r)) (sym (at s)) (A.adding some s)

  one : {more : Region} {rs : List Region} → ((M : Map) (id : ℕ) → Adding M width cells from end id (record_of s) → record_of more ≡ region_up_to M (labels M) id end)
      → rs ≡ slice_set records (label - 1) more → (M : Map) → Adds M width cells from end label records → Added M end label records rs
  one {more} made e M A = record { none = λ z. absurd (omega (arith, z, some)); one = λ h. (more, (e, made M label (here A))) }

pub with_stretch-requires : goal.with_stretch-requires
with_stretch-requires c =
    let within : c.args.label - 1 < length c.args.records.now = omega (arith, c.if-label-gt0.true, c.requires.1.room) in
    (_, _, here c.if-label-gt0.true (λ d. get_d_inside _ _ d _ within) c.requires.1)

pub returns-then-label-gt0 : goal.returns-then-label-gt0
returns-then-label-gt0 c =
    let within : c.args.label - 1 < length c.args.records.now = omega (arith, c.if-label-gt0.true, c.requires.1.room) in
    one c.if-label-gt0.true (λ d. get_d_inside _ _ d _ within) c.with_stretch.ensures refl

pub returns-else-label-gt0 : goal.returns-else-label-gt0
returns-else-label-gt0 c = λ M A. record { none = λ e. refl; one = λ h. absurd (omega (arith, h)) }
