-- A turn adds the cells of a stretch to its region's record; behind the last cell every region has its record.
use Rattle.std.proofs.Common.{◌≡◌, ℕ, ◌≤◌, ◌<◌, ◌-◌, List, length, refl, sym, subst, ◌∙◌, arith}
use Rattle.definitions.specs.Grid.{Map, cell_count}
use Rattle.context.specs.declared.Region.{Region}
use Rattle.stretches.specs.declared.Stretch.{Stretch}
use Rattle.stretches.specs.Stretches.{Read}
use Rattle.topology.specs.Filled.{Fills, Filled, Adds, Added, Emptied}
use Rattle.topology.proofs.Filling.{Filling, cells-all, filling_start, filling_adds, filling_less, filling_more, filling_ends}
use Rattle.topology.proofs.records.fill.Goals as goal

-- the loop's invariant; `empty` are the records that `clear_records` left
abbrev Inv : (empty : List Region) (regions width : ℕ) (cells labels queue : List ℕ) (records : List Region) (c : ℕ) → Type 0
Inv empty regions width cells labels queue records c =
    (length records ≡ length empty) × ((M : Map) → Fills M (length empty) regions width cells labels queue → Filling M queue c empty records)

-- what a turn asks, over plain variables
module _ {was empty : List Region} {regions width : ℕ} {cells labels queue : List ℕ}
    (pre : (M : Map) × Fills M (length was) regions width cells labels queue) (l : length empty ≡ length was) (E : Emptied regions was empty) where
  -- they are as many as were lent
  here : {M : Map} → Fills M (length was) regions width cells labels queue → Fills M (length empty) regions width cells labels queue
  here {M} h = subst (λ n. Fills M n regions width cells labels queue) (sym l) h

  start : Inv empty regions width cells labels queue empty 0
  start = (refl, λ M h. filling_start h E)

  module _ {records : List Region} {c : ℕ} (inv : Inv empty regions width cells labels queue records c) where
    done : length cells ≤ c → (M : Map) → Fills M (length was) regions width cells labels queue → Filled M was records
    done f M h = filling_ends (here h) refl E (inv.1 M (here h)) f

    module _ (t : c < length cells) where
      more : {M : Map} → Fills M (length empty) regions width cells labels queue → c < cell_count M
      more h = omega (arith, t, cells-all h)

      within : (c < length labels) × (c < length queue)
      within = (omega (arith, more (here pre.1), pre.1.shown.labels_long), omega (arith, more (here pre.1), pre.1.shown.queue_long_lem))

      module _ {s : Stretch} (read : Read labels queue c s) where
        adds : {M : Map} → Fills M (length empty) regions width cells labels queue → Adds M width cells c s.end s.label records
        adds {M} h = filling_adds h (inv.1 M h) (more h) read refl

        adding : (M : Map) × Adds M width cells c s.end s.label records
        adding = (_, adds (here pre.1))

        lower : length cells - s.end < length cells - c
        lower = let h = here pre.1 in filling_less h (inv.1 _ h) (more h) read

        again : {next : List Region} → length next ≡ length records
            → ((M : Map) → Adds M width cells c s.end s.label records → Added M s.end s.label records next)
            → Inv empty regions width cells labels queue next s.end
        again n added = (n ∙ inv.0, λ M h. filling_more h (inv.1 M h) (more h) read refl (added M (adds h)))

pub clear_records-requires : goal.clear_records-requires
clear_records-requires c = omega (arith, c.requires.1.count, c.requires.1.enough)

pub loop-c-init : goal.loop-c-init
loop-c-init c = start c.requires c.clear_records.auto.records c.clear_records.ensures

pub stretch_at-s-requires : goal.stretch_at-s-requires
stretch_at-s-requires c = within c.requires c.clear_records.auto.records c.clear_records.ensures c.loop-c.invariant c.loop-c-test.true

pub add_stretch-requires : goal.add_stretch-requires
add_stretch-requires c = adding c.requires c.clear_records.auto.records c.clear_records.ensures c.loop-c.invariant c.loop-c-test.true c.stretch_at-s.ensures

pub loop-c-smaller : goal.loop-c-smaller
loop-c-smaller c = lower c.requires c.clear_records.auto.records c.clear_records.ensures c.loop-c.invariant c.loop-c-test.true c.stretch_at-s.ensures

pub loop-c-preserved : goal.loop-c-preserved
loop-c-preserved c =
    again c.requires c.clear_records.auto.records c.clear_records.ensures c.loop-c.invariant c.loop-c-test.true c.stretch_at-s.ensures c.add_stretch.auto.records c.add_stretch.ensures

pub returns : goal.returns
returns c = done c.requires c.clear_records.auto.records c.clear_records.ensures c.loop-c.invariant c.loop-c-test.false
