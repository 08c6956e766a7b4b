-- The choice of the pass in `removed_marks`: what each pass is lent, from what all are lent, and the marks of each as those of the pass of its number. Assumes
-- nothing.
use Prim.Native.Nat.{ℕ, ◌<◌}
use native.Mathlib.Omega.{arith}
use mathlib.Core.Path.{◌≡◌, refl, sym, ap, ◌∙◌}
use mathlib.Core.Bool.{Bool, false}
use mathlib.Core.List.{List}
use Rattle.std.specs.Prelude.{Option}
use lib.ListN.{get_or}
use Rattle.definitions.specs.Scan.{member}
use Rattle.definitions.specs.Context.{Context}
use Rattle.definitions.specs.Rows.{removed_by}
use Rattle.definitions.specs.RampMouths as mouths
use Rattle.definitions.specs.RampInteriors as interiors
use Rattle.definitions.specs.Junctions as junctions
use Rattle.context.specs.declared.Region.{Region}
use Rattle.region_pairs.specs.declared.Pair.{Pair}
use Rattle.topology.specs.Interiors.{Collapses, Collapsed}
use Rattle.topology.specs.Mouths.{Replaces, NoMarks, Replaced}
use Rattle.topology.specs.Proposals.{Passes, Unmarked, Removes}
use Rattle.topology.specs.Marks.{Shows, Removed}

module _ (C : Context) {records : List Region} {regions count : ℕ} {boundaries tallies pairs starts marks counts : List ℕ} {full : List (Option Pair)}
    (S : Shows C records regions count boundaries tallies pairs starts full marks counts) where
  -- ---- what a pass is lent

  pub clear-marks : {removed : List Bool} → NoMarks removed → Unmarked removed count
  clear-marks n = record { long = omega (arith, n.long, S.bounds.few, S.counted); clear = λ j _. n.clear j }

  pub mouths-lent : Replaces C records boundaries tallies pairs starts count marks counts
  mouths-lent =
      record {
        shows =
            record {
              counted = S.counted;
              bounds = S.bounds;
              placed = λ i l.
                  let own = S.bounds.at i (within i l) in
                  record {
                    whole = omega (arith, l, S.bounds.long, S.counted);
                    pixels = rw (ap (λ b. b.endpoints) own) at (S.on_map.pixels.ends i);
                    finite = omega (arith, ap (λ b. b.width_bits) own, S.on_map.sound.finite i (within i l));
                  };
              rows = S.paired;
              incidents = S.incidents;
              anchored = S.anchored;
            };
        cuts = S.tallied;
        held = S.held;
        pixels = S.on_map.pixels;
        fresh = S.fresh;
      }
    where
      within : (i : ℕ) → i < count → i < C.count
      within i l = omega (arith, S.counted)

  pub interiors-lent : Collapses C records boundaries tallies pairs starts count regions marks counts
  interiors-lent =
      record {
        lent =
            record {
              given = record { bounds = S.bounds; tallied = S.tallied; paired = S.paired; sound = S.on_map.sound };
              counted = S.counted;
              labelled = S.labelled;
              few = omega (arith, S.on_map.few, S.labelled);
              anchored = S.anchored;
              incidents = S.incidents;
            };
        held = S.held;
        pixels = S.on_map.pixels;
      }

  pub junctions-lent : Passes C records boundaries full counts marks count regions
  junctions-lent =
      record {
        shown =
            record {
              counted = S.counted;
              labelled = S.labelled;
              labels = omega (arith, S.on_map.few, S.labelled);
              bounds = S.bounds;
              pairs = S.shown_full;
              incidents = S.incidents;
              anchored = S.anchored;
              sound = S.on_map.sound;
              pixels = S.on_map.pixels;
            };
        held = S.held;
        counted = S.on_map.counted;
      }

  -- ---- the marks that it leaves

  -- those of the boundaries in l, which are what the pass removes
  marked : {removed : List Bool} (pass : ℕ) (l : List ℕ) → removed_by pass C ≡ l → ((j : ℕ) → j < count → get_or removed j false ≡ member j l) → Removed pass C removed
  marked pass l r h = record { marked = λ i less. h i (omega (arith, S.counted, less)) ∙ ap (member i) (sym r) }

  module _ {removed : List Bool} where
    pub marked-mouths : Replaced C count removed → Removed 1 C removed
    unfolding removed_by
    marked-mouths r = marked 1 (mouths.removed C) refl r.at

    pub marked-interiors : Collapsed C count removed → Removed 2 C removed
    unfolding removed_by
    marked-interiors r = marked 2 (interiors.removed C) refl r.at

    pub marked-junctions : Removes C count removed → Removed 3 C removed
    unfolding removed_by
    marked-junctions r = marked 3 (junctions.removed C) refl r.at
