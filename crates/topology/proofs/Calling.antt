-- The parts of `kept_boundaries`: what each asks, once the call is prepared (`ReadyAs`), and the contract from what they leave. Assumes nothing.
use Prim.Native.Nat.{ℕ, ◌*◌, ◌/◌, ◌≤◌}
use native.Mathlib.Omega.{arith}
use native.Mathlib.Nat.{mul-le-mul}
use mathlib.Core.Path.{◌≡◌, refl, sym, ap, ◌∙◌, subst}
use mathlib.Core.Bool.{Bool, false}
use mathlib.Core.Logic.{⊎_elim}
use mathlib.Core.List.{List, map}
use lib.ListN.{length, get_or, replicate, length-replicate, length-map}
use Rattle.definitions.specs.Limits.{max_entries, numbers_per_span, numbers_per_boundary}
use Rattle.definitions.specs.Grid.{Map, map_of, cell_count}
use Rattle.definitions.specs.Context.{context_of}
use Rattle.laws.specs.FloatLaws.MapPixels.{side-bounds, lent-on_map, map-pixel}
use Rattle.laws.specs.NumberLaws.Comparisons.{same_or}
use Rattle.laws.specs.ListLaws.Flags.{none_set}
use Rattle.context.specs.declared.Region.{Region}
use Rattle.context.specs.Records.{record_of, max_cells}
use Rattle.std.specs.Prelude.{Result, Ok, Err}
use Rattle.refusals.specs.declared.Refusal as code
use Rattle.refusals.specs.Refusals.{number_of}
use Rattle.grid_steps.specs.declared.grid.TerrainGrid.{TerrainGrid}
use Rattle.call_partition.specs.declared.Ready.{Ready}
use Rattle.checks.specs.declared.passes.Pass.{Pass}
use Rattle.checks.specs.Passes.{pass_number}
use Rattle.call_partition.specs.Prepared.{ReadyAs, PreparedAs, PassPreparedAs}
use Rattle.pass_lists.specs.Finished.{Finished, Marked}
use Rattle.pass_lists.proofs.AfterChecks.{ready-accepted, ready-sides, ready-sound, ready-checked}
use Rattle.pass_lists.proofs.AfterPartition.{ready-shown, ready-boundaries, ready-partitioned}
use Rattle.pass_lists.proofs.Viewing as viewing
use Rattle.pass_lists.proofs.Closing.{marked-equal, marked_none, ran-kept}
use Rattle.topology.specs.Filled.{Fills, Filled}
use Rattle.topology.specs.Held.{HoldsRecords, filled-held, map-counted}
use Rattle.topology.specs.Mouths.{NoMarks}
use Rattle.topology.specs.Marks.{MapContext, Lent, MarkedFor}
use Rattle.topology.specs.Contract.{RanOver}
use Rattle.topology.specs.Lent.{lends, leaves}

-- ---- the marks before the pass

pub no_marks : NoMarks (replicate max_entries false)
no_marks = record { long = length-replicate {A = Bool} max_entries false; clear = none_set max_entries }

-- what a pass has marked, by its number
pub marked_as : {k pass : ℕ} (M : Map) (needed count : ℕ) (boundaries : List ℕ) {m q m' q' : List ℕ} {was removed : List Bool} → k ≡ pass
    → MarkedFor k M needed count boundaries m q m' q' was removed → MarkedFor pass M needed count boundaries m q m' q' was removed
marked_as M needed count boundaries {m} {q} {m'} {q'} {was} {removed} e K = subst (λ n. MarkedFor n M needed count boundaries m q m' q' was removed) e K

-- ---- a grid and one that is equal to it

pub fills-on : {g : TerrainGrid} (x : TerrainGrid) {M : Map} {room regions : ℕ} {l q : List ℕ} → g ≡ x → Fills M room regions x.width x.cells.now l q → Fills M room regions g.width g.cells.now l q
fills-on x {M} {room} {regions} {l} {q} e F = subst (λ (g : TerrainGrid). Fills M room regions g.width g.cells.now l q) (sym e) F

pub finished-on : {g : TerrainGrid} (x : TerrainGrid) {count : ℕ} {boundaries : List ℕ} {removed : List Bool} {m q o m' q' o' : List ℕ} {r : ℕ} → g ≡ x
    → Finished (g.height * g.width) count boundaries removed m q o m' q' o' r → Finished (x.height * x.width) count boundaries removed m q o m' q' o' r
finished-on x {count} {boundaries} {removed} {m} {q} {o} {m'} {q'} {o'} {r} e F =
    subst (λ (g : TerrainGrid). Finished (g.height * g.width) count boundaries removed m q o m' q' o' r) e F

-- ---- the call

module _ {pass w h : ℕ} {cells spans boundaries anchors : List ℕ} {room output : ℕ} {l m q t p l' m' q' t' p' : List ℕ} where
  -- by the case of the answer, where the call asked for its pass by number
  pub when_named : {r : Result (Pass × Ready) code.Refusal} {y : Pass × Ready} → PassPreparedAs pass w h cells spans boundaries anchors room output l m q t p r l' m' q' t' p' → r ≡ Ok y
      → (pass_number y.0 ≡ pass) × ReadyAs pass w h cells spans boundaries anchors room output l m q t p y.1.regions y.1.rows l' m' q' t' p'
  when_named a e = subst (λ r. PassPreparedAs pass w h cells spans boundaries anchors room output l m q t p r l' m' q' t' p') e a

  pub when_refused : {r : Result (Pass × Ready) code.Refusal} {x : code.Refusal} (s : List Region) (o : List ℕ) → PassPreparedAs pass w h cells spans boundaries anchors room output l m q t p r l' m' q' t' p' → r ≡ Err x → length s ≡ room → length o ≡ output
      → RanOver pass (lends w h cells spans boundaries anchors l m q t p s o) (record { number = number_of x.cause; value = x.place }) (leaves l' m' q' t' p' s o)
  when_refused s o a e long wide =
      record {
        ran = subst (λ r. PassPreparedAs pass w h cells spans boundaries anchors room output l m q t p r l' m' q' t' p') e a (map record_of s) o (length-map s record_of ∙ long) wide;
        beyond = refl;
      }

  -- and where it did not
  pub when_ready : {r : Result Ready code.Refusal} {ready : Ready} → PreparedAs pass w h cells spans boundaries anchors room output l m q t p r l' m' q' t' p' → r ≡ Ok ready → ReadyAs pass w h cells spans boundaries anchors room output l m q t p ready.regions ready.rows l' m' q' t' p'
  when_ready a e = subst (λ r. PreparedAs pass w h cells spans boundaries anchors room output l m q t p r l' m' q' t' p') e a

  module _ {regions rows : ℕ} (R : ReadyAs pass w h cells spans boundaries anchors room output l m q t p regions rows l' m' q' t' p') where
    abbrev M : Map
    M = map_of w h cells spans boundaries anchors

    pub needed-few : h * w ≤ max_cells
    needed-few = mul-le-mul (side-bounds h (ready-sides R).1).1 (side-bounds w (ready-sides R).0).1

    cells-few : cell_count M ≤ max_cells
    unfolding cell_count map_of
    cells-few = needed-few

    map-context : MapContext (context_of M)
    unfolding context_of
    map-context =
        record {
          few = omega (arith, viewing.regions-few M, cells-few);
          sound = ready-sound R;
          checked = ready-checked R;
          pixels = map-pixel (lent-on_map w h cells spans boundaries anchors (ready-accepted R).sides (ready-accepted R).boundaries);
          counted = map-counted M cells-few;
        }

    -- ---- what the parts ask

    pub ready_fills : length q' ≡ length q → Fills M room regions w cells l' q'
    ready_fills long = record { shown = ready-shown R long; count = R.count; enough = R.enough }

    -- records that hold the map's
    pub ready-shows : {s' : List Region} → HoldsRecords (context_of M) s' → length m' ≡ length m → length q' ≡ length q
        → Lent M s' w (h * w) l' anchors regions rows (length spans / numbers_per_span) boundaries t' p' (length m') (length q')
    ready-shows held lm lq = record { on_map = map-context; partitioned = ready-partitioned R lm lq; held = held; bounds = ready-boundaries R }

    module _ {s s' : List Region} (F : Filled M s s') where
      pub ready-lent : length m' ≡ length m → length q' ≡ length q → Lent M s' w (h * w) l' anchors regions rows (length spans / numbers_per_span) boundaries t' p' (length m') (length q')
      ready-lent lm lq = ready-shows (filled-held F) lm lq

      -- ---- what they leave

      module _ {m₂ q₂ : List ℕ} {removed : List Bool} (K : MarkedFor pass M (h * w) (length spans / numbers_per_span) boundaries m' q' m₂ q₂ (replicate max_entries false) removed) where
        pub marked : Marked pass M removed
        marked =
            ⊎_elim
            (λ e. marked-equal pass w h cells spans boundaries anchors e removed (K.equal e))
            (λ d. marked_none pass w h cells spans boundaries anchors d removed (λ i _. ap (λ r. get_or r i false) (K.differ d) ∙ none_set max_entries i))
            (same_or (length boundaries / numbers_per_boundary) (length spans / numbers_per_span))

        pub ran_over : {o m₃ q₃ o₃ : List ℕ} {n : ℕ} → length s ≡ room → length o ≡ output → Finished (h * w) (length boundaries / numbers_per_boundary) boundaries removed m₂ q₂ o m₃ q₃ o₃ n
            → RanOver pass (lends w h cells spans boundaries anchors l m q t p s o) (record { number = 0; value = n }) (leaves l' m₃ q₃ t' p' s' o₃)
        ran_over {o} long wide fin =
            record {
              ran = ran-kept R (map record_of s) o (length-map s record_of ∙ long) wide F.records K.masks.rest K.queue.rest marked fin;
              beyond = F.beyond;
            }
