-- What the checks that let a call pass say of its map, once it is prepared (`ReadyAs`): all that the table of refusals tells of an accepted call
-- (AcceptedCalls, Accepted), since no check refuses it, neither 11 nor 12, with records and output of the lengths lent. Assumes nothing.
use Prim.Native.Nat.{ℕ, ◌+◌, ◌*◌, ◌/◌, ◌%◌, ◌≤◌, ◌<◌}
use native.Mathlib.Omega.{arith}
use mathlib.Core.Path.{◌≡◌, sym, ap, ◌∙◌}
use mathlib.Core.Bool.{true, ◌&&◌}
use mathlib.Core.List.{List}
use lib.ListN.{length, get_or, replicate, length-replicate}
use lib.Arith.{digits_lt}
use lib.Dec.{eqb, ltb, leb}
use borrow.Author.Tests.{ltb-true, leb-true}
use Rattle.definitions.specs.Limits.{max_side, is_side, max_entries, numbers_per_span, numbers_per_boundary, numbers_per_anchor, numbers_per_row}
use Rattle.definitions.specs.Grid.{Map, map_of}
use Rattle.definitions.specs.RegionRecord.{empty_region}
use Rattle.definitions.specs.Context.{context_of}
use Rattle.definitions.specs.Refusals.{is_whole, anchors_fault, partition_room, output_room}
use Rattle.definitions.specs.Verdict.{Lent, Answer, map_in, verdict}
use Rattle.laws.specs.ListLaws.Tests.{both}
use Rattle.laws.specs.ListLaws.NoFault.{no_fault_lem, none_faulty}
use Rattle.laws.specs.TableLaws.AcceptedCalls.{Accepted, accepted}
use Rattle.laws.specs.FloatLaws.MapPixels.{side-bounds}
use Rattle.laws.specs.RustContext.SoundContext.{Sound}
use Rattle.laws.specs.RustContext.SoundMaps.{map-sound}
use Rattle.laws.specs.RustContext.CheckedContext.{Checked}
use Rattle.laws.specs.RustContext.CheckedMaps.{map-checked}
use Rattle.laws.specs.RustPasses.Accepted.{accepted-narrow, accepted-finite, accepted-checked}
use Rattle.areas.specs.Fit.{Fit}
use Rattle.context.specs.Anchors.{anchor_cell}
use Rattle.call_partition.specs.Early.{early_refusal}
use Rattle.call_partition.specs.Contract.{given}
use Rattle.call_partition.specs.Prepared.{ReadyAs}
use Rattle.call_partition.proofs.EarlyFits.{early-fits}
use Rattle.call_partition.proofs.Exits.{verdict-kept}

module _ {pass w h : ℕ} {cells spans boundaries anchors : List ℕ} {room output : ℕ} {l m q t p : List ℕ} {regions rows : ℕ} {l' m' q' t' p' : List ℕ}
    (R : ReadyAs pass w h cells spans boundaries anchors room output l m q t p regions rows l' m' q' t' p') where
  abbrev M : Map
  M = map_of w h cells spans boundaries anchors

  -- the call with some records and output of these lengths
  abbrev L : Lent
  L = given pass w h cells spans boundaries anchors l m q t p (replicate room empty_region) (replicate output 0)

  passes : (verdict L).number ≡ 0
  passes =
      ap (λ (a : Answer). a.number)
      (verdict-kept pass w h cells spans boundaries anchors l m q t p (replicate room empty_region) (replicate output 0)
      (R.accepted ∙ ap (early_refusal pass w h cells spans boundaries anchors (length l) (length m) (length q) (length t)) (sym (length-replicate {A = ℕ} output 0)))
      (omega (arith, R.enough, length-replicate room empty_region)) R.fits)

  pub ready-accepted : Accepted L
  ready-accepted = accepted L passes

  -- ---- the sizes

  pub ready-sides : (is_side w ≡ true) × (is_side h ≡ true)
  ready-sides = both (is_side w) (is_side h) (no_fault_lem (is_side w && is_side h) 0 ready-accepted.sides)

  pub ready-fit : Fit w h cells spans (length l) (length m) (length q) (length t)
  ready-fit = early-fits pass w h cells spans boundaries anchors (length l) (length m) (length q) (length t) output (sym R.accepted)

  -- at most 256 boundaries, with room for a row each
  pub boundaries-few : length boundaries / numbers_per_boundary ≤ max_entries
  boundaries-few =
      let two = both (is_whole numbers_per_span spans && is_whole numbers_per_boundary boundaries) (is_whole numbers_per_anchor anchors) ready-accepted.whole in
      let one = both (is_whole numbers_per_span spans) (is_whole numbers_per_boundary boundaries) two.0 in
      leb-true (length boundaries / numbers_per_boundary) max_entries (both (eqb (length boundaries % numbers_per_boundary) 0) (leb (length boundaries / numbers_per_boundary) max_entries) one.1).1

  pub output-fits : numbers_per_row * (length boundaries / numbers_per_boundary) ≤ output
  output-fits =
      let r = both (partition_room (w * h) (length spans / numbers_per_span) (length l) (length m) (length q) (length t)) (output_room (length boundaries / numbers_per_boundary) (length (replicate output 0))) ready-accepted.room in
      omega (arith, leb-true (numbers_per_row * (length boundaries / numbers_per_boundary)) (length (replicate output 0)) r.1, length-replicate {A = ℕ} output 0)

  -- ---- the anchors

  anchor-within : (i : ℕ) → i < length anchors / numbers_per_anchor → (get_or anchors (numbers_per_anchor * i) 0 < w) × (get_or anchors (numbers_per_anchor * i + 1) 0 < h)
  unfolding anchors_fault
  anchor-within i k =
      let b = both (ltb (get_or anchors (numbers_per_anchor * i) 0) w) (ltb (get_or anchors (numbers_per_anchor * i + 1) 0) h)
      (none_faulty (λ i. ltb (get_or anchors (numbers_per_anchor * i) 0) w && ltb (get_or anchors (numbers_per_anchor * i + 1) 0) h) (length anchors / numbers_per_anchor) ready-accepted.anchors i k) in
      (ltb-true (get_or anchors (numbers_per_anchor * i) 0) w b.0, ltb-true (get_or anchors (numbers_per_anchor * i + 1) 0) h b.1)

  pub anchor-column : (i : ℕ) → i < length anchors / numbers_per_anchor → get_or anchors (numbers_per_anchor * i) 0 < max_side
  anchor-column i k = omega (arith, (anchor-within i k).0, (side-bounds w ready-sides.0).1)

  pub anchor-row : (i : ℕ) → i < length anchors / numbers_per_anchor → get_or anchors (numbers_per_anchor * i + 1) 0 < max_side
  anchor-row i k = omega (arith, (anchor-within i k).1, (side-bounds h ready-sides.1).1)

  pub anchor-on_grid : (i : ℕ) → i < length anchors / numbers_per_anchor → anchor_cell w anchors i < h * w
  anchor-on_grid i k = digits_lt (anchor-within i k).1 (anchor-within i k).0

  -- ---- the context, as the passes ask it

  pub ready-sound : Sound (context_of M)
  unfolding map_in
  ready-sound = map-sound M (accepted-finite L passes)

  pub ready-checked : Checked (context_of M)
  unfolding map_in
  ready-checked = map-checked M (accepted-narrow L passes) (accepted-checked L passes)
