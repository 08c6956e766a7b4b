-- The ranked list of what pass 3 proposes: what `list_ranked` asks is at hand, and its rows are those of the context. Assumes nothing.
use Prim.Native.Nat.{ℕ, ◌≤◌}
use native.Mathlib.Omega.{arith}
use mathlib.Core.Path.{◌≡◌, ap, ◌∙◌}
use mathlib.Core.Bool.{Bool}
use Rattle.std.specs.Prelude.{Option}
use mathlib.Core.List.{List, map}
use lib.ListN.{length, take, drop}
use Rattle.definitions.specs.Context.{Context}
use Rattle.context.specs.declared.Region.{Region}
use Rattle.region_pairs.specs.declared.Pair.{Pair}
use Rattle.junction_proposals.specs.declared.proposals.Candidate.{Candidate}
use Rattle.junction_proposals.specs.Rows.{max_proposals}
use Rattle.ranked_list.specs.RankedList.{ranked_rows, flat_ranked}
use Rattle.ranked_rows.specs.Contract as rows
use Rattle.ranked_rows.specs.declared.RankedRow.{RankedRow}
use Rattle.ranked_rows.specs.Contract.{listed_form, row_numbers, allowed_list}
use Rattle.ranked_rows.proofs.Listed.{listed_is}
use Rattle.topology.specs.Proposals.{Passes, Proposed, Removes}
use Rattle.topology.specs.Ranked.{Ranked}

module _ {C : Context} {records : List Region} {boundaries : List ℕ} {full : List (Option Pair)} {counts marks : List ℕ} {proposed : List Candidate} {allowed : List Bool} {count regions n : ℕ}
    (h : Passes C records boundaries full counts marks count regions) (p : Proposed C count regions proposed allowed n) where
  pub pass-allowed : {listed : ℕ} → n ≡ length proposed → max_proposals ≤ listed → rows.Allowed boundaries proposed allowed listed count
  pass-allowed whole room =
      record {
        few = omega (arith, p.few, whole);
        long = omega (arith, h.shown.bounds.long, h.shown.counted);
        small = omega (arith, h.shown.bounds.few, h.shown.counted);
        below = λ k l. (p.fits k (omega (arith, l, whole))).index_in;
        judged = omega (arith, p.few, p.judged.long, whole);
        room = room;
      }

  are-ranked : allowed_list full count boundaries proposed allowed n ≡ ranked_rows C
  are-ranked = listed_is boundaries full counts marks proposed allowed count regions n C h.shown p.are p.judged.at

  pub pass-ranked : {marked : List Bool} {was listed : List RankedRow} {k : ℕ} → Removes C count marked → k ≤ length listed
      → map listed_form (take k listed) ≡ allowed_list full count boundaries proposed allowed n
      → row_numbers (take k listed) ≡ flat_ranked (allowed_list full count boundaries proposed allowed n) → drop k listed ≡ drop k was → Ranked C count marked was listed k
  pass-ranked removes within list numbers rest =
      record { removes = removes; lists = record { within = within; list = list ∙ are-ranked; numbers = numbers ∙ ap flat_ranked are-ranked; rest = rest } }
