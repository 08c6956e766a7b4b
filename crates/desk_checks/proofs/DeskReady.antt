-- From the terrain to a desk: where the terrain is prepared and the desk's own checks pass, the call with its lists alone is prepared as well, by the same
-- lists. The partition reads neither boundaries nor anchors. Assumes nothing.
use Prim.Native.Nat.{ℕ, ◌*◌, ◌/◌, ◌≤◌}
use mathlib.Core.Path.{◌≡◌, sym, ap, ap₂, ◌∙◌, subst}
use mathlib.Core.Bool.{true, ◌&&◌}
use Rattle.std.specs.Prelude.{None}
use mathlib.Core.List.{List, []}
use lib.ListN.{length, get_or, replicate, length-replicate}
use native.Mathlib.Omega.{arith}
use Rattle.definitions.specs.Limits.{numbers_per_span, numbers_per_boundary, numbers_per_anchor, numbers_per_pair}
use Rattle.definitions.specs.Grid.{map_of, cell_count}
use Rattle.definitions.specs.Lists.{overwrite}
use Rattle.definitions.specs.RegionRecord.{empty_region}
use Rattle.definitions.specs.Refusals.{or_else, unless, is_whole, partition_room, output_room}
use Rattle.definitions.specs.Verdict.{Answer, refusal}
use Rattle.laws.specs.ListLaws.Tests.{both}
use Rattle.laws.specs.TableLaws.AcceptedCalls.{Accepted, accepted}
use Rattle.row_runs.specs.Contract.{Link, Chain, ended, linked}
use Rattle.call_partition.specs.Early.{sizes_refusal, entries_refusal, early_refusal}
use Rattle.call_partition.specs.Contract.{given}
use Rattle.call_partition.specs.Prepared.{ReadyAs}
use Rattle.call_partition.proofs.Exits.{verdict-kept}
use Rattle.desks.specs.Desks.{own_refusal}
use Rattle.desks.specs.Terrain.{regions_same, labels_same, rows_same, tallies_same}
use Rattle.desks.proofs.Alone.{own-passed, all_three}

module _ (w h : ℕ) (cells spans boundaries anchors : List ℕ) where
  -- the queue's chain
  link_same : {q : List ℕ} {c e : ℕ} → Link (map_of w h cells spans [] []) q c e → Link (map_of w h cells spans boundaries anchors) q c e
  unfolding cell_count map_of
  link_same {c = c} k =
      record {
        next = k.next;
        more = k.more;
        inside = k.inside;
        row = k.row;
        alike = λ d l m. subst (λ ls. get_or ls d 0 ≡ get_or ls c 0) (sym (labels_same w h cells spans boundaries anchors)) (k.alike d l m);
      }

  chain_same : {q : List ℕ} {c : ℕ} → Chain (map_of w h cells spans [] []) q c → Chain (map_of w h cells spans boundaries anchors) q c
  unfolding cell_count map_of
  chain_same ended = ended
  chain_same (linked k r) = linked (link_same k) (chain_same r)

module _ {w h : ℕ} {cells spans : List ℕ} {room : ℕ} {l m q t p : List ℕ} {regions rows : ℕ} {l' m' q' t' p' : List ℕ}
    (R : ReadyAs 1 w h cells spans [] [] room 0 l m q t p regions rows l' m' q' t' p') where
  -- no check of the table refuses the terrain
  terrain-accepted : Accepted (given 1 w h cells spans [] [] l m q t p (replicate room empty_region) [])
  terrain-accepted =
      accepted _
      (ap (λ (a : Answer). a.number)
      (verdict-kept 1 w h cells spans [] [] l m q t p (replicate room empty_region) [] R.accepted (omega (arith, R.enough, length-replicate room empty_region)) R.fits))

  module _ (pass : ℕ) (boundaries anchors : List ℕ) (output : ℕ) (passed : own_refusal w h spans pass boundaries anchors output ≡ None) where
    early-passed : early_refusal pass w h cells spans boundaries anchors (length l) (length m) (length q) (length t) output ≡ None
    unfolding early_refusal sizes_refusal entries_refusal
    early-passed =
        let c = terrain-accepted in
        let d = own-passed w h spans pass boundaries anchors output passed in
        let span : is_whole numbers_per_span spans ≡ true = (both (is_whole numbers_per_span spans) true (both (is_whole numbers_per_span spans && true) true c.whole).0).0 in
        let whole = all_three (is_whole numbers_per_span spans) (is_whole numbers_per_boundary boundaries) (is_whole numbers_per_anchor anchors) span d.three in
        let shared = (both (partition_room (w * h) (length spans / numbers_per_span) (length l) (length m) (length q) (length t)) true c.room).0 in
        let room : (partition_room (w * h) (length spans / numbers_per_span) (length l) (length m) (length q) (length t) && output_room (length boundaries / numbers_per_boundary) output) ≡ true = ap₂ ◌&&◌ shared d.ten in
        λ i.
        or_else
        (or_else (refusal 1 (c.sides i)) (or_else (refusal 2 (c.cells i)) (or_else (refusal 3 (unless (whole i))) (d.four i))))
        (or_else (or_else (c.spans i) (or_else (d.seven i) (or_else (d.eight i) (refusal 9 (c.elevations i))))) (refusal 10 (unless (room i))))

    pub desk-ready : ReadyAs pass w h cells spans boundaries anchors room output l m q t p regions rows l' m' q' t' p'
    desk-ready =
        let same_rows = sym (rows_same w h cells spans boundaries anchors) in
        record {
          accepted = sym early-passed;
          count = R.count ∙ sym (regions_same w h cells spans boundaries anchors);
          enough = subst (λ n. n ≤ room) (sym (regions_same w h cells spans boundaries anchors)) R.enough;
          filled = R.filled ∙ ap (λ x. overwrite x l) (sym (labels_same w h cells spans boundaries anchors));
          masks = R.masks;
          chain = chain_same w h cells spans boundaries anchors R.chain;
          queue = R.queue;
          tallied = R.tallied ∙ ap (λ x. overwrite x t) (sym (tallies_same w h cells spans boundaries anchors));
          fits = subst (λ x. length x ≤ length p / numbers_per_pair * numbers_per_pair) same_rows R.fits;
          row_count_lem = R.row_count_lem ∙ ap length same_rows;
          paired = R.paired ∙ ap (λ x. overwrite x p) same_rows;
        }
