-- DEMAND 2 over calls, its labels and assessments: a call that met the contract and returned 0 holds in its lists the labels, tallies and pairs that the Rust's own
-- `partition_by_spans` gives for the map that it was lent, and so does a partition alone, which answers with as many regions as the Rust has areas. (The kept rows are `Call-rows`, RustRows.) The proof: the lists hold the
-- definitions' data, which are the Rust's (rust_partition, PartitionAsRust). Assumes nothing more.
use Rattle.std.specs.Prelude.{ℕ, ◌≡◌, List, [], ◌∷◌, length, Option, Result}
use Rattle.std.proofs.Common.{arith, sym, ap, ◌∙◌}
use Rattle.definitions.specs.Limits.{numbers_per_span}
use Rattle.definitions.specs.RegionRecord.{Region}
use Rattle.definitions.specs.Lists.{overwrite}
use Rattle.definitions.specs.Partition.{labels, region_count}
use Rattle.definitions.specs.Refusals.{Refusal, unless, sides_fault, cells_fault, is_whole, spans_refusal}
use Rattle.definitions.specs.Context.{context_of}
use Rattle.definitions.specs.Verdict.{Lent, Answer, map_in, pair_rows_of, refusal, pairs_fault, partition_has_room, partition_verdict}
use Rattle.definitions.specs.AtExit.{tallies_of, call_exit, partition_exit, exit_with, stage_of}
use Rattle.laws.specs.ListLaws.Lists.{All, done, more}
use Rattle.laws.specs.TableLaws.AcceptedCalls.{Numbered, refusal-numbered, spans-numbered, counted}
use Rattle.refusals.specs.declared.Refusal as code
use Rattle.refusals.specs.Answers.{answer_of}
use Rattle.areas.specs.Contract as alone
use Rattle.call_partition.specs.Contract.{Ran}
use Rattle.rust_partition.specs.Literal.PartitionBySpans.{SpanPartition, partition_by_spans, tallies_held, pair_rows_held}
use Rattle.rust_partition.proofs.PartitionAsRust.{Grid, call-grid, partition_grid, rust_labels, rust_areas, rust_tallies, rust_pairs}

-- labels l, tallies t and pairs p at exit, of lists that were lent: at their front the Rust's, and beyond as they were
pub record AsRust (L : Lent) (P : SpanPartition) (l t p : List ℕ) : Type 0 where
  pub labels : l ≡ overwrite P.labels L.labels
  pub tallies : t ≡ overwrite (tallies_held P) L.tallies
  pub pairs : p ≡ overwrite (pair_rows_held P) L.pairs

as_rust : (L : Lent) {l t p : List ℕ} → Grid (map_in L) → l ≡ overwrite (labels (map_in L)) L.labels → t ≡ overwrite (tallies_of (context_of (map_in L))) L.tallies → p ≡ overwrite (pair_rows_of (context_of (map_in L))) L.pairs → AsRust L (partition_by_spans (map_in L)) l t p
as_rust L G a b c =
    record {
      labels = a ∙ ap (λ x. overwrite x L.labels) (sym (rust_labels (map_in L) G));
      tallies = b ∙ ap (λ x. overwrite x L.tallies) (sym (rust_tallies (map_in L) G));
      pairs = c ∙ ap (λ x. overwrite x L.pairs) (sym (rust_pairs (map_in L) G));
    }

-- a call: lent, answer, and at exit labels, masks, queue, tallies, pairs, records and output
pub call_partition : {L : Lent} {a : Answer} {l m q t p : List ℕ} {s : List Region} {o : List ℕ} → Ran L a l m q t p s o → a.number ≡ 0 → AsRust L (partition_by_spans (map_in L)) l t p
unfolding call_exit exit_with stage_of
call_partition {L} ran success =
    as_rust L (call-grid L (ap (λ b. b.number) (sym ran.answer) ∙ success)) (ran.labels ∙ ap (λ n. (call_exit L n).labels) success) (ran.tallies ∙ ap (λ n. (call_exit L n).tallies) success)
    (ran.pairs ∙ ap (λ n. (call_exit L n).pairs) success)

-- a partition alone: lent, answer, and at exit labels, masks, queue, tallies and pairs
pub partition_alone : {L : Lent} {r : Result ℕ code.Refusal} {l m q t p : List ℕ} → alone.Ran L r l m q t p → (answer_of r).number ≡ 0 → AsRust L (partition_by_spans (map_in L)) l t p
unfolding partition_exit exit_with stage_of
partition_alone {L} ran success =
    as_rust L (partition_grid L (ap (λ b. b.number) (sym ran.answer) ∙ success)) (ran.labels ∙ ap (λ n. (partition_exit L n).labels) success)
    (ran.tallies ∙ ap (λ n. (partition_exit L n).tallies) success) (ran.pairs ∙ ap (λ n. (partition_exit L n).pairs) success)

-- ---- the count that a partition alone answers with

-- the checks of `partition_verdict`, in its order
abbrev checks : Lent → List (Option Refusal)
checks L =
    refusal 1 (sides_fault L.width L.height)
    ∷ refusal 2 (cells_fault L.width L.height L.cells)
    ∷ refusal 3 (unless (is_whole numbers_per_span L.spans))
    ∷ spans_refusal L.width L.height L.spans
    ∷ refusal 10 (unless (partition_has_room L))
    ∷ refusal 12 (pairs_fault L (map_in L))
    ∷ []

checks-numbered : (L : Lent) → All Numbered (checks L)
checks-numbered L =
    more (refusal-numbered 1 (sides_fault L.width L.height) (omega arith))
    (more (refusal-numbered 2 (cells_fault L.width L.height L.cells) (omega arith))
    (more (refusal-numbered 3 (unless (is_whole numbers_per_span L.spans)) (omega arith))
    (more (spans-numbered L.width L.height L.spans)
    (more (refusal-numbered 10 (unless (partition_has_room L)) (omega arith)) (more (refusal-numbered 12 (pairs_fault L (map_in L)) (omega arith)) done)))))

verdict-count : (L : Lent) → (partition_verdict L).number ≡ 0 → (partition_verdict L).value ≡ region_count (map_in L)
unfolding partition_verdict
verdict-count L h = counted (region_count (map_in L)) (checks-numbered L) h

pub partition_areas : {L : Lent} {r : Result ℕ code.Refusal} {l m q t p : List ℕ} → alone.Ran L r l m q t p → (answer_of r).number ≡ 0 → (answer_of r).value ≡ length (partition_by_spans (map_in L)).areas
partition_areas {L} ran success =
    let accepts : (partition_verdict L).number ≡ 0 = ap (λ b. b.number) (sym ran.answer) ∙ success in
    ap (λ b. b.value) ran.answer ∙ verdict-count L accepts ∙ sym (rust_areas (map_in L) (partition_grid L accepts))
