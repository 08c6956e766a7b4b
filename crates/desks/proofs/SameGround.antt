-- What decides the answer to a desk and its output: the shared sides, cells and spans, how long the shared lists are, and its own pass and lists. What the shared lists
-- held does not, nor does the other desk. Assumes nothing.
use Rattle.std.specs.Prelude.{ℕ, ◌*◌, ◌/◌, ◌≡◌, refl, List, [], length, leb, Option}
use Rattle.std.proofs.Common.{sym, ap₂, ◌∙◌}
use Rattle.definitions.specs.Limits.{numbers_per_span, numbers_per_pair}
use Rattle.definitions.specs.Grid.{map_of}
use Rattle.definitions.specs.Partition.{region_count}
use Rattle.definitions.specs.Context.{context_of}
use Rattle.definitions.specs.Rows.{rows_of, flat_rows}
use Rattle.definitions.specs.Refusals.{Refusal, or_else, unless, sides_fault, cells_fault, is_whole, spans_refusal, elevations_fault, partition_room}
use Rattle.definitions.specs.Verdict.{Answer, map_in, refusal, records_fault, pair_rows_of, pairs_fault}
use Rattle.desks.specs.Desks.{Shared, Desk, alone, shared_refusal, own_refusal, desk_refusal, first_of, answer_from, desk_answer, output_from, desk_output, Served}

-- "the shared sides, cells, spans and list lengths"
pub record SameGround (S S' : Shared) : Type 0 where
  pub width : S.width ≡ S'.width
  pub height : S.height ≡ S'.height
  pub cells : S.cells ≡ S'.cells
  pub spans : S.spans ≡ S'.spans
  pub labels : length S.labels ≡ length S'.labels
  pub masks : length S.masks ≡ length S'.masks
  pub queue : length S.queue ≡ length S'.queue
  pub tallies : length S.tallies ≡ length S'.tallies
  pub pairs : length S.pairs ≡ length S'.pairs
  pub records : length S.records ≡ length S'.records

pub same_ground : (S : Shared) → SameGround S S
same_ground S =
    record { width = refl; height = refl; cells = refl; spans = refl; labels = refl; masks = refl; queue = refl; tallies = refl; pairs = refl; records = refl }

-- the shared refusal, by lengths
abbrev refusal_by : ℕ → ℕ → List ℕ → List ℕ → ℕ → ℕ → ℕ → ℕ → ℕ → ℕ → Option Refusal
refusal_by w h cells spans l m q t p r =
    or_else (refusal 1 (sides_fault w h))
    (or_else (refusal 2 (cells_fault w h cells))
    (or_else (refusal 3 (unless (is_whole numbers_per_span spans)))
    (or_else (spans_refusal w h spans)
    (or_else (refusal 9 (elevations_fault cells))
    (or_else (refusal 10 (unless (partition_room (w * h) (length spans / numbers_per_span) l m q t)))
    (or_else (refusal 11 (unless (leb (region_count (map_of w h cells spans [] [])) r)))
    (refusal 12 (unless (leb (length (pair_rows_of (context_of (map_of w h cells spans [] [])))) (p / numbers_per_pair * numbers_per_pair))))))))))

shared_by : (S : Shared)
    → shared_refusal S
    ≡ refusal_by S.width S.height S.cells S.spans (length S.labels) (length S.masks) (length S.queue) (length S.tallies) (length S.pairs) (length S.records)
unfolding shared_refusal records_fault pairs_fault map_in
shared_by S = refl

module _ {S S' : Shared} (g : SameGround S S') where
  pub shared_same : shared_refusal S ≡ shared_refusal S'
  shared_same =
      shared_by S
      ∙ (λ i. refusal_by (g.width i) (g.height i) (g.cells i) (g.spans i) (g.labels i) (g.masks i) (g.queue i) (g.tallies i) (g.pairs i) (g.records i))
      ∙ sym (shared_by S')

  module _ (D : Desk) where
    pub own_same : desk_refusal S D ≡ desk_refusal S' D
    own_same = λ i. own_refusal (g.width i) (g.height i) (g.spans i) D.pass D.boundaries D.anchors (length D.output)

    first_same : first_of S D ≡ first_of S' D
    first_same = ap₂ or_else shared_same own_same

    rows_decided : rows_of D.pass (map_in (alone S D)) ≡ rows_of D.pass (map_in (alone S' D))
    unfolding map_in
    rows_decided = λ i. rows_of D.pass (map_of (g.width i) (g.height i) (g.cells i) (g.spans i) D.boundaries D.anchors)

    answer_same : desk_answer S D ≡ desk_answer S' D
    unfolding desk_answer
    answer_same = λ i. answer_from (first_same i) (length (rows_decided i))

    output_same : desk_output S D ≡ desk_output S' D
    unfolding desk_output
    output_same = λ i. output_from (first_same i) (flat_rows (rows_decided i)) D.output

  -- two calls with this desk, in whatever place and order, beside whatever other desk
  pub served_same : {D : Desk} {a a' : Answer} {o o' : List ℕ} → Served S D a o → Served S' D a' o' → (a ≡ a') × (o ≡ o')
  served_same {D} x y = (x.answer ∙ answer_same D ∙ sym y.answer, x.output ∙ output_same D ∙ sym y.output)
