-- The table of refusals as one function: the answer to every input of the call that runs a pass and of the partition alone (SPECIFICATION 3 and
-- 4). The lists at exit stand in AtExit.antt, the hypotenuse's answer in Hypotenuse.antt, the sheet reader's in Sheet.antt. Assumes nothing.
use Rattle.std.specs.Prelude.{ℕ, ◌*◌, ◌/◌, Bool, ◌&&◌, List, [], ◌∷◌, length, leb, Option, None, Some}
use Rattle.definitions.specs.Limits.{numbers_per_span, numbers_per_boundary, numbers_per_anchor, numbers_per_pair}
use Rattle.definitions.specs.Scan.{gather, concat_map}
use Rattle.definitions.specs.Grid.{Map, map_of}
use Rattle.definitions.specs.Partition.{region_count}
use Rattle.definitions.specs.RegionRecord.{Region}
use Rattle.definitions.specs.Context.{Context, context_of}
use Rattle.definitions.specs.Rows.{rows_of}
use Rattle.definitions.specs.Refusals.{Refusal, unless, sides_fault, cells_fault, is_whole, pass_fault, spans_refusal, boundaries_fault, anchors_fault, elevations_fault, partition_room, output_room}

-- ---- what is lent

-- To the call that runs a pass. The partition alone has no pass, boundaries, anchors, records or output; these are 0 and [] there.
pub record Lent : Type 0 where
  pub pass : ℕ
  pub width : ℕ
  pub height : ℕ
  pub cells : List ℕ
  pub spans : List ℕ
  pub boundaries : List ℕ
  pub anchors : List ℕ
  pub labels : List ℕ
  pub masks : List ℕ
  pub queue : List ℕ
  pub tallies : List ℕ
  pub pairs : List ℕ
  pub records : List Region
  pub output : List ℕ

unfoldable pub map_in : Lent → Map
unfolding map_of
map_in L = map_of L.width L.height L.cells L.spans L.boundaries L.anchors

-- ---- the answer

-- number 0 and a count, or a refusal's number and place
pub record Answer : Type 0 where
  pub number : ℕ
  pub value : ℕ

abbrev pub refusal : ℕ → Option ℕ → Option Refusal
refusal number None = None
refusal number (Some place) = Some (record { number = number; place = place })

-- "Checks follow the numbers": the first refusal of the list, or success with this count
abbrev pub first_refusal : List (Option Refusal) → ℕ → Answer
first_refusal [] count = record { number = 0; value = count }
first_refusal (None ∷ l) count = first_refusal l count
first_refusal (Some r ∷ l) count = record { number = r.number; value = r.place }

-- 11: "more regions than records"
unfoldable pub records_fault : Lent → Map → Option ℕ
unfolding region_count
records_fault L M = unless (leb (region_count M) (length L.records))

-- "pairs (rows of span, smaller, larger)"
unfoldable pub pair_rows_of : Context → List ℕ
unfolding gather concat_map
pair_rows_of C = gather C.count (λ s. concat_map (λ p. s ∷ p.lo ∷ p.hi ∷ []) (C.pairs s))

-- 12: "more pairs than rows"
unfoldable pub pairs_fault : Lent → Map → Option ℕ
unfolding pair_rows_of context_of
pairs_fault L M = unless (leb (length (pair_rows_of (context_of M))) (length L.pairs / numbers_per_pair * numbers_per_pair))

abbrev pub partition_has_room : Lent → Bool
partition_has_room L =
    partition_room (L.width * L.height) (length L.spans / numbers_per_span) (length L.labels) (length L.masks) (length L.queue) (length L.tallies)

-- The call that runs a pass: "Success returns 0 and the count of rows kept".
unfoldable pub verdict : Lent → Answer
unfolding map_in spans_refusal boundaries_fault anchors_fault elevations_fault records_fault pairs_fault rows_of
verdict L =
    let w = L.width in
    let h = L.height in
    let M = map_in L in
    let eleven = refusal 11 (records_fault L M) in
    let twelve = refusal 12 (pairs_fault L M) in
    let kept = length (rows_of L.pass M) in
    first_refusal
    (refusal 1 (sides_fault w h)
    ∷ refusal 2 (cells_fault w h L.cells)
    ∷ refusal 3 (unless (is_whole numbers_per_span L.spans && is_whole numbers_per_boundary L.boundaries && is_whole numbers_per_anchor L.anchors))
    ∷ refusal 4 (pass_fault L.pass)
    ∷ spans_refusal w h L.spans
    ∷ refusal 7 (boundaries_fault w h L.boundaries)
    ∷ refusal 8 (anchors_fault w h L.anchors)
    ∷ refusal 9 (elevations_fault L.cells)
    ∷ refusal 10 (unless (partition_has_room L && output_room (length L.boundaries / numbers_per_boundary) (length L.output)))
    ∷ eleven
    ∷ twelve
    ∷ [])
    kept

-- "Partitioning alone skips 4, 7, 8 and 9 and needs no output or records, so 11 can't arise there"; success returns the count of regions.
unfoldable pub partition_verdict : Lent → Answer
unfolding map_in spans_refusal pairs_fault region_count
partition_verdict L =
    let w = L.width in
    let h = L.height in
    let M = map_in L in
    let twelve = refusal 12 (pairs_fault L M) in
    let regions = region_count M in
    first_refusal
    (refusal 1 (sides_fault w h)
    ∷ refusal 2 (cells_fault w h L.cells)
    ∷ refusal 3 (unless (is_whole numbers_per_span L.spans))
    ∷ spans_refusal w h L.spans
    ∷ refusal 10 (unless (partition_has_room L))
    ∷ twelve
    ∷ [])
    regions
