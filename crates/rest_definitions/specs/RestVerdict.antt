-- The answer of the call that runs to rest, to every input (document 02, request 4; SPECIFICATION 4). Refusals 5 to 9 name entries of the lists as lent;
-- 11 and 12 come of the first pass alone, since no later pass has more regions or more pairs (`FewerPairs.antt`). Definitions only. Assumes nothing.
use Rattle.std.specs.Prelude.{ℕ, ◌*◌, ◌/◌, max, Bool, ◌&&◌, cond, List, [], ◌∷◌, length, eqb, ltb, Option}
use Rattle.definitions.specs.Limits.{numbers_per_span, numbers_per_boundary, numbers_per_anchor}
use Rattle.definitions.specs.Grid.{Position, segment_at}
use Rattle.definitions.specs.Refusals.{first_below_lem, first_faulty, unless, sides_fault, cells_fault, is_whole, spans_refusal, boundaries_fault, anchors_fault, elevations_fault, output_room}
use Rattle.definitions.specs.Verdict.{Lent, Answer, map_in, refusal, first_refusal, records_fault, pairs_fault, partition_has_room}
use Rattle.rest_definitions.specs.RowOrder.{start_map}
use Rattle.rest_definitions.specs.Rest.{rounds_of, rest_rows}

abbrev pub same_point_lem : Position → Position → Bool
same_point_lem p q = eqb p.x q.x && eqb p.y q.y

-- 16: "if span and boundary lists differ in count or in any endpoint, at the first differing entry". Endpoints compare as written; an entry that only one
-- list has differs.
unfoldable pub lists_fault : List ℕ → List ℕ → Option ℕ
unfolding first_below_lem
lists_fault spans boundaries =
    let n = length spans / numbers_per_span in
    let m = length boundaries / numbers_per_boundary in
    first_faulty (max n m)
    (λ i.
    let s = segment_at spans (numbers_per_span * i) in
    let b = segment_at boundaries (numbers_per_boundary * i) in
    ltb i n && ltb i m && same_point_lem s.a b.a && same_point_lem s.b b.b)

-- number 0, how many rows are kept, and the rounds; or a refusal's number and place, and no round
pub record RestAnswer : Type 0 where
  pub number : ℕ
  pub value : ℕ
  pub rounds : ℕ

abbrev pub with_rounds : Answer → ℕ → RestAnswer
with_rounds a rounds = record { number = a.number; value = a.value; rounds = cond (eqb a.number 0) rounds 0 }

-- There is no pass to ask for; 16 stands "in place of 4".
unfoldable pub rest_verdict : Lent → RestAnswer
unfolding map_in lists_fault spans_refusal boundaries_fault anchors_fault elevations_fault records_fault pairs_fault start_map rounds_of rest_rows
rest_verdict L =
    let w = L.width in
    let h = L.height in
    let M = map_in L in
    let first = start_map M in
    let sixteen = refusal 16 (lists_fault L.spans L.boundaries) in
    let eleven = refusal 11 (records_fault L first) in
    let twelve = refusal 12 (pairs_fault L first) in
    let kept = length (rest_rows M) in
    with_rounds
    (first_refusal
    (refusal 1 (sides_fault w h)
    ∷ refusal 2 (cells_fault w h L.cells)
    ∷ refusal 3 (unless (is_whole numbers_per_span L.spans && is_whole numbers_per_boundary L.boundaries && is_whole numbers_per_anchor L.anchors))
    ∷ sixteen
    ∷ spans_refusal w h L.spans
    ∷ refusal 7 (boundaries_fault w h L.boundaries)
    ∷ refusal 8 (anchors_fault w h L.anchors)
    ∷ refusal 9 (elevations_fault L.cells)
    ∷ refusal 10 (unless (partition_has_room L && output_room (length L.boundaries / numbers_per_boundary) (length L.output)))
    ∷ eleven
    ∷ twelve
    ∷ [])
    kept)
    (rounds_of M)
