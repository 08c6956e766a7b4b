-- Two desks over one partition (document 02, request 9): what they share, what is a desk's own, the answer to each desk and every list at exit. Quotations are of the
-- request. Assumes nothing.
use Rattle.std.specs.Prelude.{ℕ, ◌*◌, ◌/◌, max, ◌≡◌, Bool, ◌&&◌, ◌||◌, List, [], length, eqb, ltb, Option, None, Some}
use Rattle.definitions.specs.Limits.{numbers_per_span, numbers_per_boundary, numbers_per_anchor}
use Rattle.definitions.specs.Grid.{Segment, segment_at}
use Rattle.definitions.specs.RegionRecord.{Region}
use Rattle.definitions.specs.Rows.{rows_of, flat_rows}
use Rattle.definitions.specs.Lists.{overwrite}
use Rattle.definitions.specs.Refusals.{Refusal, or_else, unless, first_below_lem, first_faulty, sides_fault, cells_fault, is_whole, pass_fault, spans_refusal, boundaries_fault, anchors_fault, elevations_fault, output_room}
use Rattle.definitions.specs.Verdict.{Lent, map_in, Answer, refusal, records_fault, pairs_fault, partition_has_room}
use Rattle.definitions.specs.AtExit.{call_exit}

-- ---- what is lent

-- to both: "the shared sides, cells, spans", and the lists that the partition fills
pub record Shared : Type 0 where
  pub width : ℕ
  pub height : ℕ
  pub cells : List ℕ
  pub spans : List ℕ
  pub labels : List ℕ
  pub masks : List ℕ
  pub queue : List ℕ
  pub tallies : List ℕ
  pub pairs : List ℕ
  pub records : List Region

-- to one: "its own pass and lists"
pub record Desk : Type 0 where
  pub pass : ℕ
  pub boundaries : List ℕ
  pub anchors : List ℕ
  pub output : List ℕ

-- the call of a pass "with its lists alone"
abbrev pub alone : Shared → Desk → Lent
alone S D =
    record {
      pass = D.pass;
      width = S.width;
      height = S.height;
      cells = S.cells;
      spans = S.spans;
      boundaries = D.boundaries;
      anchors = D.anchors;
      labels = S.labels;
      masks = S.masks;
      queue = S.queue;
      tallies = S.tallies;
      pairs = S.pairs;
      records = S.records;
      output = D.output;
    }

-- The terrain: the call with no boundaries, no anchors and no output. (Its pass, of which nothing turns, is 1.)
abbrev pub nobody : Desk
nobody = record { pass = 1; boundaries = []; anchors = []; output = [] }

abbrev pub terrain : Shared → Lent
terrain S = alone S nobody

-- ---- refusals

-- "a refusal over the shared lists comes first": 1, 2, 3 of the spans, 5 and 6, 9, 10 of the shared lists, 11, 12
unfoldable pub shared_refusal : Shared → Option Refusal
unfolding spans_refusal elevations_fault map_in records_fault pairs_fault
shared_refusal S =
    or_else (refusal 1 (sides_fault S.width S.height))
    (or_else (refusal 2 (cells_fault S.width S.height S.cells))
    (or_else (refusal 3 (unless (is_whole numbers_per_span S.spans)))
    (or_else (spans_refusal S.width S.height S.spans)
    (or_else (refusal 9 (elevations_fault S.cells))
    (or_else (refusal 10 (unless (partition_has_room (terrain S))))
    (or_else (refusal 11 (records_fault (terrain S) (map_in (terrain S)))) (refusal 12 (pairs_fault (terrain S) (map_in (terrain S))))))))))

abbrev pub same_ends : Segment → Segment → Bool
same_ends s t = eqb s.a.x t.a.x && eqb s.a.y t.a.y && eqb s.b.x t.b.x && eqb s.b.y t.b.y

abbrev pub turned : Segment → Segment
turned s = record { a = s.b; b = s.a }

-- "its shared span up to endpoint order"
abbrev pub is_span : Segment → Segment → Bool
is_span s t = same_ends s t || same_ends s (turned t)

-- 20: "if a desk's boundary is not its shared span up to endpoint order, or one of them is missing, at the first such number"
unfoldable pub desk_fault : List ℕ → List ℕ → Option ℕ
unfolding first_below_lem
desk_fault spans boundaries =
    let spanned = length spans / numbers_per_span in
    let bounded = length boundaries / numbers_per_boundary in
    first_faulty (max spanned bounded)
    (λ i. ltb i spanned && ltb i bounded && is_span (segment_at boundaries (numbers_per_boundary * i)) (segment_at spans (numbers_per_span * i)))

-- a desk's own: 3 of boundaries and anchors, 4, 7, 20 ("after 7"), 8, 10 of the output, which is so long
unfoldable pub own_refusal : ℕ → ℕ → List ℕ → ℕ → List ℕ → List ℕ → ℕ → Option Refusal
unfolding boundaries_fault anchors_fault desk_fault
own_refusal w h spans pass boundaries anchors output =
    or_else (refusal 3 (unless (is_whole numbers_per_boundary boundaries && is_whole numbers_per_anchor anchors)))
    (or_else (refusal 4 (pass_fault pass))
    (or_else (refusal 7 (boundaries_fault w h boundaries))
    (or_else (refusal 20 (desk_fault spans boundaries))
    (or_else (refusal 8 (anchors_fault w h anchors)) (refusal 10 (unless (output_room (length boundaries / numbers_per_boundary) output)))))))

abbrev pub desk_refusal : Shared → Desk → Option Refusal
desk_refusal S D = own_refusal S.width S.height S.spans D.pass D.boundaries D.anchors (length D.output)

-- the first of these
abbrev pub first_of : Shared → Desk → Option Refusal
first_of S D = or_else (shared_refusal S) (desk_refusal S D)

-- ---- answers and lists at exit

abbrev pub answer_from : Option Refusal → ℕ → Answer
answer_from None count = record { number = 0; value = count }
answer_from (Some r) count = record { number = r.number; value = r.place }

-- the answer to a desk: a refusal, or how many rows are kept. The other desk does not occur.
unfoldable pub desk_answer : Shared → Desk → Answer
unfolding shared_refusal own_refusal rows_of map_in
desk_answer S D = answer_from (first_of S D) (length (rows_of D.pass (map_in (alone S D))))

abbrev pub output_from : Option Refusal → List ℕ → List ℕ → List ℕ
output_from None new old = overwrite new old
output_from (Some r) new old = old

-- its output: the rows kept, or "as it was"
unfoldable pub desk_output : Shared → Desk → List ℕ
unfolding shared_refusal own_refusal rows_of flat_rows map_in
desk_output S D = output_from (first_of S D) (flat_rows (rows_of D.pass (map_in (alone S D)))) D.output

-- the shared lists, by the shared refusal alone: as the table has it for its number, or as on success. Neither desk occurs.
unfoldable pub shared_exit : Shared → Lent
unfolding call_exit shared_refusal
shared_exit S = call_exit (terrain S) (answer_from (shared_refusal S) 0).number

-- ---- the contract

-- a desk was answered a, and its output is o
pub record Served (S : Shared) (D : Desk) (a : Answer) (o : List ℕ) : Type 0 where
  pub answer : a ≡ desk_answer S D
  pub output : o ≡ desk_output S D

-- labels l, masks m, queue q, tallies t, pairs p and records s are the shared lists at exit
pub record LeftShared (S : Shared) (l m q t p : List ℕ) (s : List Region) : Type 0 where
  pub labels : l ≡ (shared_exit S).labels
  pub masks : m ≡ (shared_exit S).masks
  pub queue : q ≡ (shared_exit S).queue
  pub tallies : t ≡ (shared_exit S).tallies
  pub pairs : p ≡ (shared_exit S).pairs
  pub records : s ≡ (shared_exit S).records

-- A call with route desk A and coaching desk B, run in the order told, came back with answers a and b, outputs o and u, and these shared lists. The order is in none of
-- the equations.
pub record RanBoth (order : ℕ) (S : Shared) (A B : Desk) (a b : Answer) (l m q t p : List ℕ) (s : List Region) (o u : List ℕ) : Type 0 where
  pub route : Served S A a o
  pub coaching : Served S B b u
  pub shared : LeftShared S l m q t p s
