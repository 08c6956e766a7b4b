-- The contract of the call for two desks, over the lent records as they are declared, and the words of the contracts of its parts. Definitions only; assumes
-- nothing.
use Rattle.std.specs.Prelude.{ℕ, ◌*◌, ◌≡◌, List, [], map, length, drop}
use Rattle.definitions.specs.Grid.{map_of}
use Rattle.definitions.specs.Lists.{zeroed}
use Rattle.definitions.specs.Partition.{region_count}
use Rattle.context.specs.declared.Region.{Region}
use Rattle.context.specs.Records.{record_of}
use Rattle.call_partition.specs.Prepared.{ReadyAs}
use Rattle.desks.specs.Desks.{Shared, Desk, shared_refusal, answer_from, Served, RanBoth}
use Rattle.desk_checks.specs.Shared.{lent_both}
use Rattle.topology.specs.Filled.{Filled}
use Rattle.refusals.specs.Answers.{answer_in}
use Rattle.definitions.specs.Verdict as verdict
use Rattle.topology.specs.Contract.{written}
use Rattle.call_answers.specs.declared.desk_answers.DesksAnswer.{DesksAnswer}
use Rattle.topology.specs.declared.two_desks.SharedTerrain.{SharedTerrain}
use Rattle.desk_checks.specs.declared.own.Desk as lent

abbrev pub desk_of : ℕ → List ℕ → List ℕ → List ℕ → Desk
desk_of pass boundaries anchors output = record { pass = pass; boundaries = boundaries; anchors = anchors; output = output }

-- the same of a desk as a function takes it, with its output
abbrev pub desk_in : lent.Desk → List ℕ → Desk
desk_in d output = desk_of d.pass d.boundaries.now d.anchors.now output

-- ---- what was lent before the partition: the cells, and the lists that both desks share

pub record Ground : Type 0 where
  pub cells : List ℕ
  pub labels : List ℕ
  pub masks : List ℕ
  pub queue : List ℕ
  pub tallies : List ℕ
  pub pairs : List ℕ
  pub records : List Region

abbrev pub shared_of : ℕ → ℕ → List ℕ → Ground → Shared
shared_of w h spans G = lent_both w h G.cells spans G.labels G.masks G.queue G.tallies G.pairs (map record_of G.records)

-- ---- between the parts

-- the terrain is partitioned: the call with no boundaries, no anchors and no output is prepared
pub record Partitioned (G : Ground) (w h : ℕ) (spans : List ℕ) (regions rows : ℕ) (l m q t p : List ℕ) : Type 0 where
  pub ready : ReadyAs 1 w h G.cells spans [] [] (length G.records) 0 G.labels G.masks G.queue G.tallies G.pairs regions rows l m q t p
  pub masks_long : length m ≡ length G.masks
  pub queue_long_lem : length q ≡ length G.queue

-- The records are filled, and masks and queue are zero over the needed length: all shared lists are as on success. (`masks` and `queue` are what the partition
-- left in them.)
pub record Terrain (G : Ground) (w h : ℕ) (spans : List ℕ) (regions rows : ℕ) (l m q t p : List ℕ) (s : List Region) : Type 0 where
  pub masks : List ℕ
  pub queue : List ℕ
  pub partitioned : Partitioned G w h spans regions rows l masks queue t p
  pub filled : Filled (map_of w h G.cells spans [] []) G.records s
  pub cleared : m ≡ zeroed (h * w) G.masks
  pub emptied : q ≡ zeroed (h * w) G.queue

-- the same of a struct of what is told of it, its records and the lists, in this order
abbrev pub TerrainIn : Ground → SharedTerrain → List Region → (l m q t p : List ℕ) → Type 0
TerrainIn G x s l m q t p = Terrain G x.asked.width x.asked.height x.asked.spans.now x.ready.regions x.ready.rows l m q t p s

-- a desk was served; masks and queue are as they were
pub record DeskRan (G : Ground) (w h : ℕ) (spans : List ℕ) (D : Desk) (m q : List ℕ) (a : verdict.Answer) (m' q' o' : List ℕ) : Type 0 where
  pub served : Served (shared_of w h spans G) D a o'
  pub same_masks : m' ≡ m
  pub same_queue : q' ≡ q

-- both were
pub record DesksRan (G : Ground) (w h : ℕ) (spans : List ℕ) (A B : Desk) (m q : List ℕ) (r : DesksAnswer) (m' q' o u : List ℕ) : Type 0 where
  pub route : Served (shared_of w h spans G) A (answer_in r.route) o
  pub coaching : Served (shared_of w h spans G) B (answer_in r.coaching) u
  pub same_masks : m' ≡ m
  pub same_queue : q' ≡ q

-- ---- the call

-- what is lent to it beside what each desk has of its own: the sides, the lists that it reads, and those that it fills, at entry
pub record LentBoth : Type 0 where
  pub width : ℕ
  pub height : ℕ
  pub cells : List ℕ
  pub spans : List ℕ
  pub labels : List ℕ
  pub masks : List ℕ
  pub queue : List ℕ
  pub tallies : List ℕ
  pub pairs : List ℕ
  pub records : List Region

-- the lists that it fills, at exit
pub record LeftBoth : Type 0 where
  pub labels : List ℕ
  pub masks : List ℕ
  pub queue : List ℕ
  pub tallies : List ℕ
  pub pairs : List ℕ
  pub records : List Region
  pub route_output_lem : List ℕ
  pub coaching_output_lem : List ℕ

-- both, of the lists one by one, in this order
abbrev pub lends_both : (w h : ℕ) (cells spans l m q t p : List ℕ) → List Region → LentBoth
lends_both w h cells spans l m q t p s =
    record { width = w; height = h; cells = cells; spans = spans; labels = l; masks = m; queue = q; tallies = t; pairs = p; records = s }

abbrev pub leaves-both : (l m q t p : List ℕ) → List Region → (o u : List ℕ) → LeftBoth
leaves-both l m q t p s o u = record { labels = l; masks = m; queue = q; tallies = t; pairs = p; records = s; route_output_lem = o; coaching_output_lem = u }

-- as the definitions have it: the records as `record_of` shows them
abbrev pub shared_lent : LentBoth → Shared
shared_lent L =
    lent_both L.width L.height L.cells L.spans L.labels L.masks L.queue L.tallies L.pairs (map record_of L.records)

-- how many records it writes
abbrev pub written_both : LentBoth → ℕ
written_both L = written (answer_from (shared_refusal (shared_lent L)) 0).number (region_count (map_of L.width L.height L.cells L.spans [] []))

-- Route desk A and coaching desk B; records that are not written are as they were, not only as `record_of` shows them.
pub record RanBothOver (order : ℕ) (L : LentBoth) (A B : Desk) (r : DesksAnswer) (E : LeftBoth) : Type 0 where
  pub ran :
      RanBoth order (shared_lent L) A B (answer_in r.route) (answer_in r.coaching)
      E.labels E.masks E.queue E.tallies E.pairs (map record_of E.records) E.route_output_lem E.coaching_output_lem
  pub beyond : drop (written_both L) E.records ≡ drop (written_both L) L.records
