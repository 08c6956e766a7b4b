-- What a run to rest keeps between its passes, over plain lists: the boundaries still kept, and the counts of their partition. Definitions only; assumes
-- nothing.
use Rattle.std.specs.Prelude.{ℕ, ◌*◌, ◌≡◌, List, [], ◌∷◌, ◌++◌, length, get_or, drop}
use Rattle.definitions.specs.Limits.{numbers_per_pair}
use Rattle.definitions.specs.Scan.{concat_map, run}
use Rattle.definitions.specs.Grid.{Map, boundary_of, map_of, span_count}
use Rattle.definitions.specs.Partition.{region_count}
use Rattle.definitions.specs.RegionRecord.{Region}
use Rattle.definitions.specs.Context.{context_of}
use Rattle.definitions.specs.Lists.{zeroed}
use Rattle.definitions.specs.Verdict.{Lent, pair_rows_of}
use Rattle.call_partition.specs.Contract.{given}
use Rattle.call_partition.specs.Prepared.{ReadyAs}
use Rattle.rest_definitions.specs.RowOrder.{start_rows, no_row, start_map}
use Rattle.rest_definitions.specs.Rest.{kept_map}
use Rattle.rest.specs.FewerPairs.{Reached}
use Rattle.rest.specs.FlatLists.{flat_segment, flat_boundary, flat_spans, flat_boundaries}
use Rattle.rest.specs.InnerCalls.{RestAccepted}
use Rattle.rest_lists.specs.declared.kept.Standing.{Standing}

-- ---- the boundaries that are kept

-- of the starting list of M, at a place: the number as lent, the endpoints, and the boundary, in flat lists
abbrev pub number_block : Map → ℕ → List ℕ
number_block M k = (get_or (start_rows M) k no_row).number ∷ []

abbrev pub ends_block : Map → ℕ → List ℕ
ends_block M k = flat_segment (boundary_of (start_map M) k).endpoints

abbrev pub boundary_block : Map → ℕ → List ℕ
boundary_block M k = flat_boundary (boundary_of (start_map M) k)

-- a list begins with the blocks of these places
pub record BeginsWith (block : ℕ → List ℕ) (places l : List ℕ) : Type 0 where
  pub rest : List ℕ
  pub same : l ≡ concat_map block places ++ rest

-- numbers, spans and boundaries begin with those of the places that are kept
pub record Holds (M : Map) (places numbers spans boundaries : List ℕ) : Type 0 where
  pub numbered : BeginsWith (number_block M) places numbers
  pub ended : BeginsWith (ends_block M) places spans
  pub bounded : BeginsWith (boundary_block M) places boundaries

-- ---- a run

-- what a run was lent besides its sizes, cells, anchors and records
pub record Origin : Type 0 where
  pub spans : List ℕ
  pub boundaries : List ℕ
  pub labels : List ℕ
  pub masks : List ℕ
  pub queue : List ℕ
  pub tallies : List ℕ
  pub pairs : List ℕ
  pub output : List ℕ

abbrev pub lent_to : (w h : ℕ) (cells anchors : List ℕ) → Origin → List Region → Lent
lent_to w h cells anchors O s = given 1 w h cells O.spans O.boundaries anchors O.labels O.masks O.queue O.tallies O.pairs s O.output

abbrev pub map_lent : (w h : ℕ) (cells anchors : List ℕ) → Origin → Map
map_lent w h cells anchors O = map_of w h cells O.spans O.boundaries anchors

-- the map of what is kept
abbrev pub kept_of : Map → List ℕ → Map
kept_of M places = kept_map (start_map M) places

-- all places of the starting list
abbrev pub all_places : Map → List ℕ
all_places M = run 0 (length (start_map M).boundaries)

-- as many boundaries, regions and rows of pairs as the map of these places has
pub record Counts (K : Map) (s : Standing) : Type 0 where
  pub kept : s.kept ≡ span_count K
  pub regions : s.regions ≡ region_count K
  pub rows : numbers_per_pair * s.rows ≡ length (pair_rows_of (context_of K))

-- the passes' own rows are not written: so much room is asked for, and lent nowhere
abbrev pub rows_long_lem : ℕ
rows_long_lem = 1280

-- the partition of map K is ready, of these spans and boundaries in flat lists; the five lists before and after
abbrev pub ReadyOf : (w h : ℕ) (cells anchors : List ℕ) (K : Map) (room : ℕ) (l m q t p : List ℕ) (regions rows : ℕ) (l' m' q' t' p' : List ℕ) → Type 0
ReadyOf w h cells anchors K room = ReadyAs 1 w h cells (flat_spans K.spans) (flat_boundaries K.boundaries) anchors room rows_long_lem

-- ---- dividing again

-- The run is accepted, its passes have come to these places, of which there are `kept`, and the spans begin with their endpoints. There are as many records,
-- and the lists are as long, as were lent; `first` has the counts of the first partition.
pub record Divides (w h : ℕ) (cells anchors : List ℕ) (O : Origin) (s : List Region) (places spans : List ℕ) (kept : ℕ) (first : Standing) (room : ℕ) (l m q t p : List ℕ) : Type 0 where
  pub accepted : RestAccepted (lent_to w h cells anchors O s)
  pub reached : Reached (start_map (map_lent w h cells anchors O)) (all_places (map_lent w h cells anchors O)) places
  pub ended : BeginsWith (ends_block (map_lent w h cells anchors O)) places spans
  pub count : kept ≡ length places
  pub firsts : Counts (start_map (map_lent w h cells anchors O)) first
  pub roomy : length s ≡ room
  pub labels : length l ≡ length O.labels
  pub masks : length m ≡ length O.masks
  pub queue : length q ≡ length O.queue
  pub tallies : length t ≡ length O.tallies
  pub pairs : length p ≡ length O.pairs

-- The partition of what is kept is ready, over tallies and pairs that are zero as far as the first partition filled them.
pub record Redivided (w h : ℕ) (cells anchors : List ℕ) (O : Origin) (places : List ℕ) (first : Standing) (room : ℕ) (l m q t p : List ℕ) (r : Standing) (l' m' q' t' p' : List ℕ) : Type 0 where
  pub count : r.kept ≡ length places
  pub ready :
      ReadyOf w h cells anchors (kept_of (map_lent w h cells anchors O) places) room l m q (zeroed (2 * first.kept) t) (zeroed (3 * first.rows) p)
      r.regions r.rows l' m' q' t' p'

-- ---- between the passes

-- as long as it was, and from n on as it was
pub record SameFrom (n : ℕ) (was l : List ℕ) : Type 0 where
  pub long : length l ≡ length was
  pub rest : drop n l ≡ drop n was

-- Between the passes of an accepted run these places are kept, and numbers n, spans b and boundaries d hold them. Labels, tallies and pairs are those of their
-- partition, over lists as they were lent but for tallies and pairs, which are zero as far as the first partition filled them. Masks and queue, which the
-- partition left as `scratch` and `order`, are as they were lent beyond the needed length.
pub record KeptLists (w h : ℕ) (cells anchors : List ℕ) (O : Origin) (s : List Region) (places : List ℕ) (first standing : Standing) (l m q t p n b d : List ℕ) : Type 0 where
  pub accepted : RestAccepted (lent_to w h cells anchors O s)
  pub reached : Reached (start_map (map_lent w h cells anchors O)) (all_places (map_lent w h cells anchors O)) places
  pub held : Holds (map_lent w h cells anchors O) places n b d
  pub firsts : Counts (start_map (map_lent w h cells anchors O)) first
  pub count : standing.kept ≡ length places
  pub scratch : List ℕ
  pub order : List ℕ
  pub scratch_long : length scratch ≡ length O.masks
  pub order_long : length order ≡ length O.queue
  pub ready :
      ReadyOf w h cells anchors (kept_of (map_lent w h cells anchors O) places) (length s) O.labels O.masks O.queue
      (zeroed (2 * first.kept) O.tallies) (zeroed (3 * first.rows) O.pairs) standing.regions standing.rows l scratch order t p
  pub masks : SameFrom (h * w) O.masks m
  pub queue : SameFrom (h * w) O.queue q
  pub labels_long : length l ≡ length O.labels
  pub tallies_long : length t ≡ length O.tallies
  pub pairs_long : length p ≡ length O.pairs
