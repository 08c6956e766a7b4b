-- The parts of the call that runs to rest: what each asks, where a run stands (`Stands`), and what it leaves. Of a pass: what it is lent (`stands-lent`), and
-- that the blocks it leaves are those of the places left (`pass-done`). Of a turn: where the pass removed none (`stands-still`), and where what is left was
-- divided again and the records renewed (`stands-again`). Assumes nothing.
use Prim.Native.Nat.{ℕ, ◌*◌, ◌/◌, ◌≤◌, ◌<◌}
use native.Mathlib.Omega.{arith}
use mathlib.Core.Path.{◌≡◌, refl, sym, ap, subst, ◌∙◌}
use mathlib.Core.Bool.{Bool, false}
use mathlib.Core.List.{List, ◌++◌, map}
use lib.ListN.{length, get_or, take, drop, replicate, length-map, length-replicate}
use lib.Dec.{leb}
use borrow.Author.Tests.{leb-true}
use Rattle.definitions.specs.Limits.{max_entries, numbers_per_span}
use Rattle.definitions.specs.Scan.{member}
use Rattle.definitions.specs.Grid.{Map, map_of, span_count}
use Rattle.definitions.specs.Partition.{region_count}
use Rattle.definitions.specs.RegionRecord as record-region
use Rattle.definitions.specs.RegionRecord.{empty_region}
use Rattle.definitions.specs.Context.{context_of}
use Rattle.definitions.specs.AtExit.{records_of}
use Rattle.definitions.specs.Lists.{overwrite}
use Rattle.definitions.specs.Rows.{removed_of}
use Rattle.definitions.specs.Verdict.{map_in, records_fault}
use Rattle.laws.specs.ListLaws.NoFault.{no_fault_lem}
use Rattle.context.specs.declared.Region.{Region}
use Rattle.context.specs.Records.{record_of}
use Rattle.pass_lists.proofs.AfterChecks.{ready-fit}
use Rattle.pass_lists.proofs.Closing.{marked-equal}
use Rattle.rest_definitions.specs.RowOrder.{start_map}
use Rattle.rest_definitions.specs.Rest.{passed}
use Rattle.rest.specs.FlatLists.{flat_spans, flat_boundaries, span_count_lem}
use Rattle.rest.specs.FlatLists as flat
use Rattle.rest.specs.FewerPairs.{passed_by}
use Rattle.rest.specs.KeptMaps.{kept-count, kept-boundaries}
use Rattle.rest.specs.Runs.{run-fewer}
use Rattle.rest_lists.specs.declared.kept.Standing.{Standing}
use Rattle.boundary_blocks.specs.Blocks.{left_blocks, left_count}
use Rattle.rest_lists.specs.Kept.{number_block, ends_block, boundary_block, Origin, map_lent, kept_of, Holds, Divides, Redivided, SameFrom}
use Rattle.rest_lists.proofs.Holding.{begins-front, begins-long, flat-bounds, left_count_lem, kept-left}
use Rattle.rest_lists.proofs.Between.{flat-kept, all-kept, kept-still, kept_divides, kept_again}
use Rattle.topology.specs.Filled.{Fills, Renewed}
use Rattle.topology.specs.Held.{HoldsRecords, held_first}
use Rattle.topology.specs.Marks.{Lent, MarkedFor}
use Rattle.topology.specs.Rest.{Stands, run-lists}
use Rattle.topology.proofs.Calling.{ready-shows, ready_fills}
use Rattle.topology.proofs.Filling.{map-drop}

-- ---- one pass

-- It leaves `left`, which the three lists hold; masks, that were m, and queue, that was q, are others over the needed length alone.
pub record Passed (w h : ℕ) (cells anchors : List ℕ) (O : Origin) (places : List ℕ) (pass left : ℕ) (m q m' q' n' b' d' : List ℕ) : Type 0 where
  pub count : left ≡ length (passed pass (start_map (map_lent w h cells anchors O)) places)
  pub held : Holds (map_lent w h cells anchors O) (passed pass (start_map (map_lent w h cells anchors O)) places) n' b' d'
  pub masks : SameFrom (h * w) m m'
  pub queue : SameFrom (h * w) q q'

module _ {w h : ℕ} {cells anchors : List ℕ} {O : Origin} {s : List Region} {places : List ℕ} {first standing : Standing}
    {l m q t p : List ℕ} {rs : List Region} {n b d : List ℕ} (T : Stands w h cells anchors O s places first standing (run-lists l m q t p rs n b d)) where
  abbrev M : Map
  M = map_lent w h cells anchors O

  abbrev K : Map
  K = kept_of M places

  -- the map of what is kept, as it is lent in flat lists
  abbrev F : Map
  F = map_of w h cells (flat_spans K.spans) (flat_boundaries K.boundaries) anchors

  same_map : F ≡ K
  same_map = flat-kept w h cells anchors O places

  front : take (9 * standing.kept) d ≡ flat_boundaries K.boundaries
  front = ap (λ k. take (9 * k) d) T.lists.count ∙ begins-front (boundary_block M) 9 (λ x. refl) T.lists.held.bounded ∙ flat-bounds M places

  spans-counted : length (flat_spans K.spans) / numbers_per_span ≡ standing.kept
  unfolding span_count
  spans-counted = span_count_lem K.spans ∙ kept-count (start_map M) places ∙ sym T.lists.count

  boundaries-counted : length (flat_boundaries K.boundaries) / 9 ≡ standing.kept
  boundaries-counted = flat.boundary_count_lem K.boundaries ∙ kept-boundaries (start_map M) places ∙ sym T.lists.count

  holds : HoldsRecords (context_of F) rs
  holds = subst (λ N. HoldsRecords (context_of N) rs) (sym same_map) (held_first (context_of K) rs _ T.records)

  pub stands-lent : Lent F rs w (h * w) l anchors standing.regions standing.rows standing.kept (take (9 * standing.kept) d) t p (length m) (length q)
  stands-lent =
      let base = ready-shows T.lists.ready holds T.lists.scratch_long T.lists.order_long in
      subst (λ k. Lent F rs w (h * w) l anchors standing.regions standing.rows standing.kept (take (9 * standing.kept) d) t p (length m) k)
      (T.lists.order_long ∙ sym T.lists.queue.long)
      (subst (λ k. Lent F rs w (h * w) l anchors standing.regions standing.rows standing.kept (take (9 * standing.kept) d) t p k (length T.lists.order))
      (T.lists.scratch_long ∙ sym T.lists.masks.long)
      (subst (λ x. Lent F rs w (h * w) l anchors standing.regions standing.rows standing.kept x t p (length T.lists.scratch) (length T.lists.order)) (sym front)
      (subst (λ k. Lent F rs w (h * w) l anchors standing.regions standing.rows k (flat_boundaries K.boundaries) t p (length T.lists.scratch) (length T.lists.order))
      spans-counted base)))

  pub kept-few : standing.kept ≤ max_entries
  kept-few = omega (arith, (ready-fit T.lists.ready).few, spans-counted)

  pub numbers-long : standing.kept ≤ length n
  numbers-long = omega (arith, begins-long (number_block M) 1 (λ x. refl) T.lists.held.numbered, T.lists.count)

  pub ends-long : 4 * standing.kept ≤ length b
  ends-long = omega (arith, begins-long (ends_block M) 4 (λ x. refl) T.lists.held.ended, T.lists.count)

  pub bounds-long : 9 * standing.kept ≤ length d
  bounds-long = omega (arith, begins-long (boundary_block M) 9 (λ x. refl) T.lists.held.bounded, T.lists.count)

  module _ {pass : ℕ} {m' q' : List ℕ} {was removed : List Bool}
      (marks : MarkedFor pass F (h * w) standing.kept (take (9 * standing.kept) d) m q m' q' was removed) where
    marked : (k : ℕ) → k < length places → get_or removed k false ≡ member k (removed_of pass K)
    marked k i =
        marked-equal pass w h cells (flat_spans K.spans) (flat_boundaries K.boundaries) anchors (boundaries-counted ∙ sym spans-counted) removed
        (marks.equal (ap (λ x. length x / 9) front ∙ boundaries-counted)) k
        (omega (arith, ap (λ N. length N.boundaries) same_map, kept-boundaries (start_map M) places))
        ∙ ap (λ N. member k (removed_of pass N)) same_map

    pub pass-left : {left : ℕ} → left ≡ left_count removed standing.kept → left ≡ length (passed pass (start_map M) places)
    pass-left e = e ∙ left_count_lem (start_map M) pass places removed marked T.lists.count

    pub pass-held : {n' b' d' : List ℕ} → n' ≡ overwrite (left_blocks removed 1 n standing.kept) n → b' ≡ overwrite (left_blocks removed 4 b standing.kept) b
        → d' ≡ overwrite (left_blocks removed 9 d standing.kept) d → Holds M (passed pass (start_map M) places) n' b' d'
    pass-held en eb ed = kept-left M pass places removed marked T.lists.count T.lists.held en eb ed

    -- what the pass leaves
    pub pass-done : {left : ℕ} {n' b' d' : List ℕ} → n' ≡ overwrite (left_blocks removed 1 n standing.kept) n → b' ≡ overwrite (left_blocks removed 4 b standing.kept) b
        → d' ≡ overwrite (left_blocks removed 9 d standing.kept) d → left ≡ left_count removed standing.kept → Passed w h cells anchors O places pass left m q m' q' n' b' d'
    pass-done en eb ed el =
        record {
          count = pass-left el;
          held = pass-held en eb ed;
          masks = record { long = marks.masks.long; rest = marks.masks.rest };
          queue = record { long = marks.queue.long; rest = marks.queue.rest };
        }

  -- ---- behind a pass

  module _ (pass : ℕ) {left : ℕ} {m' q' n' b' d' : List ℕ} (count : left ≡ length (passed pass (start_map M) places)) (held : Holds M (passed pass (start_map M) places) n' b' d')
      (masks : SameFrom (h * w) m m') (queue : SameFrom (h * w) q q') where
    abbrev after : List ℕ
    after = passed pass (start_map M) places

    pub stands-still : left ≡ standing.kept → Stands w h cells anchors O s after first standing (run-lists l m' q' t p rs n' b' d')
    stands-still e =
        record {
          lists = kept-still T.lists pass count held masks queue e;
          long = T.long;
          records =
              subst (λ ps. map record_of rs ≡ overwrite (records_of (context_of (kept_of M ps))) (overwrite (replicate first.regions empty_region) (map record_of s)))
              (sym (all-kept T.lists pass count held masks queue e)) T.records;
          beyond = T.beyond;
        }

    records-many : length (map record_of s) ≡ length rs
    records-many = length-map s record_of ∙ sym T.long

    pub asks_again : Divides w h cells anchors O (map record_of s) after b' left first (length rs) l m' q' t p
    asks_again = kept_divides T.lists pass count held masks queue records-many

    pub first_fits : first.regions ≤ length rs
    unfolding records_fault map_in
    first_fits =
        let r = region_count (start_map M) in
        omega (arith, leb-true r (length (map record_of s)) (no_fault_lem (leb r (length (map record_of s))) 0 T.lists.accepted.records), T.lists.firsts.regions, records-many)

    module _ {r : Standing} {l₂ m₂ q₂ t₂ p₂ : List ℕ} (R : Redivided w h cells anchors O after first (length rs) l m' q' t p r l₂ m₂ q₂ t₂ p₂) where
      abbrev G : Map
      G = map_of w h cells (flat_spans (kept_of M after).spans) (flat_boundaries (kept_of M after).boundaries) anchors

      pub again_fills : length q₂ ≡ length q' → Fills G (length rs) r.regions w cells l₂ q₂
      again_fills long = ready_fills R.ready long

      emptied_same : overwrite (replicate first.regions empty_region) (map record_of rs) ≡ overwrite (replicate first.regions empty_region) (map record_of s)
      emptied_same =
          let k = first.regions in
          let size : length (replicate k empty_region) ≡ k = length-replicate k empty_region in
          ap (λ x. replicate k empty_region ++ x)
          (ap (λ i. drop i (map record_of rs)) size ∙ map-drop record_of k rs ∙ ap (map record_of) T.beyond ∙ sym (map-drop record_of k s) ∙ ap (λ i. drop i (map record_of s)) (sym size))

      fewer : region_count G ≤ first.regions
      fewer =
          omega
          (arith, ap region_count (flat-kept w h cells anchors O after), (run-fewer M (passed_by pass T.lists.reached)).regions, T.lists.firsts.regions)

      pub stands-again : {rs₂ : List Region} → length l₂ ≡ length l → length m₂ ≡ length m' → length q₂ ≡ length q' → length t₂ ≡ length t → length p₂ ≡ length p
          → length rs₂ ≡ length rs → Renewed G first.regions rs rs₂ → Stands w h cells anchors O s after first r (run-lists l₂ m₂ q₂ t₂ p₂ rs₂ n' b' d')
      stands-again el em eq et ep es N =
          record {
            lists =
                kept_again T.lists pass count held masks queue
                (subst (λ k. Redivided w h cells anchors O after first k l m' q' t p r l₂ m₂ q₂ t₂ p₂) (sym records-many) R) el em eq et ep;
            long = es ∙ T.long;
            records =
                N.records
                ∙ ap (λ C. overwrite (records_of (context_of C)) (overwrite (replicate first.regions empty_region) (map record_of rs))) (flat-kept w h cells anchors O after)
                ∙ ap (overwrite (records_of (context_of (kept_of M after)))) emptied_same;
            beyond = N.beyond first.regions (omega arith) fewer ∙ T.beyond;
          }

-- ---- lists of which a pass only reads labels, tallies and pairs

module _ {w h : ℕ} {cells anchors : List ℕ} {O : Origin} {places : List ℕ} {first : Standing} {room : ℕ} {l m q t p l₂ t₂ p₂ : List ℕ} (el : l₂ ≡ l) (et : t₂ ≡ t) (ep : p₂ ≡ p) where
  -- they are divided as they were before it
  pub divides-still : {s : List record-region.Region} {spans ends : List ℕ} {kept : ℕ} → ends ≡ spans → Divides w h cells anchors O s places spans kept first room l m q t p
      → Divides w h cells anchors O s places ends kept first room l₂ m q t₂ p₂
  divides-still es D = rw es (rw el (rw et (rw ep D)))

  pub redivided-still : {r : Standing} {l' m' q' t' p' : List ℕ} → Redivided w h cells anchors O places first room l₂ m q t₂ p₂ r l' m' q' t' p'
      → Redivided w h cells anchors O places first room l m q t p r l' m' q' t' p'
  redivided-still N = rw (sym el) (rw (sym et) (rw (sym ep) N))

-- ---- a count and boundaries, and those that are equal to them

module _ {M : Map} {count k : ℕ} {boundaries b : List ℕ} (ek : k ≡ count) (eb : b ≡ boundaries) where
  pub counted-lent : {records : List Region} {w needed : ℕ} {labels anchors : List ℕ} {regions rows : ℕ} {tallies pairs : List ℕ} {masks queue : ℕ}
      → Lent M records w needed labels anchors regions rows count boundaries tallies pairs masks queue → Lent M records w needed labels anchors regions rows k b tallies pairs masks queue
  counted-lent L = rw ek (rw eb L)

  pub counted-marks : {pass needed : ℕ} {m q m' q' : List ℕ} {was removed : List Bool}
      → MarkedFor pass M needed k b m q m' q' was removed → MarkedFor pass M needed count boundaries m q m' q' was removed
  counted-marks K = rw (sym ek) (rw (sym eb) K)
