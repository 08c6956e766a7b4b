-- What stands between the passes (`KeptLists`), through a turn: before the first pass (`kept-starts`), behind a pass that removes none (`kept-still`), and
-- behind one that removes some, once what is left is divided again (`kept_again`; `kept_divides` has what that asks). Each list is then the partition's data
-- over the list as lent, since clearing forgets what earlier passes wrote and beyond what is cleared no pass writes. Assumes nothing.
use Prim.Native.Nat.{ℕ, ◌*◌, ◌/◌, ◌≤◌}
use native.Mathlib.Omega.{arith}
use mathlib.Core.Path.{◌≡◌, refl, sym, ap, subst, ◌∙◌}
use mathlib.Core.List.{List, ◌++◌}
use lib.ListN.{length, drop, replicate, length-replicate}
use lib.Seq.{drop_at}
use Rattle.definitions.specs.Grid.{Map, map_of, cell_count, span_count}
use Rattle.definitions.specs.Partition.{labels, region_count}
use Rattle.definitions.specs.RegionRecord.{Region}
use Rattle.definitions.specs.Context.{context_of}
use Rattle.definitions.specs.AtExit.{tallies_of}
use Rattle.definitions.specs.Lists.{overwrite, zeroed}
use Rattle.definitions.specs.Verdict.{map_in, pair_rows_of}
use Rattle.laws.specs.ListLaws.Lists.{length_run}
use Rattle.laws.specs.ListLaws.Overwritten.{overwrite-twice}
use Rattle.laws.specs.RegionLaws.Regions.{labels_length}
use Rattle.laws.specs.TableLaws.KeptRows.{boundary_count_lem}
use Rattle.laws.specs.RegionLaws.Tallies.{tallies-length}
use Rattle.call_partition.specs.Early.{early_refusal}
use Rattle.rest_definitions.specs.RowOrder.{map_with, start_map}
use Rattle.rest_definitions.specs.Rest.{kept_map, passed}
use Rattle.rest.specs.Clearing.{beyond-stays}
use Rattle.rest.specs.FewerPairs.{Fewer, begun, passed_by}
use Rattle.rest.specs.FlatLists.{flat_spans, flat_boundaries, flat_map}
use Rattle.rest.specs.Rounds.{passed-still}
use Rattle.rest.specs.Runs.{start-kept, run-fewer}
use Rattle.rest.specs.StartMaps.{start-boundaries, start-count}
use Rattle.rest_lists.specs.declared.kept.Standing.{Standing}
use Rattle.rest_lists.specs.Kept.{Holds, Origin, lent_to, map_lent, kept_of, all_places, Counts, rows_long_lem, ReadyOf, Divides, Redivided, SameFrom, KeptLists}
use Rattle.rest_lists.specs.Begun.{Begun}
use Rattle.rest_lists.proofs.Inner.{inner-early, inner-tallies, zeroed-length, tallies-fit, pairs-fit}

-- ---- lists that are cleared and overwritten

-- clearing forgets what stood there
zeroed-over : (n : ℕ) (new old : List ℕ) → length new ≤ n → zeroed n (overwrite new old) ≡ zeroed n old
zeroed-over n new old h = ap (λ r. replicate n 0 ++ r) (beyond-stays n new old h)

zeroed-twice : (n : ℕ) (l : List ℕ) → zeroed n (zeroed n l) ≡ zeroed n l
zeroed-twice n l = ap (λ r. replicate n 0 ++ r) (drop_at (replicate n 0) (drop n l) n (length-replicate {A = ℕ} n 0))

-- data that reach as far as what was cleared hide it
over-zeroed : (n : ℕ) (new old : List ℕ) → length new ≡ n → overwrite new (zeroed n old) ≡ overwrite new old
over-zeroed n new old e =
    ap (λ r. new ++ r)
    (ap (λ m. drop m (zeroed n old)) e ∙ drop_at (replicate n 0) (drop n old) n (length-replicate {A = ℕ} n 0) ∙ ap (λ m. drop m old) (sym e))

-- ---- the map of what is kept

module _ (w h : ℕ) (cells anchors : List ℕ) (O : Origin) where
  abbrev M : Map
  M = map_lent w h cells anchors O

  abbrev flat : List ℕ → Map
  flat places = map_of w h cells (flat_spans (kept_of M places).spans) (flat_boundaries (kept_of M places).boundaries) anchors

  pub flat-kept : (places : List ℕ) → flat places ≡ kept_of M places
  unfolding map_of start_map kept_map map_with
  flat-kept places = flat_map w h cells anchors (kept_of M places).spans (kept_of M places).boundaries

  cells_same : (places : List ℕ) → length (labels (flat places)) ≡ h * w
  unfolding cell_count map_of
  cells_same places = labels_length (flat places)

-- ---- behind a pass that removes none

module _ {w h : ℕ} {cells anchors : List ℕ} {O : Origin} {s : List Region} {places : List ℕ} {first standing : Standing} {l m q t p n b d : List ℕ}
    (K : KeptLists w h cells anchors O s places first standing l m q t p n b d) (pass : ℕ) {left : ℕ} {m' q' n' b' d' : List ℕ}
    (count : left ≡ length (passed pass (start_map (map_lent w h cells anchors O)) places))
    (held : Holds (map_lent w h cells anchors O) (passed pass (start_map (map_lent w h cells anchors O)) places) n' b' d')
    (masks : SameFrom (h * w) m m') (queue : SameFrom (h * w) q q') where
  abbrev S : Map
  S = start_map (map_lent w h cells anchors O)

  scratch_same : SameFrom (h * w) O.masks m'
  scratch_same = record { long = masks.long ∙ K.masks.long; rest = masks.rest ∙ K.masks.rest }

  queue_same : SameFrom (h * w) O.queue q'
  queue_same = record { long = queue.long ∙ K.queue.long; rest = queue.rest ∙ K.queue.rest }

  pub all-kept : left ≡ standing.kept → passed pass S places ≡ places
  all-kept e = passed-still S pass places (sym count ∙ e ∙ K.count)

  pub kept-still : left ≡ standing.kept → KeptLists w h cells anchors O s (passed pass S places) first standing l m' q' t p n' b' d'
  kept-still e =
      record {
        accepted = K.accepted;
        reached = passed_by pass K.reached;
        held = held;
        firsts = K.firsts;
        count = sym e ∙ count;
        scratch = K.scratch;
        order = K.order;
        scratch_long = K.scratch_long;
        order_long = K.order_long;
        ready =
            subst (λ ps. ReadyOf w h cells anchors (kept_of (map_lent w h cells anchors O) ps) (length s) O.labels O.masks O.queue
            (zeroed (2 * first.kept) O.tallies) (zeroed (3 * first.rows) O.pairs) standing.regions standing.rows l K.scratch K.order t p) (sym (all-kept e)) K.ready;
        masks = scratch_same;
        queue = queue_same;
        labels_long = K.labels_long;
        tallies_long = K.tallies_long;
        pairs_long = K.pairs_long;
      }

  -- ---- behind one that removes some

  -- what dividing again asks
  pub kept_divides : {room : ℕ} → length s ≡ room → Divides w h cells anchors O s (passed pass S places) b' left first room l m' q' t p
  kept_divides room =
      record {
        accepted = K.accepted;
        reached = passed_by pass K.reached;
        ended = held.ended;
        count = count;
        firsts = K.firsts;
        roomy = room;
        labels = K.labels_long;
        masks = scratch_same.long;
        queue = queue_same.long;
        tallies = K.tallies_long;
        pairs = K.pairs_long;
      }

  abbrev before : Map
  before = flat w h cells anchors O places

  abbrev behind : Map
  behind = flat w h cells anchors O (passed pass S places)

  few : Fewer S (kept_of (map_lent w h cells anchors O) places)
  few = run-fewer (map_lent w h cells anchors O) K.reached

  -- no pass writes beyond what the first partition filled
  tallies-few : length (tallies_of (context_of before)) ≤ 2 * first.kept
  unfolding context_of
  tallies-few =
      let count : (context_of before).count ≡ span_count before = refl in
      omega (arith, tallies-length (context_of before), count, ap span_count (flat-kept w h cells anchors O places), few.spans, K.firsts.kept)

  pairs-few : length (pair_rows_of (context_of before)) ≤ 3 * first.rows
  pairs-few =
      omega (arith, ap (λ N. length (pair_rows_of (context_of N))) (flat-kept w h cells anchors O places), few.pairs, K.firsts.rows)

  abbrev tallies₀ : List ℕ
  tallies₀ = zeroed (2 * first.kept) O.tallies

  abbrev pairs₀ : List ℕ
  pairs₀ = zeroed (3 * first.rows) O.pairs

  tallies-cleared : zeroed (2 * first.kept) t ≡ tallies₀
  tallies-cleared =
      ap (zeroed (2 * first.kept)) K.ready.tallied
      ∙ zeroed-over (2 * first.kept) (tallies_of (context_of before)) tallies₀ tallies-few
      ∙ zeroed-twice (2 * first.kept) O.tallies

  pairs-cleared : zeroed (3 * first.rows) p ≡ pairs₀
  pairs-cleared =
      ap (zeroed (3 * first.rows)) K.ready.paired
      ∙ zeroed-over (3 * first.rows) (pair_rows_of (context_of before)) pairs₀ pairs-few
      ∙ zeroed-twice (3 * first.rows) O.pairs

  labels-cleared : overwrite (labels behind) l ≡ overwrite (labels behind) O.labels
  labels-cleared =
      ap (overwrite (labels behind)) K.ready.filled
      ∙ overwrite-twice (labels behind) (labels before) O.labels (omega (arith, cells_same w h cells anchors O places, cells_same w h cells anchors O (passed pass S places)))

  abbrev D : Divides w h cells anchors O s (passed pass S places) b' left first (length s) l m' q' t p
  D = kept_divides refl

  tallies_long_lem : length tallies₀ ≡ length O.tallies
  tallies_long_lem = zeroed-length (2 * first.kept) O.tallies (omega (arith, tallies-fit D, K.tallies_long))

  pairs_long_lem : length pairs₀ ≡ length O.pairs
  pairs_long_lem = zeroed-length (3 * first.rows) O.pairs (omega (arith, pairs-fit D, K.pairs_long))

  module _ {r : Standing} {l₂ m₂ q₂ t₂ p₂ : List ℕ} (R : Redivided w h cells anchors O (passed pass S places) first (length s) l m' q' t p r l₂ m₂ q₂ t₂ p₂) where
    ready-over : ReadyOf w h cells anchors (kept_of (map_lent w h cells anchors O) (passed pass S places)) (length s) O.labels O.masks O.queue tallies₀ pairs₀ r.regions r.rows l₂ m₂ q₂ t₂ p₂
    unfolding map_in
    ready-over =
        record {
          accepted =
              inner-early (lent_to w h cells anchors O s) K.accepted.checked (passed pass S places) (passed_by pass K.reached) O.labels O.masks O.queue tallies₀ pairs₀
              refl refl refl tallies_long_lem pairs_long_lem;
          count = R.ready.count;
          enough = R.ready.enough;
          filled = R.ready.filled ∙ labels-cleared;
          masks = R.ready.masks ∙ scratch_same.rest;
          chain = R.ready.chain;
          queue = R.ready.queue ∙ queue_same.rest;
          tallied = R.ready.tallied ∙ ap (overwrite (tallies_of (context_of behind))) tallies-cleared;
          fits = subst (λ x. length (pair_rows_of (context_of behind)) ≤ length x / 3 * 3) pairs-cleared R.ready.fits;
          row_count_lem = R.ready.row_count_lem;
          paired = R.ready.paired ∙ ap (overwrite (pair_rows_of (context_of behind))) pairs-cleared;
        }

    pub kept_again : length l₂ ≡ length l → length m₂ ≡ length m' → length q₂ ≡ length q' → length t₂ ≡ length t → length p₂ ≡ length p
        → KeptLists w h cells anchors O s (passed pass S places) first r l₂ m₂ q₂ t₂ p₂ n' b' d'
    kept_again el em eq et ep =
        record {
          accepted = K.accepted;
          reached = passed_by pass K.reached;
          held = held;
          firsts = K.firsts;
          count = R.count;
          scratch = m₂;
          order = q₂;
          scratch_long = em ∙ scratch_same.long;
          order_long = eq ∙ queue_same.long;
          ready = ready-over;
          masks = record { long = em ∙ scratch_same.long; rest = ready-over.masks };
          queue = record { long = eq ∙ queue_same.long; rest = ready-over.queue };
          labels_long = el ∙ K.labels_long;
          tallies_long = et ∙ K.tallies_long;
          pairs_long = ep ∙ K.pairs_long;
        }

-- ---- before the first pass

module _ {w h : ℕ} {cells spans boundaries anchors : List ℕ} {room output : ℕ} {l m q t p : List ℕ} {regions rows : ℕ} {l' m' q' t' p' n b d : List ℕ}
    (B : Begun w h cells spans boundaries anchors room output l m q t p regions rows l' m' q' t' p' n b d) (s : List Region) (o : List ℕ) (long : length s ≡ room) (wide : length o ≡ output) where
  -- what was lent
  abbrev pub origin : Origin
  origin = record { spans = spans; boundaries = boundaries; labels = l; masks = m; queue = q; tallies = t; pairs = p; output = o }

  abbrev pub N : Map
  N = map_of w h cells spans boundaries anchors

  abbrev pub begins : Standing
  begins = record { kept = length boundaries / 9; regions = regions; rows = rows }

  flat_start : map_of w h cells (flat_spans (start_map N).spans) (flat_boundaries (start_map N).boundaries) anchors ≡ start_map N
  flat_start = subst (λ K. map_of w h cells (flat_spans K.spans) (flat_boundaries K.boundaries) anchors ≡ K) (start-kept N) (flat-kept w h cells anchors origin (all_places N))

  boundaries-counted : length N.boundaries ≡ length boundaries / 9
  unfolding map_in
  boundaries-counted = boundary_count_lem (lent_to w h cells anchors origin s)

  counted : Counts (start_map N) begins
  counted =
      record {
        kept = sym boundaries-counted ∙ sym (start-count N);
        regions = B.ready.count ∙ ap region_count flat_start;
        rows = B.ready.row_count_lem ∙ ap (λ K. length (pair_rows_of (context_of K))) flat_start;
      }

  abbrev K₀ : Map
  K₀ = map_of w h cells (flat_spans (start_map N).spans) (flat_boundaries (start_map N).boundaries) anchors

  tallies-all : length (tallies_of (context_of K₀)) ≡ 2 * (length boundaries / 9)
  unfolding context_of
  tallies-all = tallies-length (context_of K₀) ∙ ap {A = ℕ} (λ k. 2 * k) (ap span_count flat_start ∙ start-count N ∙ boundaries-counted)

  few-tallies : 2 * (length boundaries / 9) ≤ length t
  unfolding map_in
  few-tallies =
      let A = B.accepted s o long wide in
      let all : 2 * length (all_places N) ≤ length t = inner-tallies (lent_to w h cells anchors origin s) A.checked (all_places N) begun l m q t p refl refl refl refl refl in
      omega (arith, all, length_run 0 (length (start_map N).boundaries), start-boundaries N, boundaries-counted)

  few-pairs : 3 * rows ≤ length p
  few-pairs = omega (arith, B.ready.row_count_lem, B.ready.fits)

  ready-start : ReadyOf w h cells anchors (start_map N) (length s) l m q (zeroed (2 * begins.kept) t) (zeroed (3 * rows) p) regions rows l' m' q' t' p'
  ready-start =
      let R = subst (λ k. ReadyOf w h cells anchors (start_map N) k l m q t p regions rows l' m' q' t' p') (sym long) B.ready in
      let et = zeroed-length (2 * begins.kept) t few-tallies in
      let ep = zeroed-length (3 * rows) p few-pairs in
      record {
        accepted = R.accepted ∙ ap (λ k. early_refusal 1 w h cells (flat_spans (start_map N).spans) (flat_boundaries (start_map N).boundaries) anchors (length l) (length m) (length q) k rows_long_lem) (sym et);
        count = R.count;
        enough = R.enough;
        filled = R.filled;
        masks = R.masks;
        chain = R.chain;
        queue = R.queue;
        tallied = R.tallied ∙ sym (over-zeroed (2 * begins.kept) (tallies_of (context_of K₀)) t tallies-all);
        fits = subst (λ k. length (pair_rows_of (context_of K₀)) ≤ k / 3 * 3) (sym ep) R.fits;
        row_count_lem = R.row_count_lem;
        paired = R.paired ∙ sym (over-zeroed (3 * rows) (pair_rows_of (context_of K₀)) p (sym R.row_count_lem));
      }

  pub kept-starts : length l' ≡ length l → length m' ≡ length m → length q' ≡ length q → length t' ≡ length t → length p' ≡ length p
      → KeptLists w h cells anchors origin s (all_places N) begins begins l' m' q' t' p' n b d
  unfolding span_count
  kept-starts el em eq et ep =
      record {
        accepted = B.accepted s o long wide;
        reached = begun;
        held = B.held;
        firsts = counted;
        count = sym boundaries-counted ∙ sym (start-boundaries N) ∙ sym (length_run 0 (length (start_map N).boundaries));
        scratch = m';
        order = q';
        scratch_long = em;
        order_long = eq;
        ready =
            subst (λ K. ReadyOf w h cells anchors K (length s) l m q (zeroed (2 * begins.kept) t) (zeroed (3 * rows) p) regions rows l' m' q' t' p') (sym (start-kept N)) ready-start;
        masks = record { long = em; rest = ready-start.masks };
        queue = record { long = eq; rest = ready-start.queue };
        labels_long = el;
        tallies_long = et;
        pairs_long = ep;
      }
