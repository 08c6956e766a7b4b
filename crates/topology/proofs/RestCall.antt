-- The ends of the call that runs to rest: a refusal of its beginning is the call's (`refused_over`); where its first partition is ready and the records are
-- filled, the run stands at all places (`stands_first`); and where it has come to rest, with masks and queue cleared and the rows written, the contract holds
-- (`rest_over`). Assumes nothing.
use Prim.Native.Nat.{ℕ, ◌*◌, ◌/◌, ◌≤◌}
use native.Mathlib.Omega.{arith}
use mathlib.Core.Path.{◌≡◌, refl, sym, ap, subst, ◌∙◌}
use mathlib.Core.List.{List, ◌++◌, map}
use lib.ListN.{length, drop, replicate, length-map, length-replicate}
use lib.Seq.{drop_at}
use Rattle.definitions.specs.Grid.{Map, map_of}
use Rattle.definitions.specs.Partition.{region_count}
use Rattle.definitions.specs.RegionRecord.{empty_region}
use Rattle.definitions.specs.Context.{context_of}
use Rattle.definitions.specs.Scan.{run}
use Rattle.definitions.specs.AtExit.{records_of}
use Rattle.definitions.specs.Rows.{flat_rows}
use Rattle.definitions.specs.Lists.{overwrite, zeroed}
use Rattle.laws.specs.ListLaws.Lists.{length_run}
use Rattle.context.specs.declared.Region.{Region}
use Rattle.context.specs.Records.{record_of}
use Rattle.std.specs.Prelude.{Result, Ok, Err}
use Rattle.refusals.specs.declared.Refusal as code
use Rattle.refusals.specs.Refusals.{number_of}
use Rattle.grid_steps.specs.declared.grid.TerrainGrid.{TerrainGrid}
use Rattle.call_partition.specs.declared.Ready.{Ready}
use Rattle.call_partition.specs.Contract.{given}
use Rattle.rest_definitions.specs.RowOrder.{start_map}
use Rattle.rest.specs.FlatLists.{flat_spans, flat_boundaries}
use Rattle.rest.specs.Runs.{start-kept}
use Rattle.rest.specs.RestCalls.{RestRan}
use Rattle.rest_lists.specs.declared.kept.Standing.{Standing}
use Rattle.rest_lists.specs.Kept.{Origin, map_lent, all_places}
use Rattle.rest_lists.specs.Begun.{Begun, BegunAs}
use Rattle.boundary_blocks.specs.Start.{rows_at}
use Rattle.rest_lists.proofs.Between.{flat-kept, kept-starts}
use Rattle.rest_lists.proofs.Ending.{numbers_fit, ends-fit, output-fits, masks-fit, queue-fit, rest-ran}
use Rattle.call_answers.specs.declared.rest_answers.RestKept.{RestKept}
use Rattle.topology.specs.Filled.{Fills, Filled}
use Rattle.call_answers.specs.Rest.{rest_answer_of}
use Rattle.topology.specs.Rest.{RestRanOver, Stands, RanToRest, RunLists, run-lists}
use Rattle.topology.specs.Lent.{lends, leaves}
use Rattle.definitions.specs.Limits.{max_entries}
use Rattle.topology.proofs.Calling.{ready_fills}
use Rattle.topology.proofs.Resting.{kept-few}

-- ---- before the first pass

module _ {w h : ℕ} {cells spans boundaries anchors l m q t p l' m' q' t' p' : List ℕ} where
  -- by the case of the answer
  pub begun_when : {room output : ℕ} {r : Result Ready code.Refusal} {ready : Ready} {n b d : List ℕ} → BegunAs w h cells spans boundaries anchors room output l m q t p r l' m' q' t' p' n b d → r ≡ Ok ready
      → Begun w h cells spans boundaries anchors room output l m q t p ready.regions ready.rows l' m' q' t' p' n b d
  begun_when {room} {output} {n = n} {b = b} {d = d} B e = subst (λ r. BegunAs w h cells spans boundaries anchors room output l m q t p r l' m' q' t' p' n b d) e B

  pub refused_over : {s : List Region} {o : List ℕ} {r : Result Ready code.Refusal} {x : code.Refusal} (n b d : List ℕ)
      → BegunAs w h cells spans boundaries anchors (length s) (length o) l m q t p r l' m' q' t' p' n b d → r ≡ Err x
      → RestRanOver (lends w h cells spans boundaries anchors l m q t p s o) (record { number = number_of x.cause; value = x.place; rounds = 0 }) (leaves l' m' q' t' p' s o)
  refused_over {s} {o} n b d B e =
      record {
        ran = subst (λ r. BegunAs w h cells spans boundaries anchors (length s) (length o) l m q t p r l' m' q' t' p' n b d) e B (map record_of s) o (length-map s record_of) refl;
        beyond = refl;
      }

-- data that reach as far as what was emptied hide it
over-empty : {A : Type 0} (k : ℕ) (x : A) (new old : List A) → length new ≡ k → overwrite new (overwrite (replicate k x) old) ≡ overwrite new old
over-empty k x new old e =
    let size = length-replicate k x in
    ap (λ r. new ++ r)
    (ap (λ i. drop i (overwrite (replicate k x) old)) e
    ∙ drop_at (replicate k x) (drop (length (replicate k x)) old) k size
    ∙ ap (λ i. drop i old) (size ∙ sym e))

module _ {w h : ℕ} {cells spans boundaries anchors : List ℕ} {room output : ℕ} {l m q t p : List ℕ} {regions rows : ℕ} {l' m' q' t' p' n b d : List ℕ}
    (B : Begun w h cells spans boundaries anchors room output l m q t p regions rows l' m' q' t' p' n b d) where
  abbrev M : Map
  M = map_of w h cells spans boundaries anchors

  -- the starting map as it is lent in flat lists
  abbrev pub start_flat : Map
  start_flat = map_of w h cells (flat_spans (start_map M).spans) (flat_boundaries (start_map M).boundaries) anchors

  pub begun_fills : length q' ≡ length q → Fills start_flat room regions w cells l' q'
  begun_fills long = ready_fills B.ready long

  module _ {s rs : List Region} (o : List ℕ) (long : length s ≡ room) (wide : length o ≡ output) (F : Filled start_flat s rs) where
    abbrev O : Origin
    O = record { spans = spans; boundaries = boundaries; labels = l; masks = m; queue = q; tallies = t; pairs = p; output = o }

    abbrev begins : Standing
    begins = record { kept = length boundaries / 9; regions = regions; rows = rows }

    rooms : length (map record_of s) ≡ room
    rooms = length-map s record_of ∙ long

    same_map : start_flat ≡ start_map M
    same_map = subst (λ K. map_of w h cells (flat_spans K.spans) (flat_boundaries K.boundaries) anchors ≡ K) (start-kept M) (flat-kept w h cells anchors O (all_places M))

    filled : length (records_of (context_of start_flat)) ≡ regions
    unfolding records_of context_of
    filled = length-map (run 1 (region_count start_flat)) (context_of start_flat).region ∙ length_run 1 (region_count start_flat) ∙ sym B.ready.count

    pub stands_first : length rs ≡ length s → length l' ≡ length l → length m' ≡ length m → length q' ≡ length q → length t' ≡ length t → length p' ≡ length p
        → Stands w h cells anchors O s (all_places M) begins begins (run-lists l' m' q' t' p' rs n b d)
    stands_first es el em eq et ep =
        record {
          lists = kept-starts B (map record_of s) o rooms wide el em eq et ep;
          long = es;
          records =
              F.records
              ∙ sym (over-empty regions empty_region (records_of (context_of start_flat)) (map record_of s) filled)
              ∙ ap (λ N. overwrite (records_of (context_of N)) (overwrite (replicate regions empty_region) (map record_of s))) (same_map ∙ sym (start-kept M));
          beyond = subst (λ k. drop k rs ≡ drop k s) (sym B.ready.count) F.beyond;
        }

-- ---- at rest

module _ {w h : ℕ} {cells anchors : List ℕ} {O : Origin} {s : List Region} {first : Standing} {a : RestKept} {l m q t p : List ℕ} {rs : List Region} {n b d : List ℕ}
    (R : RanToRest w h cells anchors O s first a (run-lists l m q t p rs n b d)) where
  pub rest-scratch : (h * w ≤ length m) × (h * w ≤ length q)
  rest-scratch = (masks-fit R.stands.lists, queue-fit R.stands.lists)

  pub rest-room : (a.kept ≤ max_entries) × (a.kept ≤ length n) × (4 * a.kept ≤ length b) × (5 * a.kept ≤ length O.output)
  rest-room =
      let K = R.stands.lists in
      (omega (arith, R.value, kept-few R.stands), omega (arith, R.value, numbers_fit K), omega (arith, R.value, ends-fit K), omega (arith, R.value, output-fits K))

  pub rest_over : {m' q' o' : List ℕ} → m' ≡ zeroed (h * w) m → q' ≡ zeroed (h * w) q → o' ≡ overwrite (flat_rows (rows_at n b a.kept)) O.output
      → RestRanOver (lends w h cells O.spans O.boundaries anchors O.labels O.masks O.queue O.tallies O.pairs s O.output) (rest_answer_of (Ok a)) (leaves l m' q' t p rs o')
  rest_over {m'} {q'} {o'} em eq eo =
      let T = R.stands in
      let K = T.lists in
      let L = given 1 w h cells O.spans O.boundaries anchors O.labels O.masks O.queue O.tallies O.pairs (map record_of s) O.output in
      record {
        ran =
            subst (λ x. RestRan L x l m' q' t p (map record_of rs) o') (λ i. record { number = 0; value = sym R.value i; rounds = a.rounds })
            (rest-ran K R.rounds em eq (eo ∙ ap (λ v. overwrite (flat_rows (rows_at n b v)) O.output) R.value) T.records);
        beyond = subst (λ k. drop k rs ≡ drop k s) K.firsts.regions T.beyond;
      }

-- ---- of a grid and one that is equal to it

pub stands-on : {g : TerrainGrid} (x : TerrainGrid) {anchors : List ℕ} {O : Origin} {s : List Region} {first : Standing} {R : RunLists} → g ≡ x
    → Stands x.width x.height x.cells.now anchors O s (all_places (map_lent x.width x.height x.cells.now anchors O)) first first R
    → Stands g.width g.height g.cells.now anchors O s (all_places (map_lent g.width g.height g.cells.now anchors O)) first first R
stands-on x {anchors} {O} {s} {first} {R} e T =
    subst (λ (g : TerrainGrid). Stands g.width g.height g.cells.now anchors O s (all_places (map_lent g.width g.height g.cells.now anchors O)) first first R) (sym e) T

pub rests-on : {g : TerrainGrid} (x : TerrainGrid) {anchors : List ℕ} {O : Origin} {s : List Region} {first : Standing} {a : RestKept} {R : RunLists} → g ≡ x
    → RanToRest g.width g.height g.cells.now anchors O s first a R → RanToRest x.width x.height x.cells.now anchors O s first a R
rests-on x {anchors} {O} {s} {first} {a} {R} e K = subst (λ (g : TerrainGrid). RanToRest g.width g.height g.cells.now anchors O s first a R) e K

pub zeroed-on : {g : TerrainGrid} (x : TerrainGrid) (a : List ℕ) {b : List ℕ} → g ≡ x → b ≡ zeroed (g.height * g.width) a → b ≡ zeroed (x.height * x.width) a
zeroed-on x a {b} e z = subst (λ (g : TerrainGrid). b ≡ zeroed (g.height * g.width) a) e z
