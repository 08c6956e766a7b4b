-- The partitions of a run, in flat lists: no check before 11 refuses them (`inner-early`), so that `divide` can be called; those behind the first are not
-- refused at all, and are ready (`redivided`). Assumes that the run is accepted.
use Prim.Native.Nat.{ℕ, ◌*◌, ◌/◌, ◌≤◌}
use native.Mathlib.Omega.{arith}
use mathlib.Core.Path.{◌≡◌, refl, sym, ap, subst, ◌∙◌}
use mathlib.Core.Bool.{◌&&◌}
use Rattle.std.specs.Prelude.{None, Result, Err, Ok, IsOk}
use mathlib.Core.List.{List}
use lib.ListN.{length, take, drop, replicate, length-append, length-drop, length-replicate}
use lib.Dec.{leb}
use borrow.Author.Tests.{leb-true}
use Rattle.definitions.specs.Limits.{numbers_per_span, numbers_per_boundary}
use Rattle.definitions.specs.Scan.{run}
use Rattle.definitions.specs.Grid.{Map, span_count}
use Rattle.definitions.specs.RegionRecord.{Region}
use Rattle.definitions.specs.Context.{context_of}
use Rattle.definitions.specs.Refusals.{unless, output_room}
use Rattle.definitions.specs.Verdict.{Lent, Answer, map_in, refusal, pair_rows_of, pairs_fault, partition_has_room}
use Rattle.definitions.specs.Lists.{zeroed}
use Rattle.laws.specs.ListLaws.Lists.{length_run}
use Rattle.laws.specs.ListLaws.NoFault.{no_fault_lem}
use Rattle.laws.specs.ListLaws.Tests.{both}
use Rattle.areas.specs.Fit.{Fit}
use Rattle.refusals.proofs.Steps.{next, positive, is-ok}
use Rattle.refusals.specs.declared.Refusal as code
use Rattle.refusals.specs.Refusals.{number_of}
use Rattle.call_partition.specs.declared.Ready.{Ready}
use Rattle.call_partition.specs.Early.{sizes_refusal, entries_refusal, early_refusal}
use Rattle.call_partition.specs.Prepared.{PreparedAs, DividedAs}
use Rattle.call_partition.proofs.EarlyFits.{early-fits}
use Rattle.rest_definitions.specs.RowOrder.{start_map}
use Rattle.rest_definitions.specs.Rest.{kept_map}
use Rattle.rest.specs.FewerPairs.{Reached, begun}
use Rattle.rest.specs.FlatLists.{flat_spans, flat_boundaries, span_count_lem}
use Rattle.rest.specs.KeptMaps.{kept-count}
use Rattle.rest.specs.StartMaps.{start-boundaries, start-count}
use Rattle.rest.specs.InnerCalls.{RestChecked, Unfaulted, inner, inner-unfaulted, inner-verdict}
use Rattle.rest_lists.specs.declared.kept.Standing.{Standing}
use Rattle.rest_lists.specs.Kept.{ends_block, Origin, lent_to, map_lent, kept_of, all_places, rows_long_lem, ReadyOf, Divides, Redivided}
use Rattle.rest_lists.proofs.Holding.{begins-front, begins-long, flat-ends}

pub early_none : (I : Lent) → Unfaulted I
    → None ≡ early_refusal I.pass I.width I.height I.cells I.spans I.boundaries I.anchors (length I.labels) (length I.masks) (length I.queue) (length I.tallies) (length I.output)
unfolding early_refusal sizes_refusal entries_refusal
early_none I U =
    next
    (sym
    (next (ap (refusal 1) U.sides) (next (ap (refusal 2) U.cells) (next (ap (λ b. refusal 3 (unless b)) U.whole) (sym (ap (refusal 4) U.pass))))))
    (next
    (sym (next U.spans (next (ap (refusal 7) U.boundaries) (next (ap (refusal 8) U.anchors) (sym (ap (refusal 9) U.elevations))))))
    (sym (ap (λ b. refusal 10 (unless b)) U.room)))

-- so much room for rows
pub rows_out_lem : List ℕ
rows_out_lem = replicate rows_long_lem 0

pub rows_out : length rows_out_lem ≡ rows_long_lem
unfolding rows_out_lem
rows_out = length-replicate {A = ℕ} rows_long_lem 0

pub zeroed-length : (n : ℕ) (l : List ℕ) → n ≤ length l → length (zeroed n l) ≡ length l
zeroed-length n l h =
    let zeros : length (replicate {A = ℕ} n 0) ≡ n = length-replicate {A = ℕ} n 0 in
    length-append (replicate n 0) (drop n l) ∙ omega (arith, zeros, length-drop n l)

-- ---- a partition of the run, with lists as long as its own

module _ (L : Lent) (A : RestChecked L) (places : List ℕ) (reached : Reached (start_map (map_in L)) (run 0 (length (start_map (map_in L)).boundaries)) places)
    (l m q t p : List ℕ)
    (el : length l ≡ length L.labels) (em : length m ≡ length L.masks) (eq : length q ≡ length L.queue)
    (et : length t ≡ length L.tallies) (ep : length p ≡ length L.pairs) where
  abbrev K : Map
  K = kept_map (start_map (map_in L)) places

  abbrev pub call : Lent
  call = inner L A 1 refl places reached l m q t p L.records rows_out_lem el em eq et ep refl (omega (arith, rows_out))

  unfaulted : Unfaulted call
  unfaulted = inner-unfaulted L A 1 refl places reached l m q t p L.records rows_out_lem el em eq et ep refl (omega (arith, rows_out))

  pub inner-early : None ≡ early_refusal 1 L.width L.height L.cells (flat_spans K.spans) (flat_boundaries K.boundaries) L.anchors
      (length l) (length m) (length q) (length t) rows_long_lem
  inner-early =
      early_none call unfaulted
      ∙ ap
      (early_refusal 1 L.width L.height L.cells (flat_spans K.spans) (flat_boundaries K.boundaries) L.anchors (length l) (length m) (length q) (length t))
      rows_out

  pub inner_fits_lem : Fit L.width L.height L.cells (flat_spans K.spans) (length l) (length m) (length q) (length t)
  inner_fits_lem = early-fits 1 L.width L.height L.cells (flat_spans K.spans) (flat_boundaries K.boundaries) L.anchors (length l) (length m) (length q) (length t) rows_long_lem (sym inner-early)

  -- tallies have room for each span
  pub inner-tallies : 2 * length places ≤ length t
  unfolding span_count
  inner-tallies =
      let n = length (flat_spans K.spans) / numbers_per_span in
      let c = L.width * L.height in
      let a = both (partition_has_room call) (output_room (length (flat_boundaries K.boundaries) / numbers_per_boundary) (length rows_out_lem)) unfaulted.room in
      let b = both (leb c (length l) && leb c (length m) && leb c (length q)) (leb (2 * n) (length t)) a.0 in
      omega (arith, leb-true (2 * n) (length t) b.1, span_count_lem K.spans, kept-count (start_map (map_in L)) places)

-- ---- dividing again

module _ {w h : ℕ} {cells anchors : List ℕ} {O : Origin} {s : List Region} {places spans : List ℕ} {kept : ℕ} {first : Standing} {room : ℕ} {l m q t p : List ℕ}
    (D : Divides w h cells anchors O s places spans kept first room l m q t p) where
  abbrev L : Lent
  L = lent_to w h cells anchors O s

  abbrev M : Map
  M = map_lent w h cells anchors O

  -- as far as the first partition filled them
  pub tallies-fit : 2 * first.kept ≤ length t
  unfolding map_in
  tallies-fit =
      let all : 2 * length (all_places M) ≤ length t = inner-tallies L D.accepted.checked (all_places M) begun l m q t p D.labels D.masks D.queue D.tallies D.pairs in
      omega (arith, all, length_run 0 (length (start_map M).boundaries), start-boundaries M, start-count M, D.firsts.kept)

  pub pairs-fit : 3 * first.rows ≤ length p
  unfolding map_in pairs_fault
  pairs-fit =
      let n = length (pair_rows_of (context_of (start_map M))) in
      omega (arith, leb-true n (length O.pairs / 3 * 3) (no_fault_lem (leb n (length O.pairs / 3 * 3)) 0 D.accepted.pairs), D.firsts.rows, D.pairs)

  -- cleared so far they are as long as they were
  pub tallies-cleared : length (zeroed (2 * first.kept) t) ≡ length t
  tallies-cleared = zeroed-length _ _ tallies-fit

  pub pairs-cleared : length (zeroed (3 * first.rows) p) ≡ length p
  pairs-cleared = zeroed-length _ _ pairs-fit

  pub spans_fit : 4 * kept ≤ length spans
  spans_fit = omega (arith, begins-long (ends_block M) 4 (λ x. refl) D.ended, D.count)

  front : take (4 * kept) spans ≡ flat_spans (kept_of M places).spans
  front = ap (λ n. take (4 * n) spans) D.count ∙ begins-front (ends_block M) 4 (λ x. refl) D.ended ∙ flat-ends M places

  module _ (t₀ p₀ : List ℕ) (same_tallies : length t₀ ≡ length t) (same_pairs : length p₀ ≡ length p) where
    t-long : length t₀ ≡ length O.tallies
    t-long = same_tallies ∙ D.tallies

    p-long : length p₀ ≡ length O.pairs
    p-long = same_pairs ∙ D.pairs

    pub again-fits : Fit w h cells (take (4 * kept) spans) (length l) (length m) (length q) (length t₀)
    unfolding map_in
    again-fits =
        subst (λ b. Fit w h cells b (length l) (length m) (length q) (length t₀)) (sym front)
        (inner_fits_lem L D.accepted.checked places D.reached l m q t₀ p₀ D.labels D.masks D.queue t-long p-long)

    module _ (r : Result Ready code.Refusal) (l' m' q' t' p' : List ℕ) (divided : DividedAs w h cells (take (4 * kept) spans) room l m q t₀ p₀ r l' m' q' t' p') where
      prepared : PreparedAs 1 w h cells (flat_spans (kept_of M places).spans) (flat_boundaries (kept_of M places).boundaries) anchors room rows_long_lem l m q t₀ p₀ r l' m' q' t' p'
      unfolding map_in
      prepared =
          subst (λ b. DividedAs w h cells b room l m q t₀ p₀ r l' m' q' t' p') front divided 1 (flat_boundaries (kept_of M places).boundaries) anchors rows_long_lem
          (inner-early L D.accepted.checked places D.reached l m q t₀ p₀ D.labels D.masks D.queue t-long p-long)

      -- it is not refused
      never-refused : (x : code.Refusal) → r ≡ Err x → ⊥
      unfolding map_in
      never-refused x e =
          let ran = subst (λ r. PreparedAs 1 w h cells (flat_spans (kept_of M places).spans) (flat_boundaries (kept_of M places).boundaries) anchors room rows_long_lem l m q t₀ p₀ r l' m' q' t' p') e prepared s rows_out_lem D.roomy rows_out in
          let zero_is : number_of x.cause ≡ 0 =
          ap (λ (a : Answer). a.number)
          (ran.answer
          ∙ inner-verdict L D.accepted.checked 1 refl places D.reached l m q t₀ p₀ s rows_out_lem D.labels D.masks D.queue t-long p-long refl (omega (arith, rows_out)) D.accepted.records D.accepted.pairs) in
          omega (arith, positive x.cause, zero_is)

      pub is-ready : IsOk r
      is-ready = is-ok r never-refused

      pub redivided : {ready : Ready} → r ≡ Ok ready → t₀ ≡ zeroed (2 * first.kept) t → p₀ ≡ zeroed (3 * first.rows) p
          → Redivided w h cells anchors O places first room l m q t p (record { kept = kept; regions = ready.regions; rows = ready.rows }) l' m' q' t' p'
      redivided {ready} e et ep =
          record {
            count = D.count;
            ready =
                subst (λ p₀. ReadyOf w h cells anchors (kept_of M places) room l m q (zeroed (2 * first.kept) t) p₀ ready.regions ready.rows l' m' q' t' p') ep
                (subst (λ t₀. ReadyOf w h cells anchors (kept_of M places) room l m q t₀ p₀ ready.regions ready.rows l' m' q' t' p') et
                (subst (λ r. PreparedAs 1 w h cells (flat_spans (kept_of M places).spans) (flat_boundaries (kept_of M places).boundaries) anchors room rows_long_lem l m q t₀ p₀ r l' m' q' t' p') e prepared));
          }
