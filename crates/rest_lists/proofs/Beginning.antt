-- A run before its first pass. Where a check before 11 refuses, the answer is the run's and every list is as it was (`refused-early`). Where none does, the
-- first partition is that of the starting map: its refusals 11 and 12 are the run's (`refused-late`), and where it is ready the run is accepted
-- (`begun-ready`). Assumes nothing.
use Prim.Native.Nat.{ℕ, ◌*◌, ◌/◌, ◌%◌, ◌≤◌}
use native.Mathlib.Omega.{arith}
use mathlib.Core.Path.{◌≡◌, refl, sym, ap, subst, ◌∙◌}
use mathlib.Core.Bool.{◌&&◌, cond}
use Rattle.std.specs.Prelude.{Option, None, Some, Result, Err, Ok}
use mathlib.Core.List.{List, [], ◌∷◌}
use lib.ListN.{length, take, replicate, length-replicate}
use lib.Dec.{eqb, leb}
use borrow.Author.Tests.{leb-true, le-leb, ne_eqb}
use Rattle.definitions.specs.Limits.{numbers_per_span, numbers_per_boundary, numbers_per_anchor}
use Rattle.definitions.specs.Scan.{run}
use Rattle.definitions.specs.Grid.{Map, map_of, cell_count, span_count}
use Rattle.definitions.specs.Partition.{labels, region_count}
use Rattle.definitions.specs.RegionRecord.{Region, empty_region}
use Rattle.definitions.specs.Context.{context_of}
use Rattle.definitions.specs.Rows.{rows_of}
use Rattle.definitions.specs.Refusals.{Refusal, or_else, unless, sides_fault, cells_fault, is_whole, pass_fault, spans_refusal, boundaries_fault, anchors_fault, elevations_fault}
use Rattle.definitions.specs.Verdict.{Lent, Answer, map_in, refusal, first_refusal, records_fault, pair_rows_of, pairs_fault, verdict}
use Rattle.definitions.specs.AtExit.{stage_of, untouched, complete, tallies_of, scratch_at_exit, call_exit, exit_with}
use Rattle.definitions.specs.Lists.{overwrite, zeroed}
use Rattle.laws.specs.TableLaws.AcceptedCalls.{or_else-assoc, refusal_none}
use Rattle.laws.specs.ListLaws.Lists.{length_run}
use Rattle.laws.specs.ListLaws.NoFault.{no_fault_lem, or_else_none}
use Rattle.laws.specs.ListLaws.Tests.{both}
use Rattle.laws.specs.TableLaws.KeptRows.{boundary_count_lem}
use Rattle.areas.specs.Fit.{Fit}
use Rattle.areas.proofs.Leaving.{Leaves, leaves_or, leaves-refusal}
use Rattle.areas.proofs.Early.{spans_leave}
use Rattle.areas.proofs.FirstRefusal.{first_joined}
use Rattle.call_partition.specs.Contract.{given, Ran}
use Rattle.call_partition.specs.Early.{sizes_refusal, entries_refusal, has_room_lem}
use Rattle.refusals.specs.declared.Refusal as code
use Rattle.refusals.specs.Refusals.{refusal_of}
use Rattle.refusals.proofs.Steps.{positive}
use Rattle.call_partition.specs.declared.Ready.{Ready}
use Rattle.call_partition.specs.Prepared.{PreparedAs, DividedAs}
use Rattle.rest_definitions.specs.RowOrder.{start_map}
use Rattle.rest_definitions.specs.Rest.{kept_map, rest_rows, rounds_of, last_map}
use Rattle.rest_definitions.specs.RestVerdict.{lists_fault, with_rounds, rest_verdict}
use Rattle.rest_definitions.specs.RestExit.{rest_exit, labels_rested, tallies_rested, pairs_rested, records_rested, output_rested}
use Rattle.rest.specs.FewerPairs.{begun}
use Rattle.rest.specs.FlatLists.{flat_spans, flat_boundaries}
use Rattle.rest.specs.Runs.{start-kept}
use Rattle.rest.specs.StartMaps.{start-boundaries}
use Rattle.rest.specs.InnerCalls.{RestChecked, RestAccepted, two_faults, checked-answer, first_map, first_verdict}
use Rattle.rest.specs.RestCalls.{RestRan}
use Rattle.rest_lists.specs.Early.{rest_early}
use Rattle.rest_lists.specs.Kept.{ends_block, Holds, ReadyOf, rows_long_lem, kept_of, all_places}
use Rattle.rest_lists.specs.Begun.{BegunAs}
use Rattle.rest_lists.proofs.Holding.{begins-front, begins-long, flat-ends}
use Rattle.rest_lists.proofs.Inner.{rows_out_lem, rows_out, inner-early, inner_fits_lem}

-- a refusal has no rounds
no_rounds : (a : Answer) (rounds : ℕ) → (a.number ≡ 0 → ⊥) → with_rounds a rounds ≡ record { number = a.number; value = a.value; rounds = 0 }
no_rounds a rounds h = ap (λ b. record { number = a.number; value = a.value; rounds = cond b rounds 0 }) (ne_eqb a.number 0 h)

-- a refusal of the first partition
data Late (number : ℕ) : Type 0 where
  eleventh : number ≡ 11 → Late number
  twelfth : number ≡ 12 → Late number

-- ---- the checks before 11

module _ (w h : ℕ) (cells spans boundaries anchors : List ℕ) (l m q t o : ℕ) where
  abbrev third : Option Refusal
  third = refusal 3 (unless (is_whole numbers_per_span spans && is_whole numbers_per_boundary boundaries && is_whole numbers_per_anchor anchors))

  abbrev sixteen : Option Refusal
  sixteen = refusal 16 (lists_fault spans boundaries)

  abbrev tenth : Option Refusal
  tenth = refusal 10 (unless (has_room_lem w h spans boundaries l m q t o))

  -- one behind the other
  abbrev one_by_one : Option Refusal
  one_by_one =
      or_else (refusal 1 (sides_fault w h))
      (or_else (refusal 2 (cells_fault w h cells))
      (or_else third
      (or_else sixteen
      (or_else (spans_refusal w h spans)
      (or_else (refusal 7 (boundaries_fault w h boundaries))
      (or_else (refusal 8 (anchors_fault w h anchors)) (or_else (refusal 9 (elevations_fault cells)) tenth)))))))

  early-parts : rest_early w h cells spans boundaries anchors l m q t o ≡ one_by_one
  unfolding rest_early sizes_refusal entries_refusal
  early-parts =
      or_else-assoc (refusal 1 (sides_fault w h)) _ _
      ∙ ap (or_else (refusal 1 (sides_fault w h)))
      (or_else-assoc (refusal 2 (cells_fault w h cells)) _ _
      ∙ ap (or_else (refusal 2 (cells_fault w h cells)))
      (or_else-assoc third (refusal 4 (pass_fault 1)) _
      ∙ ap (λ x. or_else third (or_else sixteen x))
      (or_else-assoc (spans_refusal w h spans) _ _
      ∙ ap (or_else (spans_refusal w h spans))
      (or_else-assoc (refusal 7 (boundaries_fault w h boundaries)) _ _
      ∙ ap (or_else (refusal 7 (boundaries_fault w h boundaries))) (or_else-assoc (refusal 8 (anchors_fault w h anchors)) (refusal 9 (elevations_fault cells)) _)))))

  -- such a refusal leaves every list as it was
  early-leaves : Leaves one_by_one
  unfolding stage_of
  early-leaves =
      leaves_or _ _ (leaves-refusal 1 (sides_fault w h) refl)
      (leaves_or _ _ (leaves-refusal 2 (cells_fault w h cells) refl)
      (leaves_or _ _ (leaves-refusal 3 (unless (is_whole numbers_per_span spans && is_whole numbers_per_boundary boundaries && is_whole numbers_per_anchor anchors)) refl)
      (leaves_or _ _ (leaves-refusal 16 (lists_fault spans boundaries) refl)
      (leaves_or _ _ (spans_leave w h spans)
      (leaves_or _ _ (leaves-refusal 7 (boundaries_fault w h boundaries) refl)
      (leaves_or _ _ (leaves-refusal 8 (anchors_fault w h anchors) refl)
      (leaves_or _ _ (leaves-refusal 9 (elevations_fault cells) refl) (leaves-refusal 10 (unless (has_room_lem w h spans boundaries l m q t o)) refl))))))))

leaves_some : (x : Refusal) → Leaves (Some x) → stage_of x.number ≡ untouched
unfolding Leaves
leaves_some x h = h

untouched-numbered : (number : ℕ) → stage_of number ≡ untouched → number ≡ 0 → ⊥
unfolding stage_of
untouched-numbered number u e =
    let z : stage_of 0 ≡ untouched = ap stage_of (sym e) ∙ u in
    let c : complete ≡ untouched = z in
    let n : ◌≡◌ {A = ℕ} 0 1 = cc in
    omega arith

module _ (w h : ℕ) (cells spans boundaries anchors l m q t p : List ℕ) (s : List Region) (o : List ℕ) where
  abbrev L : Lent
  L = given 1 w h cells spans boundaries anchors l m q t p s o

  abbrev M : Map
  M = map_of w h cells spans boundaries anchors

  abbrev early : Option Refusal
  early = rest_early w h cells spans boundaries anchors (length l) (length m) (length q) (length t) (length o)

  verdict-early : rest_verdict L ≡ with_rounds (first_refusal (early ∷ two_faults L (start_map (map_in L))) (length (rest_rows (map_in L)))) (rounds_of (map_in L))
  unfolding rest_verdict
  verdict-early =
      ap (λ a. with_rounds a (rounds_of (map_in L)))
      (first_joined
      (refusal 1 (sides_fault w h)
      ∷ refusal 2 (cells_fault w h cells)
      ∷ third w h cells spans boundaries anchors (length l) (length m) (length q) (length t) (length o)
      ∷ refusal 16 (lists_fault spans boundaries)
      ∷ spans_refusal w h spans
      ∷ refusal 7 (boundaries_fault w h boundaries)
      ∷ refusal 8 (anchors_fault w h anchors)
      ∷ refusal 9 (elevations_fault cells)
      ∷ [])
      (tenth w h cells spans boundaries anchors (length l) (length m) (length q) (length t) (length o))
      (two_faults L (start_map (map_in L)))
      (length (rest_rows (map_in L)))
      ∙ ap (λ x. first_refusal (x ∷ two_faults L (start_map (map_in L))) (length (rest_rows (map_in L))))
      (sym (early-parts w h cells spans boundaries anchors (length l) (length m) (length q) (length t) (length o))))

  pub refused-early : (number place : ℕ) → Some (record { number = number; place = place }) ≡ early
      → RestRan L (record { number = number; value = place; rounds = 0 }) l m q t p s o
  unfolding rest_exit
  refused-early number place e =
      let parts = early-parts w h cells spans boundaries anchors (length l) (length m) (length q) (length t) (length o) in
      let stays = early-leaves w h cells spans boundaries anchors (length l) (length m) (length q) (length t) (length o) in
      let u : stage_of number ≡ untouched = leaves_some (record { number = number; place = place }) (subst Leaves (sym (e ∙ parts)) stays) in
      let F = start_map (map_in L) in
      let N = last_map (map_in L) in
      let a : Answer = record { number = number; value = place } in
      record {
        answer =
            sym
            (verdict-early
            ∙ ap (λ x. with_rounds (first_refusal (x ∷ two_faults L (start_map (map_in L))) (length (rest_rows (map_in L)))) (rounds_of (map_in L))) (sym e)
            ∙ no_rounds a (rounds_of (map_in L)) (untouched-numbered number u));
        labels = sym (ap (λ g. labels_rested g F N l) u);
        masks = sym (ap (λ g. scratch_at_exit g (map_in L) m) u);
        queue = sym (ap (λ g. scratch_at_exit g (map_in L) q) u);
        tallies = sym (ap (λ g. tallies_rested g F N t) u);
        pairs = sym (ap (λ g. pairs_rested g F N p) u);
        records = sym (ap (λ g. records_rested g F N s) u);
        output = sym (ap (λ g. output_rested g (map_in L) o) u);
      }

  -- no check before 11 refuses
  pub checked : None ≡ early → RestChecked L
  unfolding map_in
  checked e =
      let f = sym (e ∙ early-parts w h cells spans boundaries anchors (length l) (length m) (length q) (length t) (length o)) in
      let a1 = or_else_none (refusal 1 (sides_fault w h)) _ f in
      let a2 = or_else_none (refusal 2 (cells_fault w h cells)) _ a1.1 in
      let a3 = or_else_none (third w h cells spans boundaries anchors (length l) (length m) (length q) (length t) (length o)) _ a2.1 in
      let a4 = or_else_none (refusal 16 (lists_fault spans boundaries)) _ a3.1 in
      let a5 = or_else_none (spans_refusal w h spans) _ a4.1 in
      let a7 = or_else_none (refusal 7 (boundaries_fault w h boundaries)) _ a5.1 in
      let a8 = or_else_none (refusal 8 (anchors_fault w h anchors)) _ a7.1 in
      let a9 = or_else_none (refusal 9 (elevations_fault cells)) _ a8.1 in
      record {
        sides = refusal_none 1 _ a1.0;
        cells = refusal_none 2 _ a2.0;
        whole = no_fault_lem _ 0 (refusal_none 3 _ a3.0);
        lists = refusal_none 16 _ a4.0;
        spans = a5.0;
        boundaries = refusal_none 7 _ a7.0;
        anchors = refusal_none 8 _ a8.0;
        elevations = refusal_none 9 _ a9.0;
        room = no_fault_lem _ 0 (refusal_none 10 _ a9.1);
      }

  -- ---- the first partition

  module _ (A : RestChecked L) where
    abbrev S : Map
    S = start_map (map_in L)

    abbrev all : List ℕ
    all = run 0 (length S.boundaries)

    abbrev K : Map
    K = kept_map S all

    -- the first call
    abbrev I : Lent
    I = given 1 w h cells (flat_spans K.spans) (flat_boundaries K.boundaries) anchors l m q t p s rows_out_lem

    same_map : map_in I ≡ S
    same_map = first_map L A 1 refl all begun l m q t p s rows_out_lem refl refl refl refl refl refl (omega (arith, rows_out)) refl

    -- its answer is by 11 and 12 of the run
    first_answer : verdict I ≡ first_refusal (two_faults L S) (length (rows_of 1 S))
    first_answer = first_verdict L A 1 refl all begun l m q t p s rows_out_lem refl refl refl refl refl refl (omega (arith, rows_out)) refl

    late : {number place : ℕ} → 1 ≤ number → record { number = number; value = place } ≡ verdict I
        → (Late number) × (record { number = number; value = place; rounds = 0 } ≡ rest_verdict L)
    late {number} {place} n e =
        let f = e ∙ first_answer in
        (go (records_fault L S) (pairs_fault L S) f, answer (records_fault L S) (pairs_fault L S) f ∙ sym (checked-answer L A))
      where
        go : (a b : Option ℕ) → record { number = number; value = place } ≡ first_refusal (refusal 11 a ∷ refusal 12 b ∷ []) (length (rows_of 1 S)) → Late number
        go None None f = absurd (omega (arith, n, ap (λ (x : Answer). x.number) f))
        go None (Some x) f = twelfth (ap (λ (x : Answer). x.number) f)
        go (Some x) b f = eleventh (ap (λ (x : Answer). x.number) f)

        answer : (a b : Option ℕ) → record { number = number; value = place } ≡ first_refusal (refusal 11 a ∷ refusal 12 b ∷ []) (length (rows_of 1 S))
            → record { number = number; value = place; rounds = 0 } ≡ with_rounds (first_refusal (refusal 11 a ∷ refusal 12 b ∷ []) (length (rest_rows (map_in L)))) (rounds_of (map_in L))
        answer None None f = absurd (omega (arith, n, ap (λ (x : Answer). x.number) f))
        answer None (Some x) f = (λ i. record { number = (f i).number; value = (f i).value; rounds = 0 })
        answer (Some x) b f = (λ i. record { number = (f i).number; value = (f i).value; rounds = 0 })

    module _ {l' m' q' t' p' : List ℕ} where
      at_11 : {place : ℕ} → Ran I (record { number = 11; value = place }) l' m' q' t' p' s rows_out_lem → record { number = 11; value = place; rounds = 0 } ≡ rest_verdict L
          → RestRan L (record { number = 11; value = place; rounds = 0 }) l' m' q' t' p' s o
      unfolding rest_exit call_exit exit_with stage_of cell_count map_in map_of
      at_11 R e =
          record {
            answer = e;
            labels = R.labels ∙ ap (λ N. overwrite (labels N) l) same_map;
            masks = R.masks;
            queue = R.queue;
            tallies = R.tallies ∙ ap (λ N. zeroed (2 * span_count N) t) same_map;
            pairs = R.pairs;
            records = refl;
            output = refl;
          }

      at_12 : {place : ℕ} → Ran I (record { number = 12; value = place }) l' m' q' t' p' s rows_out_lem → record { number = 12; value = place; rounds = 0 } ≡ rest_verdict L
          → RestRan L (record { number = 12; value = place; rounds = 0 }) l' m' q' t' p' s o
      unfolding rest_exit call_exit exit_with stage_of cell_count map_in map_of
      at_12 R e =
          record {
            answer = e;
            labels = R.labels ∙ ap (λ N. overwrite (labels N) l) same_map;
            masks = R.masks;
            queue = R.queue;
            tallies = R.tallies ∙ ap (λ N. overwrite (tallies_of (context_of N)) t) same_map;
            pairs = R.pairs;
            records = refl;
            output = refl;
          }

      pub refused-late : {number place : ℕ} → 1 ≤ number → Ran I (record { number = number; value = place }) l' m' q' t' p' s rows_out_lem
          → RestRan L (record { number = number; value = place; rounds = 0 }) l' m' q' t' p' s o
      refused-late {number} {place} n R = go (late n R.answer).0 (late n R.answer).1
        where
          go : Late number → record { number = number; value = place; rounds = 0 } ≡ rest_verdict L → RestRan L (record { number = number; value = place; rounds = 0 }) l' m' q' t' p' s o
          go (eleventh e) a =
              subst (λ n. RestRan L (record { number = n; value = place; rounds = 0 }) l' m' q' t' p' s o) (sym e)
              (at_11 (subst (λ n. Ran I (record { number = n; value = place }) l' m' q' t' p' s rows_out_lem) e R) (ap (λ n. record { number = n; value = place; rounds = 0 }) (sym e) ∙ a))
          go (twelfth e) a =
              subst (λ n. RestRan L (record { number = n; value = place; rounds = 0 }) l' m' q' t' p' s o) (sym e)
              (at_12 (subst (λ n. Ran I (record { number = n; value = place }) l' m' q' t' p' s rows_out_lem) e R) (ap (λ n. record { number = n; value = place; rounds = 0 }) (sym e) ∙ a))

      -- where it is ready the run is accepted
      pub accepted-ready : {regions rows : ℕ} → ReadyOf w h cells anchors K (length s) l m q t p regions rows l' m' q' t' p' → RestAccepted L
      unfolding records_fault pairs_fault map_in
      accepted-ready R =
          record {
            checked = A;
            records =
                ap (λ N. unless (leb (region_count N) (length s))) (sym same_map) ∙ ap (λ b. unless b) (le-leb _ _ R.enough);
            pairs =
                ap (λ N. unless (leb (length (pair_rows_of (context_of N))) (length p / 3 * 3))) (sym same_map) ∙ ap (λ b. unless b) (le-leb _ _ R.fits);
          }

-- ---- the contract of `begin_rest`

module _ (w h : ℕ) (cells spans boundaries anchors : List ℕ) (room output : ℕ) (l m q t p : List ℕ) where
  abbrev before : Option Refusal
  before = rest_early w h cells spans boundaries anchors (length l) (length m) (length q) (length t) output

  wide_enough : {x : Option Refusal} (o : List ℕ) → length o ≡ output → x ≡ before → x ≡ rest_early w h cells spans boundaries anchors (length l) (length m) (length q) (length t) (length o)
  wide_enough o wide e = e ∙ ap (rest_early w h cells spans boundaries anchors (length l) (length m) (length q) (length t)) (sym wide)

  pub begun-refused : (r : code.Refusal) (n b d : List ℕ) → Some (refusal_of r) ≡ before
      → BegunAs w h cells spans boundaries anchors room output l m q t p (Err r) l m q t p n b d
  begun-refused r n b d e s o long wide = refused-early w h cells spans boundaries anchors l m q t p s o _ _ (wide_enough o wide e)

  module _ (e : None ≡ before) where
    abbrev N : Map
    N = map_of w h cells spans boundaries anchors

    -- the run with some records and output of these lengths
    some_run : RestChecked (given 1 w h cells spans boundaries anchors l m q t p (replicate room empty_region) (replicate output 0))
    some_run = checked w h cells spans boundaries anchors l m q t p (replicate room empty_region) (replicate output 0) (wide_enough (replicate output 0) (length-replicate {A = ℕ} output 0) e)

    pub count-few : length boundaries / numbers_per_boundary ≤ 256
    count-few =
        let a = both (is_whole numbers_per_span spans && is_whole numbers_per_boundary boundaries) (is_whole numbers_per_anchor anchors) some_run.whole in
        let c = both (is_whole numbers_per_span spans) (is_whole numbers_per_boundary boundaries) a.0 in
        leb-true (length boundaries / 9) 256 (both (eqb (length boundaries % 9) 0) (leb (length boundaries / 9) 256) c.1).1

    module _ {n b d : List ℕ} (held : Holds N (all_places N) n b d) where
      all-counted : length boundaries / numbers_per_boundary ≡ length (all_places N)
      unfolding map_in
      all-counted =
          sym (boundary_count_lem (given 1 w h cells spans boundaries anchors l m q t p (replicate room empty_region) (replicate output 0)))
          ∙ sym (start-boundaries N)
          ∙ sym (length_run 0 (length (start_map N).boundaries))

      pub ends-long : 4 * (length boundaries / numbers_per_boundary) ≤ length b
      ends-long = omega (arith, begins-long (ends_block N) 4 (λ x. refl) held.ended, all-counted)

      front : take (4 * (length boundaries / numbers_per_boundary)) b ≡ flat_spans (kept_of N (all_places N)).spans
      front = ap (λ k. take (4 * k) b) all-counted ∙ begins-front (ends_block N) 4 (λ x. refl) held.ended ∙ flat-ends N (all_places N)

      pub begun-fits : Fit w h cells (take (4 * (length boundaries / numbers_per_boundary)) b) (length l) (length m) (length q) (length t)
      unfolding map_in
      begun-fits =
          subst (λ x. Fit w h cells x (length l) (length m) (length q) (length t)) (sym front)
          (inner_fits_lem (given 1 w h cells spans boundaries anchors l m q t p (replicate room empty_region) (replicate output 0)) some_run (all_places N) begun l m q t p refl refl refl refl refl)

      module _ (l' m' q' t' p' : List ℕ) where
        abbrev Prepares : Result Ready code.Refusal → Type 0
        Prepares r =
            PreparedAs 1 w h cells (flat_spans (kept_of N (all_places N)).spans) (flat_boundaries (kept_of N (all_places N)).boundaries) anchors room rows_long_lem l m q t p r l' m' q' t' p'

        by_case : (r : Result Ready code.Refusal) → Prepares r → BegunAs w h cells spans boundaries anchors room output l m q t p r l' m' q' t' p' n b d
        unfolding map_in
        by_case (Err r) P =
            λ s o long wide.
            refused-late w h cells spans boundaries anchors l m q t p s o (checked w h cells spans boundaries anchors l m q t p s o (wide_enough o wide e)) (positive r.cause) (P s rows_out_lem long rows_out)
        by_case (Ok ready) P =
            record {
              accepted =
                  λ s o long wide.
                  accepted-ready w h cells spans boundaries anchors l m q t p s o (checked w h cells spans boundaries anchors l m q t p s o (wide_enough o wide e))
                  (subst (λ k. ReadyOf w h cells anchors (kept_of N (all_places N)) k l m q t p ready.regions ready.rows l' m' q' t' p') (sym long) P);
              ready = subst (λ K. ReadyOf w h cells anchors K room l m q t p ready.regions ready.rows l' m' q' t' p') (start-kept N) P;
              held = held;
            }

        pub begun_divided : (r : Result Ready code.Refusal) → DividedAs w h cells (take (4 * (length boundaries / numbers_per_boundary)) b) room l m q t p r l' m' q' t' p'
            → BegunAs w h cells spans boundaries anchors room output l m q t p r l' m' q' t' p' n b d
        unfolding map_in
        begun_divided r divided =
            by_case r
            (subst (λ x. DividedAs w h cells x room l m q t p r l' m' q' t' p') front divided 1 (flat_boundaries (kept_of N (all_places N)).boundaries) anchors rows_long_lem
            (inner-early (given 1 w h cells spans boundaries anchors l m q t p (replicate room empty_region) (replicate output 0)) some_run (all_places N) begun l m q t p refl refl refl refl refl))
