-- The contract of the call (`Played`) from what its parts leave: where a check before the first partition refuses (`played-refused`), where this partition is
-- refused 11 or 12 (`played-late`), and where all is filled (`played_complete`). The answer follows the chain of checks, and each list at exit is what the
-- request says for that number. Assumes nothing.
use Prim.Native.Nat.{ℕ, zero, suc, ◌*◌, ◌/◌, ◌≤◌}
use native.Mathlib.Omega.{arith}
use mathlib.Core.Path.{◌≡◌, refl, sym, ap, ap₂, subst, ◌∙◌}
use mathlib.Core.Bool.{Bool, true, false, not, ◌&&◌, cond}
use Rattle.std.specs.Prelude.{Option, None, Some}
use mathlib.Core.List.{List, [], ◌∷◌}
use lib.ListN.{length, replicate}
use lib.Dec.{eqb, leb}
use borrow.Author.Tests.{leb-true, le-leb}
use Rattle.definitions.specs.Limits.{numbers_per_span, numbers_per_boundary, numbers_per_anchor, numbers_per_pair, tallies_per_span}
use Rattle.definitions.specs.Scan.{only_if}
use Rattle.definitions.specs.Lists.{overwrite, zeroed}
use Rattle.definitions.specs.Grid.{Map, map_of, Segment, segment_at, cell_count, span_count}
use Rattle.definitions.specs.Partition.{labels, region_count}
use Rattle.definitions.specs.RegionRecord.{Region, empty_region}
use Rattle.definitions.specs.Context.{context_of}
use Rattle.definitions.specs.Rows.{rows_of, flat_rows}
use Rattle.definitions.specs.Refusals.{Refusal, or_else, first_below_lem, unless, sides_fault, cells_fault, is_whole, pass_fault, both_on_map, endpoints_differ, spans_refusal, boundaries_fault, anchors_fault, elevations_fault}
use Rattle.definitions.specs.Verdict.{Lent, Answer, map_in, refusal, first_refusal, pair_rows_of, records_fault, pairs_fault}
use Rattle.definitions.specs.AtExit.{stage_of, untouched, complete, tallies_of, records_of, scratch_at_exit, output_at_exit, exit_with, call_exit}
use Rattle.laws.specs.ListLaws.NoFault.{no_fault_lem, or_else_none}
use Rattle.laws.specs.TableLaws.AcceptedCalls.{refusal_none}
use Rattle.areas.proofs.FirstRefusal.{first_joined}
use Rattle.call_partition.specs.Early.{sizes_refusal, entries_refusal, has_room_lem, early_refusal}
use Rattle.call_partition.specs.Contract.{given, Ran}
use Rattle.call_partition.proofs.Exits.{verdict-late}
use Rattle.rest_definitions.specs.RestVerdict.{lists_fault}
use Rattle.rest_definitions.specs.RestExit.{labels_rested, tallies_rested, pairs_rested, records_rested}
use Rattle.game.specs.Graph.{verdicts_room, place_count, graph_fault, goal_fault, verdict_numbers, verdicts_at_exit}
use Rattle.game_calls.specs.KeptGraph.{graph_map, kept_game}
use Rattle.game_calls.specs.GameVerdict.{GameAnswer, with_regions, game_verdict}
use Rattle.game_calls.specs.GameExit.{game_stage, game_exit, Played}
use Rattle.game_lists.specs.Early.{game_early}
use Rattle.game_lists.specs.Forms.{late_answer}

-- ---- numbers that leave every list

-- a refusal whose number is not 0 and leaves all lists as they were
unfoldable pub Leaves : Option Refusal → Type 0
Leaves None = Unit
Leaves (Some x) = (eqb x.number 0 ≡ false) × (game_stage x.number ≡ untouched)

leaves_or : (a b : Option Refusal) → Leaves a → Leaves b → Leaves (or_else a b)
unfolding Leaves
leaves_or None b h k = k
leaves_or (Some x) b h k = h

leaves-refusal : (number : ℕ) (o : Option ℕ) → eqb number 0 ≡ false → game_stage number ≡ untouched → Leaves (refusal number o)
unfolding Leaves
leaves-refusal number None g h = tt
leaves-refusal number (Some place) g h = (g, h)

leaves_only : (b : Bool) (x : Refusal) → eqb x.number 0 ≡ false → game_stage x.number ≡ untouched → Leaves (only_if b x)
unfolding Leaves
leaves_only true x g h = (g, h)
leaves_only false x g h = tt

leaves_first : (f : ℕ → Option Refusal) → ((i : ℕ) → Leaves (f i)) → (n : ℕ) → Leaves (first_below_lem n f)
unfolding first_below_lem Leaves
leaves_first f h zero = tt
leaves_first f h (suc n) = leaves_or (first_below_lem n f) (f n) (leaves_first f h n) (h n)

spans_leave : (w h : ℕ) (spans : List ℕ) → Leaves (spans_refusal w h spans)
unfolding spans_refusal game_stage
spans_leave w h spans =
    leaves_first _ (λ i. leaves_or _ _ (leaves_only (not (both_on_map w h (at i))) _ refl refl) (leaves_only (not (endpoints_differ (at i))) _ refl refl)) (length spans / numbers_per_span)
  where
    at : ℕ → Segment
    at i = segment_at spans (numbers_per_span * i)

-- 23, 24 and success leave the lists alike
late-stage : (a b : Option ℕ) (kept regions : ℕ) → game_stage (with_regions (first_refusal (refusal 23 a ∷ refusal 24 b ∷ []) kept) regions).number ≡ complete
unfolding game_stage stage_of
late-stage (Some x) b kept regions = refl
late-stage None (Some x) kept regions = refl
late-stage None None kept regions = refl

pub late_complete : (kept regions goal : ℕ) → game_stage (late_answer kept regions goal).number ≡ complete
late_complete kept regions goal = late-stage (graph_fault regions) (goal_fault regions goal) kept regions

-- ---- checks put together

-- a check that is made twice, before and behind another
twice : (a b c d e : Option Refusal) → or_else a (or_else b (or_else (or_else a (or_else c d)) e)) ≡ or_else a (or_else b (or_else c (or_else d e)))
twice (Some x) b c d e = refl
twice None (Some x) c d e = refl
twice None None (Some x) d e = refl
twice None None None d e = refl

four : (a b c d e : Option Refusal) → or_else (or_else a (or_else b (or_else c d))) e ≡ or_else a (or_else b (or_else c (or_else d e)))
four (Some x) b c d e = refl
four None (Some x) c d e = refl
four None None (Some x) d e = refl
four None None None d e = refl

-- 10 of two tests
both-rooms : (a b : Bool) → or_else (refusal 10 (unless a)) (refusal 10 (unless b)) ≡ refusal 10 (unless (a && b))
both-rooms true b = refl
both-rooms false b = refl

-- what no refusal before the first partition says
pub record Past (pass w h : ℕ) (cells spans boundaries anchors : List ℕ) (l m q t o v : ℕ) : Type 0 where
  pub early : None ≡ early_refusal pass w h cells spans boundaries anchors l m q t o
  pub lists : lists_fault spans boundaries ≡ None
  pub enough : verdicts_room ≤ v

pub all_past : (pass w h : ℕ) (cells spans boundaries anchors : List ℕ) (l m q t o v : ℕ) → None ≡ game_early pass w h cells spans boundaries anchors l m q t o v
    → Past pass w h cells spans boundaries anchors l m q t o v
unfolding game_early
all_past pass w h cells spans boundaries anchors l m q t o v e =
    let a = or_else_none (sizes_refusal pass w h cells spans boundaries anchors) _ (sym e) in
    let b = or_else_none (refusal 16 (lists_fault spans boundaries)) _ a.1 in
    let c = or_else_none (early_refusal pass w h cells spans boundaries anchors l m q t o) (refusal 10 (unless (leb verdicts_room v))) b.1 in
    record {
      early = sym c.0;
      lists = refusal_none 16 (lists_fault spans boundaries) b.0;
      enough = leb-true verdicts_room v (no_fault_lem (leb verdicts_room v) 0 (refusal_none 10 (unless (leb verdicts_room v)) c.1));
    }

module _ (pass w h : ℕ) (cells spans boundaries anchors l m q t p : List ℕ) (s : List Region) (o : List ℕ) (goal : ℕ) (v : List ℕ) where
  abbrev L : Lent
  L = given pass w h cells spans boundaries anchors l m q t p s o

  abbrev M : Map
  M = map_of w h cells spans boundaries anchors

  abbrev K : Map
  K = graph_map pass M

  abbrev early : Option Refusal
  early = game_early pass w h cells spans boundaries anchors (length l) (length m) (length q) (length t) (length o) (length v)

  abbrev kept : ℕ
  kept = length (rows_of pass (map_in L))

  abbrev regions : ℕ
  regions = region_count (graph_map pass (map_in L))

  abbrev late : List (Option Refusal)
  late = refusal 11 (records_fault L (map_in L)) ∷ refusal 12 (pairs_fault L (map_in L)) ∷ refusal 23 (graph_fault regions) ∷ refusal 24 (goal_fault regions goal) ∷ []

  abbrev three : Bool
  three = is_whole numbers_per_span spans && is_whole numbers_per_boundary boundaries && is_whole numbers_per_anchor anchors

  abbrev room : Bool
  room = has_room_lem w h spans boundaries (length l) (length m) (length q) (length t) (length o)

  abbrev ten : Option Refusal
  ten = refusal 10 (unless (room && leb verdicts_room (length v)))

  -- the checks before the first partition, one behind the other
  abbrev parts : Option Refusal
  parts =
      or_else (refusal 1 (sides_fault w h))
      (or_else (refusal 2 (cells_fault w h cells))
      (or_else (refusal 3 (unless three))
      (or_else (refusal 4 (pass_fault pass))
      (or_else (refusal 16 (lists_fault spans boundaries))
      (or_else (spans_refusal w h spans)
      (or_else (refusal 7 (boundaries_fault w h boundaries)) (or_else (refusal 8 (anchors_fault w h anchors)) (or_else (refusal 9 (elevations_fault cells)) ten))))))))

  early-parts : early ≡ parts
  unfolding game_early early_refusal sizes_refusal entries_refusal
  early-parts =
      let sixteen = refusal 16 (lists_fault spans boundaries) in
      let sizes = sizes_refusal pass w h cells spans boundaries anchors in
      twice sizes sixteen (entries_refusal w h cells spans boundaries anchors) (refusal 10 (unless room)) (refusal 10 (unless (leb verdicts_room (length v))))
      ∙ ap (λ x. or_else sizes (or_else sixteen (or_else (entries_refusal w h cells spans boundaries anchors) x))) (both-rooms room (leb verdicts_room (length v)))
      ∙ ap (λ x. or_else sizes (or_else sixteen x)) (four (spans_refusal w h spans) (refusal 7 (boundaries_fault w h boundaries)) (refusal 8 (anchors_fault w h anchors)) (refusal 9 (elevations_fault cells)) ten)
      ∙ four (refusal 1 (sides_fault w h)) (refusal 2 (cells_fault w h cells)) (refusal 3 (unless three)) (refusal 4 (pass_fault pass)) _

  verdict-early : game_verdict L goal (length v) ≡ with_regions (first_refusal (early ∷ late) kept) regions
  unfolding game_verdict
  verdict-early =
      ap (λ a. with_regions a regions)
      (first_joined
      (refusal 1 (sides_fault w h)
      ∷ refusal 2 (cells_fault w h cells)
      ∷ refusal 3 (unless three)
      ∷ refusal 4 (pass_fault pass)
      ∷ refusal 16 (lists_fault spans boundaries)
      ∷ spans_refusal w h spans
      ∷ refusal 7 (boundaries_fault w h boundaries)
      ∷ refusal 8 (anchors_fault w h anchors)
      ∷ refusal 9 (elevations_fault cells)
      ∷ [])
      ten
      late
      kept
      ∙ ap (λ x. first_refusal (x ∷ late) kept) (sym early-parts))

  -- ---- refused before it began

  early-leaves : Leaves parts
  unfolding game_stage
  early-leaves =
      leaves_or _ _ (leaves-refusal 1 (sides_fault w h) refl refl)
      (leaves_or _ _ (leaves-refusal 2 (cells_fault w h cells) refl refl)
      (leaves_or _ _ (leaves-refusal 3 (unless three) refl refl)
      (leaves_or _ _ (leaves-refusal 4 (pass_fault pass) refl refl)
      (leaves_or _ _ (leaves-refusal 16 (lists_fault spans boundaries) refl refl)
      (leaves_or _ _ (spans_leave w h spans)
      (leaves_or _ _ (leaves-refusal 7 (boundaries_fault w h boundaries) refl refl)
      (leaves_or _ _ (leaves-refusal 8 (anchors_fault w h anchors) refl refl)
      (leaves_or _ _ (leaves-refusal 9 (elevations_fault cells) refl refl) (leaves-refusal 10 (unless (room && leb verdicts_room (length v))) refl refl)))))))))

  untouched_by : (number place : ℕ) → Some (record { number = number; place = place }) ≡ early → (eqb number 0 ≡ false) × (game_stage number ≡ untouched)
  unfolding Leaves
  untouched_by number place e = subst Leaves (sym early-parts ∙ sym e) early-leaves

  pub played-refused : (number place : ℕ) → Some (record { number = number; place = place }) ≡ early
      → Played L goal v (record { number = number; value = place; regions = 0 }) l m q t p s o v
  unfolding game_exit verdicts_at_exit
  played-refused number place e =
      let u = untouched_by number place e in
      record {
        answer =
            ap (λ b. record { number = number; value = place; regions = cond b regions 0 }) (sym u.0)
            ∙ sym (verdict-early ∙ ap (λ x. with_regions (first_refusal (x ∷ late) kept) regions) (sym e));
        labels = sym (ap (λ g. labels_rested g (map_in L) (graph_map pass (map_in L)) l) u.1);
        masks = sym (ap (λ g. scratch_at_exit g (map_in L) m) u.1);
        queue = sym (ap (λ g. scratch_at_exit g (map_in L) q) u.1);
        tallies = sym (ap (λ g. tallies_rested g (map_in L) (graph_map pass (map_in L)) t) u.1);
        pairs = sym (ap (λ g. pairs_rested g (map_in L) (graph_map pass (map_in L)) p) u.1);
        records = sym (ap (λ g. records_rested g (map_in L) (graph_map pass (map_in L)) s) u.1);
        output = sym (ap (λ g. output_at_exit g pass (map_in L) o) u.1);
        verdicts = sym (ap (λ b. cond b (overwrite (verdict_numbers (kept_game pass (map_in L) goal) (place_count (kept_game pass (map_in L) goal).regions)) v) v) u.0);
      }

  -- ---- past the checks

  module _ (e : None ≡ early) where
    past : None ≡ early_refusal pass w h cells spans boundaries anchors (length l) (length m) (length q) (length t) (length o)
    past = (all_past pass w h cells spans boundaries anchors (length l) (length m) (length q) (length t) (length o) (length v) e).early

    verdict-past : game_verdict L goal (length v) ≡ with_regions (first_refusal late kept) regions
    verdict-past = verdict-early ∙ ap (λ x. with_regions (first_refusal (x ∷ late) kept) regions) (sym e)

    -- at 11 and 12 the lists are those of the pass's call
    record Same (n : ℕ) : Type 0 where
      is_other : eqb n 0 ≡ false
      labels : (call_exit L n).labels ≡ (game_exit L n).labels
      masks : (call_exit L n).masks ≡ (game_exit L n).masks
      queue : (call_exit L n).queue ≡ (game_exit L n).queue
      tallies : (call_exit L n).tallies ≡ (game_exit L n).tallies
      pairs : (call_exit L n).pairs ≡ (game_exit L n).pairs
      records : (call_exit L n).records ≡ (game_exit L n).records
      output : (call_exit L n).output ≡ (game_exit L n).output

    same_11 : Same 11
    unfolding call_exit exit_with stage_of game_exit game_stage
    same_11 = record { is_other = refl; labels = refl; masks = refl; queue = refl; tallies = refl; pairs = refl; records = refl; output = refl }

    same_12 : Same 12
    unfolding call_exit exit_with stage_of game_exit game_stage
    same_12 = record { is_other = refl; labels = refl; masks = refl; queue = refl; tallies = refl; pairs = refl; records = refl; output = refl }

    -- what 11 and 12 answer, and behind them 23 and 24, or the pass's own count
    answers-late : (a b : Option ℕ) (rest : List (Option Refusal)) (number place : ℕ) → 1 ≤ number
        → record { number = number; value = place } ≡ first_refusal (refusal 11 a ∷ refusal 12 b ∷ []) kept
        → Same number × (record { number = number; value = place } ≡ first_refusal (refusal 11 a ∷ refusal 12 b ∷ rest) kept)
    answers-late (Some x) b rest number place Some-number r = (subst Same (sym (ap (λ (a : Answer). a.number) r)) same_11, r)
    answers-late None (Some x) rest number place Some-number r = (subst Same (sym (ap (λ (a : Answer). a.number) r)) same_12, r)
    answers-late None None rest number place Some-number r = absurd (omega (arith, Some-number, ap (λ (a : Answer). a.number) r))

    pub played-late : {number place : ℕ} {l' m' q' t' p' : List ℕ} → 1 ≤ number → Ran L (record { number = number; value = place }) l' m' q' t' p' s o
        → Played L goal v (record { number = number; value = place; regions = 0 }) l' m' q' t' p' s o v
    unfolding verdicts_at_exit
    played-late {number} {place} Some-number ran =
        let a = answers-late (records_fault L (map_in L)) (pairs_fault L (map_in L)) (refusal 23 (graph_fault regions) ∷ refusal 24 (goal_fault regions goal) ∷ []) number place Some-number
        (ran.answer ∙ verdict-late pass w h cells spans boundaries anchors l m q t p s o past) in
        let S = a.0 in
        record {
          answer =
              ap (λ b. record { number = number; value = place; regions = cond b regions 0 }) (sym S.is_other)
              ∙ ap (λ b. with_regions b regions) a.1 ∙ sym verdict-past;
          labels = ran.labels ∙ S.labels;
          masks = ran.masks ∙ S.masks;
          queue = ran.queue ∙ S.queue;
          tallies = ran.tallies ∙ S.tallies;
          pairs = ran.pairs ∙ S.pairs;
          records = ran.records ∙ S.records;
          output = ran.output ∙ S.output;
          verdicts = sym (ap (λ b. cond b (overwrite (verdict_numbers (kept_game pass (map_in L) goal) (place_count (kept_game pass (map_in L) goal).regions)) v) v) S.is_other);
        }

    -- ---- all is filled

    module _ (few : region_count M ≤ length s) (fits : length (pair_rows_of (context_of M)) ≤ length p / numbers_per_pair * numbers_per_pair) where
      verdict_last : game_verdict L goal (length v) ≡ late_answer (length (rows_of pass M)) (region_count K) goal
      unfolding records_fault pairs_fault map_in
      verdict_last =
          verdict-past
          ∙ ap₂ (λ a b. with_regions (first_refusal (refusal 11 (only_if (not a) 0) ∷ refusal 12 (only_if (not b) 0) ∷ refusal 23 (graph_fault regions) ∷ refusal 24 (goal_fault regions goal) ∷ []) kept) regions)
          (le-leb _ _ few) (le-leb _ _ fits)

      pub played_complete : {a : GameAnswer} {l' m' q' t' p' : List ℕ} {s' : List Region} {o' v' : List ℕ}
          → a ≡ late_answer (length (rows_of pass M)) (region_count K) goal → l' ≡ overwrite (labels K) l → m' ≡ zeroed (h * w) m → q' ≡ zeroed (h * w) q
          → t' ≡ overwrite (tallies_of (context_of K)) (zeroed (tallies_per_span * span_count M) t)
          → p' ≡ overwrite (pair_rows_of (context_of K)) (zeroed (length (pair_rows_of (context_of M))) p)
          → s' ≡ overwrite (records_of (context_of K)) (overwrite (replicate (region_count M) empty_region) s)
          → o' ≡ overwrite (flat_rows (rows_of pass M)) o → v' ≡ verdicts_at_exit (kept_game pass M goal) v a.number
          → Played L goal v a l' m' q' t' p' s' o' v'
      unfolding game_exit cell_count map_in map_of
      played_complete {a} answer filled masks queue tallied paired records output verdicts =
          let g : game_stage a.number ≡ complete = ap (λ b. game_stage b.number) answer ∙ late_complete (length (rows_of pass M)) (region_count K) goal in
          record {
            answer = answer ∙ sym verdict_last;
            labels = filled ∙ sym (ap (λ g. labels_rested g M K l) g);
            masks = masks ∙ sym (ap (λ g. scratch_at_exit g M m) g);
            queue = queue ∙ sym (ap (λ g. scratch_at_exit g M q) g);
            tallies = tallied ∙ sym (ap (λ g. tallies_rested g M K t) g);
            pairs = paired ∙ sym (ap (λ g. pairs_rested g M K p) g);
            records = records ∙ sym (ap (λ g. records_rested g M K s) g);
            output = output ∙ sym (ap (λ g. output_at_exit g pass M o) g);
            verdicts = verdicts;
          }
