-- "each one accepted gets the rows of a run with its lists alone": where neither the shared lists nor a desk's own are refused, the answer, the output and every shared list are
-- those of the call of its pass with its lists alone. The partition reads neither boundaries nor anchors (Terrain). Assumes nothing.
use Rattle.std.specs.Prelude.{ℕ, ◌*◌, ◌/◌, ◌≡◌, Bool, true, ◌&&◌, List, [], ◌∷◌, length, leb, None}
use Rattle.std.proofs.Math.Path.{sym, ap}
use Rattle.std.proofs.Common.{ap₂, ◌∙◌}
use Rattle.definitions.specs.Limits.{numbers_per_span, numbers_per_boundary, numbers_per_anchor, numbers_per_pair}
use Rattle.definitions.specs.Grid.{map_of, cell_count}
use Rattle.definitions.specs.Lists.{overwrite}
use Rattle.definitions.specs.Rows.{rows_of, flat_rows}
use Rattle.definitions.specs.Refusals.{or_else, unless, sides_fault, cells_fault, is_whole, pass_fault, spans_refusal, boundaries_fault, anchors_fault, elevations_fault, output_room}
use Rattle.definitions.specs.Verdict.{map_in, refusal, first_refusal, records_fault, pairs_fault, partition_has_room, verdict}
use Rattle.definitions.specs.AtExit.{call_exit, exit_with, stage_of}
use Rattle.laws.specs.ListLaws.NoFault.{no_fault_lem, or_else_none}
use Rattle.laws.specs.TableLaws.AcceptedCalls.{refusal_none}
use Rattle.desks.specs.Desks.{Shared, Desk, alone, terrain, shared_refusal, desk_fault, own_refusal, desk_refusal, answer_from, desk_answer, output_from, desk_output, shared_exit}
use Rattle.desks.specs.Terrain.{regions_same, rows_same, labels_same, tallies_same, records_same}
use Rattle.desks.proofs.SharedCalls.{shared-success}

-- ---- every check passes

pub record SharedPassed (S : Shared) : Type 0 where
  pub one : refusal 1 (sides_fault S.width S.height) ≡ None
  pub two : refusal 2 (cells_fault S.width S.height S.cells) ≡ None
  pub three : is_whole numbers_per_span S.spans ≡ true
  pub five : spans_refusal S.width S.height S.spans ≡ None
  pub nine : refusal 9 (elevations_fault S.cells) ≡ None
  pub ten : partition_has_room (terrain S) ≡ true
  pub eleven : refusal 11 (records_fault (terrain S) (map_in (terrain S))) ≡ None
  pub twelve : refusal 12 (pairs_fault (terrain S) (map_in (terrain S))) ≡ None

pub shared-passed : (S : Shared) → shared_refusal S ≡ None → SharedPassed S
unfolding shared_refusal
shared-passed S h =
    let a = or_else_none _ _ h in
    let b = or_else_none _ _ a.1 in
    let c = or_else_none _ _ b.1 in
    let d = or_else_none _ _ c.1 in
    let e = or_else_none _ _ d.1 in
    let f = or_else_none _ _ e.1 in
    let g = or_else_none _ _ f.1 in
    record {
      one = a.0;
      two = b.0;
      three = no_fault_lem _ 0 (refusal_none 3 _ c.0);
      five = d.0;
      nine = e.0;
      ten = no_fault_lem _ 0 (refusal_none 10 _ f.0);
      eleven = g.0;
      twelve = g.1;
    }

pub record OwnPassed (w h : ℕ) (spans : List ℕ) (pass : ℕ) (boundaries anchors : List ℕ) (output : ℕ) : Type 0 where
  pub three : (is_whole numbers_per_boundary boundaries && is_whole numbers_per_anchor anchors) ≡ true
  pub four : refusal 4 (pass_fault pass) ≡ None
  pub seven : refusal 7 (boundaries_fault w h boundaries) ≡ None
  pub twenty : desk_fault spans boundaries ≡ None
  pub eight : refusal 8 (anchors_fault w h anchors) ≡ None
  pub ten : output_room (length boundaries / numbers_per_boundary) output ≡ true

pub own-passed : (w h : ℕ) (spans : List ℕ) (pass : ℕ) (boundaries anchors : List ℕ) (output : ℕ)
    → own_refusal w h spans pass boundaries anchors output ≡ None → OwnPassed w h spans pass boundaries anchors output
unfolding own_refusal
own-passed w h spans pass boundaries anchors output e =
    let a = or_else_none _ _ e in
    let b = or_else_none _ _ a.1 in
    let c = or_else_none _ _ b.1 in
    let d = or_else_none _ _ c.1 in
    let f = or_else_none _ _ d.1 in
    record {
      three = no_fault_lem _ 0 (refusal_none 3 _ a.0);
      four = b.0;
      seven = c.0;
      twenty = refusal_none 20 _ d.0;
      eight = f.0;
      ten = no_fault_lem _ 0 (refusal_none 10 _ f.1);
    }

-- 3 and 10, of all lists
pub all_three : (a b c : Bool) → a ≡ true → (b && c) ≡ true → (a && b && c) ≡ true
all_three a b c p q = ap (λ x. x && b && c) p ∙ q

eleven_same : (S : Shared) (D : Desk) → records_fault (alone S D) (map_in (alone S D)) ≡ records_fault (terrain S) (map_in (terrain S))
unfolding records_fault map_in
eleven_same S D = ap (λ n. unless (leb n (length S.records))) (regions_same S.width S.height S.cells S.spans D.boundaries D.anchors)

twelve_same : (S : Shared) (D : Desk) → pairs_fault (alone S D) (map_in (alone S D)) ≡ pairs_fault (terrain S) (map_in (terrain S))
unfolding pairs_fault map_in
twelve_same S D =
    ap (λ l. unless (leb (length l) (length S.pairs / numbers_per_pair * numbers_per_pair))) (rows_same S.width S.height S.cells S.spans D.boundaries D.anchors)

-- ---- the answer

-- such a call is accepted, with as many rows
pub answer-alone : (S : Shared) (D : Desk) → shared_refusal S ≡ None → desk_refusal S D ≡ None → desk_answer S D ≡ verdict (alone S D)
unfolding verdict desk_answer
answer-alone S D h k = ap (λ o. answer_from o (length (rows_of D.pass (map_in (alone S D))))) (ap₂ or_else h k) ∙ sym passed
  where
    s : SharedPassed S
    s = shared-passed S h

    d : OwnPassed S.width S.height S.spans D.pass D.boundaries D.anchors (length D.output)
    d = own-passed S.width S.height S.spans D.pass D.boundaries D.anchors (length D.output) k

    eleven : refusal 11 (records_fault (alone S D) (map_in (alone S D))) ≡ None
    eleven = ap (refusal 11) (eleven_same S D) ∙ s.eleven

    twelve : refusal 12 (pairs_fault (alone S D) (map_in (alone S D))) ≡ None
    twelve = ap (refusal 12) (twelve_same S D) ∙ s.twelve

    whole : (is_whole numbers_per_span S.spans && is_whole numbers_per_boundary D.boundaries && is_whole numbers_per_anchor D.anchors) ≡ true
    whole = all_three (is_whole numbers_per_span S.spans) (is_whole numbers_per_boundary D.boundaries) (is_whole numbers_per_anchor D.anchors) s.three d.three

    room : (partition_has_room (alone S D) && output_room (length D.boundaries / numbers_per_boundary) (length D.output)) ≡ true
    room = ap₂ ◌&&◌ s.ten d.ten

    passed : verdict (alone S D) ≡ record { number = 0; value = length (rows_of D.pass (map_in (alone S D))) }
    passed = λ i.
        first_refusal
        (s.one i
        ∷ s.two i
        ∷ refusal 3 (unless (whole i))
        ∷ d.four i
        ∷ s.five i
        ∷ d.seven i
        ∷ d.eight i
        ∷ s.nine i
        ∷ refusal 10 (unless (room i))
        ∷ eleven i
        ∷ twelve i
        ∷ [])
        (length (rows_of D.pass (map_in (alone S D))))

-- ---- the lists

module _ (S : Shared) (D : Desk) (h : shared_refusal S ≡ None) where
  -- "Neither desk alters the shared lists": they are those of the run alone
  pub labels-alone : (shared_exit S).labels ≡ (call_exit (alone S D) 0).labels
  unfolding call_exit exit_with stage_of map_in
  labels-alone = ap (λ x. x.labels) (shared-success S h) ∙ sym (ap (λ l. overwrite l S.labels) (labels_same S.width S.height S.cells S.spans D.boundaries D.anchors))

  pub tallies-alone : (shared_exit S).tallies ≡ (call_exit (alone S D) 0).tallies
  unfolding call_exit exit_with stage_of map_in
  tallies-alone = ap (λ x. x.tallies) (shared-success S h) ∙ sym (ap (λ l. overwrite l S.tallies) (tallies_same S.width S.height S.cells S.spans D.boundaries D.anchors))

  pub pairs-alone : (shared_exit S).pairs ≡ (call_exit (alone S D) 0).pairs
  unfolding call_exit exit_with stage_of map_in
  pairs-alone = ap (λ x. x.pairs) (shared-success S h) ∙ sym (ap (λ l. overwrite l S.pairs) (rows_same S.width S.height S.cells S.spans D.boundaries D.anchors))

  pub records-alone : (shared_exit S).records ≡ (call_exit (alone S D) 0).records
  unfolding call_exit exit_with stage_of map_in
  records-alone = ap (λ x. x.records) (shared-success S h) ∙ sym (ap (λ l. overwrite l S.records) (records_same S.width S.height S.cells S.spans D.boundaries D.anchors))

  pub masks-alone : (shared_exit S).masks ≡ (call_exit (alone S D) 0).masks
  unfolding call_exit exit_with stage_of map_in map_of cell_count
  masks-alone = ap (λ x. x.masks) (shared-success S h)

  pub queue-alone : (shared_exit S).queue ≡ (call_exit (alone S D) 0).queue
  unfolding call_exit exit_with stage_of map_in map_of cell_count
  queue-alone = ap (λ x. x.queue) (shared-success S h)

  pub output-alone : desk_refusal S D ≡ None → desk_output S D ≡ (call_exit (alone S D) 0).output
  unfolding call_exit exit_with stage_of desk_output
  output-alone k = ap (λ o. output_from o (flat_rows (rows_of D.pass (map_in (alone S D)))) D.output) (ap₂ or_else h k)
