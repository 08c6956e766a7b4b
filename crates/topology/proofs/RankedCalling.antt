-- The call that gives the ranked junction list: the contract from what its parts leave, where a check refuses, at 21, and with the list. At 21 the lists are
-- those that pass 3 leaves with whatever output. Assumes nothing.
use Prim.Native.Nat.{ℕ, ◌*◌, ◌/◌, ◌≤◌}
use native.Mathlib.Omega.{arith}
use mathlib.Core.Path.{◌≡◌, refl, sym, ap, ◌∙◌, subst}
use mathlib.Core.Bool.{Bool, true, false, cond}
use mathlib.Core.Logic.{⊎_elim}
use mathlib.Core.List.{List, [], map}
use Rattle.std.proofs.lemmas.List.{take_all}
use lib.ListN.{length, take, replicate, length-map}
use lib.Dec.{leb}
use borrow.Author.Tests.{leb-true, leb-false, eq-eqb, ne_eqb}
use Rattle.definitions.specs.Limits.{max_entries, numbers_per_span, numbers_per_boundary}
use Rattle.definitions.specs.Lists.{overwrite}
use Rattle.definitions.specs.Grid.{Map, map_of, span_count}
use Rattle.definitions.specs.Context.{context_of}
use Rattle.definitions.specs.Verdict.{map_in}
use Rattle.context.specs.declared.Region.{Region}
use Rattle.context.specs.Records.{record_of}
use Rattle.laws.specs.NumberLaws.Comparisons.{same_or}
use Rattle.std.specs.Prelude.{Result, Err}
use Rattle.refusals.specs.declared.Refusal as code
use Rattle.refusals.specs.Refusals.{number_of}
use Rattle.call_partition.specs.declared.Ready.{Ready}
use Rattle.call_partition.specs.Prepared.{ReadyAs, PreparedAs}
use Rattle.pass_lists.specs.Finished.{Finished}
use Rattle.pass_lists.proofs.AfterPartition.{spans-lent, boundaries-lent}
use Rattle.pass_lists.proofs.Closing.{ran-kept}
use Rattle.ranked_list.specs.RankedList.{numbers_per_ranked, ranked_rows, ranked_of, flat_ranked}
use Rattle.ranked_rows.specs.declared.RankedRow.{RankedRow}
use Rattle.ranked_rows.specs.Contract.{listed_form, row_numbers}
use Rattle.ranked_list.specs.RankedAnswers.{RankedAnswer}
use Rattle.ranked_finish.specs.Ends.{RankedFinished}
use Rattle.ranked_finish.proofs.Flat.{flat-length}
use Rattle.ranked_finish.proofs.Exits.{ranked-done, ranked-short, refused-ran}
use Rattle.topology.specs.Filled.{Filled}
use Rattle.topology.specs.Ranked.{Lists, RankedFor, RankedOver}
use Rattle.topology.specs.Lent.{lends, leaves}
use Rattle.topology.proofs.Calling.{marked}

-- ---- the rows of the map: none, where counts differ

module _ (w h : ℕ) (cells spans boundaries anchors : List ℕ) where
  abbrev lent : Map
  lent = map_of w h cells spans boundaries anchors

  spans-counted : span_count lent ≡ length spans / numbers_per_span
  unfolding context_of
  spans-counted = spans-lent w h cells spans boundaries anchors

  rows-equal : length boundaries / numbers_per_boundary ≡ length spans / numbers_per_span → ranked_rows (context_of lent) ≡ ranked_of lent
  unfolding ranked_of
  rows-equal same =
      ap (λ b. cond b (ranked_rows (context_of lent)) [])
      (sym (eq-eqb (length lent.boundaries) (span_count lent) (boundaries-lent w h cells spans boundaries anchors ∙ same ∙ sym spans-counted)))

  rows_none : (length boundaries / numbers_per_boundary ≡ length spans / numbers_per_span → ⊥) → [] ≡ ranked_of lent
  unfolding ranked_of
  rows_none differ =
      ap (λ b. cond b (ranked_rows (context_of lent)) [])
      (sym (ne_eqb (length lent.boundaries) (span_count lent) (λ e. differ (sym (boundaries-lent w h cells spans boundaries anchors) ∙ e ∙ spans-counted))))

-- ---- the call

module _ {w h : ℕ} {cells spans boundaries anchors : List ℕ} {room output : ℕ} {l m q t p l' m' q' t' p' : List ℕ} where
  pub refused_over : {r : Result Ready code.Refusal} {x : code.Refusal} (s : List Region) (o k : List ℕ) → PreparedAs 3 w h cells spans boundaries anchors room output l m q t p r l' m' q' t' p'
      → r ≡ Err x → length s ≡ room → length o ≡ output
      → RankedOver (lends w h cells spans boundaries anchors l m q t p s o) k (record { number = number_of x.cause; value = x.place; proposals = 0 }) (leaves l' m' q' t' p' s o) k
  refused_over s o k a e long wide =
      record {
        ran =
            refused-ran w h cells spans boundaries anchors room output l m q t p
            (subst (λ r. PreparedAs 3 w h cells spans boundaries anchors room output l m q t p r l' m' q' t' p') e a) k (map record_of s) o (length-map s record_of ∙ long) wide;
        beyond = refl;
      }

  module _ {regions rows : ℕ} (R : ReadyAs 3 w h cells spans boundaries anchors room output l m q t p regions rows l' m' q' t' p')
      {s s' : List Region} (F : Filled (lent w h cells spans boundaries anchors) s s') {m₂ q₂ : List ℕ} {removed : List Bool} {old listed : List RankedRow} {n : ℕ}
      (K : RankedFor (lent w h cells spans boundaries anchors) (h * w) (length spans / numbers_per_span) boundaries m' q' m₂ q₂ (replicate max_entries false) removed old listed n) where
    abbrev M : Map
    M = lent w h cells spans boundaries anchors

    lists : Lists (ranked_of M) old listed n
    lists =
        ⊎_elim (λ e. subst (λ r. Lists r old listed n) (rows-equal w h cells spans boundaries anchors e) (K.equal e)) (λ d. subst (λ r. Lists r old listed n) (rows_none w h cells spans boundaries anchors d) (K.differ d))
        (same_or (length boundaries / numbers_per_boundary) (length spans / numbers_per_span))

    pub listed-within : n ≤ length listed
    listed-within = lists.within

    -- the rows of the list
    abbrev proposed : List RankedRow
    proposed = take n listed

    many : length proposed ≡ length (ranked_of M)
    many = sym (length-map proposed listed_form) ∙ ap length lists.list

    -- their numbers are those of the map's rows, and all of these
    proposed_numbers : take (numbers_per_ranked * length proposed) (row_numbers proposed) ≡ flat_ranked (ranked_of M)
    proposed_numbers =
        ap (take (numbers_per_ranked * length proposed)) lists.numbers
        ∙ take_all (numbers_per_ranked * length proposed) (flat_ranked (ranked_of M)) (omega (arith, flat-length (ranked_of M), many))

    module _ {o k m₃ q₃ o₃ k₃ : List ℕ} {a : RankedAnswer} (long : length s ≡ room) (wide : length o ≡ output)
        (E : RankedFinished (h * w) (length boundaries / numbers_per_boundary) boundaries removed (row_numbers proposed) (length proposed) m₂ q₂ o k a m₃ q₃ o₃ k₃) where
      by_room : (b : Bool) → leb (length proposed) (length k / numbers_per_ranked) ≡ b
          → RankedOver (lends w h cells spans boundaries anchors l m q t p s o) k a (leaves l' m₃ q₃ t' p' s' o₃) k₃
      unfolding map_in
      by_room true e =
          let enough = leb-true (length proposed) (length k / numbers_per_ranked) e in
          let W = E.enough enough in
          let ran = ran-kept R (map record_of s) o (length-map s record_of ∙ long) wide F.records K.marked.masks.rest K.marked.queue.rest (marked R F K.marked) W.finished in
          subst (λ a. RankedOver (lends w h cells spans boundaries anchors l m q t p s o) k a (leaves l' m₃ q₃ t' p' s' o₃) k₃) (sym W.answer)
          (record { ran = ranked-done k ran many enough (W.list ∙ ap (λ l. overwrite l k) proposed_numbers); beyond = F.beyond })
      by_room false e =
          let lack = leb-false (length proposed) (length k / numbers_per_ranked) e in
          let S = E.short lack in
          let fin : Finished (h * w) (length boundaries / numbers_per_boundary) boundaries removed m₂ q₂ o m₃ q₃ _ _ = record { masks = S.0.masks; queue = S.0.queue; output = refl; rows = refl } in
          let ran = ran-kept R (map record_of s) o (length-map s record_of ∙ long) wide F.records K.marked.masks.rest K.marked.queue.rest (marked R F K.marked) fin in
          subst (λ x. RankedOver (lends w h cells spans boundaries anchors l m q t p s o) k a (leaves l' m₃ q₃ t' p' s' x) k₃) (sym S.1)
          (subst (λ a. RankedOver (lends w h cells spans boundaries anchors l m q t p s o) k a (leaves l' m₃ q₃ t' p' s' o) k₃) (sym S.0.answer)
          (record { ran = ranked-short k ran (omega (arith, lack, many)) S.0.list; beyond = F.beyond }))

      pub ranked-over : RankedOver (lends w h cells spans boundaries anchors l m q t p s o) k a (leaves l' m₃ q₃ t' p' s' o₃) k₃
      ranked-over = by_room (leb (length proposed) (length k / numbers_per_ranked)) refl
