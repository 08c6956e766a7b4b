-- The loop over the spans: what the call for one span asks, one span more, and what all spans come to, of every map with these cells, spans and labels. Assumes nothing.
use Prim.Native.Nat.{ℕ, zero, suc, ◌+◌, ◌*◌, ◌/◌, ◌≤◌, ◌<◌}
use mathlib.Core.Path.{◌≡◌, refl, sym, ap, ◌∙◌, subst}
use mathlib.Core.List.{List, [], ◌∷◌, append-nil}
use native.Mathlib.Omega.{arith}
use native.Mathlib.Numerals.{add-one}
use mathlib.Core.Bool.{Bool, true, false}
use lib.ListN.{length, set, length-append, length-set}
use lib.Dec.{leb}
use borrow.Author.Tests.{leb-true, leb-false}
use Rattle.std.specs.Bool.{then_some}
use Rattle.definitions.specs.Limits.{numbers_per_span}
use Rattle.definitions.specs.Lists.{overwrite}
use Rattle.definitions.specs.Scan.{gather, filter}
use Rattle.definitions.specs.Grid.{segment_at}
use Rattle.definitions.specs.Partition.{is_separated, pairs_of}
use Rattle.span_geometry.specs.declared.SpanGeometry.{SpanGeometry}
use Rattle.span_geometry.specs.Shapes.{segment_of, Made}
use Rattle.grid_steps.specs.Walk.{grid_of}
use Rattle.cut_steps.specs.CutSteps.{cut_span}
use Rattle.cut_steps.proofs.Spans.{cut_listed}
use Rattle.laws.specs.RegionLaws.PairRows.{rows_for}
use Rattle.assessments.specs.Held.{room_of, Held}
use Rattle.assessments.specs.Assess.{nothing, max_edges, Counting, Gathered, Assesses}
use Rattle.assessments.specs.Contract.{Answers, SpansAssessed}
use Rattle.assessments.specs.declared.BoundaryAssessment.{BoundaryAssessment}
use Rattle.std.specs.Prelude.{Option, None, Some}
use Rattle.laws.specs.ListLaws.Overwritten.{overwrite_more}
use Rattle.assessments.proofs.Holding.{held_fits, held-over}
use Rattle.assessments.proofs.Joining.{rows_same, tallies_same}

-- ---- the rows and tallies of the first n spans

module _ (w h : ℕ) (cells spans labels : List ℕ) where
  unfoldable pub rows_below : ℕ → List ℕ
  unfolding gather
  rows_below n = gather n (λ s. rows_for s (pairs_of labels (cut_listed w h cells spans s)))

  unfoldable pub tallies_below : ℕ → List ℕ
  unfolding gather
  tallies_below n = gather n (λ s. length (cut_listed w h cells spans s) ∷ length (filter (is_separated labels) (cut_listed w h cells spans s)) ∷ [])

  tallies-length : (n : ℕ) → length (tallies_below n) ≡ 2 * n
  unfolding tallies_below gather
  tallies-length zero = refl
  tallies-length (suc n) = length-append (tallies_below n) _ ∙ omega (arith, tallies-length n)

-- ---- before span s

pub record Before (w h : ℕ) (cells spans labels tallies₀ pairs₀ : List ℕ) (s : ℕ) (tallies pairs : List ℕ) (end : ℕ) : Type 0 where
  pub tallies_long : length tallies ≡ length tallies₀
  pub counted : end ≤ room_of pairs + 1
  pub counts : tallies ≡ overwrite (tallies_below w h cells spans labels s) tallies₀
  pub held : Held (rows_below w h cells spans labels s) pairs₀ pairs end

module _ {w h : ℕ} {cells spans labels tallies₀ pairs₀ : List ℕ} where
  pub before_first : Before w h cells spans labels tallies₀ pairs₀ 0 tallies₀ pairs₀ 0
  unfolding rows_below tallies_below gather
  before_first = record { tallies_long = refl; counted = omega arith; counts = refl; held = record { long = refl; fits = λ f. (refl, refl); full = λ f. absurd (omega arith) } }

  module _ {s : ℕ} {tallies pairs : List ℕ} {end : ℕ} (B : Before w h cells spans labels tallies₀ pairs₀ s tallies pairs end) where
    -- nothing of span s is assessed
    begun : Gathered labels s end (rows_below w h cells spans labels s) pairs₀ [] (nothing end) pairs
    unfolding filter pairs_of rows_for
    begun =
        record {
          removed = refl;
          separated = refl;
          begins = λ f. (B.held.fits f).0;
          held = subst (λ r. Held r pairs₀ pairs end) (sym (append-nil (rows_below w h cells spans labels s))) B.held;
        }

    module _ {g : SpanGeometry} (G : Made (segment_at spans (numbers_per_span * s)) g) {a : BoundaryAssessment} {pairs' : List ℕ} (C : Counting pairs' end max_edges a)
        (A : Assesses labels s end (cut_span (grid_of w h cells) (segment_of g)) (nothing end) pairs a pairs') where
      -- all of it is
      ended : Gathered labels s end (rows_below w h cells spans labels s) pairs₀ (cut_listed w h cells spans s) a pairs'
      ended =
          subst (λ t. Gathered labels s end (rows_below w h cells spans labels s) pairs₀ (cut_span (grid_of w h cells) t) a pairs') G.segment
          (A.each (rows_below w h cells spans labels s) pairs₀ [] begun)

      pub before_next : 2 * (s + 1) ≤ length tallies₀ → Before w h cells spans labels tallies₀ pairs₀ (s + 1) (set (set tallies (2 * s) a.removed) (2 * s + 1) a.separated) pairs' a.end
      unfolding rows_below tallies_below gather
      before_next l =
          record {
            tallies_long = length-set (set tallies (2 * s) a.removed) (2 * s + 1) a.separated ∙ length-set tallies (2 * s) a.removed ∙ B.tallies_long;
            counted = C.rows.most;
            counts =
                (λ i. set (set (B.counts i) (place i) (ended.removed i)) (next i) (ended.separated i))
                ∙ overwrite_more (tallies_below w h cells spans labels s) (length (cut_listed w h cells spans s) ∷ length (filter (is_separated labels) (cut_listed w h cells spans s)) ∷ []) tallies₀ (omega (arith, place))
                ∙ ap (λ n. overwrite (tallies_below w h cells spans labels n) tallies₀) (sym (add-one s));
            held = subst (λ n. Held (rows_below w h cells spans labels n) pairs₀ pairs' a.end) (sym (add-one s)) ended.held;
          }
        where
          place : 2 * s ≡ length (tallies_below w h cells spans labels s)
          place = sym (tallies-length w h cells spans labels s)

          next : 2 * s + 1 ≡ suc (length (tallies_below w h cells spans labels s))
          next = omega (arith, place)

  -- ---- after the last span

  module _ {n : ℕ} {tallies pairs : List ℕ} {end : ℕ} (B : Before w h cells spans labels tallies₀ pairs₀ n tallies pairs end) where
    there : end ≤ room_of pairs → Answers (Some end) (rows_below w h cells spans labels n) pairs₀ pairs
    there l =
        let f = B.held.fits (held_fits B.held l) in
        (omega (arith, f.0, B.held.long), f.0, f.1)

    over : room_of pairs < end → Answers None (rows_below w h cells spans labels n) pairs₀ pairs
    over l = (omega (arith, held-over B.held l), B.held.long)

    module _ (last : n ≡ length spans / numbers_per_span) where
      of_map : {r : Option ℕ} → Answers r (rows_below w h cells spans labels n) pairs₀ pairs → SpansAssessed w h cells spans labels tallies₀ pairs₀ tallies pairs r
      unfolding rows_below tallies_below
      of_map {r} a M S L =
          record {
            counts = B.counts ∙ ap (λ l. overwrite l tallies₀) (ap (tallies_below w h cells spans labels) last ∙ sym (tallies_same S labels L));
            answer = subst (λ l. Answers r l pairs₀ pairs) (ap (rows_below w h cells spans labels) last ∙ sym (rows_same S labels L)) a;
          }

      all_there : end ≤ room_of pairs → SpansAssessed w h cells spans labels tallies₀ pairs₀ tallies pairs (Some end)
      all_there l = of_map (there l)

      all-over : room_of pairs < end → SpansAssessed w h cells spans labels tallies₀ pairs₀ tallies pairs None
      all-over l = of_map (over l)

      pub answered : SpansAssessed w h cells spans labels tallies₀ pairs₀ tallies pairs (then_some (leb end (room_of pairs)) end)
      answered = go (leb end (room_of pairs)) refl
        where
          go : (b : Bool) → leb end (room_of pairs) ≡ b → SpansAssessed w h cells spans labels tallies₀ pairs₀ tallies pairs (then_some b end)
          go true e = all_there (leb-true _ _ e)
          go false e = all-over (leb-false _ _ e)
