-- The context of the restricted map is that of the map, seen inside the island (`framed`): every field of the frame, from the steps, labels, pairs and records.
-- A span's steps lie in the island or out of it with the span. Assumes `Island`.
use Rattle.std.specs.Prelude.{ℕ, ◌<◌, ◌≡◌, Bool, map}
use Rattle.std.proofs.Common.{arith, ◌∙◌}
use Rattle.std.proofs.Math.Path.{sym, ap}
use Rattle.std.proofs.Math.Bool.{true}
use Rattle.std.proofs.Math.ListN.{length}
use Rattle.definitions.specs.Scan.{filter}
use Rattle.definitions.specs.Grid.{Map, Pair, no_boundary, span_count, boundary_of}
use Rattle.definitions.specs.Spans.{cut_steps}
use Rattle.definitions.specs.Partition.{labels, is_separated, pairs_of}
use Rattle.definitions.specs.Context.{context_of}
use Rattle.laws.specs.ListLaws.Lists.{All, all_map, all_both}
use Rattle.laws.specs.OrderLaws.Ranks.{rank, rank_lt}
use Rattle.laws.specs.ListLaws.Scans.{picked_at}
use Rattle.laws.specs.RegionLaws.Steps.{Step, step_is, cut_all}
use Rattle.laws.specs.RegionLaws.PairLaws.{pairs_of-all, cut_of, cut_of_at, cut_of-all, pairs-cut, pairs-within}
use Rattle.island.specs.Premises.{cuts_island, Island}
use Rattle.island.specs.Frame.{Frame, Ids, ren_p, PairOn}
use Rattle.island.specs.Restrict.{restrict, count_in, cuts_lt}
use Rattle.island.proofs.Restrict.{cut-sided, cut_in}
use Rattle.island.proofs.Labels.{in_r, in_zero, regions_in_lem}
use Rattle.island.proofs.Pairs.{Lies, pair_on, separated_same, pairs_same}
use Rattle.island.proofs.Records.{region_in, anchored_in}

module _ (M : Map) (isl : ℕ → Bool) (I : Island M isl) where
  abbrev B : ℕ → Bool
  B = cuts_island M isl

  abbrev R : ℕ → Bool
  R = in_r M isl

  abbrev S : Map
  S = restrict M isl

  cut_steps_in : (i : ℕ) → B i ≡ true → cut_of S (rank B i) ≡ cut_of M i
  cut_steps_in i b =
      cut_of_at S (rank B i) (omega (arith, count_in M isl, rank_lt B i (span_count M) b (cuts_lt M isl i b))) ∙ cut_in M isl I i b ∙ sym (cut_of_at M i (cuts_lt M isl i b))

  -- a span's steps lie in the island or out of it with the span
  cut-lies : (i : ℕ) (b : Bool) → B i ≡ b → All (Lies M isl b) (cut_of M i)
  cut-lies i b h = cut_of-all M (Lies M isl b) i steps
    where
      lies : (e : Pair) → (Step M e × (isl e.lo ≡ isl e.hi)) × (isl e.lo ≡ B i) → Lies M isl b e
      lies e k = record { step = k.0.0; lo = k.1 ∙ h; hi = sym k.0.1 ∙ k.1 ∙ h }

      steps : i < span_count M → All (Lies M isl b) (cut_steps M i)
      steps l = all_map lies (all_both (cut_all M (λ e. Step M e × (isl e.lo ≡ isl e.hi)) (λ p d s k. (step_is M p d s k, I.apart p d s)) i) (cut-sided M isl I i l))

  boundary_in : (i : ℕ) → B i ≡ true → boundary_of M i ≡ boundary_of S (rank B i)
  unfolding boundary_of
  boundary_in i b = sym (picked_at B (boundary_of M) no_boundary (span_count M) i (cuts_lt M isl i b) b)

  pub framed : Frame (context_of M) (context_of S) B R
  unfolding context_of
  framed =
      record {
        count = count_in M isl;
        regions = regions_in_lem M isl I;
        zero-out = in_zero M isl;
        boundary = boundary_in;
        removed_edges = λ i b. ap length (sym (cut_steps_in i b));
        separated_edges = λ i b. ap length (sym (ap (filter (is_separated (labels S))) (cut_steps_in i b) ∙ separated_same M isl I (cut-lies i true b)));
        pairs = λ i b. pairs-cut S (rank B i) ∙ ap (pairs_of (labels S)) (cut_steps_in i b) ∙ pairs_same M isl I (cut-lies i true b) ∙ ap (map (ren_p R)) (sym (pairs-cut M i));
        pairs_on = λ b i h. rw (pairs-cut M i) (pairs_of-all (labels M) (PairOn R b) (all_map (λ e l t. pair_on M isl I l) (cut-lies i b h)));
        pairs-within = pairs-within M;
        anchored = anchored_in M isl I;
        region = region_in M isl I;
      }

  pub ids : Ids (context_of M) B
  unfolding context_of
  ids = record { differ = I.ramp_ids }
