-- A whole run from the starting map: its first pass takes the starting map itself (`start-kept`); what any of its passes takes is reached from there by
-- passes (`rested-reached`), ascends, and so stands in row order (`reached-ascends`); no pass fills more than the first (`last_fewer`, `run-fewer`); and the
-- printed rows are the final rows with the starting list's numbers (`printed`). Assumes nothing.
use Rattle.std.specs.Prelude.{ℕ, zero, suc, ◌<◌, ◌≡◌, refl, false, List, [], ◌∷◌, map}
use Rattle.std.proofs.Common.{arith, subst, ◌∙◌}
use Rattle.std.proofs.Math.Path.{sym, ap, ap₂}
use Rattle.std.proofs.lemmas.Simd.{map-map}
use Rattle.std.proofs.Math.ListN.{length, get_or, length-map}
use Rattle.definitions.specs.Scan.{run}
use Rattle.definitions.specs.Grid.{Map, no_boundary, boundary_of}
use Rattle.definitions.specs.Sort.{list_lt}
use Rattle.definitions.specs.Rows.{Row, row_key}
use Rattle.laws.specs.ListLaws.Lists.{all_map}
use Rattle.laws.specs.ListLaws.Members.{all-place}
use Rattle.laws.specs.ListLaws.Scans.{map_ext}
use Rattle.rest_definitions.specs.RowOrder.{start_rows, no_row, turned, map_with, start_map}
use Rattle.rest_definitions.specs.Rest.{kept_map, round, rested, rest_rows, last_map}
use Rattle.rest.specs.Rounds.{Rests, last, onward, rested-rests}
use Rattle.rest.specs.Picking.{get_d_mapped}
use Rattle.rest.specs.StartMaps.{start-boundaries, start-boundary}
use Rattle.rest.specs.FewerPairs.{Fewer, Reached, begun, passed_by, reached-fewer}
use Rattle.rest.specs.RowsInOrder.{start-ordered, Ascends, all_ascend, passed-ascends, start-sorted}
use Rattle.rest.specs.IslandRest.{row_at, final_rows}

-- ---- all places

run-shift : {A : Type 0} (f : ℕ → A) (s n : ℕ) → map f (run (suc s) n) ≡ map (λ i. f (suc i)) (run s n)
unfolding run
run-shift f s zero = refl
run-shift {A} f s (suc n) = ap {B = List A} (λ r. f (suc s) ∷ r) (run-shift f (suc s) n)

pub all-entries : {A : Type 0} (l : List A) (d : A) → map (λ i. get_or l i d) (run 0 (length l)) ≡ l
unfolding run
all-entries [] d = refl
all-entries {A} (x ∷ l) d = ap {B = List A} (λ r. x ∷ r) (run-shift (λ i. get_or (x ∷ l) i d) 0 (length l) ∙ all-entries l d)

module _ (M : Map) where
  abbrev S : Map
  S = start_map M

  abbrev all : List ℕ
  all = run 0 (length S.boundaries)

  -- the first pass takes the starting map
  pub start-kept : kept_map S all ≡ S
  unfolding kept_map start_map map_with boundary_of
  start-kept = ap (map_with S) (all-entries S.boundaries no_boundary)

  -- ---- the passes of the run

  reached-round : {ps : List ℕ} → Reached S all ps → Reached S all (round S ps)
  unfolding round
  reached-round r = passed_by 3 (passed_by 2 (passed_by 1 r))

  reached-rests : {ps qs : List ℕ} {k : ℕ} → Reached S all ps → Rests S ps k qs → Reached S all qs
  reached-rests r (last s) = r
  reached-rests r (onward h t) = reached-rests (reached-round r) t

  pub rested-reached : Reached S all (rested S).places
  rested-reached = reached-rests begun (rested-rests S)

  pub reached-ascends : {ps : List ℕ} → Reached S all ps → Ascends (length S.boundaries) ps
  reached-ascends begun = all_ascend (length S.boundaries)
  reached-ascends (passed_by pass {ps} r) = passed-ascends S (start-ordered M) ps (reached-ascends r) pass

  -- no pass of the run has more spans, pairs or regions than the starting map
  pub run-fewer : {ps : List ℕ} → Reached S all ps → Fewer S (kept_map S ps)
  run-fewer {ps} r = subst (λ K. Fewer K (kept_map S ps)) start-kept (reached-fewer S all r)

  pub last_fewer : Fewer S (last_map M)
  unfolding last_map
  last_fewer = run-fewer rested-reached

  -- ---- the printed rows

  -- a final row with the number of the starting list
  abbrev pub numbered : Row → Row
  numbered r = record { number = (get_or (start_rows M) r.number no_row).number; line = r.line }

  pub printed : rest_rows M ≡ map numbered (final_rows S)
  unfolding rest_rows turned
  printed =
      map_ext
      (all_map
      (λ k h.
      let l : k < length M.boundaries = omega (arith, start-boundaries M) in
      λ i. record { number = (get_or (start_rows M) k no_row).number; line = (sym (start-boundary M k l) i).endpoints })
      (reached-ascends rested-reached).within)
      ∙ sym (map-map numbered (row_at S) (rested S).places)

  -- "Rows follow canonical endpoints, then number": no printed row stands before an earlier one
  pub rest_sorted : (i j : ℕ) → j < i → i < length (rest_rows M) → list_lt (row_key (get_or (rest_rows M) i no_row)) (row_key (get_or (rest_rows M) j no_row)) ≡ false
  unfolding rest_rows
  rest_sorted i j h k =
      let places = (rested S).places in
      let A = reached-ascends rested-reached in
      let l : i < length places = omega (arith, length-map places (λ p. get_or (start_rows M) p no_row)) in
      let m : j < length places = omega (arith, l, h) in
      let at_i = get_d_mapped (λ p. get_or (start_rows M) p no_row) places 0 no_row i l in
      let at_j = get_d_mapped (λ p. get_or (start_rows M) p no_row) places 0 no_row j m in
      ap₂ (λ r s. list_lt (row_key r) (row_key s)) at_i at_j ∙ start-sorted M (get_or places i 0) (get_or places j 0) (A.rising i j h l) (omega (arith, all-place 0 A.within i l, start-boundaries M))
