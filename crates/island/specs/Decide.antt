-- A test that computes, and the theorem that two maps and an island that pass it meet the premises of demand 3 (`Alike`). It is a tool to exhibit examples; the
-- island theorem does not use it. The premises ask of every number, and the test within bounds: a step goes from a cell of the grid to one of nine places, what
-- cuts a step has a number below the count of spans, and beyond the list of boundaries stands one of kind 0, which has no ramp. Assumes nothing.
use Rattle.std.specs.Prelude.{ℕ, Bool, ◌&&◌, ◌||◌}
use Rattle.std.proofs.Math.Bool.{true, false, not}
use Rattle.std.specs.Bool.{beq}
use mathlib.Core.List.{List, [], ◌∷◌}
use Rattle.std.proofs.Math.ListN.{length}
use Rattle.std.proofs.Math.Dec.{eqb}
use Rattle.definitions.specs.Scan.{all_below}
use Rattle.definitions.specs.Grid.{Map, Position, at, Segment, Boundary, index, cell_count, cell_at, toward, is_step, span_count, span_of, boundary_of}
use Rattle.island.specs.Premises.{cuts_island, cuts_remainder, has_anchor, cutting}

-- ---- the tests

abbrev pub implies : Bool → Bool → Bool
implies a b = not a || b

abbrev pub is_same_position : Position → Position → Bool
is_same_position p q = eqb p.x q.x && eqb p.y q.y

abbrev pub is_same_segment : Segment → Segment → Bool
is_same_segment s t = is_same_position s.a t.a && is_same_position s.b t.b

-- all nine numbers
abbrev pub is_same_boundary : Boundary → Boundary → Bool
is_same_boundary b c =
    is_same_segment b.endpoints c.endpoints && eqb b.width_bits c.width_bits && eqb b.kind c.kind && eqb b.ramp_id c.ramp_id && eqb b.lower c.lower
    && eqb b.upper c.upper

module _ {A : Type 0} (same : A → A → Bool) where
  unfoldable pub is_same_list : List A → List A → Bool
  is_same_list [] [] = true
  is_same_list [] (y ∷ m) = false
  is_same_list (x ∷ l) [] = false
  is_same_list (x ∷ l) (y ∷ m) = same x y && is_same_list l m

-- every position of a grid with these sides passes the test
unfoldable pub all_places : ℕ → ℕ → (Position → Bool) → Bool
unfolding all_below
all_places w h f = all_below h (λ y. all_below w (λ x. f (at x y)))

-- spans and boundaries are one list
unfoldable pub is_one_list : Map → Bool
unfolding all_below span_count span_of boundary_of
is_one_list M = eqb (length M.boundaries) (span_count M) && all_below (span_count M) (λ i. is_same_segment (span_of M i) (boundary_of M i).endpoints)

module _ (M : Map) (isl : ℕ → Bool) where
  -- a step from p in direction d, if there is one, stays on its side
  unfoldable pub stays_on : Position → Position → Bool
  unfolding is_step
  stays_on p d = implies (is_step M p d) (beq (isl (index M p)) (isl (index M (toward p d))))

  unfoldable pub is_apart : Bool
  unfolding all_places stays_on
  is_apart = all_places M.width M.height (λ p. all_places 3 3 (stays_on p))

  unfoldable pub is_one_sided : Bool
  unfolding all_below span_count cuts_island cuts_remainder
  is_one_sided = all_below (span_count M) (λ i. not (cuts_island M isl i && cuts_remainder M isl i))

  -- if i cuts the island and j does not, and both have a ramp id, the two differ
  unfoldable pub ramp_ids_differ : ℕ → ℕ → Bool
  unfolding boundary_of cuts_island
  ramp_ids_differ i j =
      implies (not (eqb (boundary_of M i).kind 0))
      (implies (not (eqb (boundary_of M j).kind 0))
      (implies (cuts_island M isl i) (implies (not (cuts_island M isl j)) (not (eqb (boundary_of M j).ramp_id (boundary_of M i).ramp_id)))))

  unfoldable pub has_own_ramp_ids : Bool
  unfolding all_below span_count ramp_ids_differ
  has_own_ramp_ids = all_below (span_count M) (λ i. all_below (length M.boundaries) (ramp_ids_differ i))

  unfoldable pub is_island : Bool
  unfolding is_apart is_one_sided has_own_ramp_ids is_one_list
  is_island = is_apart && is_one_sided && has_own_ramp_ids && is_one_list M

unfoldable pub is_alike : Map → Map → (ℕ → Bool) → Bool
unfolding all_below cell_count has_anchor is_same_list cutting is_island
is_alike M M' isl =
    eqb M.width M'.width && eqb M.height M'.height && all_below (cell_count M) (λ c. implies (isl c) (eqb (cell_at M c) (cell_at M' c)))
    && all_below (cell_count M) (λ c. implies (isl c) (beq (has_anchor M c) (has_anchor M' c))) && is_same_list is_same_boundary (cutting M isl) (cutting M' isl)
    && is_island M isl && is_island M' isl
