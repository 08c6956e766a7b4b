-- A test that computes, and the theorem that two maps and an island that pass it meet the premises of demand 3 (`Alike`). It is a tool to exhibit examples; the
-- island theorem does not use it. The premises ask of every number, and the test within bounds: a step goes from a cell of the grid to one of nine places, what
-- cuts a step has a number below the count of spans, and beyond the list of boundaries stands one of kind 0, which has no ramp. Assumes nothing.
use Rattle.std.specs.Prelude.{ℕ, ◌<◌, ◌≡◌, Bool, ◌&&◌}
use Rattle.std.proofs.Common.{arith, sym, ◌∙◌, true≢false}
use Rattle.std.proofs.Math.Path.{refl, ap, ap₂}
use Rattle.std.proofs.Math.Bool.{true, false, not}
use Rattle.std.specs.Bool.{beq}
use Rattle.std.proofs.lemmas.Bool.{false≢true}
use mathlib.Core.List.{List, [], ◌∷◌}
use Rattle.std.proofs.Math.ListN.{length, get_or-eq_default}
use Rattle.std.proofs.Math.Dec.{eqb, ltb}
use borrow.Author.Tests.{ltb-true, ltb-false, leb-true, eqb-true, not-true}
use Rattle.definitions.specs.Scan.{all_below}
use Rattle.definitions.specs.Grid.{Map, Position, at, Segment, Boundary, no_boundary, index, cell_count, cell_at, walkable, toward, is_step, span_count, boundary_of}
use Rattle.laws.specs.ListLaws.Tests.{both, beq_same}
use Rattle.laws.specs.ListLaws.Below.{all_below_at}
use Rattle.laws.specs.RegionLaws.Steps.{step-parts}
use Rattle.island.specs.Premises.{cuts_island, cuts_remainder, has_anchor, cutting, Island, Alike}
use Rattle.island.specs.Restrict.{cuts_lt}
use Rattle.island.specs.Decide.{implies, is_same_position, is_same_segment, is_same_boundary, is_same_list, all_places, is_one_list, stays_on, is_apart, is_one_sided, ramp_ids_differ, has_own_ramp_ids, is_island, is_alike}

-- ---- what each test says

implied : (a b : Bool) → implies a b ≡ true → a ≡ true → b ≡ true
implied true b h k = h
implied false b h k = absurd (false≢true k)

all_places_lem : (w h : ℕ) (f : Position → Bool) → all_places w h f ≡ true → (p : Position) → p.x < w → p.y < h → f p ≡ true
unfolding all_places
all_places_lem w h f t p k l = all_below_at w _ (all_below_at h (λ y. all_below w (λ x. f (at x y))) t p.y l) p.x k

same_position : (p q : Position) → is_same_position p q ≡ true → p ≡ q
same_position p q h =
    let k = both (eqb p.x q.x) _ h in
    λ i. record { x = eqb-true p.x q.x k.0 i; y = eqb-true p.y q.y k.1 i }

same_segment : (s t : Segment) → is_same_segment s t ≡ true → s ≡ t
same_segment s t h =
    let k = both (is_same_position s.a t.a) _ h in
    λ i. record { a = same_position s.a t.a k.0 i; b = same_position s.b t.b k.1 i }

same_boundary : (b c : Boundary) → is_same_boundary b c ≡ true → b ≡ c
same_boundary b c h =
    let k5 = both _ (eqb b.upper c.upper) h in
    let k4 = both _ (eqb b.lower c.lower) k5.0 in
    let k3 = both _ (eqb b.ramp_id c.ramp_id) k4.0 in
    let k2 = both _ (eqb b.kind c.kind) k3.0 in
    let k1 = both (is_same_segment b.endpoints c.endpoints) (eqb b.width_bits c.width_bits) k2.0 in
    λ i.
    record {
      endpoints = same_segment b.endpoints c.endpoints k1.0 i;
      width_bits = eqb-true b.width_bits c.width_bits k1.1 i;
      kind = eqb-true b.kind c.kind k2.1 i;
      ramp_id = eqb-true b.ramp_id c.ramp_id k3.1 i;
      lower = eqb-true b.lower c.lower k4.1 i;
      upper = eqb-true b.upper c.upper k5.1 i;
    }

module _ {A : Type 0} (same : A → A → Bool) (sound : (x y : A) → same x y ≡ true → x ≡ y) where
  same_list : (l m : List A) → is_same_list same l m ≡ true → l ≡ m
  unfolding is_same_list
  same_list [] [] h = refl
  same_list [] (y ∷ m) h = absurd (false≢true h)
  same_list (x ∷ l) [] h = absurd (false≢true h)
  same_list (x ∷ l) (y ∷ m) h = ap₂ {C = List A} (λ z r. z ∷ r) (sound x y (both (same x y) _ h).0) (same_list l m (both (same x y) _ h).1)

-- ---- the premises

module _ (M : Map) (isl : ℕ → Bool) where
  walkable_lt : (p : Position) → walkable M p ≡ true → (p.x < M.width) × (p.y < M.height)
  unfolding walkable
  walkable_lt p h =
      let k = both (ltb p.x M.width) (ltb p.y M.height) (both _ _ h).0 in
      (ltb-true _ _ k.0, ltb-true _ _ k.1)

  apart : is_apart M isl ≡ true → (p d : Position) → is_step M p d ≡ true → isl (index M p) ≡ isl (index M (toward p d))
  unfolding is_apart stays_on
  apart h p d s =
      let f = step-parts M p d s in
      let w = walkable_lt p f.near in
      let u : d.x < 3 = omega (arith, leb-true d.x 2 f.near_x) in
      let v : d.y < 3 = omega (arith, leb-true d.y 2 f.near_y) in
      beq_same _ _ (implied (is_step M p d) _ (all_places_lem 3 3 (stays_on M isl p) (all_places_lem M.width M.height (λ p. all_places 3 3 (stays_on M isl p)) h p w.0 w.1) d u v) s)

  one_sided_lem : is_one_sided M isl ≡ true → (i : ℕ) → (cuts_island M isl i && cuts_remainder M isl i) ≡ false
  unfolding is_one_sided
  one_sided_lem h i = go (cuts_island M isl i) refl
    where
      go : (b : Bool) → cuts_island M isl i ≡ b → (cuts_island M isl i && cuts_remainder M isl i) ≡ false
      go true e = not-true _ (all_below_at (span_count M) _ h i (cuts_lt M isl i e))
      go false e = ap (λ b. b && cuts_remainder M isl i) e

  -- a boundary with a ramp is one of the list
  ramp_lt : (j : ℕ) → eqb (boundary_of M j).kind 0 ≡ false → j < length M.boundaries
  unfolding boundary_of
  ramp_lt j h = go (ltb j (length M.boundaries)) refl
    where
      go : (b : Bool) → ltb j (length M.boundaries) ≡ b → j < length M.boundaries
      go true e = ltb-true _ _ e
      go false e = absurd (true≢false (sym (ap (λ (b : Boundary). eqb b.kind 0) (get_or-eq_default M.boundaries no_boundary (ltb-false _ _ e))) ∙ h))

  ramp_ids_lem : has_own_ramp_ids M isl ≡ true → (i j : ℕ) → cuts_island M isl i ≡ true → cuts_island M isl j ≡ false → eqb (boundary_of M i).kind 0 ≡ false → eqb (boundary_of M j).kind 0 ≡ false → eqb (boundary_of M j).ramp_id (boundary_of M i).ramp_id ≡ false
  unfolding has_own_ramp_ids ramp_ids_differ
  ramp_ids_lem h i j c d k l =
      not-true _
      (implied _ _
      (implied (cuts_island M isl i) _ (implied _ _ (implied _ _ (all_below_at (length M.boundaries) _ (all_below_at (span_count M) _ h i (cuts_lt M isl i c)) j (ramp_lt j l)) (ap not k)) (ap not l)) c)
      (ap not d))

  pub island : is_island M isl ≡ true → Island M isl
  unfolding is_island is_one_list
  island h =
      let k3 = both _ (is_one_list M) h in
      let k2 = both _ (has_own_ramp_ids M isl) k3.0 in
      let k1 = both (is_apart M isl) (is_one_sided M isl) k2.0 in
      let k = both (eqb (length M.boundaries) (span_count M)) _ k3.1 in
      record {
        apart = apart k1.0;
        one_sided = one_sided_lem k1.1;
        ramp_ids = ramp_ids_lem k2.1;
        equally_many = eqb-true _ _ k.0;
        same_endpoints = λ i l. same_segment _ _ (all_below_at (span_count M) _ k.1 i l);
      }

pub alike : (M M' : Map) (isl : ℕ → Bool) → is_alike M M' isl ≡ true → Alike M M' isl
unfolding is_alike
alike M M' isl h =
    let k6 = both _ (is_island M' isl) h in
    let k5 = both _ (is_island M isl) k6.0 in
    let k4 = both _ (is_same_list is_same_boundary (cutting M isl) (cutting M' isl)) k5.0 in
    let k3 = both _ (all_below (cell_count M) (λ c. implies (isl c) (beq (has_anchor M c) (has_anchor M' c)))) k4.0 in
    let k2 = both _ (all_below (cell_count M) (λ c. implies (isl c) (eqb (cell_at M c) (cell_at M' c)))) k3.0 in
    let k1 = both (eqb M.width M'.width) (eqb M.height M'.height) k2.0 in
    record {
      width = eqb-true _ _ k1.0;
      height = eqb-true _ _ k1.1;
      cells = λ c l i. eqb-true _ _ (implied (isl c) _ (all_below_at (cell_count M) _ k2.1 c l) i);
      anchors = λ c l i. beq_same _ _ (implied (isl c) _ (all_below_at (cell_count M) _ k3.1 c l) i);
      counterparts = same_list is_same_boundary same_boundary _ _ k4.1;
      island = island M isl k5.1;
      island' = island M' isl k6.1;
    }
