-- A walk over the places of a mouth's rows asks every inner region of its proposal, and so whether their corners are near. Assumes nothing.
use Rattle.mouth_proposals.specs.Candidates.{is_broad, proposal_of}
use Rattle.mouth_proposals.specs.declared.mouths.MouthKind.{MouthKind}
use Prim.Native.Nat.{ℕ, zero, suc, ◌+◌, ◌-◌, ◌*◌, ◌/◌, ◌%◌, ◌≤◌, ◌<◌}
use native.Mathlib.Omega.{arith}
use mathlib.Core.Path.{◌≡◌, refl, sym, ap, ap₂, ◌∙◌}
use mathlib.Core.Bool.{Bool, true, false, ◌&&◌, ◌||◌, cond}
use Rattle.std.specs.Prelude.{Option, None, Some}
use mathlib.Core.List.{List, [], ◌∷◌}
use lib.ListN.{get_or}
use lib.Dec.{eqb}
use Rattle.definitions.specs.Scan.{all_below, all}
use Rattle.definitions.specs.Grid.{Pair}
use Rattle.definitions.specs.MouthShapes.{distinct_regions}
use Rattle.definitions.specs.Context.{Context}
use Rattle.definitions.specs.RampMouths.{corners_near_lem}
use Rattle.laws.specs.ListLaws.ScansOfAll.{all_append-test, all_ext}
use Rattle.context.specs.Shown.{pair_at, pairs_between, ShownPairs}
use Rattle.context.proofs.Counting.{between_none, between_more}
use Rattle.mouth_proposals.specs.Rows.{is_outer, inner_of}
use Rattle.mouth_regions.specs.Inner.{places_of, region_at, inner_at, passes}
use Rattle.mouth_regions.specs.Near.{corner_near, region_near}
use Rattle.mouth_proposals.proofs.RowLists.{all-regions}
use Rattle.mouth_proposals.proofs.ShapeTests.{all_distinct}
use Rattle.mouth_proposals.proofs.ShapedMouths.{all_of-filter}

-- ---- row by row

module _ (g : ℕ → Bool) (rows : List ℕ) (first : ℕ) where
  abbrev row : Pair → Bool
  row p = g p.lo && g p.hi

  even_place : (j : ℕ) → region_at rows first (2 * j) ≡ (pair_at rows (first + j)).lo
  even_place j = ap₂ (λ a b. cond (eqb a 0) (pair_at rows (first + b)).lo (pair_at rows (first + b)).hi) (left j) (half j)
    where
      left : (j : ℕ) → 2 * j % 2 ≡ 0
      left j = omega arith

      half : (j : ℕ) → 2 * j / 2 ≡ j
      half j = omega arith

  odd_place : (j : ℕ) → region_at rows first (suc (2 * j)) ≡ (pair_at rows (first + j)).hi
  odd_place j = ap₂ (λ a b. cond (eqb a 0) (pair_at rows (first + b)).lo (pair_at rows (first + b)).hi) (left j) (half j)
    where
      left : (j : ℕ) → suc (2 * j) % 2 ≡ 1
      left j = omega arith

      half : (j : ℕ) → suc (2 * j) / 2 ≡ j
      half j = omega arith

  walked : (j : ℕ) → all row (pairs_between rows first (first + j)) ≡ all_below (2 * j) (λ k. g (region_at rows first k))
  unfolding all all_below
  walked zero = ap (λ n. all row (pairs_between rows first n)) (none first) ∙ ap (all row) (between_none rows first)
    where
      none : (n : ℕ) → n + 0 ≡ n
      none n = omega arith
  walked (suc j) =
      ap (λ n. all row (pairs_between rows first n)) (more first j) ∙ ap (all row) (between_more rows first (first + j) (omega arith))
      ∙ all_append-test row (pairs_between rows first (first + j)) (pair_at rows (first + j) ∷ [])
      ∙ (λ i. walked j i && ((g (sym (even_place j) i) && g (sym (odd_place j) i)) && true))
      ∙ order (all_below (2 * j) (λ k. g (region_at rows first k))) (g (region_at rows first (2 * j))) (g (region_at rows first (suc (2 * j))))
      ∙ ap (λ n. all_below n (λ k. g (region_at rows first k))) (sym (twice j))
    where
      more : (first j : ℕ) → first + suc j ≡ first + j + 1
      more first j = omega arith

      twice : (j : ℕ) → 2 * suc j ≡ suc (suc (2 * j))
      twice j = omega arith

      order : (a b c : Bool) → (a && ((b && c) && true)) ≡ ((a && b) && c)
      order true true true = refl
      order true true false = refl
      order true false c = refl
      order false b c = refl

-- ---- the inner regions

module _ {C : Context} {pairs starts : List ℕ} (P : ShownPairs C pairs starts) (m : ℕ) (l : m < C.count) (outer : Option ℕ) where
  abbrev at : ℕ → Option ℕ
  at k = inner_at pairs starts m outer k

  passed : (f : ℕ → Bool) (r : ℕ) → (is_outer outer r || f r) ≡ passes f (cond (is_outer outer r) None (Some r))
  passed f r = go (is_outer outer r)
    where
      go : (b : Bool) → (b || f r) ≡ passes f (cond b None (Some r))
      go true = refl
      go false = refl

  pub inner-all : (f : ℕ → Bool) → all f (inner_of outer (C.pairs m)) ≡ all_below (places_of starts m) (λ k. passes f (at k))
  unfolding inner_of
  inner-all f =
      all_of-filter (λ s. is_outer outer s) f (distinct_regions (C.pairs m)) ∙ all_distinct (λ s. is_outer outer s || f s) (C.pairs m) ∙ all-regions (λ s. is_outer outer s || f s) (C.pairs m)
      ∙ ap (all (row (λ s. is_outer outer s || f s) pairs (get_or starts m 0))) (P.at m l)
      ∙ ap (λ n. all (row (λ s. is_outer outer s || f s) pairs (get_or starts m 0)) (pairs_between pairs (get_or starts m 0) n)) (spread (get_or starts m 0) (get_or starts (m + 1) 0) (P.rising m l))
      ∙ walked (λ s. is_outer outer s || f s) pairs (get_or starts m 0) (get_or starts (m + 1) 0 - get_or starts m 0)
      ∙ all_ext _ _ (places_of starts m) (λ k h. passed f (region_at pairs (get_or starts m 0) k))
    where
      spread : (a b : ℕ) → a ≤ b → b ≡ a + (b - a)
      spread a b h = omega arith

  -- the second half of `is_local`, place by place
  pub corners-near : (a : ℕ) (kind : MouthKind) → corners_near_lem C (proposal_of C m a outer kind) ≡ all_below (places_of starts m) (λ k. passes (λ r. region_near C m a (is_broad kind) (C.region r)) (at k))
  unfolding corners_near_lem proposal_of region_near corner_near
  corners-near a kind = inner-all (λ r. region_near C m a (is_broad kind) (C.region r))
