-- The positions near a span that the Rust looks at are positions of the grid (`candidates-inside`), so that `index` finds each. The argument: both ranges of
-- `candidate_positions` end at the last column or row at the latest. Assumes a grid that is not empty, as check 1 has it.
use Rattle.std.specs.Prelude.{ℕ, zero, suc, ◌+◌, ◌-◌, ◌≤◌, ◌<◌, min, max, ◌≡◌, Bool, true, false, ◌⊎◌, leb}
use Rattle.std.proofs.Common.{arith, inl, inr}
use Rattle.std.proofs.Math.Bool.{cond}
use mathlib.Core.List.{List, map}
use Rattle.definitions.specs.Scan.{concat_map, run}
use Rattle.definitions.specs.Grid.{Map, Position, at, Segment}
use Rattle.definitions.specs.Spans.{range_inclusive, candidate_axis_range, candidate_minor_range, distance_between, line_at, middle_of, candidate_positions}
use Rattle.laws.specs.NumberLaws.Comparisons.{le_or_lt}
use Rattle.laws.specs.ListLaws.Lists.{All, done, more, all_map, all_append}
use Rattle.laws.specs.ListLaws.Members.{all-mapped}

run-below : (m a e : ℕ) → a + m ≤ e → All (λ k. k < e) (run a m)
unfolding run
run-below zero a e h = done
run-below (suc m) a e h = more {x = a} (omega arith) (run-below m (suc a) e (omega arith))

range-below : (first last limit : ℕ) → 1 ≤ limit → All (λ k. k < limit) (range_inclusive first (min last (limit - 1)))
unfolding range_inclusive run
range-below first last limit h = go (suc (min last (limit - 1))) (omega arith) (le_or_lt first (suc (min last (limit - 1))))
  where
    none : (e : ℕ) → e < first → e - first ≡ 0
    none e k = omega arith

    go : (e : ℕ) → e ≤ limit → (first ≤ e) ⊎ (e < first) → All (λ k. k < limit) (run first (e - first))
    go e l (inl k) = run-below (e - first) first limit (omega arith)
    go e l (inr k) = rw (none e k) done

all_each : {A B : Type 0} {P : B → Type 0} (f : A → List B) {l : List A} → All (λ x. All P (f x)) l → All P (concat_map f l)
unfolding concat_map
all_each f done = done
all_each f (more h a) = all_append h (all_each f a)

pub record Inside (M : Map) (p : Position) : Type 0 where
  pub in_x : p.x < M.width
  pub in_y : p.y < M.height

module _ (M : Map) (wide : 1 ≤ M.width) (tall : 1 ≤ M.height) where
  columns : (line : ℕ → ℕ) (lo hi : ℕ) → All (Inside M) (concat_map (λ x. map (λ y. at x y) (candidate_minor_range (line x) M.height)) (candidate_axis_range lo hi M.width))
  unfolding candidate_minor_range candidate_axis_range
  columns line lo hi =
      all_each (λ x. map (λ y. at x y) (candidate_minor_range (line x) M.height))
      (all_map (λ x h. all-mapped (λ y. at x y) (all_map (λ y k. record { in_x = h; in_y = k }) (range-below _ _ M.height tall))) (range-below _ _ M.width wide))

  rows : (line : ℕ → ℕ) (lo hi : ℕ) → All (Inside M) (concat_map (λ y. map (λ x. at x y) (candidate_minor_range (line y) M.width)) (candidate_axis_range lo hi M.height))
  unfolding candidate_minor_range candidate_axis_range
  rows line lo hi =
      all_each (λ y. map (λ x. at x y) (candidate_minor_range (line y) M.width))
      (all_map (λ y k. all-mapped (λ x. at x y) (all_map (λ x h. record { in_x = h; in_y = k }) (range-below _ _ M.width wide))) (range-below _ _ M.height tall))

  either : (b : Bool) {l m : List Position} → All (Inside M) l → All (Inside M) m → All (Inside M) (cond b l m)
  either true a c = a
  either false a c = c

  pub candidates-inside : (g : Segment) → All (Inside M) (candidate_positions M.width M.height g)
  unfolding candidate_positions
  candidates-inside g =
      let a = g.a in
      let b = g.b in
      let lower = cond (leb a.y b.y) a b in
      let upper = cond (leb a.y b.y) b a in
      either (leb (distance_between a.y b.y) (distance_between a.x b.x))
      (columns (λ x. line_at a.x a.y b.x b.y (middle_of x)) (min a.x b.x) (max a.x b.x))
      (rows (λ y. line_at lower.y lower.x upper.y upper.x (middle_of y)) (min a.y b.y) (max a.y b.y))
