-- The context of a map is sound, if every width that the map holds is finite and its sign clear. The argument: the pairs of a map name two different regions, the smaller
-- label first (PairLaws), and every label has a cell (Regions). Assumes nothing.
use Rattle.std.specs.Prelude.{ℕ, ◌*◌, ◌^◌, ◌<◌, ◌≤◌, ◌≡◌, Bool, true, eqb, get_or}
use Rattle.std.proofs.Common.{arith, eq-eqb}
use Rattle.definitions.specs.Scan.{count_below}
use Rattle.definitions.specs.Grid.{Map, Boundary, no_boundary, boundary_of, cell_count}
use Rattle.definitions.specs.Partition.{labels, region_count}
use Rattle.definitions.specs.Context.{context_of}
use Rattle.laws.specs.ListLaws.Lists.{All, all_map}
use Rattle.laws.specs.ListLaws.Members.{all_default}
use Rattle.laws.specs.OrderLaws.Ranks.{rank_lt}
use Rattle.laws.specs.RegionLaws.Regions.{label-taken, FirstCell}
use Rattle.laws.specs.RegionLaws.PairLaws.{pairs-named, pairs-empty}
use Rattle.laws.specs.RustContext.SoundContext.{Sound}

abbrev pub FiniteWidth : Boundary → Type 0
FiniteWidth b = b.width_bits < 2047 * 2 ^ 52

-- a test that holds somewhere below n counts
count-pos : (f : ℕ → Bool) (n c : ℕ) → c < n → f c ≡ true → 0 < count_below n f
count-pos f n c l h = omega (arith, rank_lt f c n h l)

module _ (M : Map) where
  cell-counted : (r : ℕ) → FirstCell M r → 0 < count_below (cell_count M) (λ c. eqb (get_or (labels M) c 0) r)
  cell-counted r f = count-pos (λ c. eqb (get_or (labels M) c 0) r) (cell_count M) f.cell f.below (eq-eqb (get_or (labels M) f.cell 0) r f.label)

  region-inhabited : (r : ℕ) → 1 ≤ r → r ≤ region_count M → 0 < ((context_of M).region r).cells
  unfolding context_of
  region-inhabited r l h = cell-counted r (label-taken M r l h)

  boundary-finite : All FiniteWidth M.boundaries → (i : ℕ) → FiniteWidth (boundary_of M i)
  unfolding boundary_of
  boundary-finite a i = all_default {P = FiniteWidth} no_boundary (omega arith) a i

  pub map-sound : All FiniteWidth M.boundaries → Sound (context_of M)
  unfolding context_of
  map-sound a =
      record {
        ordered = λ i. all_map (λ p h. h.ordered) (pairs-named M i);
        paired = λ i. (pairs-empty M i).0;
        labelled = λ i. all_map (λ p h. (h.low, h.high)) (pairs-named M i);
        inhabited = λ i. all_map (λ p h. (region-inhabited p.lo h.low (omega (arith, h.ordered, h.high)), region-inhabited p.hi (omega (arith, h.low, h.ordered)) h.high)) (pairs-named M i);
        finite = λ i h. boundary-finite a i;
      }
