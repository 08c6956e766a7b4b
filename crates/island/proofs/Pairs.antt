-- The pairs of labels that a span separates, of the island's steps: the restricted map's labels separate the same steps, into the renamed pairs, since the renaming of regions keeps
-- the order of pairs. Assumes `Island`.
use Rattle.std.specs.Prelude.{ℕ, min, max, ◌≡◌, Bool, true, not, ◌&&◌, ◌||◌, eqb}
use Rattle.std.proofs.Common.{arith, ap₂, ◌∙◌}
use Rattle.std.proofs.Math.Path.{sym, ap}
use mathlib.Core.List.{List, [], map, map-map}
use Rattle.definitions.specs.Scan.{filter}
use Rattle.definitions.specs.Grid.{Map, Pair, pair_lt}
use Rattle.definitions.specs.Partition.{labels, label_pair, is_separated, add_pairs, pairs_of}
use Rattle.laws.specs.ListLaws.Lists.{All, done, all_map, all_filter}
use Rattle.laws.specs.RegionLaws.MergingInside.{Keeps, min-ren, max-ren, pick-min, pick-max}
use Rattle.laws.specs.ListLaws.Scans.{filter_ext, map_ext}
use Rattle.laws.specs.ListLaws.Members.{all-mapped}
use Rattle.laws.specs.OrderLaws.PairInsertion.{add_pairs-ren}
use Rattle.laws.specs.RegionLaws.Steps.{Step}
use Rattle.island.specs.Premises.{Island}
use Rattle.island.specs.Frame.{ren, ren_p, PairOn, ren-eqb, ren-ltb}
use Rattle.island.specs.RegionLists.{pair_eq_in}
use Rattle.island.specs.Restrict.{restrict}
use Rattle.island.proofs.Labels.{label_of, in_r, in_label, label_in}

-- ---- of regions inside

module _ (R : ℕ → Bool) where
  lt_same : (p q : Pair) → PairOn R true p → PairOn R true q → pair_lt p q ≡ pair_lt (ren_p R p) (ren_p R q)
  lt_same p q h k = ap₂ ◌||◌ (ren-ltb R p.lo q.lo h.lo) (ap₂ ◌&&◌ (ren-eqb R p.lo q.lo h.lo k.lo) (ren-ltb R p.hi q.hi h.hi))

  keeps : Keeps R (ren R) 0 0
  keeps = record { order = λ a b h k. ren-ltb R a b h; level = ren-eqb R; small = λ c l h. absurd (omega arith) }

  pub min_in : (a b : ℕ) → R a ≡ true → R b ≡ true → ren R (min a b) ≡ min (ren R a) (ren R b)
  min_in = min-ren R (ren R) 0 0 keeps

  pub max_in : (a b : ℕ) → R a ≡ true → R b ≡ true → ren R (max a b) ≡ max (ren R a) (ren R b)
  max_in = max-ren R (ren R) 0 0 keeps

-- ---- of the steps on one side of an island

module _ (M : Map) (isl : ℕ → Bool) where
  -- a step, and where it lies
  pub record Lies (b : Bool) (e : Pair) : Type 0 where
    pub step : Step M e
    pub lo : isl e.lo ≡ b
    pub hi : isl e.hi ≡ b

  module _ (I : Island M isl) where
    abbrev R : ℕ → Bool
    R = in_r M isl

    abbrev S : Map
    S = restrict M isl

    module _ {b : Bool} {e : Pair} (l : Lies b e) where
      lo-side : R (label_of M e.lo) ≡ b
      lo-side = in_label M isl I e.lo l.step.within.lo l.step.low_walkable ∙ l.lo

      hi-side : R (label_of M e.hi) ≡ b
      hi-side = in_label M isl I e.hi l.step.within.hi l.step.high_walkable ∙ l.hi

    pub pair_on : {b : Bool} {e : Pair} → Lies b e → PairOn R b (label_pair (labels M) e)
    pair_on {b} l = record { lo = pick-min R b _ _ (lo-side l) (hi-side l); hi = pick-max R b _ _ (lo-side l) (hi-side l) }

    module _ {e : Pair} (l : Lies true e) where
      lo_in : label_of S e.lo ≡ ren R (label_of M e.lo)
      lo_in = label_in M isl I e.lo l.step.within.lo l.step.low_walkable l.lo

      hi_in : label_of S e.hi ≡ ren R (label_of M e.hi)
      hi_in = label_in M isl I e.hi l.step.within.hi l.step.high_walkable l.hi

      separated_in : is_separated (labels S) e ≡ is_separated (labels M) e
      separated_in = ap not (ap₂ eqb lo_in hi_in ∙ sym (ren-eqb R (label_of M e.lo) (label_of M e.hi) (lo-side l) (hi-side l)))

      renamed_in : label_pair (labels S) e ≡ ren_p R (label_pair (labels M) e)
      renamed_in =
          λ i.
          record {
            lo = (ap₂ min lo_in hi_in ∙ sym (min_in R (label_of M e.lo) (label_of M e.hi) (lo-side l) (hi-side l))) i;
            hi = (ap₂ max lo_in hi_in ∙ sym (max_in R (label_of M e.lo) (label_of M e.hi) (lo-side l) (hi-side l))) i;
          }

    pub separated_same : {es : List Pair} → All (Lies true) es → filter (is_separated (labels S)) es ≡ filter (is_separated (labels M)) es
    separated_same a = filter_ext (all_map (λ e l. separated_in l) a)

    pub pairs_same : {es : List Pair} → All (Lies true) es → pairs_of (labels S) es ≡ map (ren_p R) (pairs_of (labels M) es)
    unfolding pairs_of
    pairs_same {es} a =
        ap (λ k. add_pairs [] (map (label_pair (labels S)) k)) (separated_same a)
        ∙ ap (add_pairs []) (map_ext (all_map (λ e l. renamed_in l) apart) ∙ sym (map-map (ren_p R) (label_pair (labels M)) kept))
        ∙ sym (add_pairs-ren (PairOn R true) (ren_p R) (lt_same R) (pair_eq_in R) done (all-mapped (label_pair (labels M)) (all_map (λ e l. pair_on l) apart)))
      where
        kept : List Pair
        kept = filter (is_separated (labels M)) es

        apart : All (Lies true) kept
        apart = all_filter (is_separated (labels M)) a
