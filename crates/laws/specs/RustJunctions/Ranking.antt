-- How junctions.rs ranks its proposals, as the Rust writes it: `total_cmp` of the widths, the wider first, then the endpoints, then `tie_key`. It is the order of the
-- definitions' keys. The argument: widths with the sign clear compare under `total_cmp` as their bits, so that the reversed order is that of 2^64 less the bits, and the
-- chain of comparisons compares the keys number by number. Assumes a sound context.
use Prim.Native.Nat.{ℕ, zero, suc, ◌-◌, ◌*◌, ◌^◌, ◌<◌, min, max, compare, Ordering}
use native.Mathlib.Omega.{arith}
use Rattle.std.specs.Prelude.{◌≡◌, refl, cond, ltb}
use Rattle.std.proofs.Math.Path.{sym, ap, ap₂}
use Rattle.std.proofs.Common.{◌∙◌, lt-ltb}
use mathlib.Core.List.{List, [], ◌∷◌, map}
use Rattle.definitions.specs.Sort.{sort}
use Rattle.definitions.specs.Context.{Context}
use Rattle.definitions.specs.Junctions.{Proposal, boundary_key, tie_key, key, ranks_before}
use Rattle.laws.specs.ListLaws.Lists.{All}
use Rattle.laws.specs.OrderLaws.StableSort.{map-sort}
use Rattle.laws.specs.RustContext.SoundContext.{Sound}
use Rattle.laws.specs.OrderLaws.Orderings.{is_less, then_with, list_compare, compare_from, list_compare_lem, list-append}
use Rattle.laws.specs.RustContext.CompareBoundaries.{compare_boundaries, endpoints_compare}
use Rattle.laws.specs.RustJunctions.JunctionProposals.{ProposalEnum, union, bridge, index_of, enum_of, as_enum, Formed, of_union, of_bridge, index_below}

-- ---- as the Rust writes it

-- `f64::total_cmp` of two patterns: as signed numbers, where of a negative one all bits but the sign are turned, so that among the negative ones the greater
-- pattern is the lesser
unfoldable pub total_cmp : ℕ → ℕ → Ordering
total_cmp a b = cond (ltb a (2 ^ 63)) (cond (ltb b (2 ^ 63)) (compare a b) Ordering.gt) (cond (ltb b (2 ^ 63)) Ordering.lt (compare b a))

--     Self::Union(x) => (0, x.pair[0].min(x.pair[1]), x.pair[0].max(x.pair[1])),
--     Self::Bridge(x) => (1, x.pocket, x.exterior),
abbrev pub tie_key_of : ProposalEnum → List ℕ
tie_key_of (union x) = 0 ∷ min x.pair.lo x.pair.hi ∷ max x.pair.lo x.pair.hi ∷ []
tie_key_of (bridge x) = 1 ∷ x.pocket ∷ x.exterior ∷ []

module _ (C : Context) where
  --     boundaries[right.index()].width_pixels.total_cmp(&boundaries[left.index()].width_pixels)
  --         .then_with(|| compare_boundaries(&boundaries[left.index()], &boundaries[right.index()]))
  --         .then_with(|| left.tie_key().cmp(&right.tie_key()))
  unfoldable pub compare_proposals : ProposalEnum → ProposalEnum → Ordering
  compare_proposals left right =
      then_with
      (then_with (total_cmp (C.boundary (index_of right)).width_bits (C.boundary (index_of left)).width_bits)
      (compare_boundaries (C.boundary (index_of left)).endpoints (C.boundary (index_of right)).endpoints))
      (list_compare (tie_key_of left) (tie_key_of right))

  --     ranked.sort_by(|left, right| ..);
  unfoldable pub sort_proposals : List ProposalEnum → List ProposalEnum
  sort_proposals l = sort (λ left right. is_less (compare_proposals left right)) l

-- ---- and that it is the same

-- the reversed `total_cmp` of two patterns with the sign clear
pub wider_first : (a b : ℕ) → a < 2 ^ 63 → b < 2 ^ 63 → total_cmp b a ≡ compare (2 ^ 64 - a) (2 ^ 64 - b)
unfolding total_cmp
wider_first a b h k = rw (lt-ltb a (2 ^ 63) h, lt-ltb b (2 ^ 63) k) (sym (compare_from (2 ^ 64) a b (omega arith) (omega arith)))

module _ (C : Context) where
  index_is : (k : ℕ) (p : Proposal) → index_of (enum_of C k p) ≡ p.index
  index_is zero p = refl
  index_is (suc k) p = refl

  tie_is : (p : Proposal) → Formed C p → tie_key_of (as_enum C p) ≡ tie_key p
  unfolding tie_key
  tie_is p (of_union e h l) = go p.kind e
    where
      go : (k : ℕ) → k ≡ 0 → tie_key_of (enum_of C k p) ≡ k ∷ p.first ∷ p.second ∷ []
      go zero e = ap₂ {C = List ℕ} (λ a b. 0 ∷ a ∷ b ∷ []) least greatest
        where
          least : min p.first p.second ≡ p.first
          least = omega arith

          greatest : max p.first p.second ≡ p.second
          greatest = omega arith
      go (suc k) e = absurd (omega arith)
  tie_is p (of_bridge e l) = go p.kind e
    where
      go : (k : ℕ) → k ≡ 1 → tie_key_of (enum_of C k p) ≡ k ∷ p.first ∷ p.second ∷ []
      go zero e = absurd (omega arith)
      go (suc k) e = ap {B = List ℕ} (λ n. n ∷ p.first ∷ p.second ∷ []) (sym e)

  -- two proposals whose widths have the sign clear
  module _ (p q : Proposal) (fp : Formed C p) (fq : Formed C q) (h : (C.boundary p.index).width_bits < 2 ^ 63) (k : (C.boundary q.index).width_bits < 2 ^ 63) where
    compared : compare_proposals C (as_enum C p) (as_enum C q) ≡ list_compare (key C p) (key C q)
    unfolding compare_proposals key list_compare
    compared =
        (λ i. then_with
        (then_with (total_cmp (C.boundary (index_is q.kind q i)).width_bits (C.boundary (index_is p.kind p i)).width_bits)
        (compare_boundaries (C.boundary (index_is p.kind p i)).endpoints (C.boundary (index_is q.kind q i)).endpoints))
        (list_compare (tie_is p fp i) (tie_is q fq i)))
        ∙ (λ i. then_with (then_with (wider_first (C.boundary p.index).width_bits (C.boundary q.index).width_bits h k i) (endpoints_compare (C.boundary p.index).endpoints (C.boundary q.index).endpoints i)) (list_compare (tie_key p) (tie_key q)))
        ∙ sym (list-append (boundary_key (C.boundary p.index)) (boundary_key (C.boundary q.index)) (tie_key p) (tie_key q) refl)

    pub rank_is : is_less (compare_proposals C (as_enum C p) (as_enum C q)) ≡ ranks_before C p q
    unfolding ranks_before
    rank_is = ap is_less compared ∙ list_compare_lem (key C p) (key C q)

  -- the ranked list
  module _ (sound : Sound C) where
    sign_clear : (p : Proposal) → Formed C p → (C.boundary p.index).width_bits < 2 ^ 63
    sign_clear p f = below (sound.finite p.index (index_below C p f))
      where
        below : (C.boundary p.index).width_bits < 2047 * 2 ^ 52 → (C.boundary p.index).width_bits < 2 ^ 63
        below h = omega arith

    pub ranked_is : {l : List Proposal} → All (Formed C) l → map (as_enum C) (sort (ranks_before C) l) ≡ sort_proposals C (map (as_enum C) l)
    unfolding sort_proposals
    ranked_is a = map-sort (as_enum C) (Formed C) (ranks_before C) (λ left right. is_less (compare_proposals C left right)) (λ p q f g. sym (rank_is p q f g (sign_clear p f) (sign_clear q g))) a
