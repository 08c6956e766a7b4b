-- The share of a count, and the dominance from its two parts. Assumes nothing.
use Prim.Native.Nat.{ℕ, zero, suc, ◌*◌, ◌/◌, ◌%◌}
use native.Mathlib.Omega.{arith}
use mathlib.Core.Path.{◌≡◌, refl, ap, ◌∙◌}
use Rattle.std.specs.Prelude.{Option, None, Some}
use mathlib.Core.List.{List}
use lib.ListN.{get_or}
use Rattle.definitions.specs.RegionRecord.{Share, Dominance, most_common_elevation, share_of, dominance_of}

pub share_some : (count n : ℕ) → (n ≡ 0 → ⊥) → Some (record { percent = count * 100 / n; remainder = count * 100 % n }) ≡ share_of count n
unfolding share_of
share_some count zero l = absurd (l refl)
share_some count (suc n) l = refl

pub share_none : (count n : ℕ) → n ≡ 0 → None ≡ share_of count n
unfolding share_of
share_none count zero l = refl
share_none count (suc n) l = absurd (omega (arith, l))

pub dominance_from : (n : ℕ) (counts : List ℕ) {e : ℕ} {h : Option Share} → e ≡ most_common_elevation counts → h ≡ share_of (get_or counts e 0) n
    → record { elevation = e; share = h } ≡ dominance_of n counts
unfolding dominance_of
dominance_from n counts {e} p q = ap (parted e) q ∙ ap (λ (k : ℕ). parted k (share_of (get_or counts k 0) n)) p
  where
    parted : ℕ → Option Share → Dominance
    parted k h = record { elevation = k; share = h }
