-- What a walk over rows may read. Assumes nothing.
use Prim.Native.Nat.{ℕ, suc, ◌+◌, ◌*◌, ◌≤◌, ◌<◌}
use native.Mathlib.Omega.{arith}
use mathlib.Core.Path.{◌≡◌, ap}
use mathlib.Core.List.{List}
use lib.ListN.{length, get_or}
use Rattle.definitions.specs.Limits.{numbers_per_pair}
use Rattle.definitions.specs.Context.{Context}
use Rattle.definitions.specs.RampInteriors.{components}
use Rattle.context.specs.Shown.{pair_at, ShownPairs}
use Rattle.region_pairs.specs.declared.Pair as declared
use Rattle.context.specs.Rows.{pair_form}
use Rattle.context.proofs.ShownLaws.{shown-stretch}
use Rattle.interior_proposals.specs.Forest.{Names}
use Rattle.interior_proposals.specs.Owners.{Walkable}
use Rattle.interior_proposals.proofs.Preparing.{rows-placed, components-size}

-- the regions of a row as it was read
module _ (rows : List ℕ) (k : ℕ) {p : declared.Pair} (e : pair_form p ≡ pair_at rows k) where
  pub row_low : p.lo ≡ (pair_at rows k).lo
  row_low = ap (λ q. q.lo) e

  pub row_high : p.hi ≡ (pair_at rows k).hi
  row_high = ap (λ q. q.hi) e

module _ {rows : List ℕ} {first end n k : ℕ} (w : Walkable rows first end n) (a : first ≤ k) (b : k < end) where
  pub row_in : numbers_per_pair * k + 2 < length rows
  row_in = omega (arith, w.long)

  -- a region as it was read
  pub low_in_lem : {x : ℕ} → x ≡ (pair_at rows k).lo → (1 ≤ x) × (x ≤ n)
  low_in_lem e =
      let p = w.placed k a b in
      (omega (arith, p.low_from), omega (arith, p.low_upto))

  pub high_in : {x : ℕ} → x ≡ (pair_at rows k).hi → (1 ≤ x) × (x ≤ n)
  high_in e =
      let p = w.placed k a b in
      (omega (arith, p.high_from), omega (arith, p.high_upto))

-- every region has a name
pub names-long : (C : Context) {names : List ℕ} → Names (components C) names → C.regions ≤ length names
names-long C N = omega (arith, N.long, components-size C)

pub walk_more : {rows : List ℕ} {first end m n : ℕ} → Walkable rows first end m → m ≤ n → Walkable rows first end n
walk_more w h =
    record {
      rising = w.rising;
      long = w.long;
      placed = λ k a b.
          let q = w.placed k a b in
          record { low_from = q.low_from; low_upto = omega (arith, q.low_upto); high_from = q.high_from; high_upto = omega (arith, q.high_upto) };
    }

-- the rows of boundary i
pub shown-walkable : {C : Context} {rows starts : List ℕ} {n : ℕ} → ShownPairs C rows starts → C.regions ≤ n → (i : ℕ) → i < C.count → Walkable rows (get_or starts i 0) (get_or starts (i + 1) 0) n
shown-walkable {C} P h i l =
    let s = shown-stretch P i l in
    walk_more (record { rising = s.rising; long = s.long; placed = rows-placed P i l (suc C.regions) (omega arith) }) h
