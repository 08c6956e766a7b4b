-- Few bridges: a pocket of a bridge has three full pairs that name it, and a full pair names two regions, so that three times the bridges are at most twice the
-- boundaries. The count is one of pairs (region, boundary), made in both orders. Assumes nothing.
use Prim.Native.Nat.{ℕ, zero, suc, ◌+◌, ◌*◌, ◌≤◌, ◌<◌}
use native.Mathlib.Omega.{arith}
use mathlib.Core.Path.{◌≡◌, refl, sym, ap₂, ◌∙◌}
use mathlib.Core.Bool.{Bool, true, false, ◌||◌, true≢false}
use Rattle.std.specs.Prelude.{Option, None, Some}
use mathlib.Core.List.{List}
use lib.ListN.{length, length-append}
use lib.Dec.{eqb}
use borrow.Author.Tests.{eqb-true}
use Rattle.definitions.specs.Scan.{count_below, collect, to_list, bit}
use Rattle.definitions.specs.Grid.{Pair, contains}
use Rattle.definitions.specs.Context.{holds}
use Rattle.definitions.specs.Junctions.{Proposal}
use Rattle.laws.specs.ListLaws.Scans.{picked-length}
use Rattle.laws.specs.ListLaws.Tests.{both}
use Rattle.laws.specs.ListLaws.ScanSteps.{count_mono}
use Rattle.junction_proposals.specs.Ports.{pair_of, names}
use Rattle.junction_proposals.specs.Unions.{no_ramp_at}
use Rattle.junction_proposals.specs.Bridges.{is_pocket_port, is_bridge_at}
use Rattle.junction_proposals.proofs.BridgeWalk.{bridge-ports}
use Rattle.region_pairs.specs.declared.Pair as declared

-- ---- pairs counted in both orders

module _ (f : ℕ → ℕ → Bool) where
  -- the pairs of a number below m and one below n that pass f
  total : ℕ → ℕ → ℕ
  total zero n = 0
  total (suc m) n = total m n + count_below n (f m)

  total_next : (m n : ℕ) → total m (suc n) ≡ total m n + count_below m (λ r. f r n)
  unfolding count_below total
  total_next zero n = refl
  total_next (suc m) n = omega (arith, total_next m n)

  total-zero : (m : ℕ) → total m 0 ≡ 0
  unfolding count_below total
  total-zero zero = refl
  total-zero (suc m) = omega (arith, total-zero m)

  -- at most two in each column, at least three in each row that passes t
  columns : (m n : ℕ) → ((j : ℕ) → count_below m (λ r. f r j) ≤ 2) → total m n ≤ 2 * n
  columns m zero h = omega (arith, total-zero m)
  columns m (suc n) h = omega (arith, total_next m n, h n, columns m n h)

  rows : (t : ℕ → Bool) (m n : ℕ) → ((r : ℕ) → t r ≡ true → 3 ≤ count_below n (f r)) → 3 * count_below m t ≤ total m n
  unfolding count_below total
  rows t zero n h = omega arith
  rows t (suc m) n h = go (t m) refl (rows t m n h)
    where
      go : (b : Bool) → t m ≡ b → 3 * count_below m t ≤ total m n → 3 * (count_below m t + bit b) ≤ total m n + count_below n (f m)
      go true e ih = omega (arith, h m e)
      go false e ih = omega arith

-- ---- at most two regions to a pair

count_none : (f : ℕ → Bool) (n : ℕ) → ((j : ℕ) → j < n → f j ≡ true → ⊥) → count_below n f ≡ 0
unfolding count_below
count_none f zero h = refl
count_none f (suc n) h = go (f n) refl (count_none f n (λ j l. h j (omega arith)))
  where
    go : (b : Bool) → f n ≡ b → count_below n f ≡ 0 → count_below n f + bit b ≡ 0
    go true e ih = absurd (h n (omega arith) e)
    go false e ih = omega arith

count-once : (f : ℕ → Bool) (n : ℕ) → ((j k : ℕ) → f j ≡ true → f k ≡ true → j ≡ k) → count_below n f ≤ 1
unfolding count_below
count-once f zero h = omega arith
count-once f (suc n) h = go (f n) refl (count-once f n h)
  where
    go : (b : Bool) → f n ≡ b → count_below n f ≤ 1 → count_below n f + bit b ≤ 1
    go true e ih = omega (arith, count_none f n (λ j l k. absurd (omega (arith, h j n k e))))
    go false e ih = omega arith

count_or : (f g : ℕ → Bool) (n : ℕ) → count_below n (λ j. f j || g j) ≤ count_below n f + count_below n g
unfolding count_below
count_or f g zero = omega arith
count_or f g (suc n) = go (f n) (g n) (count_or f g n)
  where
    go : (a b : Bool) → count_below n (λ j. f j || g j) ≤ count_below n f + count_below n g → count_below n (λ j. f j || g j) + bit (a || b) ≤ count_below n f + bit a + (count_below n g + bit b)
    go true b ih = omega (arith, ih)
    go false true ih = omega (arith, ih)
    go false false ih = omega (arith, ih)

labelled : (a m : ℕ) → count_below m (λ k. eqb a (suc k)) ≤ 1
labelled a m = count-once (λ k. eqb a (suc k)) m (λ j k d e. omega (arith, eqb-true a (suc j) d, eqb-true a (suc k) e))

named-twice : (o : Option Pair) (m : ℕ) → count_below m (λ k. holds o (contains (suc k))) ≤ 2
named-twice None m = omega (arith, count_none (λ k. false) m (λ j l e. true≢false (sym e)))
named-twice (Some p) m = omega (arith, count_or (λ k. eqb p.lo (suc k)) (λ k. eqb p.hi (suc k)) m, labelled p.lo m, labelled p.hi m)

-- ---- the bridges

abbrev present : Option Proposal → Bool
present None = false
present (Some p) = true

collect-present : (g : ℕ → Option Proposal) (m : ℕ) → length (collect m g) ≡ count_below m (λ k. present (g k))
unfolding collect count_below
collect-present g zero = refl
collect-present g (suc m) = length-append (collect m g) (to_list (g m)) ∙ ap₂ ◌+◌ (collect-present g m) (go (g m))
  where
    go : (o : Option Proposal) → length (to_list o) ≡ bit (present o)
    go None = refl
    go (Some p) = refl

module _ (boundaries : List ℕ) (full : List (Option declared.Pair)) (marks counts : List ℕ) (count : ℕ) where
  abbrev pub bridges : ℕ → Option Proposal
  bridges k = is_bridge_at boundaries full marks (suc k) counts count

  three-named : (k : ℕ) → present (bridges k) ≡ true → 3 ≤ count_below count (names full (suc k))
  unfolding is_pocket_port
  three-named k h = go (bridges k) refl h
    where
      port : (j : ℕ) → j < count → is_pocket_port full (suc k) boundaries j ≡ true → names full (suc k) j ≡ true
      port j l e = (both (names full (suc k) j) (no_ramp_at boundaries j) e).0

      go : (o : Option Proposal) → bridges k ≡ o → present o ≡ true → 3 ≤ count_below count (names full (suc k))
      go None e p = absurd (true≢false (sym p))
      go (Some q) e p =
          omega (arith, bridge-ports boundaries full marks counts (suc k) count e, picked-length (is_pocket_port full (suc k) boundaries) (λ j. j) count, count_mono (is_pocket_port full (suc k) boundaries) (names full (suc k)) count port)

  pub bridges-few : (m : ℕ) → 3 * length (collect m bridges) ≤ 2 * count
  unfolding names
  bridges-few m =
      omega (
        arith,
        collect-present bridges m,
        rows (λ k j. names full (suc k) j) (λ k. present (bridges k)) m count three-named,
        columns (λ k j. names full (suc k) j) m count (λ j. named-twice (pair_of full j) m),
      )
