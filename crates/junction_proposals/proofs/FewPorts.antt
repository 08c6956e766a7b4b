-- Few incidents make few ports: a port names one of the two regions of a union, and the boundary between them, which is no port, names both. Where the walk goes
-- through, the counts are those of the boundaries that name the regions. Assumes nothing.
use Prim.Native.Nat.{ℕ, zero, suc, ◌+◌, ◌-◌, ◌≤◌, ◌<◌}
use native.Mathlib.Omega.{arith}
use mathlib.Core.Path.{◌≡◌, refl, sym, ap, ◌∙◌}
use mathlib.Core.Bool.{Bool, true, false, not, ◌&&◌, ◌||◌, or-true}
use Rattle.std.specs.Prelude.{Option, Some}
use mathlib.Core.List.{List}
use lib.ListN.{get_or}
use lib.Dec.{eqb, ltb, leb}
use borrow.Author.Tests.{eq-eqb, eqb-true, lt-leb, ltb-true, ltb-false}
use Rattle.definitions.specs.Scan.{any_below_lem, count_below, bit}
use Rattle.definitions.specs.Grid.{Pair, contains}
use Rattle.definitions.specs.Context.{holds}
use Rattle.laws.specs.ListLaws.Tests.{both}
use Rattle.laws.specs.ListLaws.ScanSteps.{count_mono}
use Rattle.junction_proposals.specs.Ports.{pair_of, names, is_unfit, region_fits, walk_fits, is_port}
use Rattle.junction_proposals.specs.Unions.{leads_anew}
use Rattle.region_pairs.specs.declared.Pair as declared

-- ---- counts

module _ (f g h : ℕ → Bool) (each : (j : ℕ) → bit (f j) ≤ bit (g j) + bit (h j)) where
  count-both : (n : ℕ) → count_below n f ≤ count_below n g + count_below n h
  unfolding count_below
  count-both zero = omega arith
  count-both (suc n) = omega (arith, count-both n, each n)

  -- and two less, where a number passes both g and h and not f
  count_less : (i : ℕ) → f i ≡ false → g i ≡ true → h i ≡ true → (n : ℕ) → i < n → count_below n f + 2 ≤ count_below n g + count_below n h
  unfolding count_below
  count_less i a b c zero l = absurd (omega arith)
  count_less i a b c (suc n) l = go (ltb i n) refl (count_less i a b c n)
    where
      last : i ≡ n → count_below n f + bit (f n) + 2 ≤ count_below n g + bit (g n) + (count_below n h + bit (h n))
      last e = omega (arith, count-both n, ap (λ j. bit (f j)) (sym e) ∙ ap bit a, ap (λ j. bit (g j)) (sym e) ∙ ap bit b, ap (λ j. bit (h j)) (sym e) ∙ ap bit c)

      go : (t : Bool) → ltb i n ≡ t → (i < n → count_below n f + 2 ≤ count_below n g + count_below n h) → count_below n f + bit (f n) + 2 ≤ count_below n g + bit (g n) + (count_below n h + bit (h n))
      go true e ih = omega (arith, ih (ltb-true i n e), each n)
      go false e ih = last (omega (arith, ltb-false i n e))

-- ---- ports

module _ (full : List (Option declared.Pair)) (counts : List ℕ) (count i : ℕ) (union : Pair) (own : pair_of full i ≡ Some union) where
  abbrev low : ℕ → Bool
  low = names full union.lo

  abbrev high : ℕ → Bool
  high = names full union.hi

  -- the boundary itself names both
  names-own : (r : ℕ) → contains r union ≡ true → names full r i ≡ true
  unfolding names
  names-own r e = ap (λ o. holds o (contains r)) own ∙ e

  no_port_lem : is_port full i union i ≡ false
  unfolding is_port
  no_port_lem = ap (λ b. not b && (low i || high i)) (eq-eqb i i refl)

  port-bit : (j : ℕ) → bit (is_port full i union j) ≤ bit (low j) + bit (high j)
  unfolding is_port
  port-bit j = go (eqb j i) (low j) (high j)
    where
      go : (e a b : Bool) → bit (not e && (a || b)) ≤ bit a + bit b
      go true a b = omega arith
      go false true b = omega arith
      go false false b = omega arith

  pub few-ports : i < count → walk_fits full counts count i union ≡ true → get_or counts (union.lo - 1) 0 + get_or counts (union.hi - 1) 0 < 5 → leb 3 (count_below count (leads_anew full i union)) ≡ false
  unfolding walk_fits region_fits leads_anew
  few-ports l w s = lt-leb 3 (count_below count (leads_anew full i union)) (omega (arith, s, counted union.lo sides.0, counted union.hi sides.1, ports, less))
    where
      sides : (region_fits full counts count i union union.lo ≡ true) × (region_fits full counts count i union union.hi ≡ true)
      sides = both (region_fits full counts count i union union.lo) (region_fits full counts count i union union.hi) w

      counted : (r : ℕ) → region_fits full counts count i union r ≡ true → count_below count (names full r) ≡ get_or counts (r - 1) 0
      counted r e =
          eqb-true (count_below count (names full r)) (get_or counts (r - 1) 0)
          (both (not (any_below_lem count (is_unfit full i union r))) (eqb (count_below count (names full r)) (get_or counts (r - 1) 0)) e).1

      ports : count_below count (leads_anew full i union) ≤ count_below count (is_port full i union)
      ports =
          count_mono (leads_anew full i union) (is_port full i union) count
          (λ j k e. (both (is_port full i union j) _ e).0)

      less : count_below count (is_port full i union) + 2 ≤ count_below count low + count_below count high
      less =
          count_less (is_port full i union) low high port-bit i no_port_lem
          (names-own union.lo (ap (λ b. b || eqb union.hi union.lo) (eq-eqb union.lo union.lo refl)))
          (names-own union.hi (ap (λ b. eqb union.lo union.hi || b) (eq-eqb union.hi union.hi refl) ∙ or-true (eqb union.lo union.hi))) count l
