-- The loops of a row: one of the runner's, and one of the guard's. Each invariant says what is done so far. Assumes nothing.
use Prim.Native.Nat.{ℕ, suc, ◌+◌, ◌≤◌, ◌<◌}
use native.Mathlib.Omega.{arith}
use mathlib.Core.Path.{◌≡◌, refl, sym, ap, ◌∙◌}
use mathlib.Core.Bool.{Bool, true, false, not, ◌&&◌, ◌||◌}
use mathlib.Core.List.{List}
use lib.Bits.{bit_and}
use lib.Dec.{eqb, ltb}
use borrow.Author.Tests.{not-true, eq-eqb, ne_eqb}
use Rattle.definitions.specs.Scan.{all_below}
use Rattle.definitions.specs.RegionRecord.{has_bit}
use Rattle.laws.specs.ListLaws.Below.{all_below_at}
use Rattle.game_sets.proofs.Bits.{and_bit, and_none}
use Rattle.game_sets.specs.Words.{bit_at, runner_bit, guard_bit}

pub zero_bit : (j : ℕ) → j < 32 → has_bit 0 j ≡ false
unfolding all_below
zero_bit j h = not-true (has_bit 0 j) (all_below_at 32 (λ d. not (has_bit 0 d)) refl j h)

full-bit : (j : ℕ) → j < 32 → has_bit 4294967295 j ≡ true
unfolding all_below
full-bit j h = all_below_at 32 (λ d. has_bit 4294967295 d) refl j h

-- ---- a row of the runner's: the bits below r are put, the others are not set

pub record RunnerRow (near : List ℕ) (regions goal set g r row : ℕ) : Type 0 where
  pub upto : r ≤ regions
  pub bits : (j : ℕ) → j < 32 → has_bit row j ≡ (ltb j r && runner_bit near goal set g j)

-- ---- a row of the guard's: what is in all sets so far

pub record GuardRow (near : List ℕ) (regions : ℕ) (sets : List ℕ) (g d row : ℕ) : Type 0 where
  pub upto : d ≤ regions
  pub bits : (j : ℕ) → j < 32 → has_bit row j ≡ all_below d (λ e. not (bit_at near g e) || bit_at sets e j)

pub guard-starts : (near : List ℕ) (regions : ℕ) (sets : List ℕ) (g : ℕ) → GuardRow near regions sets g 0 4294967295
unfolding all_below
guard-starts near regions sets g = record { upto = omega arith; bits = λ j l. full-bit j l }

pub guard_more : (near : List ℕ) (regions : ℕ) (sets : List ℕ) (g d row row' : ℕ) (on : Bool) → GuardRow near regions sets g d row → d < regions → on ≡ bit_at near g d
    → ((j : ℕ) → has_bit row' j ≡ (has_bit row j && (not on || bit_at sets d j))) → GuardRow near regions sets g (d + 1) row'
unfolding all_below
guard_more near regions sets g d row row' on R l e h =
    record {
      upto = omega arith;
      bits =
          λ j m.
          h j ∙ (λ i. R.bits j m i && (not (e i) || bit_at sets d j)) ∙ ap (λ n. all_below n (λ e. not (bit_at near g e) || bit_at sets e j)) next;
    }
  where
    next : suc d ≡ d + 1
    next = omega arith

-- what a turn puts, where a step leads there and where none does
pub with-set : (row row' set j : ℕ) (on : Bool) → on ≡ true → row' ≡ bit_and row set → has_bit row' j ≡ (has_bit row j && (not on || has_bit set j))
with-set row row' set j on t e = ap (λ r. has_bit r j) e ∙ and_bit row set j ∙ ap (λ b. has_bit row j && (not b || has_bit set j)) (sym t)

pub without-set : (row row' set j : ℕ) (on : Bool) → on ≡ false → row' ≡ row → has_bit row' j ≡ (has_bit row j && (not on || has_bit set j))
without-set row row' set j on f e = ap (λ r. has_bit r j) e ∙ and_none (has_bit row j) ∙ ap (λ b. has_bit row j && (not b || has_bit set j)) (sym f)

-- the goal is put where the guard is not
pub goal-held : (row g goal j : ℕ) → g ≡ goal → has_bit row j ≡ (has_bit row j || (not (eqb g goal) && eqb j goal))
goal-held row g goal j e = or_none (has_bit row j) ∙ ap (λ b. has_bit row j || (not b && eqb j goal)) (sym (eq-eqb g goal e))
  where
    or_none : (b : Bool) → b ≡ (b || false)
    or_none true = refl
    or_none false = refl

pub goal-free : (row row' g goal j : ℕ) → (g ≡ goal → ⊥) → has_bit row' j ≡ (has_bit row j || eqb j goal) → has_bit row' j ≡ (has_bit row j || (not (eqb g goal) && eqb j goal))
goal-free row row' g goal j f e = e ∙ ap (λ b. has_bit row j || (not b && eqb j goal)) (sym (ne_eqb g goal f))

pub guard-ends : (near : List ℕ) (regions goal : ℕ) (sets : List ℕ) (g d row row' : ℕ) → GuardRow near regions sets g d row → regions ≤ d
    → ((j : ℕ) → j < 32 → has_bit row' j ≡ (has_bit row j || (not (eqb g goal) && eqb j goal))) → (j : ℕ) → j < 32 → has_bit row' j ≡ guard_bit near regions goal sets g j
unfolding guard_bit
guard-ends near regions goal sets g d row row' R h e j l =
    e j l ∙ ap (λ b. b || (not (eqb g goal) && eqb j goal)) (R.bits j l ∙ ap (λ n. all_below n (λ e. not (bit_at near g e) || bit_at sets e j)) whole)
  where
    whole : d ≡ regions
    whole = omega (arith, R.upto)
