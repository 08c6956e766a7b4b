-- `components::flags` meets its contract: a remainder by 2 is 0 or 1. Assumes nothing.
use Prim.Native.Nat.{ℕ, ◌+◌, ◌%◌}
use native.Mathlib.Omega.{arith}
use mathlib.Core.Path.{◌≡◌}
use mathlib.Core.Bool.{false}
use lib.Dec.{eqb}
use borrow.Author.Tests.{eq-eqb, ne_eqb}
use Rattle.interior_proposals.specs.Given.{flags_of}
use Rattle.laws.specs.ListLaws.Flags.{odd-bit}
use Rattle.interior_proposals.proofs.components.flags.Goals as goal

single : (n k : ℕ) → k ≡ 1 → n % 2 + 2 ≡ flags_of (eqb (n % 2) 1) (eqb k 1) false
unfolding flags_of
single n k e = rw (eq-eqb k 1 e) (omega (arith, odd-bit n))

several : (n k : ℕ) → (k ≡ 1 → ⊥) → n % 2 ≡ flags_of (eqb (n % 2) 1) (eqb k 1) false
unfolding flags_of
several n k e = rw (ne_eqb k 1 e) (omega (arith, odd-bit n))

pub returns-then-count-eq1 : goal.returns-then-count-eq1
returns-then-count-eq1 c = single _ _ c.if-count-eq1.true

pub returns-else-count-eq1 : goal.returns-else-count-eq1
returns-else-count-eq1 c = several _ _ c.if-count-eq1.false
