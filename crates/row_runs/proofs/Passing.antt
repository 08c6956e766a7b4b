-- The first place of which a test does not hold: what `find` gives over the places, and a loop over several at a time, where at place c the test holds of all places
-- passed. Assumes nothing.
use Prim.Native.Nat.{ℕ, zero, suc, ◌+◌, ◌*◌, ◌≤◌, ◌<◌}
use native.Mathlib.Omega.{arith}
use mathlib.Core.Path.{◌≡◌, refl, subst}
use mathlib.Core.Bool.{Bool, true, false}
use lib.Dec.{ltb}
use borrow.Author.Tests.{ltb-true, ltb-false}
use Rattle.std.specs.Prelude.{Option, None, Some, MatchOption, unwrap_or}
use Rattle.row_runs.specs.Stretch.{Until}

-- what `find` gives, where it looks for what the test does not hold of, and the end where it finds none
pub until_found : {f : ℕ → Bool} {from end : ℕ} → from ≤ end → (o : Option ℕ) → MatchOption o ((k : ℕ) → from ≤ k → k < end → f k ≡ true) (λ i. (from ≤ i) × (i < end) × (f i ≡ false) × ((k : ℕ) → from ≤ k → k < i → f k ≡ true)) → Until f from end (unwrap_or o end)
until_found h None all = record { low = h; ends = omega arith; all = all; stop = λ l. absurd (omega arith) }
until_found h (Some i) (low, l, e, all) = record { low = low; ends = omega arith; all = all; stop = λ _. e }

pub record Passing (f : ℕ → Bool) (from end c : ℕ) : Type 0 where
  pub low : from ≤ c
  pub ends : c ≤ end
  pub all : (d : ℕ) → from ≤ d → d < c → f d ≡ true

pub passing-starts : (f : ℕ → Bool) (from end : ℕ) → from ≤ end → Passing f from end from
passing-starts f from end h = record { low = omega arith; ends = h; all = λ d i k. absurd (omega arith) }

-- what is passed up to c, and behind it up to r
pub passing_on : {f : ℕ → Bool} {from end c mid r : ℕ} → Passing f from end c → mid ≤ end → Until f c mid r → Passing f from end r
passing_on {f} {from} {end} {c} {mid} {r} P h U = record { low = omega (arith, P.low, U.low); ends = omega (arith, U.ends); all = λ d i k. go d i k (ltb d c) refl }
  where
    go : (d : ℕ) → from ≤ d → d < r → (b : Bool) → ltb d c ≡ b → f d ≡ true
    go d i k true e = P.all d i (ltb-true d c e)
    go d i k false e = U.all d (ltb-false d c e) k

pub passing-stops_on : {f : ℕ → Bool} {from end c mid r : ℕ} → Passing f from end c → mid ≤ end → Until f c mid r → r < mid → Until f from end r
passing-stops_on P h U l =
    let Q = passing_on P h U in record { low = Q.low; ends = Q.ends; all = Q.all; stop = λ _. U.stop l }

pub passing-ends_on : {f : ℕ → Bool} {from end c r : ℕ} → Passing f from end c → Until f c end r → Until f from end r
passing-ends_on P U = let Q = passing_on P (omega arith) U in record { low = Q.low; ends = Q.ends; all = Q.all; stop = U.stop }

-- eight at a time, n times
pub passing_eights : {f : ℕ → Bool} {from end : ℕ} (n : ℕ) → from + 8 * n ≤ end → ((k : ℕ) → k < n → Until f (from + 8 * k) (from + 8 * k + 8) (from + 8 * k + 8)) → Passing f from end (from + 8 * n)
passing_eights {f} {from} {end} zero h each = subst (Passing f from end) (omega arith) (passing-starts f from end (omega arith))
passing_eights {f} {from} {end} (suc n) h each =
    subst (Passing f from end) (omega arith) (passing_on (passing_eights n (omega arith) (λ k l. each k (omega arith))) (omega arith) (each n (omega arith)))
