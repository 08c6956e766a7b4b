-- Numbers that are their own parents at the front of a list. Assumes nothing.
use Prim.Native.Nat.{ℕ, ◌≤◌, ◌<◌}
use native.Mathlib.Omega.{arith}
use mathlib.Core.Path.{◌≡◌, refl, sym, ◌∙◌, ap}
use mathlib.Core.List.{List, ◌++◌}
use lib.ListN.{length, get_or, drop, length-drop}
use lib.Seq.{drop-append_seam}
use Rattle.std.proofs.Common.{length-append}
use Rattle.std.proofs.Math.ListN.{get_or-append}
use Rattle.parents.specs.Forest.{Left}

pub all-own : (n : ℕ) (was l : List ℕ) → n ≤ length was → n ≤ 1048576 → length l ≡ n → ((d : ℕ) → d < n → get_or l d 0 ≡ d) → Left n (λ c. c) was (l ++ drop n was)
all-own n was l room few long own =
    record {
      forest =
          record {
            few = few;
            long = omega (arith, whole);
            parent = λ d i. let e = at_front d i in record { low = omega (arith, e); same = e; top = λ _. refl };
          };
      beyond = record { long = omega (arith, whole); rest = ap (λ k. drop k (l ++ drop n was)) (sym long) ∙ drop-append_seam l (drop n was) };
    }
  where
    whole : length (l ++ drop n was) ≡ length was
    whole = omega (arith, length-append l (drop n was), length-drop n was, long, room)

    at_front : (d : ℕ) → d < n → get_or (l ++ drop n was) d 0 ≡ d
    at_front d i = get_or-append l (drop n was) 0 d (omega (arith, i, long)) ∙ own d i
