-- Parts of a list that are put. Assumes nothing.
use Prim.Native.Nat.{ℕ, ◌-◌, ◌≤◌}
use native.Mathlib.Omega.{arith}
use mathlib.Core.Path.{◌≡◌, subst}
use mathlib.Core.List.{List}
use lib.ListN.{length, take, drop, length-drop}
use lib.Seq.{take_all, length-take-le}
use Rattle.byte_writer.specs.declared.Writer.{Writer}
use Rattle.byte_writer.specs.Contract.{Appends}

-- a part that goes to the end
pub put_whole : (bytes : List ℕ) (back : ℕ) {old new : Writer} → Appends old (take (length bytes - back) (drop back bytes)) new
    → Appends old (drop back bytes) new
put_whole bytes back {old} {new} P =
    let all = take_all (length bytes - back) (drop back bytes) (omega (arith, length-drop back bytes)) in
    subst (λ l. Appends old l new) all P

-- ---- lengths

pub front_long : (bytes : List ℕ) (front : ℕ) → 1 ≤ front → front ≤ length bytes → length (take (front - 1) (drop 1 bytes)) ≡ front - 1
front_long bytes front h k = length-take-le (front - 1) (drop 1 bytes) (omega (arith, length-drop 1 bytes))

pub back_long : (bytes : List ℕ) (back : ℕ) → length (drop back bytes) ≡ length bytes - back
back_long bytes back = length-drop back bytes
