-- Numbers in the place of as many, where a part of a list was lent and filled. Assumes nothing.
use Prim.Native.Nat.{ℕ, ◌+◌, ◌-◌, ◌≤◌}
use native.Mathlib.Omega.{arith}
use mathlib.Core.Path.{◌≡◌, sym, ap, ap₂, ◌∙◌}
use mathlib.Core.List.{List, ◌++◌, append_assoc}
use lib.ListN.{length, take, drop}
use lib.Seq.{sets, sets-eq, drop-drop}
use borrow.Rule.Slice.PartMut.{put_mid}
use Rattle.std.proofs.lemmas.List.{length-take, length-drop}

pub put_part : (old numbers : List ℕ) (at k : ℕ) {part : List ℕ} → k ≡ length numbers → at + k ≤ length old → part ≡ numbers → put_mid at k old part ≡ sets old at numbers
put_part old numbers at k f h e =
    let behind : drop k (drop at old) ≡ drop (at + length numbers) old = drop-drop k at old ∙ ap (λ n. drop n old) (omega (arith, f)) in
    ap₂ (λ l r. take at old ++ (l ++ r)) e behind ∙ sym (sets-eq numbers old at (omega (arith, f, h)) ∙ append_assoc (take at old) numbers (drop (at + length numbers) old))

-- how long a part is
pub part_long : (l : List ℕ) (i n : ℕ) → i ≤ n → n ≤ length l → length (take (n - i) (drop i l)) ≡ n - i
part_long l i n h k = length-take (n - i) (drop i l) ∙ omega (arith, length-drop i l, h, k)
