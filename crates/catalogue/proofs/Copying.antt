-- Four numbers copied over four of a list (`put_four`), as records and entries are. Assumes nothing.
use Prim.Native.Nat.{ℕ, ◌+◌, ◌-◌, ◌≤◌}
use native.Mathlib.Omega.{arith}
use mathlib.Core.Path.{◌≡◌, sym, ap, ap₂, ◌∙◌}
use mathlib.Core.List.{List, [], ◌∷◌, ◌++◌, append_assoc}
use lib.ListN.{length, take, drop}
use lib.Seq.{sets, sets-eq, drop-drop}
use borrow.Rule.Slice.PartMut.{put_mid}

pub put_four : (old : List ℕ) (k v w x y : ℕ) {part : List ℕ} → k + 4 ≤ length old → part ≡ v ∷ w ∷ x ∷ y ∷ []
    → put_mid k (k + 4 - k) old part ≡ sets old k (v ∷ w ∷ x ∷ y ∷ [])
put_four old k v w x y h e =
    let four : List ℕ = v ∷ w ∷ x ∷ y ∷ [] in
    let behind : drop (k + 4 - k) (drop k old) ≡ drop (k + 4) old = drop-drop _ k old ∙ ap (λ n. drop n old) (omega arith) in
    ap₂ (λ l r. take k old ++ (l ++ r)) e behind ∙ sym (sets-eq four old k h ∙ append_assoc (take k old) four (drop (k + 4) old))
