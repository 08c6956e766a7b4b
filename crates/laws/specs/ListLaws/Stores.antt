-- Stores of four numbers one behind the other, and of a part of a list at once. Assumes nothing.
use Rattle.std.specs.Prelude.{ℕ, suc, ◌+◌, ◌-◌, ◌≤◌, ◌≡◌, List, [], ◌∷◌, ◌++◌, length, take, drop, set}
use Rattle.std.proofs.Common.{arith, sym, ap, ◌∙◌, append_assoc, drop-drop}
use Rattle.std.proofs.lemmas.List.Edits.{sets, sets-eq}
use borrow.Rule.Slice.PartMut.{put_mid}

pub four-stored : (l : List ℕ) (k v w x y : ℕ) → set (set (set (set l k v) (k + 1) w) (k + 2) x) (k + 3) y ≡ sets l k (v ∷ w ∷ x ∷ y ∷ [])
four-stored l k v w x y =
    let one : k + 1 ≡ suc k = omega arith in
    let two : k + 2 ≡ suc (suc k) = omega arith in
    let three : k + 3 ≡ suc (suc (suc k)) = omega arith in
    (λ i. set (set (set (set l k v) (one i) w) (two i) x) (three i) y)

-- as many numbers as the part from `at` to `end` has
pub part_stored : (l vs : List ℕ) (at end : ℕ) → at + length vs ≡ end → end ≤ length l → put_mid at (end - at) l vs ≡ sets l at vs
part_stored l vs at end e h =
    let behind : drop (end - at) (drop at l) ≡ drop (at + length vs) l = drop-drop (end - at) at l ∙ ap (λ k. drop k l) (omega (arith, e)) in
    ap (λ r. take at l ++ (vs ++ r)) behind ∙ sym (append_assoc (take at l) vs (drop (at + length vs) l)) ∙ sym (sets-eq vs l at (omega (arith, e, h)))
