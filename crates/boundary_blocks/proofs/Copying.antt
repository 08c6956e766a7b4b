-- A part of a list stored at a place of another, or of its own (`put_part`, `part_within`). Assumes nothing.
use Prim.Native.Nat.{ℕ, ◌+◌, ◌-◌, ◌≤◌}
use native.Mathlib.Omega.{arith}
use mathlib.Core.Path.{◌≡◌, sym, ap, ap₂, ◌∙◌}
use mathlib.Core.List.{List, ◌++◌, append_assoc}
use lib.ListN.{length, take, drop, length-drop}
use lib.Seq.{sets, sets-eq, paste, length-take-le, drop-drop}
use borrow.Rule.Slice.PartMut.{put_mid}
use Rattle.boundary_blocks.specs.Blocks.{part}

pub part_length : (at size : ℕ) (l : List ℕ) → at + size ≤ length l → length (part at size l) ≡ size
part_length at size l h = length-take-le size (drop at l) (omega (arith, length-drop at l))

-- a range of a list has as many numbers as it says
abbrev range : ℕ → ℕ → List ℕ → List ℕ
range at size l = take (at + size - at) (drop at l)

range_is : (at size : ℕ) (l : List ℕ) → range at size l ≡ part at size l
range_is at size l = ap (λ n. take n (drop at l)) (omega arith)

module _ (to : List ℕ) (place at size : ℕ) (l : List ℕ) (inside : at + size ≤ length l) (room : place + size ≤ length to) where
  stored : take place to ++ part at size l ++ drop (place + size) to ≡ sets to place (part at size l)
  stored =
      let long = part_length at size l inside in
      ap (λ n. take place to ++ part at size l ++ drop (place + n) to) (sym long) ∙ sym (sets-eq (part at size l) to place (omega (arith, long)))

  pub put_part : {vs : List ℕ} → vs ≡ range at size l → put_mid place (place + size - place) to vs ≡ sets to place (part at size l)
  put_part e =
      let behind : drop (place + size - place) (drop place to) ≡ drop (place + size) to = drop-drop _ place to ∙ ap (λ n. drop n to) (omega arith) in
      ap₂ (λ vs r. take place to ++ (vs ++ r)) (e ∙ range_is at size l) behind
      ∙ sym (append_assoc (take place to) (part at size l) (drop (place + size) to)) ∙ stored

  pub part_within : paste to place (drop at l) (at + size - at) ≡ sets to place (part at size l)
  part_within =
      let long : at + size - at ≡ size = omega arith in
      ap (paste to place (drop at l)) long ∙ stored
