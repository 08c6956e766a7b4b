-- The loop that writes a number: the shortest form of what is left is still to be written (`Shortening`). Assumes nothing.
use Prim.Native.Nat.{ℕ, zero, suc, ◌+◌, ◌*◌, ◌/◌, ◌%◌, ◌^◌, ◌<◌, ◌≤◌}
use native.Mathlib.Omega.{arith}
use native.Mathlib.Nat.{pow-suc}
use mathlib.Core.Path.{◌≡◌, refl, ap, ◌∙◌}
use mathlib.Core.List.{[], ◌∷◌}
use lib.ListN.{length}
use Rattle.results.specs.Shortest.{shortest_within, shortest}
use Rattle.results.specs.ShortestSteps.{one_group, more_groups}
use Rattle.byte_writer.specs.declared.Writer.{Writer}
use Rattle.byte_writer.specs.Contract.{HasRoom, Appends}
use Rattle.byte_writer.specs.Chains.{Writing, writing_starts, writing_room, writing_goes_on, writing_ends}

pub record Shortening (old : Writer) (n : ℕ) (now : Writer) (left : ℕ) : Type 0 where
  pub fuel : ℕ
  pub below : left < 128 ^ suc fuel
  pub writing : Writing old (shortest n) (shortest_within (suc fuel) left) now

pub shortening_starts : {old : Writer} {n : ℕ} → n < 2 ^ 64 → HasRoom old (length (shortest n)) → Shortening old n old n
unfolding shortest
shortening_starts h room = record { fuel = 9; below = omega arith; writing = writing_starts room }

module _ {old now : Writer} {n left : ℕ} (S : Shortening old n now left) where
  record More : Type 0 where
    less : ℕ
    fuel_is : S.fuel ≡ suc less
    below : left / 128 < 128 ^ suc less
    groups : shortest_within (suc S.fuel) left ≡ (128 + left % 128) ∷ shortest_within (suc less) (left / 128)

  more : 128 ≤ left → More
  more h = go S.fuel refl S.below
    where
      go : (m : ℕ) → S.fuel ≡ m → left < 128 ^ suc m → More
      go zero e b = absurd (omega arith)
      go (suc m) e b =
          let power : 128 ^ suc (suc m) ≡ 128 ^ suc m * 128 = pow-suc 128 (suc m) in
          record { less = m; fuel_is = e; below = omega arith; groups = ap (λ k. shortest_within (suc k) left) e ∙ more_groups (suc m) left h }

  pub room_more : 128 ≤ left → HasRoom now 1
  room_more h =
      let m = more h in
      writing_room ((128 + left % 128) ∷ []) (shortest_within (suc m.less) (left / 128)) m.groups S.writing

  pub shortening_goes_on : 128 ≤ left → {now' : Writer} → Appends now ((128 + left % 128) ∷ []) now' → Shortening old n now' (left / 128)
  shortening_goes_on h W =
      let m = more h in
      record { fuel = m.less; below = m.below; writing = writing_goes_on ((128 + left % 128) ∷ []) (shortest_within (suc m.less) (left / 128)) m.groups S.writing W }

  pub room_last : left < 128 → HasRoom now 1
  room_last h = writing_room (left ∷ []) [] (one_group S.fuel left h) S.writing

  pub shortening_ends : left < 128 → {now' : Writer} → Appends now (left ∷ []) now' → Appends old (shortest n) now'
  shortening_ends h W = writing_ends refl (writing_goes_on (left ∷ []) [] (one_group S.fuel left h) S.writing W)
