-- A test of each item of a list, as the code's `all` asks it, is the definitions' `all` of what the items stand for. Assumes nothing.
use Prim.Native.Nat.{ℕ, zero, suc, ◌<◌}
use native.Mathlib.Omega.{arith}
use mathlib.Core.Path.{◌≡◌, refl, sym, ap, ap₂, ◌∙◌}
use mathlib.Core.Bool.{Bool, true, false, ◌&&◌, and-false}
use mathlib.Core.List.{List, [], ◌∷◌, map}
use lib.ListN.{length}
use Rattle.std.specs.Prelude.{MatchBool}
use Rattle.std.specs.List.{AllWithin, HoldsAt}
use Rattle.definitions.specs.Scan.{all}
use Rattle.laws.specs.ListLaws.Lists.{All, more}

-- `form x` is what x stands for, of which P is known, and `Answer v x` says that the code answered v at x
module _ {X Y : Type 0} (form : X → Y) (test : Y → Bool) {P : Y → Type 0} (Answer : Bool → X → Type 0) (told : (v : Bool) (x : X) → P (form x) → Answer v x → test (form x) ≡ v) where
  every : (l : List X) → All P (map form l) → AllWithin (Answer true) l 0 (length l) → all test (map form l) ≡ true
  unfolding all
  every [] h a = refl
  every (x ∷ l) (more h t) a = ap₂ ◌&&◌ (told true x h (a 0 x (omega arith) (omega arith))) (every l t (λ k d z m. a (suc k) d (omega arith) (omega arith)))

  some : (l : List X) → All P (map form l) → (k : ℕ) → k < length l → HoldsAt (Answer false) l k → all test (map form l) ≡ false
  unfolding all
  some [] h k m a = absurd (omega arith)
  some (x ∷ l) (more h t) zero m a = ap (λ b. b && all test (map form l)) (told false x h (a x))
  some (x ∷ l) (more h t) (suc k) m a = ap (λ b. test (form x) && b) (some l t k (omega arith) a) ∙ and-false (test (form x))

  pub all-asked : (l : List X) → All P (map form l) → (r : Bool) → MatchBool r (AllWithin (Answer true) l 0 (length l)) ((k : ℕ) × (k < length l) × HoldsAt (Answer false) l k) → r ≡ all test (map form l)
  all-asked l h true a = sym (every l h a)
  all-asked l h false (k, m, a) = sym (some l h k m a)
