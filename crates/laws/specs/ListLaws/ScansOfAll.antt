-- Scans that ask a test of all numbers below n, and what holds of all that a scan collects. Assumes nothing.
use Prim.Native.Nat.{ℕ, zero, suc, ◌<◌}
use Rattle.std.proofs.Common.{arith, sym, ◌∙◌}
use Rattle.std.specs.Prelude.{◌≡◌, Bool, List, [], ◌∷◌, ◌++◌, Option}
use Rattle.std.proofs.Math.Path.{refl, ap, ap₂}
use Rattle.std.proofs.Math.Bool.{true, false, ◌&&◌, and_assoc}
use Rattle.definitions.specs.Scan.{all, all_below, collect, to_list}
use Rattle.laws.specs.ListLaws.Lists.{All, done, all_append}

module _ (f g : ℕ → Bool) where
  pub all_ext : (n : ℕ) → ((j : ℕ) → j < n → f j ≡ g j) → all_below n f ≡ all_below n g
  unfolding all_below
  all_ext zero h = refl
  all_ext (suc n) h = ap₂ ◌&&◌ (all_ext n (λ j l. h j (omega arith))) (h n (omega arith))

  pub all_and : (n : ℕ) → (all_below n f && all_below n g) ≡ all_below n (λ j. f j && g j)
  unfolding all_below
  all_and zero = refl
  all_and (suc n) = order (all_below n f) (f n) (all_below n g) (g n) ∙ ap (λ b. b && (f n && g n)) (all_and n)
    where
      order : (a b c d : Bool) → (a && b && (c && d)) ≡ (a && c && (b && d))
      order true true c d = refl
      order true false true d = refl
      order true false false d = refl
      order false b c d = refl

pub all_append-test : {A : Type 0} (g : A → Bool) (l m : List A) → all g (l ++ m) ≡ (all g l && all g m)
unfolding all
all_append-test g [] m = refl
all_append-test g (x ∷ l) m = ap (λ b. g x && b) (all_append-test g l m) ∙ sym (and_assoc (g x) (all g l) (all g m))

-- what f gives below n
pub collect-below : {A : Type 0} (P : A → Type 0) (f : ℕ → Option A) (n : ℕ) → ((i : ℕ) → i < n → All P (to_list (f i))) → All P (collect n f)
unfolding collect
collect-below P f zero h = done
collect-below P f (suc n) h = all_append (collect-below P f n (λ i l. h i (omega arith))) (h n (omega arith))
