-- Lists joined as a loop goes: `concat_map` over the numbers from a first one up to one that grows (`concat_more`), and over lists of lists.
-- Assumes nothing.
use Prim.Native.Nat.{ℕ, zero, suc, ◌+◌, ◌-◌, ◌≤◌, ◌<◌}
use native.Mathlib.Omega.{arith}
use Rattle.std.specs.Prelude.{◌≡◌}
use Rattle.std.proofs.Math.Path.{refl, sym, ap}
use Rattle.std.proofs.Common.{ap₂, ◌∙◌}
use mathlib.Core.List.{List, [], ◌∷◌, ◌++◌, append_assoc, append-nil, map}
use Rattle.definitions.specs.Scan.{concat_map, gather, run}
use Rattle.laws.specs.ListLaws.Lists.{run_last}

module _ {A B : Type 0} (f : A → List B) where
  pub concat-append : (l m : List A) → concat_map f (l ++ m) ≡ concat_map f l ++ concat_map f m
  unfolding concat_map
  concat-append [] m = refl
  concat-append (x ∷ l) m = ap (λ r. f x ++ r) (concat-append l m) ∙ sym (append_assoc (f x) (concat_map f l) (concat_map f m))

module _ {A B C : Type 0} (f : B → List C) where
  pub concat_map_lem : (g : A → B) (l : List A) → concat_map f (map g l) ≡ concat_map (λ a. f (g a)) l
  unfolding concat_map
  concat_map_lem g [] = refl
  concat_map_lem g (x ∷ l) = ap (λ r. f (g x) ++ r) (concat_map_lem g l)

  pub concat-concat : (g : A → List B) (l : List A) → concat_map f (concat_map g l) ≡ concat_map (λ a. concat_map f (g a)) l
  unfolding concat_map
  concat-concat g [] = refl
  concat-concat g (x ∷ l) = concat-append f (g x) (concat_map g l) ∙ ap (λ r. concat_map f (g x) ++ r) (concat-concat g l)

-- ---- numbers from a first one on

-- first, .., m - 1
abbrev pub up_to : ℕ → ℕ → List ℕ
up_to first m = run first (m - first)

module _ {B : Type 0} (f : ℕ → List B) (first : ℕ) where
  pub concat_none : concat_map f (up_to first first) ≡ []
  unfolding concat_map run
  concat_none =
      let e : first - first ≡ 0 = omega arith in
      ap (λ k. concat_map f (run first k)) e

  pub concat_more : (m : ℕ) → first ≤ m → concat_map f (up_to first (m + 1)) ≡ concat_map f (up_to first m) ++ f m
  unfolding concat_map
  concat_more m h =
      let e : m + 1 - first ≡ suc (m - first) = omega arith in
      let at : first + (m - first) ≡ m = omega arith in
      ap (λ k. concat_map f (run first k)) e ∙ ap (concat_map f) (run_last first (m - first)) ∙ concat-append f (up_to first m) ((first + (m - first)) ∷ [])
      ∙ ap (λ r. concat_map f (up_to first m) ++ r) (append-nil (f (first + (m - first))) ∙ ap f at)

-- ---- below n

pub gather_ext : {A : Type 0} (n : ℕ) (f g : ℕ → List A) → ((i : ℕ) → i < n → f i ≡ g i) → gather n f ≡ gather n g
unfolding gather
gather_ext zero f g h = refl
gather_ext (suc n) f g h = ap₂ ◌++◌ (gather_ext n f g (λ i l. h i (omega arith))) (h n (omega arith))
