-- Lists filled in ascending order: below k stands what f says, from k on what stood there. Assumes nothing.
use Prim.Native.Nat.{ℕ, ◌+◌, ◌≤◌, ◌<◌}
use native.Mathlib.Omega.{arith}
use mathlib.Core.Path.{◌≡◌, refl, sym, ap, subst, ◌∙◌}
use mathlib.Core.Logic.{⊎_elim}
use mathlib.Core.List.{List}
use lib.ListN.{length, get_or, set}
use lib.Seq.{get_or-set_same, get_or-set_other}
use lib.Arith.{lt_of_le-ne}
use Rattle.laws.specs.NumberLaws.Comparisons.{same_or}

pub record Stored (f : ℕ → ℕ) (was l : List ℕ) (k : ℕ) : Type 0 where
  pub done : (j : ℕ) → j < k → get_or l j 0 ≡ f j
  pub rest : (j : ℕ) → k ≤ j → get_or l j 0 ≡ get_or was j 0

pub stored-start : (f : ℕ → ℕ) (was : List ℕ) → Stored f was was 0
stored-start f was = record { done = λ j h. absurd (omega arith); rest = λ j h. refl }

pub stored_more : {f : ℕ → ℕ} {was l : List ℕ} {k v : ℕ} → Stored f was l k → k < length l → v ≡ f k → Stored f was (set l k v) (k + 1)
stored_more {f} {was} {l} {k} {v} s h e =
    record {
      done = λ j m. ⊎_elim
          (λ q. ap (λ i. get_or (set l k v) i 0) q ∙ get_or-set_same l k v 0 h ∙ e ∙ sym (ap f q))
          (λ n. get_or-set_other l k j v 0 n ∙ s.done j (lt_of_le-ne (omega arith) n)) (same_or j k);
      rest = λ j m. get_or-set_other l k j v 0 (λ q. omega arith) ∙ s.rest j (omega arith);
    }

-- ---- what holds of each entry below k

module _ {A : Type 0} (P : ℕ → A → Type 0) (d : A) where
  abbrev pub Filled : List A → ℕ → Type 0
  Filled l k = (j : ℕ) → j < k → P j (get_or l j d)

  pub filled_more : (l : List A) {k : ℕ} {v : A} → Filled l k → k < length l → P k v → Filled (set l k v) (k + 1)
  filled_more l {k} {v} f h p j m =
      ⊎_elim
      (λ q. subst (λ i. P i (get_or (set l k v) i d)) (sym q) (subst (P k) (sym (get_or-set_same l k v d h)) p))
      (λ n. subst (P j) (sym (get_or-set_other l k j v d n)) (f j (lt_of_le-ne (omega arith) n))) (same_or j k)
