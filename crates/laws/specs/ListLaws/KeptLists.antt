-- What a `retain` after a loop keeps of the list that the loop filled can be asked of each element as it is put there; and what scans collect. Assumes nothing.
use Prim.Native.Nat.{ℕ, zero, suc, ◌<◌}
use Rattle.std.proofs.Common.{arith, sym, ap₂, ◌∙◌}
use Rattle.std.specs.Prelude.{◌≡◌, Bool, option_map, Option, None, Some}
use Rattle.std.proofs.Math.Path.{refl, ap}
use Rattle.std.proofs.Math.Bool.{true, false, cond}
use mathlib.Core.List.{List, [], ◌∷◌, ◌++◌, map, append-nil, append_assoc}
use Rattle.definitions.specs.Scan.{filter, collect, gather, to_list, only_if}
use Rattle.laws.specs.ListLaws.Lists.{filter-append, map-append}

abbrev pub keep_if : {A : Type 0} → (A → Bool) → Option A → Option A
keep_if f None = None
keep_if f (Some x) = only_if (f x) x

-- of one, and of the list of none
module _ {A B : Type 0} (e : A → B) where
  pub collect_none : (n : ℕ) (G : ℕ → Option A) → ((i : ℕ) → G i ≡ None) → [] ≡ map e (collect n G)
  unfolding collect
  collect_none zero G h = refl
  collect_none (suc n) G h = rw (h n, append-nil (collect n G)) (collect_none n G h)

-- a list from which a filter leaves what e makes of another
module _ {A B : Type 0} (f : B → Bool) (e : A → B) where
  pub filter-kept : (o : Option B) (p : Option A) → keep_if f o ≡ option_map e p → filter f (to_list o) ≡ map e (to_list p)
  unfolding filter
  filter-kept o p h = one o ∙ ap to_list h ∙ two p
    where
      one : (o : Option B) → filter f (to_list o) ≡ to_list (keep_if f o)
      one None = refl
      one (Some x) = go (f x)
        where
          go : (b : Bool) → cond b (x ∷ []) [] ≡ to_list (only_if b x)
          go true = refl
          go false = refl

      two : (o : Option A) → to_list (option_map e o) ≡ map e (to_list o)
      two None = refl
      two (Some x) = refl

  pub filter-joined : (l m : List B) (l' m' : List A) → filter f l ≡ map e l' → filter f m ≡ map e m' → filter f (l ++ m) ≡ map e (l' ++ m')
  filter-joined l m l' m' h k = filter-append f l m ∙ ap₂ ◌++◌ h k ∙ sym (map-append e l' m')

  pub filter-collect : (n : ℕ) (F : ℕ → Option B) (G : ℕ → Option A) → ((i : ℕ) → i < n → keep_if f (F i) ≡ option_map e (G i)) → filter f (collect n F) ≡ map e (collect n G)
  unfolding collect filter
  filter-collect zero F G h = refl
  filter-collect (suc n) F G h = filter-joined (collect n F) (to_list (F n)) (collect n G) (to_list (G n)) (filter-collect n F G (λ i l. h i (omega arith))) (filter-kept (F n) (G n) (h n (omega arith)))

  pub filter-gather : (n : ℕ) (F : ℕ → List B) (G : ℕ → List A) → ((i : ℕ) → i < n → filter f (F i) ≡ map e (G i)) → filter f (gather n F) ≡ map e (gather n G)
  unfolding gather filter
  filter-gather zero F G h = refl
  filter-gather (suc n) F G h = filter-joined (gather n F) (F n) (gather n G) (G n) (filter-gather n F G (λ i l. h i (omega arith))) (h n (omega arith))

-- from the second number on
pub collect-shift : {A : Type 0} (n : ℕ) (g : ℕ → Option A) → collect (suc n) g ≡ to_list (g 0) ++ collect n (λ k. g (suc k))
unfolding collect
collect-shift zero g = sym (append-nil (to_list (g 0)))
collect-shift (suc n) g = ap (λ l. l ++ to_list (g (suc n))) (collect-shift n g) ∙ append_assoc (to_list (g 0)) (collect n (λ k. g (suc k))) (to_list (g (suc n)))
