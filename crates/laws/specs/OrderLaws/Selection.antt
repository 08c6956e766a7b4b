-- The greedy selection, seen through a filter and through a renaming: if nothing outside conflicts with anything inside, what is selected inside is the selection
-- of what lies inside. Assumes nothing.
use Rattle.std.specs.Prelude.{◌≡◌, Bool}
use Rattle.std.proofs.Math.Path.{refl, ap, ap₂}
use Rattle.std.proofs.Common.{sym, ◌∙◌}
use Rattle.std.proofs.Math.Bool.{true, false, ◌||◌, cond}
use mathlib.Core.List.{List, [], ◌∷◌, ◌++◌, map, append-nil}
use Rattle.definitions.specs.Scan.{any, filter}
use Rattle.definitions.specs.Sort.{select}
use Rattle.laws.specs.ListLaws.Lists.{All, done, more, all_append, filter-append, map-append}

grown : {A : Type 0} {P : A → Type 0} (r : A) {acc : List A} → P r → All P acc → (c : Bool) → All P (cond c acc (acc ++ (r ∷ [])))
grown r g a true = a
grown r g a false = all_append a (more g done)

module _ {A : Type 0} (conflict : A → A → Bool) (p : A → Bool) (P : A → Type 0) (apart : (q r : A) → P q → P r → p r ≡ true → p q ≡ false → conflict q r ≡ false) where
  any-filter : (r : A) {l : List A} → P r → p r ≡ true → All P l → any (λ q. conflict q r) l ≡ any (λ q. conflict q r) (filter p l)
  unfolding any filter
  any-filter r g h done = refl
  any-filter r g h (more {x = q} {l = l} k a) = go (p q) refl (any-filter r g h a)
    where
      go : (b : Bool) → p q ≡ b → any (λ q. conflict q r) l ≡ any (λ q. conflict q r) (filter p l) → (conflict q r || any (λ q. conflict q r) l) ≡ any (λ q. conflict q r) (cond b (q ∷ filter p l) (filter p l))
      go true e ih = ap (λ b. conflict q r || b) ih
      go false e ih = rw (apart q r k g h e) ih

  -- what a filter leaves of the chosen is what is chosen of what it leaves, if nothing outside conflicts with anything inside
  pub filter-select : {acc l : List A} → All P acc → All P l → filter p (select conflict acc l) ≡ select conflict (filter p acc) (filter p l)
  unfolding select filter any
  filter-select a done = refl
  filter-select {acc} a (more {x = r} {l = l} g m) =
      filter-select {acc = cond (any (λ q. conflict q r) acc) acc (acc ++ (r ∷ []))} (grown r g a (any (λ q. conflict q r) acc)) m ∙ go (p r) refl (any (λ q. conflict q r) acc) refl
    where
      grow : (b : Bool) → p r ≡ b → filter p (acc ++ (r ∷ [])) ≡ filter p acc ++ cond b (r ∷ []) []
      grow b e = rw (← e) (filter-append p acc (r ∷ []))

      inside : p r ≡ true → (c : Bool) → any (λ q. conflict q r) acc ≡ c → select conflict (cond c (filter p acc) (filter p acc ++ (r ∷ []))) (filter p l) ≡ select conflict (filter p acc) (r ∷ filter p l)
      inside e c h = ap (λ c. select conflict (cond c (filter p acc) (filter p acc ++ (r ∷ []))) (filter p l)) (sym h ∙ any-filter r g e a)

      go : (b : Bool) → p r ≡ b → (c : Bool) → any (λ q. conflict q r) acc ≡ c → select conflict (filter p (cond c acc (acc ++ (r ∷ [])))) (filter p l) ≡ select conflict (filter p acc) (cond b (r ∷ filter p l) (filter p l))
      go true e true h = inside e true h
      go true e false h = ap (λ m. select conflict m (filter p l)) (grow true e) ∙ inside e false h
      go false e true h = refl
      go false e false h = rw (grow false e, append-nil) refl

  pub all-select : {acc l : List A} → All P acc → All P l → All P (select conflict acc l)
  unfolding select any
  all-select a done = a
  all-select {acc} a (more {x = r} g m) = all-select {acc = cond (any (λ q. conflict q r) acc) acc (acc ++ (r ∷ []))} (grown r g a (any (λ q. conflict q r) acc)) m

-- ---- a renaming

module _ {A B : Type 0} (e : A → B) (P : A → Type 0) where
  module _ (conflict : A → A → Bool) (conflict' : B → B → Bool) (same : (x y : A) → P x → P y → conflict x y ≡ conflict' (e x) (e y)) where
    map-any : {r : A} {l : List A} → P r → All P l → any (λ q. conflict q r) l ≡ any (λ q. conflict' q (e r)) (map e l)
    unfolding any
    map-any g done = refl
    map-any {r} g (more {x = q} k a) = ap₂ ◌||◌ (same q r k g) (map-any g a)

    pub map-select : {acc l : List A} → All P acc → All P l → map e (select conflict acc l) ≡ select conflict' (map e acc) (map e l)
    unfolding select any
    map-select a done = refl
    map-select {acc} a (more {x = r} {l = l} g m) =
        map-select {acc = cond (any (λ q. conflict q r) acc) acc (acc ++ (r ∷ []))} (grown r g a (any (λ q. conflict q r) acc)) m
        ∙ ap (λ c. select conflict' c (map e l)) (go (any (λ q. conflict q r) acc) ∙ ap (λ c. cond c (map e acc) (map e acc ++ (e r ∷ []))) (map-any g a))
      where
        go : (c : Bool) → map e (cond c acc (acc ++ (r ∷ []))) ≡ cond c (map e acc) (map e acc ++ (e r ∷ []))
        go true = refl
        go false = map-append e acc (r ∷ [])
