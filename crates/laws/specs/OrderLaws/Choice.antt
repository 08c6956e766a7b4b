-- A pass's choice, sorted and then selected, seen inside: if nothing outside conflicts with anything inside, what is chosen inside is the choice among what
-- lies inside, renamed. Assumes nothing.
use Rattle.std.specs.Prelude.{ℕ, ◌≡◌, Bool, cond, eqb}
use Rattle.std.proofs.Math.Path.{refl, sym, ap, ap₂}
use Rattle.std.proofs.Common.{◌∙◌, subst}
use Rattle.std.proofs.Math.Bool.{true, false, ◌||◌}
use mathlib.Core.List.{List, [], ◌∷◌, map}
use Rattle.definitions.specs.Scan.{any, filter, concat_map, member}
use Rattle.definitions.specs.Sort.{sort, select}
use Rattle.laws.specs.ListLaws.Lists.{All, done, more, all_map, all_both, all_filter}
use Rattle.laws.specs.ListLaws.Members.{filter_passes}
use Rattle.laws.specs.OrderLaws.StableSort.{Weak, filter-sort, map-sort, all-sort}
use Rattle.laws.specs.OrderLaws.Selection.{filter-select, map-select, all-select}
use Rattle.laws.specs.OrderLaws.Ranks.{rank, rank-eqb}
use Rattle.laws.specs.ListLaws.NumberLists.{split, member-ren, member-split, member-append}

-- `On b x` says that x lies inside, or outside, as b is true or false
module _ {A : Type 0} (inside : A → Bool) (On : Bool → A → Type 0) where
  abbrev pub Placed : A → Type 0
  Placed x = On (inside x) x

  pub placed : (b : Bool) (x : A) → inside x ≡ b → On b x → Placed x
  placed b x h k = subst (λ c. On c x) (sym h) k

  placed_in : (b : Bool) (x : A) → inside x ≡ b → Placed x → On b x
  placed_in b x h k = subst (λ c. On c x) h k

  all_inside_lem : {l : List A} → All Placed l → All (On true) (filter inside l)
  all_inside_lem {l} a = all_map (λ x h. placed_in true x h.1 h.0) (all_both (all_filter inside a) (filter_passes inside l))

  module _ (e : A → A) (lt lt' conflict conflict' : A → A → Bool) (weak : Weak lt) (lt_in : (x y : A) → On true x → On true y → lt x y ≡ lt' (e x) (e y)) (conflict_in : (x y : A) → On true x → On true y → conflict x y ≡ conflict' (e x) (e y)) (conflict-apart : (x y : A) → On false x → On true y → conflict x y ≡ false) where
    apart : (x y : A) → Placed x → Placed y → inside y ≡ true → inside x ≡ false → conflict x y ≡ false
    apart x y g k i o = conflict-apart x y (placed_in false x o g) (placed_in true y i k)

    pub choice_in : {l l' : List A} → All Placed l → map e (filter inside l) ≡ l' → map e (filter inside (select conflict [] (sort lt l))) ≡ select conflict' [] (sort lt' l')
    unfolding filter
    choice_in {l} a q =
        ap (map e) (filter-select conflict inside Placed apart done (all-sort Placed lt a))
        ∙ map-select e (On true) conflict conflict' conflict_in done (all_inside_lem (all-sort Placed lt a))
        ∙ ap (select conflict' []) (ap (map e) (filter-sort lt weak inside l) ∙ map-sort e (On true) lt lt' lt_in (all_inside_lem a) ∙ ap (sort lt') q)

    pub choice-placed : {l : List A} → All Placed l → All Placed (select conflict [] (sort lt l))
    choice-placed a = all-select conflict inside Placed apart done (all-sort Placed lt a)

-- ---- the numbers that the chosen name, one each or a list each

module _ {A : Type 0} (inside : ℕ → Bool) (e : A → A) where
  module _ (f : A → ℕ) (moved : (x : A) → f (e x) ≡ rank inside (f x)) where
    pub named_in : (i : ℕ) (l : List A) → inside i ≡ true → member i (map f l) ≡ member (rank inside i) (map f (map e (filter (λ x. inside (f x)) l)))
    unfolding member any filter
    named_in i [] h = refl
    named_in i (x ∷ l) h = go (inside (f x)) refl (named_in i l h)
      where
        go : (c : Bool) → inside (f x) ≡ c → any (eqb i) (map f l) ≡ any (eqb (rank inside i)) (map f (map e (filter (λ x. inside (f x)) l))) → (eqb i (f x) || any (eqb i) (map f l)) ≡ any (eqb (rank inside i)) (map f (map e (cond c (x ∷ filter (λ x. inside (f x)) l) (filter (λ x. inside (f x)) l))))
        go true q ih = ap₂ ◌||◌ (rank-eqb inside i (f x) h q ∙ ap (eqb (rank inside i)) (sym (moved x))) ih
        go false q ih = rw (split inside true i (f x) h q) ih

  module _ (p : A → Bool) (f : A → List ℕ) (moved : (x : A) → f (e x) ≡ map (rank inside) (f x)) where
    pub listed_in : (i : ℕ) {l : List A} → inside i ≡ true → All (λ x. All (λ j. inside j ≡ p x) (f x)) l → member i (concat_map f l) ≡ member (rank inside i) (concat_map f (map e (filter p l)))
    unfolding concat_map filter member any
    listed_in i h done = refl
    listed_in i h (more {x = x} {l = l} g a) = member-append i (f x) (concat_map f l) ∙ go (p x) g (listed_in i h a)
      where
        go : (c : Bool) → All (λ j. inside j ≡ c) (f x) → member i (concat_map f l) ≡ member (rank inside i) (concat_map f (map e (filter p l))) → (member i (f x) || member i (concat_map f l)) ≡ member (rank inside i) (concat_map f (map e (cond c (x ∷ filter p l) (filter p l))))
        go true g ih =
            ap₂ ◌||◌ (member-ren (rank inside) (λ j. inside j ≡ true) (rank-eqb inside) i h g ∙ ap (member (rank inside i)) (sym (moved x))) ih
            ∙ sym (member-append (rank inside i) (f (e x)) (concat_map f (map e (filter p l))))
        go false g ih = rw (member-split inside true i h g) ih
