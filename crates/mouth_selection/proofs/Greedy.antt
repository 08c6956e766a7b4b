-- The greedy selection by rounds: each takes the first least of what conflicts with none taken, until nothing is left. It is the selection over the sorted list: what
-- conflicts with a taken element does so for good, and the least of what is left is the next of the sorted list that is taken. Assumes nothing.
use mathlib.Core.Path.{◌≡◌, refl, sym, ap, ◌∙◌}
use mathlib.Core.Bool.{Bool, true, false, not, ◌||◌, cond, or-true, true≢false, false≢true}
use Rattle.std.specs.Prelude.{Option, None, Some}
use mathlib.Core.List.{List, [], ◌∷◌, ◌++◌}
use Rattle.definitions.specs.Scan.{any, filter}
use Rattle.definitions.specs.Sort.{insert, sort_onto, sort, select}
use Rattle.laws.specs.ListLaws.Lists.{any_append}
use Rattle.laws.specs.OrderLaws.StableSort.{Weak, filter-sort}
use Rattle.mouth_selection.specs.Rounds.{better, least_from}

module _ {A : Type 0} where
  abbrev pub head_of : List A → Option A
  head_of [] = None
  head_of (x ∷ l) = Some x

  module _ (lt : A → A → Bool) where
    head-insert : (x : A) (l : List A) → head_of (insert lt x l) ≡ better lt (head_of l) x
    unfolding insert
    head-insert x [] = refl
    head-insert x (y ∷ l) = go (lt x y)
      where
        go : (b : Bool) → head_of (cond b (x ∷ y ∷ l) (y ∷ insert lt x l)) ≡ Some (cond b x y)
        go true = refl
        go false = refl

    head-sort_onto : (acc l : List A) → head_of (sort_onto lt acc l) ≡ least_from lt (head_of acc) l
    unfolding sort_onto least_from
    head-sort_onto acc [] = refl
    head-sort_onto acc (x ∷ l) = head-sort_onto (insert lt x acc) l ∙ ap (λ b. least_from lt b l) (head-insert x acc)

    pub head-sort : (l : List A) → head_of (sort lt l) ≡ least_from lt None l
    unfolding sort
    head-sort l = head-sort_onto [] l

    pub least_last : (b : Option A) (l : List A) (x : A) → least_from lt b (l ++ (x ∷ [])) ≡ better lt (least_from lt b l) x
    unfolding least_from
    least_last b [] x = refl
    least_last b (y ∷ l) x = least_last (better lt b y) l x

  module _ (conflict : A → A → Bool) where
    -- p conflicts with none of those taken
    abbrev pub is_left : List A → A → Bool
    is_left taken p = not (any (λ q. conflict q p) taken)

    module _ (g : A → Bool) where
      -- what g leaves out conflicts with one taken, now and later
      dropped : (taken l : List A) → ((x : A) → g x ≡ false → any (λ q. conflict q x) taken ≡ true) → select conflict taken l ≡ select conflict taken (filter g l)
      unfolding select filter
      dropped taken [] h = refl
      dropped taken (p ∷ l) h = go (any (λ q. conflict q p) taken) refl (g p) refl (λ t k. dropped t l k)
        where
          later : (x : A) → g x ≡ false → any (λ q. conflict q x) (taken ++ (p ∷ [])) ≡ true
          later x e = any_append (λ q. conflict q x) taken (p ∷ []) ∙ ap (λ b. b || any (λ q. conflict q x) (p ∷ [])) (h x e)

          go : (b : Bool) → any (λ q. conflict q p) taken ≡ b → (c : Bool) → g p ≡ c → ((t : List A) → ((x : A) → g x ≡ false → any (λ q. conflict q x) t ≡ true) → select conflict t l ≡ select conflict t (filter g l))
              → select conflict (cond b taken (taken ++ (p ∷ []))) l ≡ select conflict taken (cond c (p ∷ filter g l) (filter g l))
          go true e true f ih = ih taken h ∙ sym (ap (λ b. select conflict (cond b taken (taken ++ (p ∷ []))) (filter g l)) e)
          go true e false f ih = ih taken h
          go false e true f ih = ih (taken ++ (p ∷ [])) later ∙ sym (ap (λ b. select conflict (cond b taken (taken ++ (p ∷ []))) (filter g l)) e)
          go false e false f ih = absurd (true≢false (sym (h p f) ∙ e))

    left_out : (taken : List A) (x : A) → is_left taken x ≡ false → any (λ q. conflict q x) taken ≡ true
    left_out taken x e = go (any (λ q. conflict q x) taken) e
      where
        go : (b : Bool) → not b ≡ false → b ≡ true
        go true e = refl
        go false e = absurd (true≢false e)

    none_left : (taken l : List A) → filter (is_left taken) l ≡ [] → select conflict taken l ≡ taken
    unfolding select
    none_left taken l e = dropped (is_left taken) taken l (left_out taken) ∙ ap (select conflict taken) e

    one_taken : (taken l : List A) (p : A) (r : List A) → conflict p p ≡ true → is_left taken p ≡ true → filter (is_left taken) l ≡ p ∷ r → select conflict taken l ≡ select conflict (taken ++ (p ∷ [])) l
    unfolding select any
    one_taken taken l p r self free e =
        dropped (is_left taken) taken l (left_out taken) ∙ ap (select conflict taken) e
        ∙ ap (λ b. select conflict (cond b taken (taken ++ (p ∷ []))) r) (still (any (λ q. conflict q p) taken) free)
        ∙ sym (dropped (is_left taken) (taken ++ (p ∷ [])) l (λ x h. any_append (λ q. conflict q x) taken (p ∷ []) ∙ ap (λ b. b || any (λ q. conflict q x) (p ∷ [])) (left_out taken x h))
        ∙ ap (select conflict (taken ++ (p ∷ []))) e
        ∙ ap (λ b. select conflict (cond b (taken ++ (p ∷ [])) ((taken ++ (p ∷ [])) ++ (p ∷ []))) r) itself)
      where
        still : (b : Bool) → not b ≡ true → b ≡ false
        still true e = absurd (false≢true e)
        still false e = refl

        itself : any (λ q. conflict q p) (taken ++ (p ∷ [])) ≡ true
        itself = any_append (λ q. conflict q p) taken (p ∷ []) ∙ ap (λ b. any (λ q. conflict q p) taken || (b || false)) self ∙ or-true (any (λ q. conflict q p) taken)

    module _ (lt : A → A → Bool) (W : Weak lt) (l taken : List A) where
      empty_of : (m : List A) → head_of m ≡ None → m ≡ []
      empty_of [] e = refl
      empty_of (x ∷ m) e = absurd (not_none e)
        where
          not_none : Some x ≡ None → ⊥
          not_none e = let z : ◌≡◌ {A = Bool} true false = cc in true≢false z

      -- nothing is left: what was taken is what is selected
      pub rounds-end : least_from lt None (filter (is_left taken) l) ≡ None → select conflict taken (sort lt l) ≡ taken
      rounds-end e =
          none_left taken (sort lt l) (filter-sort lt W (is_left taken) l ∙ empty_of (sort lt (filter (is_left taken) l)) (head-sort lt (filter (is_left taken) l) ∙ e))

      -- the least of what is left is taken next
      pub round-taken : (p : A) → conflict p p ≡ true → is_left taken p ≡ true → least_from lt None (filter (is_left taken) l) ≡ Some p
          → select conflict taken (sort lt l) ≡ select conflict (taken ++ (p ∷ [])) (sort lt l)
      round-taken p self free e = go (sort lt (filter (is_left taken) l)) (filter-sort lt W (is_left taken) l) (head-sort lt (filter (is_left taken) l) ∙ e)
        where
          go : (m : List A) → filter (is_left taken) (sort lt l) ≡ m → head_of m ≡ Some p → select conflict taken (sort lt l) ≡ select conflict (taken ++ (p ∷ [])) (sort lt l)
          go [] f h = absurd (none_some h)
            where
              none_some : None ≡ Some p → ⊥
              none_some e = let z : ◌≡◌ {A = Bool} true false = cc in true≢false z
          go (x ∷ r) f h =
              let same : x ≡ p = cc in
              one_taken taken (sort lt l) p r self free (f ∙ ap (λ x. x ∷ r) same)
