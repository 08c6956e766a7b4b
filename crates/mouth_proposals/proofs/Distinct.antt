-- Lists that hold no number twice, as `add_all` makes them: which of two numbers a filter leaves, and that two members make two elements. Assumes nothing.
use Prim.Native.Nat.{ℕ, suc}
use native.Mathlib.Omega.{arith}
use mathlib.Core.Path.{◌≡◌, refl, sym, ap, ap₂, ◌∙◌}
use mathlib.Core.Bool.{Bool, true, false, not, ◌&&◌, ◌||◌, cond, or-false, or_comm, false≢true}
use Rattle.std.specs.Prelude.{Option, None, Some}
use mathlib.Core.List.{List, [], ◌∷◌, ◌++◌}
use lib.ListN.{length}
use lib.Dec.{eqb, leb}
use borrow.Author.Tests.{eqb-true, lt-leb}
use Rattle.definitions.specs.Scan.{any, filter, member, add_new, add_all}
use Rattle.definitions.specs.Grid.{Pair, contains}
use Rattle.definitions.specs.MouthShapes.{regions_of, distinct_regions}
use Rattle.laws.specs.ListLaws.NumberLists.{member-append}
use Rattle.laws.specs.ListLaws.ListsAsSets.{member-add_all}
use Rattle.laws.specs.OrderLaws.ListOrder.{eqb_sym}
use Rattle.laws.specs.RustMouths.Triangles.{any-regions}
use Rattle.laws.specs.ListLaws.Tests.{neither}
use Rattle.mouth_proposals.specs.Rows.{is_outer, inner_of, one_of}

pub data Distinct : List ℕ → Type 0 where
  empty : Distinct []
  more : {x : ℕ} {l : List ℕ} → member x l ≡ false → Distinct l → Distinct (x ∷ l)

-- ---- members

pub member_filter : (f : ℕ → Bool) (x : ℕ) (l : List ℕ) → member x (filter f l) ≡ (f x && member x l)
unfolding member any filter
member_filter f x [] = go (f x)
  where
    go : (b : Bool) → false ≡ (b && false)
    go true = refl
    go false = refl
member_filter f x (y ∷ l) = go (f y) refl (eqb x y) refl (member_filter f x l)
  where
    go : (b : Bool) → f y ≡ b → (c : Bool) → eqb x y ≡ c → any (eqb x) (filter f l) ≡ (f x && any (eqb x) l)
        → any (eqb x) (cond b (y ∷ filter f l) (filter f l)) ≡ (f x && (c || any (eqb x) l))
    go true e true d ih = ap (λ t. t || any (eqb x) (filter f l)) d ∙ sym (ap (λ t. t && true) (ap f (eqb-true x y d) ∙ e))
    go true e false d ih = ap (λ t. t || any (eqb x) (filter f l)) d ∙ ih
    go false e true d ih = ih ∙ (λ i. (ap f (eqb-true x y d) ∙ e) i && any (eqb x) l) ∙ sym (ap (λ t. t && true) (ap f (eqb-true x y d) ∙ e))
    go false e false d ih = ih

pub member_distinct : (x : ℕ) (l : List Pair) → member x (distinct_regions l) ≡ any (contains x) l
unfolding distinct_regions member any
member_distinct x l = member-add_all x [] (regions_of l) ∙ any-regions (eqb x) l ∙ (λ i. any (λ p. eqb_sym x p.lo i || eqb_sym x p.hi i) l)

pub member-inner : (outer : Option ℕ) (x : ℕ) (l : List Pair) → member x (inner_of outer l) ≡ (not (is_outer outer x) && any (contains x) l)
unfolding inner_of
member-inner outer x l = member_filter (λ r. not (is_outer outer r)) x (distinct_regions l) ∙ ap (λ b. not (is_outer outer x) && b) (member_distinct x l)

-- ---- how they are made

filter_distinct : (f : ℕ → Bool) {l : List ℕ} → Distinct l → Distinct (filter f l)
unfolding filter
filter_distinct f empty = empty
filter_distinct f (more {x = x} {l = l} h d) = go (f x) refl (filter_distinct f d)
  where
    out : (a b : Bool) → b ≡ false → (a && b) ≡ false
    out true b e = e
    out false b e = refl

    go : (b : Bool) → f x ≡ b → Distinct (filter f l) → Distinct (cond b (x ∷ filter f l) (filter f l))
    go true e i = more (member_filter f x l ∙ out (f x) (member x l) h) i
    go false e i = i

put-behind : {l : List ℕ} (x : ℕ) → Distinct l → member x l ≡ false → Distinct (l ++ (x ∷ []))
unfolding member any
put-behind x empty h = more h empty
put-behind x (more {x = y} {l = l} k d) h = rest (neither (eqb x y) (member x l) h) (put-behind x d)
  where
    rest : (eqb x y ≡ false) × (member x l ≡ false) → (member x l ≡ false → Distinct (l ++ (x ∷ []))) → Distinct (y ∷ l ++ (x ∷ []))
    rest (e, g) ih = more (member-append y l (x ∷ []) ∙ (λ i. k i || (or-false (eqb y x) ∙ eqb_sym y x ∙ e) i)) (ih g)

add_distinct : {l : List ℕ} (x : ℕ) → Distinct l → Distinct (add_new l x)
unfolding add_new
add_distinct {l} x d = go (member x l) refl
  where
    go : (b : Bool) → member x l ≡ b → Distinct (cond b l (l ++ (x ∷ [])))
    go true e = d
    go false e = put-behind x d e

all_distinct : {l : List ℕ} (m : List ℕ) → Distinct l → Distinct (add_all l m)
unfolding add_all
all_distinct {l = l} [] d = d
all_distinct {l = l} (x ∷ m) d = all_distinct {l = add_new l x} m (add_distinct x d)

pub inner_distinct : (outer : Option ℕ) (l : List Pair) → Distinct (inner_of outer l)
unfolding inner_of distinct_regions
inner_distinct outer l = filter_distinct (λ r. not (is_outer outer r)) (all_distinct (regions_of l) empty)

-- ---- which of two numbers stand there

module _ (g : ℕ → Bool) where
  none_left : (x y : ℕ) → ((r : ℕ) → g r ≡ (eqb x r || eqb y r)) → (l : List ℕ) → member x l ≡ false → member y l ≡ false → filter g l ≡ []
  unfolding filter member any
  none_left x y h [] p q = refl
  none_left x y h (z ∷ l) p q = go (neither (eqb x z) (any (eqb x) l) p) (neither (eqb y z) (any (eqb y) l) q) (none_left x y h l)
    where
      go : (eqb x z ≡ false) × (any (eqb x) l ≡ false) → (eqb y z ≡ false) × (any (eqb y) l ≡ false) → (any (eqb x) l ≡ false → any (eqb y) l ≡ false → filter g l ≡ [])
          → cond (g z) (z ∷ filter g l) (filter g l) ≡ []
      go (a, b) (c, d) ih = ap (λ t. cond t (z ∷ filter g l) (filter g l)) (h z ∙ ap₂ ◌||◌ a c) ∙ ih b d

  one_left : (x y : ℕ) → ((r : ℕ) → g r ≡ (eqb x r || eqb y r)) → {l : List ℕ} → Distinct l → member x l ≡ false → filter g l ≡ cond (member y l) (y ∷ []) []
  unfolding filter member any
  one_left x y h empty p = refl
  one_left x y h (more {x = z} {l = l} k d) p = go (neither (eqb x z) (any (eqb x) l) p) (eqb y z) refl (one_left x y h d)
    where
      go : (eqb x z ≡ false) × (any (eqb x) l ≡ false) → (t : Bool) → eqb y z ≡ t → (any (eqb x) l ≡ false → filter g l ≡ cond (any (eqb y) l) (y ∷ []) [])
          → cond (g z) (z ∷ filter g l) (filter g l) ≡ cond (t || any (eqb y) l) (y ∷ []) []
      go (a, b) true e ih =
          ap (λ t. cond t (z ∷ filter g l) (filter g l)) (h z ∙ ap₂ ◌||◌ a e)
          ∙ (λ i. sym (eqb-true y z e) i ∷ none_left x y h l b (ap (λ w. member w l) (eqb-true y z e) ∙ k) i)
      go (a, b) false e ih = ap (λ t. cond t (z ∷ filter g l) (filter g l)) (h z ∙ ap₂ ◌||◌ a e) ∙ ih b

  pub which-left : (x y : ℕ) → (x ≡ y → ⊥) → ((r : ℕ) → g r ≡ (eqb x r || eqb y r)) → {l : List ℕ} → Distinct l
      → one_of (filter g l) ≡ cond (member x l) (cond (member y l) None (Some x)) (cond (member y l) (Some y) None)
  unfolding filter member any
  which-left x y n h empty = refl
  which-left x y n h (more {x = z} {l = l} k d) = go (eqb x z) refl (eqb y z) refl (which-left x y n h d)
    where
      here : {s t : Bool} → eqb x z ≡ s → eqb y z ≡ t → one_of (cond (g z) (z ∷ filter g l) (filter g l)) ≡ one_of (cond (s || t) (z ∷ filter g l) (filter g l))
      here e f = ap (λ t. one_of (cond t (z ∷ filter g l) (filter g l))) (h z ∙ ap₂ ◌||◌ e f)

      gone : (w : ℕ) → eqb w z ≡ true → member w l ≡ false
      gone w e = ap (λ w. member w l) (eqb-true w z e) ∙ k

      go : (s : Bool) → eqb x z ≡ s → (t : Bool) → eqb y z ≡ t → one_of (filter g l) ≡ cond (any (eqb x) l) (cond (any (eqb y) l) None (Some x)) (cond (any (eqb y) l) (Some y) None)
          → one_of (cond (g z) (z ∷ filter g l) (filter g l)) ≡ cond (s || any (eqb x) l) (cond (t || any (eqb y) l) None (Some x)) (cond (t || any (eqb y) l) (Some y) None)
      go true e true f ih = absurd (n (eqb-true x z e ∙ sym (eqb-true y z f)))
      go true e false f ih = here e f ∙ ap (λ m. one_of (z ∷ m)) (one_left x y h d (gone x e)) ∙ pick (any (eqb y) l) ∙ ap (λ w. cond (any (eqb y) l) None (Some w)) (sym (eqb-true x z e))
        where
          pick : (b : Bool) → one_of (z ∷ cond b (y ∷ []) []) ≡ cond b None (Some z)
          pick true = refl
          pick false = refl
      go false e true f ih =
          here e f ∙ ap (λ m. one_of (z ∷ m)) (one_left y x (λ r. h r ∙ or_comm (eqb x r) (eqb y r)) d (gone y f)) ∙ pick (any (eqb x) l)
          ∙ ap (λ w. cond (any (eqb x) l) None (Some w)) (sym (eqb-true y z f))
        where
          pick : (b : Bool) → one_of (z ∷ cond b (x ∷ []) []) ≡ cond b None (Some z)
          pick true = refl
          pick false = refl
      go false e false f ih = here e f ∙ ih

-- two members that differ
pub two_members : (x y : ℕ) (l : List ℕ) → (x ≡ y → ⊥) → member x l ≡ true → member y l ≡ true → leb (length l) 1 ≡ false
unfolding member any
two_members x y [] n p q = absurd (false≢true p)
two_members x y (z ∷ []) n p q = absurd (n (eqb-true x z (sym (or-false (eqb x z)) ∙ p) ∙ sym (eqb-true y z (sym (or-false (eqb y z)) ∙ q))))
two_members x y (z ∷ w ∷ l) n p q = lt-leb (suc (suc (length l))) 1 (omega arith)
