-- The bridge of a pocket as the Rust finds it (junctions.rs): its three ports grouped by the region beyond, in a map; two groups, the one of two ports and the one
-- of one; and the wider of the two. It is `bridge_of_ports`. The argument: of three numbers either two are equal and the third is not, in one of three
-- arrangements, and then the groups are those two and the third, whichever comes first in the map; or all are equal or all differ, and there are not two groups.
-- Assumes nothing.
use Rattle.std.specs.Prelude.{ℕ, ◌<◌, ◌≡◌, Bool, true, false, not, ◌&&◌, eqb, Option, None}
use Rattle.std.proofs.Common.{arith, sym, ◌∙◌}
use Rattle.std.proofs.Math.Path.{refl, ap}
use Rattle.std.proofs.Math.Bool.{cond}
use mathlib.Core.List.{List, [], ◌∷◌, ◌++◌}
use borrow.Author.Tests.{lt-ltb, le-ltb, eqb-true, eqb-false, eq-eqb, ne_eqb}
use Rattle.definitions.specs.Context.{Context}
use Rattle.laws.specs.OrderLaws.ListOrder.{Three, less, same, over, three}
use Rattle.laws.specs.RustJunctions.BridgeGroups.{Group, push_group, find_length, Bridge, wider_of, bridge_of_groups}

-- ---- and that it is the same

-- one port more, by how its exterior compares with the first key
module _ (g : Group) (gs : List Group) (e j : ℕ) where
  push_less : e < g.exterior → push_group (g ∷ gs) e j ≡ record { exterior = e; indexes = j ∷ [] } ∷ g ∷ gs
  unfolding push_group
  push_less h = rw (lt-ltb e g.exterior h) refl

  push_same : e ≡ g.exterior → push_group (g ∷ gs) e j ≡ record { exterior = g.exterior; indexes = g.indexes ++ (j ∷ []) } ∷ gs
  unfolding push_group
  push_same h = rw (le-ltb e g.exterior (omega arith), eq-eqb e g.exterior h) refl

  push_over : g.exterior < e → push_group (g ∷ gs) e j ≡ g ∷ push_group gs e j
  unfolding push_group
  push_over h = rw (le-ltb e g.exterior (omega arith), ne_eqb e g.exterior (λ q. omega arith)) refl

abbrev group : ℕ → List ℕ → Group
group e l = record { exterior = e; indexes = l }

push_end : (g : Group) (e j : ℕ) → g.exterior < e → push_group (g ∷ []) e j ≡ g ∷ group e (j ∷ []) ∷ []
unfolding push_group
push_end g e j h = push_over g [] e j h

-- one port more, by how its exterior compares with two keys
module _ (a b i j k e : ℕ) where
  push_first : e ≡ a → push_group (group a (i ∷ []) ∷ group b (j ∷ []) ∷ []) e k ≡ group a (i ∷ k ∷ []) ∷ group b (j ∷ []) ∷ []
  push_first h = push_same (group a (i ∷ [])) (group b (j ∷ []) ∷ []) e k h

  push_second : a < b → e ≡ b → push_group (group a (i ∷ []) ∷ group b (j ∷ []) ∷ []) e k ≡ group a (i ∷ []) ∷ group b (j ∷ k ∷ []) ∷ []
  push_second l h = push_over (group a (i ∷ [])) (group b (j ∷ []) ∷ []) e k (omega arith) ∙ ap {B = List Group} (λ l. group a (i ∷ []) ∷ l) (push_same (group b (j ∷ [])) [] e k h)

  push_third : (ports : List ℕ) (C : Context) → a < b → Three e a → Three e b → (e ≡ a → ⊥) → (e ≡ b → ⊥) → bridge_of_groups C ports (push_group (group a (i ∷ []) ∷ group b (j ∷ []) ∷ []) e k) ≡ None
  unfolding bridge_of_groups
  push_third ports C l (less h) t n m = ap (bridge_of_groups C ports) (push_less (group a (i ∷ [])) (group b (j ∷ []) ∷ []) e k h)
  push_third ports C l (same h) t n m = absurd (n h)
  push_third ports C l (over h) (less f) n m = ap (bridge_of_groups C ports) (push_over (group a (i ∷ [])) (group b (j ∷ []) ∷ []) e k h ∙ ap {B = List Group} (λ l. group a (i ∷ []) ∷ l) (push_less (group b (j ∷ [])) [] e k f))
  push_third ports C l (over h) (same f) n m = absurd (m f)
  push_third ports C l (over h) (over f) n m = ap (bridge_of_groups C ports) (push_over (group a (i ∷ [])) (group b (j ∷ []) ∷ []) e k h ∙ ap {B = List Group} (λ l. group a (i ∷ []) ∷ l) (push_end (group b (j ∷ [])) e k f))

-- i, j and k lead to x, y and z
module _ (C : Context) (ports : List ℕ) (i j k x y z : ℕ) where
  -- the three arrangements
  abbrev pub arranged : Option Bridge
  arranged =
      cond (eqb x y && not (eqb z x) && C.anchored z) (wider_of C ports x i j)
      (cond (eqb x z && not (eqb y x) && C.anchored y) (wider_of C ports x i k) (cond (eqb y z && not (eqb x y) && C.anchored x) (wider_of C ports y j k) None))

  abbrev pub three_groups : List Group
  three_groups = push_group (push_group (push_group [] x i) y j) z k

  -- by which exteriors are equal
  arranged-all : x ≡ y → x ≡ z → arranged ≡ None
  arranged-all e f =
      λ t. cond (eq-eqb x y e t && not (eq-eqb z x (sym f) t) && C.anchored z) (wider_of C ports x i j)
      (cond (eq-eqb x z f t && not (eq-eqb y x (sym e) t) && C.anchored y) (wider_of C ports x i k) (cond (eq-eqb y z (sym e ∙ f) t && not (eq-eqb x y e t) && C.anchored x) (wider_of C ports y j k) None))

  arranged_first : x ≡ y → (z ≡ x → ⊥) → arranged ≡ cond (C.anchored z) (wider_of C ports x i j) None
  arranged_first e n =
      λ t. cond (eq-eqb x y e t && not (ne_eqb z x n t) && C.anchored z) (wider_of C ports x i j)
      (cond (ne_eqb x z (λ f. n (sym f)) t && not (eqb y x) && C.anchored y) (wider_of C ports x i k) (cond (ne_eqb y z (λ f. n (sym (e ∙ f))) t && not (eqb x y) && C.anchored x) (wider_of C ports y j k) None))

  arranged-second : x ≡ z → (y ≡ x → ⊥) → arranged ≡ cond (C.anchored y) (wider_of C ports x i k) None
  arranged-second e n =
      λ t. cond (ne_eqb x y (λ f. n (sym f)) t && not (eqb z x) && C.anchored z) (wider_of C ports x i j)
      (cond (eq-eqb x z e t && not (ne_eqb y x n t) && C.anchored y) (wider_of C ports x i k) (cond (ne_eqb y z (λ f. n (f ∙ sym e)) t && not (eqb x y) && C.anchored x) (wider_of C ports y j k) None))

  arranged-third : y ≡ z → (x ≡ y → ⊥) → arranged ≡ cond (C.anchored x) (wider_of C ports y j k) None
  arranged-third e n =
      λ t. cond (ne_eqb x y n t && not (eqb z x) && C.anchored z) (wider_of C ports x i j)
      (cond (ne_eqb x z (λ f. n (f ∙ sym e)) t && not (eqb y x) && C.anchored y) (wider_of C ports x i k) (cond (eq-eqb y z e t && not (ne_eqb x y n t) && C.anchored x) (wider_of C ports y j k) None))

  arranged_none : (x ≡ y → ⊥) → (x ≡ z → ⊥) → (y ≡ z → ⊥) → arranged ≡ None
  arranged_none a b c =
      λ t. cond (ne_eqb x y a t && not (eqb z x) && C.anchored z) (wider_of C ports x i j)
      (cond (ne_eqb x z b t && not (eqb y x) && C.anchored y) (wider_of C ports x i k) (cond (ne_eqb y z c t && not (eqb x y) && C.anchored x) (wider_of C ports y j k) None))

  -- the groups of i and j, and how k joins them
  of_groups : (gs : List Group) (o : Option Bridge) → push_group (push_group [] x i) y j ≡ gs → bridge_of_groups C ports (push_group gs z k) ≡ o → arranged ≡ o → bridge_of_groups C ports three_groups ≡ arranged
  of_groups gs o a b c = ap (λ l. bridge_of_groups C ports (push_group l z k)) a ∙ b ∙ sym c

  when_same : x ≡ y → Three z x → bridge_of_groups C ports three_groups ≡ arranged
  unfolding bridge_of_groups find_length push_group
  when_same e t = of_groups (group x (i ∷ j ∷ []) ∷ []) (joined t) (push_same (group x (i ∷ [])) [] y j (sym e)) (left t) (right t)
    where
      joined : Three z x → Option Bridge
      joined (less h) = cond (C.anchored z) (wider_of C ports x i j) None
      joined (same h) = None
      joined (over h) = cond (C.anchored z) (wider_of C ports x i j) None

      left : (t : Three z x) → bridge_of_groups C ports (push_group (group x (i ∷ j ∷ []) ∷ []) z k) ≡ joined t
      left (less h) = ap (bridge_of_groups C ports) (push_less (group x (i ∷ j ∷ [])) [] z k h)
      left (same h) = ap (bridge_of_groups C ports) (push_same (group x (i ∷ j ∷ [])) [] z k h)
      left (over h) = ap (bridge_of_groups C ports) (push_end (group x (i ∷ j ∷ [])) z k h)

      right : (t : Three z x) → arranged ≡ joined t
      right (less h) = arranged_first e (λ f. omega arith)
      right (same h) = arranged-all e (sym h)
      right (over h) = arranged_first e (λ f. omega arith)

  when_less : y < x → bridge_of_groups C ports three_groups ≡ arranged
  unfolding bridge_of_groups find_length push_group
  when_less l = go (eqb z y) refl (eqb z x) refl
    where
      base : push_group (push_group [] x i) y j ≡ group y (j ∷ []) ∷ group x (i ∷ []) ∷ []
      base = push_less (group x (i ∷ [])) [] y j l

      go : (a : Bool) → eqb z y ≡ a → (b : Bool) → eqb z x ≡ b → bridge_of_groups C ports three_groups ≡ arranged
      go true e b f =
          of_groups (group y (j ∷ []) ∷ group x (i ∷ []) ∷ []) (cond (C.anchored x) (wider_of C ports y j k) None) base (ap (bridge_of_groups C ports) (push_first y x j i k z (eqb-true z y e)))
          (arranged-third (sym (eqb-true z y e)) (λ q. omega arith))
      go false e true f =
          of_groups (group y (j ∷ []) ∷ group x (i ∷ []) ∷ []) (cond (C.anchored y) (wider_of C ports x i k) None) base (ap (bridge_of_groups C ports) (push_second y x j i k z l (eqb-true z x f)))
          (arranged-second (sym (eqb-true z x f)) (λ q. omega arith))
      go false e false f =
          of_groups (group y (j ∷ []) ∷ group x (i ∷ []) ∷ []) None base (push_third y x j i k z ports C l (three z y) (three z x) (eqb-false z y e) (eqb-false z x f))
          (arranged_none (λ q. omega arith) (λ q. eqb-false z x f (sym q)) (λ q. eqb-false z y e (sym q)))

  when_over : x < y → bridge_of_groups C ports three_groups ≡ arranged
  unfolding bridge_of_groups find_length push_group
  when_over l = go (eqb z x) refl (eqb z y) refl
    where
      base : push_group (push_group [] x i) y j ≡ group x (i ∷ []) ∷ group y (j ∷ []) ∷ []
      base = push_end (group x (i ∷ [])) y j l

      go : (a : Bool) → eqb z x ≡ a → (b : Bool) → eqb z y ≡ b → bridge_of_groups C ports three_groups ≡ arranged
      go true e b f =
          of_groups (group x (i ∷ []) ∷ group y (j ∷ []) ∷ []) (cond (C.anchored y) (wider_of C ports x i k) None) base (ap (bridge_of_groups C ports) (push_first x y i j k z (eqb-true z x e)))
          (arranged-second (sym (eqb-true z x e)) (λ q. omega arith))
      go false e true f =
          of_groups (group x (i ∷ []) ∷ group y (j ∷ []) ∷ []) (cond (C.anchored x) (wider_of C ports y j k) None) base (ap (bridge_of_groups C ports) (push_second x y i j k z l (eqb-true z y f)))
          (arranged-third (sym (eqb-true z y f)) (λ q. omega arith))
      go false e false f =
          of_groups (group x (i ∷ []) ∷ group y (j ∷ []) ∷ []) None base (push_third x y i j k z ports C l (three z x) (three z y) (eqb-false z x e) (eqb-false z y f))
          (arranged_none (λ q. omega arith) (λ q. eqb-false z x e (sym q)) (λ q. eqb-false z y f (sym q)))

  -- of three ports
  pub three_groups_lem : bridge_of_groups C ports three_groups ≡ arranged
  three_groups_lem = go (three x y)
    where
      go : Three x y → bridge_of_groups C ports three_groups ≡ arranged
      go (less h) = when_over h
      go (same h) = when_same h (three z x)
      go (over h) = when_less h
