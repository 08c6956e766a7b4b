-- The shape of a mouth, by the tests that the code makes: a star by which regions of the first row stand in all rows; a triangle by comparing the numbers of two
-- rows each. Assumes nothing.
use Prim.Native.Nat.{ℕ, ◌+◌, ◌≤◌}
use native.Mathlib.Omega.{arith}
use mathlib.Core.Path.{◌≡◌, refl, sym, ap, ◌∙◌}
use mathlib.Core.Bool.{Bool, true, false, not, ◌&&◌, ◌||◌, cond, or-false}
use Rattle.std.specs.Prelude.{Option, None, Some}
use mathlib.Core.List.{List, [], ◌∷◌, ◌++◌}
use lib.ListN.{length, length-append}
use lib.Dec.{eqb}
use Rattle.definitions.specs.Scan.{any, all, filter, bit, only_if, member, add_new, add_all}
use Rattle.definitions.specs.Grid.{Pair, contains, pair_eq}
use Rattle.definitions.specs.MouthShapes.{MouthShape, regions_of, distinct_regions, common_regions, star_from, mouth_shape, triangle_representative}
use Rattle.laws.specs.ListLaws.Lists.{filter_two}
use Rattle.laws.specs.ListLaws.ListsAsSets.{any-add_all, member-add_all}
use Rattle.laws.specs.OrderLaws.ListOrder.{eqb_sym}
use Rattle.context.specs.Shown.{pair_at, pairs_between}
use Rattle.mouth_proposals.specs.Rows.{shape_form}
use Rattle.mouth_proposals.specs.declared.shapes.Shape.{Shape}
use Rattle.mouth_proposals.specs.declared.shapes.Shape.TheVariants as shape
use Rattle.mouth_proposals.proofs.RowLists.{all_as_any, between_cons}

-- ---- stars

abbrev pub by_tests_lem : List Pair → Pair → Bool → Bool → Option MouthShape
by_tests_lem l p b c = star_from l (cond b (p.lo ∷ cond c (p.hi ∷ []) []) (cond c (p.hi ∷ []) []))

star_by : (p q : Pair) (l : List Pair) {b c : Bool} → all (contains p.lo) (p ∷ q ∷ l) ≡ b → all (contains p.hi) (p ∷ q ∷ l) ≡ c
    → by_tests_lem (p ∷ q ∷ l) p b c ≡ mouth_shape true (p ∷ q ∷ l)
unfolding mouth_shape common_regions filter
star_by p q l e f = sym (λ i. by_tests_lem (p ∷ q ∷ l) p (e i) (f i))

-- the star about a region that was found
abbrev pub starred : Option ℕ → Option Shape
starred None = None
starred (Some outer) = Some (shape.Star outer)

found_star : (l : List Pair) (p : Pair) (b c : Bool) → shape_form l (starred (cond b (cond c None (Some p.lo)) (cond c (Some p.hi) None))) ≡ by_tests_lem l p b c
unfolding star_from
found_star l p true true = refl
found_star l p true false = refl
found_star l p false true = refl
found_star l p false false = refl

pub star-shape : (rows : List ℕ) (first end : ℕ) → first + 2 ≤ end → {p : Pair} → p ≡ pair_at rows first → {s t : Bool} → s ≡ all (contains p.lo) (pairs_between rows first end)
    → t ≡ all (contains p.hi) (pairs_between rows first end) → {o : Option ℕ} → o ≡ cond s (cond t None (Some p.lo)) (cond t (Some p.hi) None)
    → shape_form (pairs_between rows first end) (starred o) ≡ mouth_shape true (pairs_between rows first end)
star-shape rows first end h {p} e {s} {t} hs ht k =
    ap (λ o. shape_form (pairs_between rows first end) (starred o)) k ∙ found_star (pairs_between rows first end) p s t ∙ (λ i. by_tests_lem (two i) (e i) s t)
    ∙ star_by (pair_at rows first) (pair_at rows (first + 1)) (pairs_between rows (first + 1 + 1) end) (at (λ p. p.lo) hs) (at (λ p. p.hi) ht) ∙ sym (ap (mouth_shape true) two)
  where
    two : pairs_between rows first end ≡ pair_at rows first ∷ pair_at rows (first + 1) ∷ pairs_between rows (first + 1 + 1) end
    two = between_cons rows first end (omega arith) ∙ ap (λ l. pair_at rows first ∷ l) (between_cons rows (first + 1) end (omega arith))

    at : (f : Pair → ℕ) {s : Bool} → s ≡ all (contains (f p)) (pairs_between rows first end)
        → all (contains (f (pair_at rows first))) (pair_at rows first ∷ pair_at rows (first + 1) ∷ pairs_between rows (first + 1 + 1) end) ≡ s
    at f g = sym (λ i. all (contains (f (e i))) (two i)) ∙ sym g

-- ---- triangles

length-add_new : (l : List ℕ) (x : ℕ) → length (add_new l x) ≡ length l + bit (not (member x l))
unfolding add_new
length-add_new l x = go (member x l)
  where
    go : (b : Bool) → length (cond b l (l ++ (x ∷ []))) ≡ length l + bit (not b)
    go true = omega arith
    go false = length-append l (x ∷ [])

module _ (p q : Pair) where
  -- how many of the four regions are new, one by one
  abbrev second : Bool
  second = not (eqb p.hi p.lo)

  abbrev third : Bool
  third = not (contains q.lo p)

  abbrev fourth : Bool
  fourth = not (contains q.hi p) && not (eqb q.hi q.lo)

  seen-second : member p.hi (add_new [] p.lo) ≡ eqb p.hi p.lo
  unfolding add_all member any
  seen-second = member-add_all p.hi [] (p.lo ∷ []) ∙ or-false (eqb p.hi p.lo)

  seen-third : member q.lo (add_new (add_new [] p.lo) p.hi) ≡ contains q.lo p
  unfolding add_all member any
  seen-third = member-add_all q.lo [] (p.lo ∷ p.hi ∷ []) ∙ (λ i. eqb_sym q.lo p.lo i || (or-false (eqb q.lo p.hi) ∙ eqb_sym q.lo p.hi) i)

  seen-fourth : member q.hi (add_new (add_new (add_new [] p.lo) p.hi) q.lo) ≡ (eqb p.lo q.hi || (eqb p.hi q.hi || eqb q.hi q.lo))
  unfolding add_all member any
  seen-fourth =
      member-add_all q.hi [] (p.lo ∷ p.hi ∷ q.lo ∷ [])
      ∙ (λ i. eqb_sym q.hi p.lo i || (eqb_sym q.hi p.hi i || or-false (eqb q.hi q.lo) i))

  one_region : length (add_new [] p.lo) ≡ 1
  unfolding add_new member any
  one_region = refl

  distinct_length : length (distinct_regions (p ∷ q ∷ [])) ≡ 1 + bit second + bit third + bit fourth
  unfolding distinct_regions add_all
  distinct_length =
      length-add_new (add_new (add_new (add_new [] p.lo) p.hi) q.lo) q.hi ∙ (λ i. three i + bit (not (seen-fourth i)))
      ∙ ap (λ b. 1 + bit second + bit third + bit b) (last (eqb p.lo q.hi) (eqb p.hi q.hi) (eqb q.hi q.lo))
    where
      two : length (add_new (add_new [] p.lo) p.hi) ≡ 1 + bit second
      two = length-add_new (add_new [] p.lo) p.hi ∙ (λ i. one_region i + bit (not (seen-second i)))

      three : length (add_new (add_new (add_new [] p.lo) p.hi) q.lo) ≡ 1 + bit second + bit third
      three = length-add_new (add_new (add_new [] p.lo) p.hi) q.lo ∙ (λ i. two i + bit (not (seen-third i)))

      last : (a b c : Bool) → not (a || (b || c)) ≡ (not (a || b) && not c)
      last true b c = refl
      last false true c = refl
      last false false c = refl

  pub three_distinct : (((second && third) && not fourth) || ((second && not third) && fourth)) || ((not second && third) && fourth) ≡ eqb (length (distinct_regions (p ∷ q ∷ []))) 3
  three_distinct = go second third fourth ∙ sym (ap (λ n. eqb n 3) distinct_length)
    where
      go : (a b c : Bool) → (((a && b) && not c) || ((a && not b) && c)) || ((not a && b) && c) ≡ eqb (1 + bit a + bit b + bit c) 3
      go true true true = refl
      go true true false = refl
      go true false true = refl
      go true false false = refl
      go false true true = refl
      go false true false = refl
      go false false true = refl
      go false false false = refl

pub all_distinct : (g : ℕ → Bool) (l : List Pair) → all g (distinct_regions l) ≡ all g (regions_of l)
unfolding distinct_regions any
all_distinct g l = all_as_any g (add_all [] (regions_of l)) ∙ ap not (any-add_all (λ x. not (g x)) [] (regions_of l)) ∙ sym (all_as_any g (regions_of l))

module _ (p q s t : Pair) where
  abbrev named : ℕ → Bool
  named x = any (contains x) (s ∷ t ∷ [])

  pub named_in-all : (((named p.lo && named p.hi) && named q.lo) && named q.hi) ≡ all named (distinct_regions (p ∷ q ∷ []))
  unfolding all
  named_in-all = order (named p.lo) (named p.hi) (named q.lo) (named q.hi) ∙ sym (all_distinct named (p ∷ q ∷ []))
    where
      order : (a b c d : Bool) → (((a && b) && c) && d) ≡ (a && (b && (c && (d && true))))
      order true true true true = refl
      order true true true false = refl
      order true true false d = refl
      order true false c d = refl
      order false b c d = refl

  pub one_common : {x y : Bool} → x ≡ any (pair_eq p) (s ∷ t ∷ []) → y ≡ any (pair_eq q) (s ∷ t ∷ [])
      → ((x && not y) || (not x && y)) ≡ eqb (length (filter (λ e. any (pair_eq e) (s ∷ t ∷ [])) (p ∷ q ∷ []))) 1
  one_common {x} {y} e f = go x y ∙ (λ i. eqb (bit (e i) + bit (f i)) 1) ∙ sym (ap (λ n. eqb n 1) (filter_two (λ e. any (pair_eq e) (s ∷ t ∷ [])) p q))
    where
      go : (a b : Bool) → ((a && not b) || (not a && b)) ≡ eqb (bit a + bit b) 1
      go true true = refl
      go true false = refl
      go false true = refl
      go false false = refl

  pub triangle_by : {x y z : Bool} → x ≡ eqb (length (distinct_regions (p ∷ q ∷ []))) 3 → y ≡ all (λ r. any (contains r) (s ∷ t ∷ [])) (distinct_regions (p ∷ q ∷ []))
      → z ≡ eqb (length (filter (λ e. any (pair_eq e) (s ∷ t ∷ [])) (p ∷ q ∷ []))) 1
      → triangle_representative (p ∷ q ∷ []) (s ∷ t ∷ []) ≡ only_if ((x && y) && z) (distinct_regions (p ∷ q ∷ []))
  unfolding triangle_representative
  triangle_by e f g = sym (λ i. only_if ((e i && f i) && g i) (distinct_regions (p ∷ q ∷ [])))

-- of a number of rows other than two there is none
pub no_mouth-triangle : (l m : List Pair) → (length l ≡ 2 → ⊥) → triangle_representative l m ≡ None
unfolding triangle_representative
no_mouth-triangle [] m h = refl
no_mouth-triangle (p ∷ []) m h = refl
no_mouth-triangle (p ∷ q ∷ []) m h = absurd (h refl)
no_mouth-triangle (p ∷ q ∷ r ∷ l) m h = refl

pub no_ramp-triangle : (l m : List Pair) → (length m ≡ 2 → ⊥) → triangle_representative l m ≡ None
unfolding triangle_representative
no_ramp-triangle [] m h = refl
no_ramp-triangle (p ∷ []) m h = refl
no_ramp-triangle (p ∷ q ∷ r ∷ l) m h = refl
no_ramp-triangle (p ∷ q ∷ []) [] h = refl
no_ramp-triangle (p ∷ q ∷ []) (s ∷ []) h = refl
no_ramp-triangle (p ∷ q ∷ []) (s ∷ t ∷ []) h = absurd (h refl)
no_ramp-triangle (p ∷ q ∷ []) (s ∷ t ∷ u ∷ m) h = refl
