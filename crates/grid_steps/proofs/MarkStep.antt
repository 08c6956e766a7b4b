-- Setting the two bits of a step, as the Rust does, adds exactly that step to the steps that the masks say are cut (`mark-adds`), and masks of zeros say that none is
-- (`marks_none`): a loop that marks every cut step both ways ends with masks that say which steps are cut. A step is known by either of its cells with the direction from
-- there, since a cell reaches another in one direction only, and a direction is known by its bit. Assumes nothing.
use Prim.Native.Nat.{ℕ, ◌-◌, ◌≤◌, ◌<◌, min, max}
use native.Mathlib.Omega.{arith}
use mathlib.Core.Path.{◌≡◌, refl, sym, ap, ap₂, ◌∙◌}
use mathlib.Core.Bool.{Bool, true, false, ◌&&◌, ◌||◌, or-false, or_assoc}
use mathlib.Core.Logic.{⊎_elim}
use mathlib.Core.List.{List, [], ◌∷◌, ◌++◌}
use lib.ListN.{length, get_or}
use lib.Dec.{eqb, ltb}
use borrow.Author.Tests.{eqb-true, eq-eqb, ltb-true, ltb-false}
use Rattle.definitions.specs.Scan.{any}
use Rattle.definitions.specs.Grid.{Map, Position, at, Pair, pair_eq, cell_count, toward, position_of, is_step}
use Rattle.laws.specs.ListLaws.Tests.{both, or_split, or_right, same_test}
use Rattle.laws.specs.ListLaws.Lists.{any_append}
use Rattle.grid_steps.specs.Masks.{bit_of, opposite, cut_bit, with_bit, reached, step_pair, Marks}
use Rattle.grid_steps.proofs.Square.{Four, four, Across, across}
use Rattle.grid_steps.proofs.Bits.{with_bit-length, mark-bit, no_bit}

-- ---- tests by `||` and `&&`

or_left : (a b : Bool) → a ≡ true → (a || b) ≡ true
or_left a b h = ap (λ x. x || b) h

eqs : (a b c d : ℕ) → a ≡ b → c ≡ d → (eqb a b && eqb c d) ≡ true
eqs a b c d e f = ap₂ ◌&&◌ (eq-eqb a b e) (eq-eqb c d f)

-- ---- a direction is known by its bit, and by the cell that it reaches

bit_direction : (d j : Position) → d.x ≤ 2 → j.x ≤ 2 → bit_of d ≡ bit_of j → d ≡ j
bit_direction d j h k e = ap₂ at (omega (arith, e)) (omega (arith, e))

pub bit-opposite : (d : Position) → d.x ≤ 2 → d.y ≤ 2 → bit_of (opposite d) ≡ 8 - bit_of d
bit-opposite d h k = omega arith

module _ (M : Map) where
  pub one_direction : (c : ℕ) (d j : Position) → is_step M (position_of M c) d ≡ true → is_step M (position_of M c) j ≡ true → reached M c d ≡ reached M c j → d ≡ j
  one_direction c d j s t e = ap₂ at (omega (arith, ap (λ p. p.x) same, f.right, g.right)) (omega (arith, ap (λ p. p.y) same, f.down, g.down))
    where
      f : Four M (position_of M c) d
      f = four M (position_of M c) d s

      g : Four M (position_of M c) j
      g = four M (position_of M c) j t

      same : toward (position_of M c) d ≡ toward (position_of M c) j
      same = sym (across M c d s).here ∙ ap (position_of M) e ∙ (across M c j t).here

  -- the step in direction d of c is the step in direction j of a, seen from a or from its other cell
  pub mark-edge : (c : ℕ) (d : Position) (a : ℕ) (j : Position) → is_step M (position_of M c) d ≡ true → is_step M (position_of M a) j ≡ true → a < reached M a j → pair_eq (step_pair M c d) (record { lo = a; hi = reached M a j }) ≡ ((eqb c a && eqb (bit_of d) (bit_of j)) || (eqb c (reached M a j) && eqb (bit_of d) (bit_of (opposite j))))
  mark-edge c d a j s t l = same_test {a = eqb (min c r) a && eqb (max c r) b} {b = first || second} found said
    where
      b : ℕ
      b = reached M a j

      r : ℕ
      r = reached M c d

      x : Across M a j
      x = across M a j t

      first : Bool
      first = eqb c a && eqb (bit_of d) (bit_of j)

      second : Bool
      second = eqb c b && eqb (bit_of d) (bit_of (opposite j))

      along : c ≡ a → r ≡ b → (first || second) ≡ true
      along e f =
          or_left first second
          (eqs c a (bit_of d) (bit_of j) e (ap bit_of (one_direction a d j (ap (λ y. is_step M (position_of M y) d) (sym e) ∙ s) t (ap (λ y. reached M y d) (sym e) ∙ f))))

      against : c ≡ b → r ≡ a → (first || second) ≡ true
      against e f =
          or_right first second
          (eqs c b (bit_of d) (bit_of (opposite j)) e
          (ap bit_of (one_direction b d (opposite j) (ap (λ y. is_step M (position_of M y) d) (sym e) ∙ s) x.step (ap (λ y. reached M y d) (sym e) ∙ f ∙ sym x.home))))

      found : (eqb (min c r) a && eqb (max c r) b) ≡ true → (first || second) ≡ true
      found h = go (ltb c r) refl
        where
          low : min c r ≡ a
          low = eqb-true _ _ (both (eqb (min c r) a) (eqb (max c r) b) h).0

          high : max c r ≡ b
          high = eqb-true _ _ (both (eqb (min c r) a) (eqb (max c r) b) h).1

          go : (y : Bool) → ltb c r ≡ y → (first || second) ≡ true
          go true y = along (omega (arith, ltb-true c r y, low)) (omega (arith, ltb-true c r y, high))
          go false y = against (omega (arith, ltb-false c r y, high)) (omega (arith, ltb-false c r y, low))

      near : d.x ≤ 2
      near = (four M (position_of M c) d s).near_x

      said : (first || second) ≡ true → (eqb (min c r) a && eqb (max c r) b) ≡ true
      said h = ⊎_elim one other (or_split first second h)
        where
          one : first ≡ true → (eqb (min c r) a && eqb (max c r) b) ≡ true
          one h =
              let p = both (eqb c a) (eqb (bit_of d) (bit_of j)) h in
              let e = eqb-true c a p.0 in
              let k = bit_direction d j near (four M (position_of M a) j t).near_x (eqb-true _ _ p.1) in
              let same : r ≡ b = ap₂ (reached M) e k in
              eqs (min c r) a (max c r) b (omega (arith, e)) (omega (arith, e))

          other : second ≡ true → (eqb (min c r) a && eqb (max c r) b) ≡ true
          other h =
              let p = both (eqb c b) (eqb (bit_of d) (bit_of (opposite j))) h in
              let e = eqb-true c b p.0 in
              let k = bit_direction d (opposite j) near (omega arith) (eqb-true _ _ p.1) in
              let same : r ≡ a = ap₂ (reached M) e k ∙ x.home in
              eqs (min c r) a (max c r) b (omega (arith, e)) (omega (arith, e))

-- ---- the marks of a list of steps

bit_below : (d : Position) → d.x ≤ 2 → d.y ≤ 2 → bit_of d < 9
bit_below d h k = omega arith

-- where every mask is 0
pub marks_none : (M : Map) (masks : List ℕ) → ((c : ℕ) → c < cell_count M → get_or masks c 0 ≡ 0) → Marks M masks []
unfolding any
marks_none M masks z c d h s = no_bit masks c (bit_of d) (z c h)

-- one step more
pub mark-adds : (M : Map) (masks : List ℕ) (E : List Pair) → cell_count M ≤ length masks → Marks M masks E → (a : ℕ) (j : Position) → a < cell_count M → is_step M (position_of M a) j ≡ true → a < reached M a j → Marks M (with_bit (with_bit masks a (bit_of j)) (reached M a j) (8 - bit_of j)) (E ++ (record { lo = a; hi = reached M a j } ∷ []))
unfolding any
mark-adds M masks E long m a j h t l c d i s =
    mark-bit once b (8 - bit_of j) (omega (arith, with_bit-length masks a (bit_of j), (across M a j t).inside)) (omega arith) c (bit_of d) below
    ∙ ap (λ y. y || (eqb c b && eqb (bit_of d) (8 - bit_of j))) (mark-bit masks a (bit_of j) (omega arith) (bit_below j g.near_x g.near_y) c (bit_of d) below)
    ∙ or_assoc (cut_bit masks c (bit_of d)) (eqb c a && eqb (bit_of d) (bit_of j)) (eqb c b && eqb (bit_of d) (8 - bit_of j))
    ∙ ap₂ ◌||◌ (m c d i s) added
    ∙ sym (any_append (pair_eq (step_pair M c d)) E (record { lo = a; hi = b } ∷ []))
  where
    b : ℕ
    b = reached M a j

    once : List ℕ
    once = with_bit masks a (bit_of j)

    f : Four M (position_of M c) d
    f = four M (position_of M c) d s

    g : Four M (position_of M a) j
    g = four M (position_of M a) j t

    below : bit_of d < 9
    below = bit_below d f.near_x f.near_y

    added : ((eqb c a && eqb (bit_of d) (bit_of j)) || (eqb c b && eqb (bit_of d) (8 - bit_of j))) ≡ (pair_eq (step_pair M c d) (record { lo = a; hi = b }) || false)
    added =
        ap (λ k. (eqb c a && eqb (bit_of d) (bit_of j)) || (eqb c b && eqb (bit_of d) k)) (sym (bit-opposite j g.near_x g.near_y))
        ∙ sym (mark-edge M c d a j s t l) ∙ sym (or-false _)
