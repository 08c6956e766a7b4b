-- `neighbors` as the Rust writes it, of a walkable cell, is the definitions' (`neighbors-are`), and `index` finds the index of every walkable cell (`index-walkable`) and of
-- every position in the grid (`index-inside`). The argument: a cell is walkable by `cell` exactly if it is by `walkable`; the definitions ask all four cells of a step, which of
-- a straight one are its own two. Assumes nothing.
use Rattle.std.specs.Prelude.{ℕ, zero, suc, ◌+◌, ◌-◌, ◌<◌, ◌≡◌, Bool, not, ◌&&◌, ◌||◌, cond, length, get_or, eqb, ℤ, pos, Option, None, Some, slice_get}
use Rattle.std.proofs.Common.{arith, ◌∙◌}
use Rattle.std.proofs.Math.Path.{refl, sym, ap}
use Rattle.std.proofs.Math.Bool.{true, false}
use Rattle.std.proofs.lemmas.Bool.{false≢true}
use mathlib.Core.List.{List, [], ◌∷◌, ◌++◌, map}
use Rattle.std.proofs.Math.ListN.{get_or-eq_default}
use Rattle.std.proofs.Math.Arith.{digits_lt}
use Rattle.std.proofs.Math.Dec.{ltb, leb}
use borrow.Author.Tests.{ltb-true, ltb-false, lt-ltb, le-ltb, leb-true, leb-false, le-leb, lt-leb, eqb-true}
use Rattle.definitions.specs.Scan.{filter, to_list, only_if}
use Rattle.definitions.specs.Grid.{Map, Position, at, cell_count, index, toward, directions, cell_at, is_walkable, walkable, is_step, neighbors}
use Rattle.definitions.specs.Spans.{is_zero}
use Rattle.grid_steps.proofs.Square.{In, walkable_in}
use Rattle.rust_partition.specs.Literal.Neighbors.{and_then, is_some_and, filter_map, checked_add_signed, index_rust, cell_rust, Delta, delta, minus_one, reachable, neighbor_rust, neighbors_rust}

-- ---- one coordinate

-- z is the way k, which is moved by 1 so that no number is negative
record Moves (z : ℤ) (k : ℕ) : Type 0 where
  goes : (n : ℕ) → checked_add_signed n z ≡ only_if (leb 1 (n + k)) (n + k - 1)
  near : leb k 2 ≡ true
  level : is_zero z ≡ eqb k 1

stays : Moves (pos 0) 1
stays = record { goes = λ n. rw (le-leb 1 (n + 1) (omega arith)) (ap Some (omega arith)); near = refl; level = refl }

onwards : Moves (pos 1) 2
onwards = record { goes = λ n. rw (le-leb 1 (n + 2) (omega arith)) (ap Some (omega arith)); near = refl; level = refl }

backwards : Moves minus_one 0
backwards = record { goes = λ n. (λ i. only_if (same n (ltb 0 n) refl i) (one n i)); near = refl; level = refl }
  where
    one : (n : ℕ) → n - suc 0 ≡ n + 0 - 1
    one n = omega arith

    same : (n : ℕ) (b : Bool) → ltb 0 n ≡ b → b ≡ leb 1 (n + 0)
    same n true e = sym (le-leb 1 (n + 0) (omega (arith, ltb-true 0 n e)))
    same n false e = sym (lt-leb 1 (n + 0) (omega (arith, ltb-false 0 n e)))

-- ---- cells

got : (l : List ℕ) (i : ℕ) → is_some_and (slice_get l i) is_walkable ≡ is_walkable (get_or l i 0)
got [] i = refl
got (x ∷ l) zero = refl
got (x ∷ l) (suc i) = got l i

module _ (M : Map) where
  pub cell-walkable : (p : Position) → is_some_and (cell_rust M p) is_walkable ≡ walkable M p
  unfolding cell_rust walkable
  cell-walkable p = go (leb M.width p.x) refl (leb M.height p.y) refl (ltb (index M p) (length M.cells)) refl
    where
      go : (a : Bool) → leb M.width p.x ≡ a → (b : Bool) → leb M.height p.y ≡ b → (c : Bool) → ltb (index M p) (length M.cells) ≡ c → is_some_and (and_then (cond (a || b) None (only_if c (index M p))) (slice_get M.cells)) is_walkable ≡ (ltb p.x M.width && ltb p.y M.height && is_walkable (cell_at M (index M p)))
      go true e b f c g = rw (le-ltb p.x M.width (leb-true _ _ e)) refl
      go false e true f c g = rw (lt-ltb p.x M.width (leb-false _ _ e), le-ltb p.y M.height (leb-true _ _ f)) refl
      go false e false f true g = rw (lt-ltb p.x M.width (leb-false _ _ e), lt-ltb p.y M.height (leb-false _ _ f)) (got M.cells (index M p))
      go false e false f false g =
          rw (lt-ltb p.x M.width (leb-false _ _ e), lt-ltb p.y M.height (leb-false _ _ f)) (ap is_walkable (sym (get_or-eq_default M.cells 0 (ltb-false (index M p) (length M.cells) g))))

  index_there : (p : Position) → p.x < M.width → p.y < M.height → index M p < length M.cells → index_rust M p ≡ Some (index M p)
  unfolding index_rust
  index_there p a b c = rw (lt-leb M.width p.x a, lt-leb M.height p.y b, lt-ltb (index M p) (length M.cells) c) refl

  pub index-inside : length M.cells ≡ cell_count M → (p : Position) → p.x < M.width → p.y < M.height → index_rust M p ≡ Some (index M p)
  unfolding cell_count
  index-inside long p a b = index_there p a b (rw long (digits_lt b a))

  pub index-walkable : (p : Position) → walkable M p ≡ true → index_rust M p ≡ Some (index M p)
  index-walkable p h = index_there p i.x i.y (listed (ltb (index M p) (length M.cells)) refl)
    where
      i : In M p
      i = walkable_in M p h

      listed : (b : Bool) → ltb (index M p) (length M.cells) ≡ b → index M p < length M.cells
      listed true e = ltb-true _ _ e
      listed false e = absurd (false≢true (ap is_walkable (sym (get_or-eq_default M.cells 0 (ltb-false (index M p) (length M.cells) e))) ∙ i.walks))

  -- ---- one direction

  module _ (p : Position) (w : walkable M p ≡ true) (z : Delta) (d : Position) (X : Moves z.delta_x d.x) (Y : Moves z.delta_y d.y) where
    abbrev q : Position
    q = toward p d

    abbrev A : Position
    A = at q.x p.y

    abbrev B : Position
    B = at p.x q.y

    sides : (x y s u : Bool) → (x ≡ true → (s ≡ true) × (u ≡ true)) → (y ≡ true → (s ≡ true) × (u ≡ true)) → cond ((not x && not y) && (not s || not u)) None (Some q) ≡ only_if (s && u) q
    sides true y true true f g = refl
    sides true y true false f g = absurd (false≢true (f refl).1)
    sides true y false u f g = absurd (false≢true (f refl).0)
    sides false true true true f g = refl
    sides false true true false f g = absurd (false≢true (g refl).1)
    sides false true false u f g = absurd (false≢true (g refl).0)
    sides false false true true f g = refl
    sides false false true false f g = refl
    sides false false false u f g = refl

    module _ (e : walkable M q ≡ true) where
      upright : eqb d.x 1 ≡ true → (walkable M A ≡ true) × (walkable M B ≡ true)
      upright h = (ap (λ x. walkable M (at x p.y)) here ∙ w, ap (λ x. walkable M (at x q.y)) (sym here) ∙ e)
        where
          here : p.x + d.x - 1 ≡ p.x
          here = omega (arith, eqb-true d.x 1 h)

      flat : eqb d.y 1 ≡ true → (walkable M A ≡ true) × (walkable M B ≡ true)
      flat h = (ap (λ y. walkable M (at q.x y)) (sym here) ∙ e, ap (λ y. walkable M (at p.x y)) here ∙ w)
        where
          here : p.y + d.y - 1 ≡ p.y
          here = omega (arith, eqb-true d.y 1 h)

    walks : (b : Bool) → walkable M q ≡ b → cond (not b) None (cond ((not (is_zero z.delta_x) && not (is_zero z.delta_y)) && (not (is_some_and (cell_rust M A) is_walkable) || not (is_some_and (cell_rust M B) is_walkable))) None (Some q)) ≡ only_if (b && true && walkable M A && walkable M B) q
    walks false e = refl
    walks true e =
        (λ i. cond ((not (X.level i) && not (Y.level i)) && (not (cell-walkable A i) || not (cell-walkable B i))) None (Some q))
        ∙ sides (eqb d.x 1) (eqb d.y 1) (walkable M A) (walkable M B) (upright e) (flat e)

    found : (o : Option ℕ) → cell_rust M q ≡ o → and_then o (reachable M p z q) ≡ only_if (walkable M q && true && walkable M A && walkable M B) q
    unfolding reachable
    found None e = rw (sym (cell-walkable q) ∙ ap (λ o. is_some_and o is_walkable) e) refl
    found (Some byte) e =
        let same : walkable M q ≡ is_walkable byte = sym (cell-walkable q) ∙ ap (λ o. is_some_and o is_walkable) e in
        walks (is_walkable byte) same ∙ ap (λ b. only_if (b && true && walkable M A && walkable M B) q) (sym same)

    neighbor_is : neighbor_rust M p z ≡ only_if (is_step M p d) q
    unfolding neighbor_rust is_step
    neighbor_is =
        (λ i. and_then (X.goes p.x i) (λ x. and_then (Y.goes p.y i) (λ y. and_then (cell_rust M (at x y)) (reachable M p z (at x y)))))
        ∙ go (leb 1 (p.x + d.x)) (leb 1 (p.y + d.y))
        ∙ sym (λ i. only_if (X.near i && Y.near i && leb 1 (p.x + d.x) && leb 1 (p.y + d.y) && walkable M q && w i && walkable M A && walkable M B) q)
      where
        go : (a b : Bool) → and_then (only_if a q.x) (λ x. and_then (only_if b q.y) (λ y. and_then (cell_rust M (at x y)) (reachable M p z (at x y)))) ≡ only_if (a && b && walkable M q && true && walkable M A && walkable M B) q
        go false b = refl
        go true false = refl
        go true true = found (cell_rust M q) refl

  -- ---- all eight

  chosen : (f : Position → Bool) (g : Position → Position) (l : List Position) → filter_map (λ d. only_if (f d) (g d)) l ≡ map g (filter f l)
  unfolding filter_map filter
  chosen f g [] = refl
  chosen f g (d ∷ l) = go (f d) (chosen f g l)
    where
      go : (b : Bool) → filter_map (λ d. only_if (f d) (g d)) l ≡ map g (filter f l) → to_list (only_if b (g d)) ++ filter_map (λ d. only_if (f d) (g d)) l ≡ map g (cond b (d ∷ filter f l) (filter f l))
      go true ih = ap (λ m. g d ∷ m) ih
      go false ih = ih

  pub neighbors-are : (p : Position) → walkable M p ≡ true → neighbors_rust M p ≡ neighbors M p
  unfolding neighbors_rust filter_map neighbors
  neighbors-are p w =
      (λ i.
      to_list (neighbor_is p w (delta (pos 0) minus_one) (at 1 0) stays backwards i)
      ++ (to_list (neighbor_is p w (delta minus_one (pos 0)) (at 0 1) backwards stays i)
      ++ (to_list (neighbor_is p w (delta (pos 1) (pos 0)) (at 2 1) onwards stays i)
      ++ (to_list (neighbor_is p w (delta (pos 0) (pos 1)) (at 1 2) stays onwards i)
      ++ (to_list (neighbor_is p w (delta minus_one minus_one) (at 0 0) backwards backwards i)
      ++ (to_list (neighbor_is p w (delta (pos 1) minus_one) (at 2 0) onwards backwards i)
      ++ (to_list (neighbor_is p w (delta minus_one (pos 1)) (at 0 2) backwards onwards i)
      ++ (to_list (neighbor_is p w (delta (pos 1) (pos 1)) (at 2 2) onwards onwards i)
      ++ []))))))))
      ∙ chosen (is_step M p) (toward p) directions
