-- The open steps of a map's cells: the steps that no span cuts. What holds of every open step from its smaller cell holds of the uncut steps (`uncut_each`), and the
-- other way round (`uncut_at`). Assumes nothing.
use Prim.Native.Nat.{ℕ, ◌<◌}
use native.Mathlib.Omega.{arith}
use mathlib.Core.Path.{◌≡◌, refl, sym, ap, ap₂, ◌∙◌, subst}
use mathlib.Core.Bool.{Bool, true, false, not, ◌&&◌, cond, false≢true}
use mathlib.Core.List.{List, [], ◌∷◌, map}
use lib.Dec.{ltb}
use borrow.Author.Tests.{ltb-true, lt-ltb}
use Rattle.definitions.specs.Scan.{any, filter}
use Rattle.definitions.specs.Grid.{Map, Position, Pair, pair_eq, edge, is_step, toward, index, position_of, directions, neighbors, onward, cell_count}
use Rattle.definitions.specs.Partition.{all_steps, cut_all_lem, uncut}
use Rattle.laws.specs.ListLaws.Lists.{All, done, more, all_map, all_both, all_filter}
use Rattle.laws.specs.ListLaws.Members.{all-mapped, filter_passes}
use Rattle.laws.specs.ListLaws.Below.{gather-below, gather_at}
use Rattle.laws.specs.ListLaws.Tests.{both}
use Rattle.grid_steps.specs.Masks.{reached, step_pair}
use Rattle.grid_steps.proofs.Square.{index-position}

-- ---- what holds of a filtered list, or of a mapped one

filter-back : {A : Type 0} {P : A → Type 0} (f : A → Bool) (l : List A) → All P (filter f l) → All (λ x. f x ≡ true → P x) l
unfolding filter
filter-back f [] a = done
filter-back {A} {P} f (x ∷ l) a = go (f x) refl a (filter-back f l)
  where
    go : (b : Bool) → f x ≡ b → All P (cond b (x ∷ filter f l) (filter f l)) → (All P (filter f l) → All (λ x. f x ≡ true → P x) l) → All (λ x. f x ≡ true → P x) (x ∷ l)
    go true e (more h r) ih = more (λ t. h) (ih r)
    go false e r ih = more (λ t. absurd (false≢true (sym e ∙ t))) (ih r)

map_back : {A B : Type 0} {P : B → Type 0} (f : A → B) (l : List A) → All P (map f l) → All (λ x. P (f x)) l
map_back f [] a = done
map_back f (x ∷ l) (more h a) = more h (map_back f l a)

module _ (M : Map) where
  abbrev pub is_uncut : Pair → Bool
  is_uncut e = not (any (pair_eq e) (cut_all_lem M))

  abbrev pub is_open : ℕ → Position → Bool
  is_open c d = is_step M (position_of M c) d && is_uncut (step_pair M c d)

  pub open_step : (c : ℕ) (d : Position) → is_open c d ≡ true → is_step M (position_of M c) d ≡ true
  open_step c d o = (both (is_step M (position_of M c) d) (is_uncut (step_pair M c d)) o).0

  pub open_uncut : (c : ℕ) (d : Position) → is_open c d ≡ true → is_uncut (step_pair M c d) ≡ true
  open_uncut c d o = (both (is_step M (position_of M c) d) (is_uncut (step_pair M c d)) o).1

  -- a step to a larger cell as its edge
  edge_is : (c : ℕ) (d : Position) → c < reached M c d → step_pair M c d ≡ edge M (position_of M c) (toward (position_of M c) d)
  edge_is c d l = ap₂ (λ a b. record { lo = a; hi = b }) (omega (arith, index-position M c)) (omega arith)

  -- P holds of every open step from its smaller cell, in one of the eight directions
  abbrev pub OnwardAll : (Pair → Type 0) → Type 0
  OnwardAll P = (c : ℕ) → c < cell_count M → All (λ d. is_open c d ≡ true → c < reached M c d → P (record { lo = c; hi = reached M c d })) directions

  pub uncut_each : (P : Pair → Type 0) → OnwardAll P → All P (uncut M)
  unfolding uncut all_steps onward neighbors
  uncut_each P given = all_map (λ e h. h.0 h.1) (all_both (all_filter is_uncut (gather-below (λ c. map (edge M (position_of M c)) (onward M (position_of M c))) (cell_count M) from)) (filter_passes is_uncut (all_steps M)))
    where
      opened : (c : ℕ) (d : Position) → (is_open c d ≡ true → c < reached M c d → P (record { lo = c; hi = reached M c d })) → is_step M (position_of M c) d ≡ true → ltb (index M (position_of M c)) (reached M c d) ≡ true → is_uncut (edge M (position_of M c) (toward (position_of M c) d)) ≡ true → P (edge M (position_of M c) (toward (position_of M c) d))
      opened c d k s l u =
          let larger : c < reached M c d = omega (arith, ltb-true (index M (position_of M c)) (reached M c d) l, index-position M c) in
          subst (λ x. P (record { lo = x; hi = reached M c d })) (sym (index-position M c)) (k (ap₂ ◌&&◌ s (ap is_uncut (edge_is c d larger) ∙ u)) larger)

      near : (c : ℕ) → c < cell_count M → All (λ q. ltb (index M (position_of M c)) (index M q) ≡ true → is_uncut (edge M (position_of M c) q) ≡ true → P (edge M (position_of M c) q)) (neighbors M (position_of M c))
      near c h =
          all-mapped (toward (position_of M c))
          (all_map (λ d k. opened c d k.0 k.1) (all_both (all_filter (is_step M (position_of M c)) (given c h)) (filter_passes (is_step M (position_of M c)) directions)))

      from : (c : ℕ) → c < cell_count M → All (λ e. is_uncut e ≡ true → P e) (map (edge M (position_of M c)) (onward M (position_of M c)))
      from c h =
          all-mapped (edge M (position_of M c))
          (all_map (λ q k. k.0 k.1) (all_both (all_filter (λ q. ltb (index M (position_of M c)) (index M q)) (near c h)) (filter_passes (λ q. ltb (index M (position_of M c)) (index M q)) (neighbors M (position_of M c)))))

  pub uncut_at : {P : Pair → Type 0} → All P (uncut M) → OnwardAll P
  unfolding uncut all_steps onward neighbors
  uncut_at {P} a c h = all_map one listed
    where
      p : Position
      p = position_of M c

      onwards : All (λ q. is_uncut (edge M p q) ≡ true → P (edge M p q)) (onward M p)
      onwards = map_back (edge M p) (onward M p) (gather_at (λ c. map (edge M (position_of M c)) (onward M (position_of M c))) (cell_count M) (filter-back is_uncut (all_steps M) a) c h)

      listed : All (λ d. is_step M p d ≡ true → ltb (index M p) (reached M c d) ≡ true → is_uncut (edge M p (toward p d)) ≡ true → P (edge M p (toward p d))) directions
      listed = filter-back (is_step M p) directions (map_back (toward p) (filter (is_step M p) directions) (filter-back (λ q. ltb (index M p) (index M q)) (neighbors M p) onwards))

      one : (d : Position) → (is_step M p d ≡ true → ltb (index M p) (reached M c d) ≡ true → is_uncut (edge M p (toward p d)) ≡ true → P (edge M p (toward p d))) → is_open c d ≡ true → c < reached M c d → P (record { lo = c; hi = reached M c d })
      one d k o l =
          subst (λ x. P (record { lo = x; hi = reached M c d })) (index-position M c)
          (k (open_step c d o) (lt-ltb (index M p) (reached M c d) (omega (arith, index-position M c))) (ap is_uncut (sym (edge_is c d l)) ∙ open_uncut c d o))
