-- The open ways of a map's cells: the steps in the eight directions that no span cuts. Labels are the same at both ends (`labels-level`), and a set of cells that no open
-- way leaves is the same at both cells of every uncut step (`uncut-level`). The argument: every uncut step is an open way from its smaller cell, and every open way
-- has its way back. Assumes nothing.
use Prim.Native.Nat.{ℕ, ◌<◌}
use Rattle.std.proofs.Common.{arith, sym, ap, ap₂, ◌∙◌, ltb-true, ltb-false}
use Rattle.std.specs.Prelude.{◌≡◌, Bool, false, ◌&&◌, get_or, ltb}
use Rattle.std.proofs.Math.Path.{refl}
use Rattle.std.proofs.Math.Bool.{true}
use mathlib.Core.List.{Memᴰ}
use Rattle.definitions.specs.Grid.{Map, Position, directions, cell_count}
use Rattle.definitions.specs.Partition.{here, along, uncut, labels}
use Rattle.laws.specs.ListLaws.Lists.{All, done, more, all_map, all_both}
use Rattle.laws.specs.ListLaws.Members.{all_at, all_members}
use Rattle.laws.specs.ListLaws.Tests.{same_test}
use Rattle.laws.specs.RegionLaws.Steps.{uncut-steps}
use Rattle.laws.specs.RegionLaws.Regions.{labels-joined}
use Rattle.grid_steps.specs.Masks.{opposite, reached, step_pair}
use Rattle.grid_steps.proofs.Square.{Across, across}
use Rattle.grid_steps.proofs.OpenSteps.{is_uncut, is_open, open_step, open_uncut, uncut_each, uncut_at}

-- ---- directions and their opposites

turned : {P : Position → Type 0} → All P directions → All (λ d. P (opposite d)) directions
turned (more a (more b (more c (more d (more e (more f (more g (more h done)))))))) = more d (more c (more b (more a (more h (more g (more f (more e done)))))))

opposites : All (λ d. Memᴰ d directions × Memᴰ (opposite d) directions) directions
opposites = all_both (all_members directions) (turned (all_members directions))

module _ (M : Map) where
  pub open_inside : (c : ℕ) (d : Position) → is_open M c d ≡ true → reached M c d < cell_count M
  open_inside c d o = (across M c d (open_step M c d o)).inside

  -- the way back
  record Back (c : ℕ) (d : Position) : Type 0 where
    is_back : is_open M (reached M c d) (opposite d) ≡ true
    home : reached M (reached M c d) (opposite d) ≡ c

  open_back : (c : ℕ) (d : Position) → is_open M c d ≡ true → Back c d
  open_back c d o = record { is_back = ap₂ ◌&&◌ x.step (ap (is_uncut M) swap ∙ open_uncut M c d o); home = x.home }
    where
      x : Across M c d
      x = across M c d (open_step M c d o)

      swap : step_pair M (reached M c d) (opposite d) ≡ step_pair M c d
      swap = ap₂ (λ a b. record { lo = a; hi = b }) (omega (arith, x.home)) (omega (arith, x.home))

  -- ---- a set that no open way leaves

  module _ (g : ℕ → Bool) (shut : (c : ℕ) → c < cell_count M → g c ≡ true → All (λ d. is_open M c d ≡ true → g (reached M c d) ≡ true) directions) where
    ways-level : (c : ℕ) → c < cell_count M → All (λ d. is_open M c d ≡ true → g c ≡ g (reached M c d)) directions
    ways-level c h = all_map one opposites
      where
        one : (d : Position) → Memᴰ d directions × Memᴰ (opposite d) directions → is_open M c d ≡ true → g c ≡ g (reached M c d)
        one d m o =
            let b = open_back c d o in
            same_test {a = g c} {b = g (reached M c d)} (λ u. all_at (shut c h u) m.0 o)
            (λ u. ap g (sym b.home) ∙ all_at (shut (reached M c d) (open_inside c d o) u) m.1 b.is_back)

    pub uncut-level : All (λ e. g e.lo ≡ g e.hi) (uncut M)
    uncut-level = uncut_each M (λ e. g e.lo ≡ g e.hi) (λ c h. all_map (λ d f o _. f o) (ways-level c h))

  -- ---- labels

  label : ℕ → ℕ
  label c = get_or (labels M) c 0

  steps-level : All (λ e. label e.lo ≡ label e.hi) (uncut M)
  unfolding label
  steps-level =
      all_map (λ e s. (labels-joined M e.lo e.hi s.0.within.lo s.0.within.hi s.0.low_walkable s.0.high_walkable).1 (along {e = e} here s.1))
      (all_both (uncut-steps M) (all_members (uncut M)))

  pub labels-level : (c : ℕ) → c < cell_count M → All (λ d. is_open M c d ≡ true → get_or (labels M) (reached M c d) 0 ≡ get_or (labels M) c 0) directions
  unfolding label
  labels-level c h = all_map one opposites
    where
      one : (d : Position) → Memᴰ d directions × Memᴰ (opposite d) directions → is_open M c d ≡ true → label (reached M c d) ≡ label c
      one d m o = go (ltb c t) refl (ltb t c) refl
        where
          t : ℕ
          t = reached M c d

          b : Back c d
          b = open_back c d o

          go : (x : Bool) → ltb c t ≡ x → (y : Bool) → ltb t c ≡ y → label t ≡ label c
          go true x y z = sym (all_at (uncut_at M steps-level c h) m.0 o (ltb-true c t x))
          go false x true z = all_at (uncut_at M steps-level t (open_inside c d o)) m.1 b.is_back (omega (arith, b.home, ltb-true t c z)) ∙ ap label b.home
          go false x false z = ap label (omega (arith, ltb-false c t x, ltb-false t c z))
