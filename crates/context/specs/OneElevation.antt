-- Strictly flat means one elevation: exactly one bit is set in the joined mask of two regions where their cells have exactly one elevation between them
-- (document 01, 'Forms for each place': "tied to a set having one elevation"). Assumes nothing.
use Rattle.std.specs.Prelude.{ℕ, zero, suc, ◌+◌, ◌<◌, ◌≡◌, refl, Bool, true, false, not, ◌&&◌, ◌||◌, List, get_or, eqb}
use Rattle.std.proofs.Common.{arith, ap, ap₂, ◌∙◌, true≢false, ⊎_elim}
use Rattle.std.proofs.Math.Path.{sym, subst}
use Rattle.std.specs.Bool.{beq}
use Rattle.std.proofs.Math.Bool.{or-true}
use borrow.Author.Tests.{eqb-true, eq-eqb, ne_eqb}
use Rattle.definitions.specs.Scan.{any_below_lem, count_below, bit}
use Rattle.definitions.specs.Grid.{Map, cell_count, cell_at, elevation}
use Rattle.definitions.specs.RegionRecord.{has_bit, mask_of, region_of, joined_ones, strictly_flat}
use Rattle.laws.specs.ListLaws.Tests.{both, beq_same, or_split}
use Rattle.laws.specs.ListLaws.Below.{below_at, below_first, below_none, count_ext}
use Rattle.laws.specs.NumberLaws.Comparisons.{last_or}
use Rattle.laws.specs.RegionLaws.OneMore.{OneMore, count_more, any-counted}
use Rattle.laws.specs.ListLaws.FourFlags.{every_four, four_at, mask_of_bits}

-- ---- exactly one number passes

pub record Only (f : ℕ → Bool) (n e : ℕ) : Type 0 where
  pub below : e < n
  pub taken : f e ≡ true
  pub only : (k : ℕ) → k < n → f k ≡ true → k ≡ e

count_none : (n : ℕ) → count_below n (λ k. false) ≡ 0
count_none n = eqb-true _ _ (any-counted (λ k. false) n ∙ ap not (below_none n (λ k. false) (λ k l. refl)))

pub only_counted : (f : ℕ → Bool) (n e : ℕ) → Only f n e → count_below n f ≡ 1
only_counted f n e h =
    count_ext n f (λ k. eqb k e) (λ k l. same k l (f k) refl) ∙ count_more one n h.below ∙ ap (λ m. m + 1) (count_none n)
  where
    same : (k : ℕ) → k < n → (b : Bool) → f k ≡ b → f k ≡ eqb k e
    same k l true t = t ∙ sym (eq-eqb k e (h.only k l t))
    same k l false t = t ∙ sym (ne_eqb k e (λ z. true≢false (sym h.taken ∙ ap f (sym z) ∙ t)))

    one : OneMore (λ k. false) (λ k. eqb k e) e
    one = record { before = refl; after = eq-eqb e e refl; rest = λ k d. ne_eqb k e d }

pub counted_only : (f : ℕ → Bool) (n : ℕ) → count_below n f ≡ 1 → (e : ℕ) × Only f n e
unfolding count_below
counted_only f zero h = let z : ◌≡◌ {A = ℕ} 0 1 = h in absurd (omega arith)
counted_only f (suc n) h = go (f n) refl h (counted_only f n)
  where
    go : (b : Bool) → f n ≡ b → count_below n f + bit b ≡ 1 → (count_below n f ≡ 1 → (e : ℕ) × Only f n e) → (e : ℕ) × Only f (suc n) e
    go true t k rest = (n, record { below = omega arith; taken = t; only = λ j l u. ⊎_elim (λ e. e) (λ b. absurd (true≢false (sym (below_at n f j b u) ∙ none))) (last_or j n l) })
      where
        flip : (a : Bool) → true ≡ not a → a ≡ false
        flip true e = e
        flip false e = refl

        none : any_below_lem n f ≡ false
        none = flip (any_below_lem n f) (sym (eq-eqb (count_below n f) 0 (omega (arith, k))) ∙ any-counted f n)
    go false t k rest =
        let (e, o) = rest (omega (arith, k)) in
        (e, record { below = omega (arith, o.below); taken = o.taken; only = λ j l u. ⊎_elim (λ z. absurd (true≢false (sym u ∙ ap f z ∙ t))) (λ b. o.only j b u) (last_or j n l) })

-- ---- the bits of a mask

bit_at : (g : ℕ → Bool) (e : ℕ) → e < 4 → has_bit (mask_of g) e ≡ g e
unfolding every_four
bit_at g zero h = beq_same _ _ (four_at (λ a b c d. beq (has_bit (mask_of_bits a b c d) 0) a) refl (g 0) (g 1) (g 2) (g 3))
bit_at g (suc zero) h = beq_same _ _ (four_at (λ a b c d. beq (has_bit (mask_of_bits a b c d) 1) b) refl (g 0) (g 1) (g 2) (g 3))
bit_at g (suc (suc zero)) h = beq_same _ _ (four_at (λ a b c d. beq (has_bit (mask_of_bits a b c d) 2) c) refl (g 0) (g 1) (g 2) (g 3))
bit_at g (suc (suc (suc zero))) h = beq_same _ _ (four_at (λ a b c d. beq (has_bit (mask_of_bits a b c d) 3) d) refl (g 0) (g 1) (g 2) (g 3))
bit_at g (suc (suc (suc (suc e)))) h = absurd (omega arith)

bit_high : (g : ℕ → Bool) (e : ℕ) → e < 8 → has_bit (mask_of g) e ≡ true → e < 4
unfolding every_four
bit_high g zero h t = omega arith
bit_high g (suc zero) h t = omega arith
bit_high g (suc (suc zero)) h t = omega arith
bit_high g (suc (suc (suc zero))) h t = omega arith
bit_high g (suc (suc (suc (suc e)))) h t = absurd (true≢false (sym t ∙ unset e (omega arith)))
  where
    unset : (e : ℕ) → e < 4 → has_bit (mask_of g) (suc (suc (suc (suc e)))) ≡ false
    unset zero l = beq_same _ _ (four_at (λ a b c d. beq (has_bit (mask_of_bits a b c d) 4) false) refl (g 0) (g 1) (g 2) (g 3))
    unset (suc zero) l = beq_same _ _ (four_at (λ a b c d. beq (has_bit (mask_of_bits a b c d) 5) false) refl (g 0) (g 1) (g 2) (g 3))
    unset (suc (suc zero)) l = beq_same _ _ (four_at (λ a b c d. beq (has_bit (mask_of_bits a b c d) 6) false) refl (g 0) (g 1) (g 2) (g 3))
    unset (suc (suc (suc zero))) l = beq_same _ _ (four_at (λ a b c d. beq (has_bit (mask_of_bits a b c d) 7) false) refl (g 0) (g 1) (g 2) (g 3))
    unset (suc (suc (suc (suc e)))) l = absurd (omega arith)

-- ---- the cells of two regions

-- cell c has one of the two labels
abbrev pub is_of : List ℕ → ℕ → ℕ → ℕ → Bool
is_of ls q r c = eqb (get_or ls c 0) q || eqb (get_or ls c 0) r

-- one of the cells has elevation e, and all of them have
pub record OneElevation (M : Map) (ls : List ℕ) (q r e : ℕ) : Type 0 where
  pub cell : ℕ
  pub below : cell < cell_count M
  pub mine : is_of ls q r cell ≡ true
  pub high : elevation (cell_at M cell) ≡ e
  pub all : (c : ℕ) → c < cell_count M → is_of ls q r c ≡ true → elevation (cell_at M c) ≡ e

module _ (M : Map) (ls : List ℕ) where
  -- region l has a cell of elevation e
  abbrev has_elevation : ℕ → ℕ → Bool
  has_elevation l e = any_below_lem (cell_count M) (λ c. eqb (get_or ls c 0) l && eqb (elevation (cell_at M c)) e)

  abbrev in_masks : ℕ → ℕ → ℕ → Bool
  in_masks q r e = has_bit (mask_of (has_elevation q)) e || has_bit (mask_of (has_elevation r)) e

  record Cell (q r e : ℕ) : Type 0 where
    pub cell : ℕ
    pub below : cell < cell_count M
    pub mine : is_of ls q r cell ≡ true
    pub high : elevation (cell_at M cell) ≡ e

  cell_of_lem : (l e : ℕ) → e < 8 → has_bit (mask_of (has_elevation l)) e ≡ true → (c : ℕ) × ((c < cell_count M) × ((eqb (get_or ls c 0) l ≡ true) × (elevation (cell_at M c) ≡ e)))
  cell_of_lem l e h t =
      let f = below_first (λ c. eqb (get_or ls c 0) l && eqb (elevation (cell_at M c)) e) (cell_count M) (sym (bit_at (has_elevation l) e (bit_high (has_elevation l) e h t)) ∙ t) in
      let two = both (eqb (get_or ls f.place 0) l) (eqb (elevation (cell_at M f.place)) e) f.found in
      (f.place, (f.below, (two.0, eqb-true _ _ two.1)))

  -- a bit that is set has a cell
  set-cell : (q r e : ℕ) → e < 8 → in_masks q r e ≡ true → Cell q r e
  set-cell q r e h t =
      ⊎_elim
      (λ u.
      let (c, (l, (m, v))) = cell_of_lem q e h u in
      record { cell = c; below = l; mine = ap (λ b. b || eqb (get_or ls c 0) r) m; high = v })
      (λ u.
      let (c, (l, (m, v))) = cell_of_lem r e h u in
      record { cell = c; below = l; mine = ap (λ b. eqb (get_or ls c 0) q || b) m ∙ or-true (eqb (get_or ls c 0) q); high = v })
      (or_split (has_bit (mask_of (has_elevation q)) e) (has_bit (mask_of (has_elevation r)) e) t)

  -- a cell sets the bit
  cell_set : (q r c : ℕ) → c < cell_count M → elevation (cell_at M c) < 4 → is_of ls q r c ≡ true → in_masks q r (elevation (cell_at M c)) ≡ true
  cell_set q r c l h t =
      ⊎_elim (λ u. ap (λ b. b || has_bit (mask_of (has_elevation r)) (elevation (cell_at M c))) (set_by q u))
      (λ u. ap (λ b. has_bit (mask_of (has_elevation q)) (elevation (cell_at M c)) || b) (set_by r u) ∙ or-true (has_bit (mask_of (has_elevation q)) (elevation (cell_at M c))))
      (or_split (eqb (get_or ls c 0) q) (eqb (get_or ls c 0) r) t)
    where
      set_by : (k : ℕ) → eqb (get_or ls c 0) k ≡ true → has_bit (mask_of (has_elevation k)) (elevation (cell_at M c)) ≡ true
      set_by k u =
          bit_at (has_elevation k) (elevation (cell_at M c)) h
          ∙ below_at (cell_count M) (λ d. eqb (get_or ls d 0) k && eqb (elevation (cell_at M d)) (elevation (cell_at M c))) c l (ap₂ ◌&&◌ u (eq-eqb (elevation (cell_at M c)) (elevation (cell_at M c)) refl))

  -- elevations below 4, as check 9 of the table of SPECIFICATION 4 leaves them
  module _ (q r : ℕ) (fits : (c : ℕ) → c < cell_count M → is_of ls q r c ≡ true → elevation (cell_at M c) < 4) where
    pub flat_one : strictly_flat (region_of M ls q) (region_of M ls r) ≡ true → (e : ℕ) × OneElevation M ls q r e
    unfolding strictly_flat joined_ones region_of
    flat_one h =
        let (e, o) = counted_only (in_masks q r) 8 (eqb-true _ _ h) in
        let c = set-cell q r e o.below o.taken in
        (e, record { cell = c.cell; below = c.below; mine = c.mine; high = c.high; all = λ d l m. o.only (elevation (cell_at M d)) (omega (arith, fits d l m)) (cell_set q r d l (fits d l m) m) })

    pub one_flat : (e : ℕ) → OneElevation M ls q r e → strictly_flat (region_of M ls q) (region_of M ls r) ≡ true
    unfolding strictly_flat joined_ones region_of
    one_flat e o =
        eq-eqb _ _
        (only_counted (in_masks q r) 8 e
        (record {
          below = omega (arith, o.high, fits o.cell o.below o.mine);
          taken = subst (λ e. in_masks q r e ≡ true) o.high (cell_set q r o.cell o.below (fits o.cell o.below o.mine) o.mine);
          only = λ k l t.
              let c = set-cell q r k l t in
              sym c.high ∙ o.all c.cell c.below c.mine;
        }))
