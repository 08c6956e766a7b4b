-- The full pairs that name one region of a union are among the union's incidents, so that a walk over these says what a scan of all boundaries says: one that is unfit
-- ends it, and if none is, the region fits exactly where as many were met as it has incidents. Assumes nothing.
use Prim.Native.Nat.{ℕ, zero, suc, ◌+◌, ◌-◌, ◌≤◌, ◌<◌}
use native.Mathlib.Omega.{arith}
use mathlib.Core.Path.{◌≡◌, refl, sym, ap, ap₂, ◌∙◌}
use mathlib.Core.Bool.{Bool, true, false, not, ◌&&◌, ◌||◌, cond, and-true, or-true}
use Rattle.std.specs.Prelude.{Option}
use mathlib.Core.List.{List, [], ◌∷◌}
use lib.ListN.{length, get_or, take, length-append}
use lib.Dec.{eqb}
use borrow.Author.Tests.{eqb-true, eq-eqb}
use Rattle.std.specs.List.{list_any, list_all, filter}
use Rattle.std.proofs.lemmas.List.{take_all}
use Rattle.std.proofs.lemmas.List.Folds.{list_any_more, list_all_more, list_any_at, list_all_at}
use Rattle.std.proofs.lemmas.List.Elements.{filter_more}
use Rattle.definitions.specs.Scan.{any_below_lem, count_below}
use Rattle.definitions.specs.Grid.{Pair, contains}
use Rattle.definitions.specs.Context.{holds}
use Rattle.definitions.specs.Junctions.{fits_union}
use Rattle.region_pairs.specs.declared.Pair as declared
use Rattle.laws.specs.ListLaws.Below.{below_ext, count_ext}
use Rattle.junction_proposals.specs.Ports.{pair_of, names, names_either, is_fit, is_unfit, region_fits, walk_fits, incidents_of}
use Rattle.junction_proposals.proofs.Incidents.{any_listed, count_listed}

module _ (full : List (Option declared.Pair)) (p : Pair) (r : ℕ) (side : contains r p ≡ true) where
  absorbed : (j : ℕ) → (names_either full p j && names full r j) ≡ names full r j
  absorbed j = go (eqb p.lo r) refl (eqb p.hi r) refl side
    where
      low : (a b : Bool) → ((a || b) && a) ≡ a
      low true b = refl
      low false true = refl
      low false false = refl

      high : (a b : Bool) → ((a || b) && b) ≡ b
      high true b = refl
      high false true = refl
      high false false = refl

      go : (t : Bool) → eqb p.lo r ≡ t → (u : Bool) → eqb p.hi r ≡ u → (t || u) ≡ true → (names_either full p j && names full r j) ≡ names full r j
      go true e u d h = rw (sym (eqb-true p.lo r e)) (low (names full p.lo j) (names full p.hi j))
      go false e true d h = rw (sym (eqb-true p.hi r d)) (high (names full p.lo j) (names full p.hi j))
      go false e false d h = cc

  -- the list is the union's incidents below n
  pub any-unfit : (i n : ℕ) {l : List ℕ} → l ≡ incidents_of full n p → list_any (is_unfit full i p r) l ≡ any_below_lem n (is_unfit full i p r)
  unfolding is_unfit
  any-unfit i n e =
      ap (list_any (is_unfit full i p r)) e ∙ any_listed full p (is_unfit full i p r) n
      ∙ below_ext n _ _ (λ j l. regroup (names_either full p j) (names full r j) (not (eqb j i) && not (is_fit full p j)) ∙ ap (λ b. b && (not (eqb j i) && not (is_fit full p j))) (absorbed j))
    where
      regroup : (a b c : Bool) → (a && (b && c)) ≡ ((a && b) && c)
      regroup true b c = refl
      regroup false b c = refl

  pub count-named : (n : ℕ) {l : List ℕ} → l ≡ incidents_of full n p → length (filter (names full r) l) ≡ count_below n (names full r)
  count-named n e = ap (λ l. length (filter (names full r) l)) e ∙ count_listed full p (names full r) n ∙ count_ext n _ _ (λ j l. absorbed j)

-- ---- the walk over one region's

module _ (full : List (Option declared.Pair)) (i : ℕ) (p : Pair) (r : ℕ) (xs : List ℕ) where
  -- of the first k none is unfit, and `met` of them name r
  pub record Met (k met : ℕ) : Type 0 where
    pub fit : list_any (is_unfit full i p r) (take k xs) ≡ false
    pub many : met ≡ length (filter (names full r) (take k xs))
    pub few : met ≤ k

  pub met_start : Met 0 0
  met_start = record { fit = refl; many = refl; few = omega arith }

  module _ (k : ℕ) (inside : k < length xs) where
    abbrev entry : ℕ
    entry = get_or xs k 0

    unfit-next : list_any (is_unfit full i p r) (take k xs) ≡ false → is_unfit full i p r entry ≡ false → list_any (is_unfit full i p r) (take (k + 1) xs) ≡ false
    unfit-next h e = list_any_more (is_unfit full i p r) xs k 0 inside ∙ ap₂ ◌||◌ h e

    filter-next : {b : Bool} → names full r entry ≡ b → length (filter (names full r) (take (k + 1) xs)) ≡ length (filter (names full r) (take k xs)) + length (cond b (entry ∷ []) [])
    filter-next e =
        ap length (filter_more (names full r) xs k 0 inside) ∙ length-append (filter (names full r) (take k xs)) (cond (names full r entry) (entry ∷ []) [])
        ∙ ap (λ b. length (filter (names full r) (take k xs)) + length (cond b (entry ∷ []) [])) e

    -- one that does not name r, and one that does: what the two tests returned
    pub met-other : {met now : ℕ} {t : Bool} → Met k met → t ≡ holds (pair_of full entry) (contains r) → t ≡ false → now ≡ met → Met (k + 1) now
    unfolding names is_unfit
    met-other m e h q =
        record {
          fit = unfit-next m.fit (ap (λ b. b && (not (eqb entry i) && not (is_fit full p entry))) (sym e ∙ h));
          many = omega (arith, q, m.many, filter-next (sym e ∙ h));
          few = omega (arith, q, m.few);
        }

    pub met-named : {met now : ℕ} {t f : Bool} → Met k met → t ≡ holds (pair_of full entry) (contains r) → t ≡ true → f ≡ holds (pair_of full entry) (fits_union p) → (not (eqb entry i) && not f) ≡ false → now ≡ met + 1 → Met (k + 1) now
    unfolding names is_unfit is_fit
    met-named m e h d g q =
        record {
          fit = unfit-next m.fit (ap₂ (λ a b. a && (not (eqb entry i) && not b)) (sym e ∙ h) (sym d) ∙ g);
          many = omega (arith, q, m.many, filter-next (sym e ∙ h));
          few = omega (arith, q, m.few);
        }

    pub met-unfit : {t f : Bool} → t ≡ holds (pair_of full entry) (contains r) → t ≡ true → f ≡ holds (pair_of full entry) (fits_union p) → (not (eqb entry i) && not f) ≡ true → list_any (is_unfit full i p r) xs ≡ true
    unfolding names is_unfit is_fit
    met-unfit e h d g = list_any_at (is_unfit full i p r) xs k 0 inside (ap₂ (λ a b. a && (not (eqb entry i) && not b)) (sym e ∙ h) (sym d) ∙ g)

  -- what the walk says of the region
  module _ (counts : List ℕ) (count : ℕ) (side : contains r p ≡ true) (listed : xs ≡ incidents_of full count p) where
    pub region-stops : list_any (is_unfit full i p r) xs ≡ true → region_fits full counts count i p r ≡ false
    unfolding region_fits
    region-stops h = ap (λ b. not b && eqb (count_below count (names full r)) (get_or counts (r - 1) 0)) (sym (any-unfit full p r side i count listed) ∙ h)

    pub region-counted : {k met : ℕ} → Met k met → length xs ≤ k → region_fits full counts count i p r ≡ eqb met (get_or counts (r - 1) 0)
    unfolding region_fits
    region-counted {k} m h =
        let all : take k xs ≡ xs = take_all k xs h in
        ap₂ (λ b n. not b && eqb n (get_or counts (r - 1) 0)) (sym (any-unfit full p r side i count listed) ∙ ap (list_any (is_unfit full i p r)) (sym all) ∙ m.fit)
        (sym (m.many ∙ ap (λ l. length (filter (names full r) l)) all ∙ count-named full p r side count listed))

-- ---- the walk over both regions

module _ (full : List (Option declared.Pair)) (counts : List ℕ) (count i : ℕ) (p : Pair) where
  abbrev pub both_sides : List ℕ
  both_sides = p.lo ∷ p.hi ∷ []

  abbrev fits : ℕ → Bool
  fits = region_fits full counts count i p

  walk_is_all : list_all fits both_sides ≡ walk_fits full counts count i p
  unfolding walk_fits
  walk_is_all = ap (λ b. fits p.lo && b) (and-true (fits p.hi))

  pub walk-stops : (s : ℕ) → s < 2 → fits (get_or both_sides s 0) ≡ false → false ≡ walk_fits full counts count i p
  walk-stops s h e = sym (list_all_at fits both_sides s 0 h e) ∙ walk_is_all

  pub walk-next : (s : ℕ) → s < 2 → list_all fits (take s both_sides) ≡ true → fits (get_or both_sides s 0) ≡ true → list_all fits (take (s + 1) both_sides) ≡ true
  walk-next s h a e = list_all_more fits both_sides s 0 h ∙ ap₂ ◌&&◌ a e

  pub walk-ends : {b : Bool} (s : ℕ) → 2 ≤ s → b ≡ true → list_all fits (take s both_sides) ≡ true → b ≡ walk_fits full counts count i p
  walk-ends s h e a = e ∙ sym a ∙ ap (list_all fits) (take_all s both_sides h) ∙ walk_is_all

-- either side is a region of the union
pub side_named : (p : Pair) (s : ℕ) → s < 2 → contains (get_or (p.lo ∷ p.hi ∷ []) s 0) p ≡ true
side_named p zero h = ap (λ b. b || eqb p.hi p.lo) (eq-eqb p.lo p.lo refl)
side_named p (suc zero) h = ap (λ b. eqb p.lo p.hi || b) (eq-eqb p.hi p.hi refl) ∙ or-true (eqb p.lo p.hi)
side_named p (suc (suc s)) h = absurd (omega arith)
