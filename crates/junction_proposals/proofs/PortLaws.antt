-- What the full pairs say of the ports of a union: the walk over them says what `ports_fit` says, and where it does every port is a full pair that names one of
-- the two regions. The argument: each full pair that names a region is an incident of it, so that where as many name it as it has incidents, every incident is
-- such a full pair. Assumes that the lists show the full pairs and the counts of incidents.
use Prim.Native.Nat.{ℕ, ◌-◌, ◌<◌, ◌≤◌}
use native.Mathlib.Omega.{arith}
use mathlib.Core.Path.{◌≡◌, refl, sym, ap, ap₂, ◌∙◌}
use mathlib.Core.Bool.{Bool, true, false, not, ◌&&◌, ◌||◌, or-false, or-true, true≢false, false≢true}
use Rattle.std.specs.Prelude.{Option, None, Some}
use mathlib.Core.List.{List, [], ◌∷◌}
use lib.ListN.{get_or}
use lib.Dec.{eqb}
use borrow.Author.Tests.{eq-eqb, eqb-true}
use Rattle.definitions.specs.Scan.{any, any_below_lem, all_below, count_below}
use Rattle.definitions.specs.Grid.{Pair, contains}
use Rattle.definitions.specs.Context.{Context, only_pair, full_cut, full_pair, holds, is_incident, incident_count}
use Rattle.definitions.specs.Junctions.{is_some, fits_union, is_union_port, ports_fit}
use Rattle.laws.specs.ListLaws.Tests.{both, same_test}
use Rattle.laws.specs.ListLaws.Below.{count_ext, below_none, all_below_at}
use Rattle.laws.specs.ListLaws.ScansOfAll.{all_ext, all_and}
use Rattle.laws.specs.ListLaws.ScanSteps.{count_same, all_intro, any-fails_at}
use Rattle.context.specs.Shown.{ShownFullPairs, ShownIncidents}
use Rattle.junction_proposals.specs.Ports.{names, is_fit, is_unfit, region_fits, walk_fits, is_port}
use Rattle.region_pairs.specs.declared.Pair as declared

-- ---- full pairs and incidents

module _ (C : Context) (j r : ℕ) where
  -- a boundary that is a full pair is an incident of what the pair names
  pub full_incident : is_some (full_pair C j) ≡ true → is_incident C j r ≡ holds (full_pair C j) (contains r)
  unfolding full_pair is_incident any
  full_incident h = go (full_cut C j) (C.pairs j) h
    where
      go : (b : Bool) (l : List Pair) → is_some (only_pair b l) ≡ true → any (contains r) l ≡ holds (only_pair b l) (contains r)
      go true [] e = absurd (false≢true e)
      go true (p ∷ []) e = or-false (contains r p)
      go true (p ∷ q ∷ l) e = absurd (false≢true e)
      go false l e = absurd (false≢true e)

  pub holds_some : (f : Pair → Bool) → holds (full_pair C j) f ≡ true → is_some (full_pair C j) ≡ true
  holds_some f h = go (full_pair C j) h
    where
      go : (o : Option Pair) → holds o f ≡ true → is_some o ≡ true
      go None e = e
      go (Some p) e = refl

  pub named_incident : holds (full_pair C j) (contains r) ≡ true → is_incident C j r ≡ true
  named_incident h = full_incident (holds_some (contains r) h) ∙ h

-- ---- the walk

module _ (C : Context) (full : List (Option declared.Pair)) (counts : List ℕ) (pairs : ShownFullPairs C full) (incidents : ShownIncidents C counts) where
  pub names_is : (r j : ℕ) → j < C.count → names full r j ≡ holds (full_pair C j) (contains r)
  unfolding names
  names_is r j l = ap (λ o. holds o (contains r)) (pairs.at j l)

  fit_is : (p : Pair) (j : ℕ) → j < C.count → is_fit full p j ≡ holds (full_pair C j) (fits_union p)
  unfolding is_fit
  fit_is p j l = ap (λ o. holds o (fits_union p)) (pairs.at j l)

  module _ (i : ℕ) (p : Pair) where
    -- what the walk asks of an incident of r
    abbrev passes : ℕ → ℕ → Bool
    passes r j = not (is_incident C j r) || (eqb j i || holds (full_pair C j) (fits_union p))

    abbrev fits : ℕ → Bool
    fits r = region_fits full counts C.count i p r

    module _ (r : ℕ) (low : 1 ≤ r) (high : r ≤ C.regions) where
      counted : count_below C.count (λ j. is_incident C j r) ≡ get_or counts (r - 1) 0
      unfolding incident_count
      counted = incidents.at r low high

      -- where the region fits, its incidents are the full pairs that name it
      pub fits-names : fits r ≡ true → (j : ℕ) → j < C.count → is_incident C j r ≡ names full r j
      unfolding region_fits
      fits-names h =
          let tests = both (not (any_below_lem C.count (is_unfit full i p r))) (eqb (count_below C.count (names full r)) (get_or counts (r - 1) 0)) h in
          count_same (names full r) (λ j. is_incident C j r) C.count (λ j l e. named_incident C j r (sym (names_is r j l) ∙ e))
          (eqb-true (count_below C.count (names full r)) (get_or counts (r - 1) 0) tests.1 ∙ sym counted)

      fits-passes : fits r ≡ true → all_below C.count (passes r) ≡ true
      unfolding region_fits is_unfit
      fits-passes h = all_intro (passes r) C.count (λ j l. at j l (names full r j) refl)
        where
          none_unfit : any_below_lem C.count (is_unfit full i p r) ≡ false
          none_unfit = negated (any_below_lem C.count (is_unfit full i p r)) (both (not (any_below_lem C.count (is_unfit full i p r))) (eqb (count_below C.count (names full r)) (get_or counts (r - 1) 0)) h).0
            where
              negated : (b : Bool) → not b ≡ true → b ≡ false
              negated true e = absurd (false≢true e)
              negated false e = refl

          fit : (a b : Bool) → (not a && not b) ≡ false → (a || b) ≡ true
          fit true b e = refl
          fit false true e = refl
          fit false false e = absurd (true≢false e)

          at : (j : ℕ) → j < C.count → (n : Bool) → names full r j ≡ n → passes r j ≡ true
          at j l true e =
              ap₂ (λ a b. not a || b) (fits-names h j l ∙ e)
              (fit (eqb j i) (holds (full_pair C j) (fits_union p))
              (ap₂ (λ a b. a && (not (eqb j i) && not b)) (sym e) (sym (fit_is p j l)) ∙ any-fails_at (is_unfit full i p r) C.count none_unfit j l))
          at j l false e = ap (λ a. not a || (eqb j i || holds (full_pair C j) (fits_union p))) (fits-names h j l ∙ e)

      module _ (own : full_pair C i ≡ Some p) (side : contains r p ≡ true) where
        -- where every incident passes, it is a full pair
        passes-names : all_below C.count (passes r) ≡ true → (j : ℕ) → j < C.count → names full r j ≡ is_incident C j r
        passes-names h j l = names_is r j l ∙ sym (go (is_incident C j r) refl (all_below_at C.count (passes r) h j l))
          where
            by_full : holds (full_pair C j) (fits_union p) ≡ true → is_incident C j r ≡ holds (full_pair C j) (contains r)
            by_full e = full_incident C j r (holds_some C j r (fits_union p) e)

            named : (t : Bool) → eqb j i ≡ t → (t || holds (full_pair C j) (fits_union p)) ≡ true → is_incident C j r ≡ holds (full_pair C j) (contains r)
            named true t e = full_incident C j r (ap (λ k. is_some (full_pair C k)) (eqb-true j i t) ∙ ap is_some own)
            named false t e = by_full e

            none_named : (b : Bool) → holds (full_pair C j) (contains r) ≡ b → is_incident C j r ≡ false → false ≡ b
            none_named true e d = absurd (true≢false (sym (named_incident C j r e) ∙ d))
            none_named false e d = refl

            go : (b : Bool) → is_incident C j r ≡ b → (not b || (eqb j i || holds (full_pair C j) (fits_union p))) ≡ true → is_incident C j r ≡ holds (full_pair C j) (contains r)
            go true d e = named (eqb j i) refl e
            go false d e = d ∙ none_named (holds (full_pair C j) (contains r)) refl d

        passes-fits : all_below C.count (passes r) ≡ true → fits r ≡ true
        unfolding region_fits is_unfit
        passes-fits h =
            ap₂ (λ a b. not a && b) (below_none C.count (is_unfit full i p r) (λ j l. at j l (is_incident C j r) refl (all_below_at C.count (passes r) h j l)))
            (eq-eqb (count_below C.count (names full r)) (get_or counts (r - 1) 0) (count_ext C.count (names full r) (λ j. is_incident C j r) (passes-names h) ∙ counted))
          where
            fit : (a b : Bool) → (a || b) ≡ true → (not a && not b) ≡ false
            fit true b e = refl
            fit false true e = refl
            fit false false e = absurd (false≢true e)

            at : (j : ℕ) → j < C.count → (b : Bool) → is_incident C j r ≡ b → (not b || (eqb j i || holds (full_pair C j) (fits_union p))) ≡ true → is_unfit full i p r j ≡ false
            at j l true d e =
                ap₂ (λ a b. a && (not (eqb j i) && not b)) (passes-names h j l ∙ d) (fit_is p j l) ∙ fit (eqb j i) (holds (full_pair C j) (fits_union p)) e
            at j l false d e = ap (λ a. a && (not (eqb j i) && not (is_fit full p j))) (passes-names h j l ∙ d)

        region_is : fits r ≡ all_below C.count (passes r)
        region_is = same_test fits-passes passes-fits

    -- a boundary that is a full pair, and its two regions
    module _ (low : 1 ≤ p.lo) (high : p.hi ≤ C.regions) (ordered : p.lo < p.hi) where
      module _ (own : full_pair C i ≡ Some p) where
        -- what is asked of j as an incident of either region
        asked : (j : ℕ) → (passes p.lo j && passes p.hi j) ≡ (not (is_union_port C i p j) || holds (full_pair C j) (fits_union p))
        unfolding is_union_port
        asked j = order (eqb j i) (is_incident C j p.lo) (is_incident C j p.hi) (holds (full_pair C j) (fits_union p))
          where
            order : (e a b u : Bool) → ((not a || (e || u)) && (not b || (e || u))) ≡ (not (not e && (a || b)) || u)
            order true true true u = refl
            order true true false u = refl
            order true false true u = refl
            order true false false u = refl
            order false true true true = refl
            order false true true false = refl
            order false true false true = refl
            order false true false false = refl
            order false false true u = refl
            order false false false u = refl

        pub walk_is : walk_fits full counts C.count i p ≡ ports_fit C i p
        unfolding walk_fits ports_fit
        walk_is =
            ap₂ ◌&&◌ (region_is p.lo low (omega arith) own (ap (λ b. b || eqb p.hi p.lo) (eq-eqb p.lo p.lo refl))) (region_is p.hi (omega arith) high own (ap (λ b. eqb p.lo p.hi || b) (eq-eqb p.hi p.hi refl) ∙ or-true (eqb p.lo p.hi)))
            ∙ all_and (passes p.lo) (passes p.hi) C.count
            ∙ all_ext (λ j. passes p.lo j && passes p.hi j) (λ j. not (is_union_port C i p j) || holds (full_pair C j) (fits_union p)) C.count (λ j l. asked j)

      -- where the walk goes through, the ports are full pairs that name a region of the union
      pub port_is : walk_fits full counts C.count i p ≡ true → (j : ℕ) → j < C.count → is_union_port C i p j ≡ is_port full i p j
      unfolding walk_fits is_union_port is_port
      port_is h j l =
          let tests = both (fits p.lo) (fits p.hi) h in
          ap₂ (λ a b. not (eqb j i) && (a || b)) (fits-names p.lo low (omega arith) tests.0 j l) (fits-names p.hi (omega arith) high tests.1 j l)

      -- and so for each of the two regions
      pub region-ports : walk_fits full counts C.count i p ≡ true → (j : ℕ) → j < C.count → (is_incident C j p.lo ≡ names full p.lo j) × (is_incident C j p.hi ≡ names full p.hi j)
      unfolding walk_fits
      region-ports h j l =
          let tests = both (fits p.lo) (fits p.hi) h in
          (fits-names p.lo low (omega arith) tests.0 j l, fits-names p.hi (omega arith) high tests.1 j l)
