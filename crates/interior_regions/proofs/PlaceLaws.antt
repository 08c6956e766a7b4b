-- Where the regions of an interior stand: each is an incident of some boundary, and so stands in a row, and every place of the rows names a region. Assumes nothing.
use Prim.Native.Nat.{ℕ, zero, suc, ◌+◌, ◌-◌, ◌*◌, ◌/◌, ◌%◌, ◌≤◌, ◌<◌}
use native.Mathlib.Omega.{arith}
use native.Mathlib.Nat.{add-zero}
use mathlib.Core.Path.{◌≡◌, refl, sym, ap, subst, ◌∙◌}
use mathlib.Core.Bool.{Bool, true, false, ◌&&◌, ◌||◌, false≢true}
use mathlib.Core.Logic.{◌⊎◌, inl, inr, ⊎_elim}
use mathlib.Core.List.{List}
use lib.ListN.{length, get_or}
use lib.Dec.{eqb, ltb}
use borrow.Author.Tests.{eqb-true, eqb-false, ltb-true, ltb-false}
use Rattle.definitions.specs.Scan.{any, member}
use Rattle.definitions.specs.Grid.{Pair, contains}
use Rattle.definitions.specs.Context.{Context, is_incident}
use Rattle.definitions.specs.RampInteriors.{expand_port}
use Rattle.laws.specs.ListLaws.Lists.{All}
use Rattle.laws.specs.ListLaws.Tests.{both}
use Rattle.laws.specs.ListLaws.Below.{below_first}
use Rattle.laws.specs.RustContext.SoundContext.{Sound}
use Rattle.laws.specs.RustInteriors.ComponentRegions.{named, inside-named}
use Rattle.context.specs.Shown.{ShownPairs, pair_at, pairs_between}
use Rattle.interior_proposals.specs.Owners.{edge}
use Rattle.interior_proposals.specs.Proposals.{own, expanded_of}
use Rattle.interior_proposals.proofs.RowScans.{any-rows_none, any-rows_next, between_at}
use Rattle.interior_proposals.proofs.CandidateLaws.{within}
use Rattle.interior_proposals.proofs.ProposalLaws.{candidate-edge}
use Rattle.interior_proposals.proofs.Apart.{port-leaf}
use Rattle.interior_proposals.proofs.NoConflict.{Fit, region-inside, named_incident}
use Rattle.interior_regions.specs.Places.{region_at, Readable}

-- ---- rows

-- a row that passes
record FoundRow (f : Pair → Bool) (rows : List ℕ) (first end : ℕ) : Type 0 where
  row : ℕ
  from : first ≤ row
  upto : row < end
  passes : f (pair_at rows row) ≡ true

rows-found : (f : Pair → Bool) (rows : List ℕ) (first n : ℕ) → any f (pairs_between rows first (first + n)) ≡ true → FoundRow f rows first (first + n)
rows-found f rows first zero h = absurd (false≢true (sym (ap (λ e. any f (pairs_between rows first e)) (add-zero first) ∙ any-rows_none f rows first) ∙ h))
rows-found f rows first (suc n) h = go (any f (pairs_between rows first (first + n))) refl (f (pair_at rows (first + n))) refl (sym step ∙ h) (rows-found f rows first n)
  where
    next : first + suc n ≡ first + n + 1
    next = omega arith

    step : any f (pairs_between rows first (first + suc n)) ≡ (any f (pairs_between rows first (first + n)) || f (pair_at rows (first + n)))
    step = ap (λ e. any f (pairs_between rows first e)) next ∙ any-rows_next f rows first (first + n) (omega arith)

    go : (a : Bool) → any f (pairs_between rows first (first + n)) ≡ a → (b : Bool) → f (pair_at rows (first + n)) ≡ b → (a || b) ≡ true → (any f (pairs_between rows first (first + n)) ≡ true → FoundRow f rows first (first + n)) → FoundRow f rows first (first + suc n)
    go true e b d k ih =
        let r = ih e in
        record { row = r.row; from = r.from; upto = omega (arith, r.upto); passes = r.passes }
    go false e true d k ih = record { row = first + n; from = omega arith; upto = omega arith; passes = d }
    go false e false d k ih = absurd (false≢true k)

module _ {C : Context} {rows starts : List ℕ} (S : ShownPairs C rows starts) where
  abbrev start_at : ℕ → ℕ
  start_at i = get_or starts i 0

  rise : (i n : ℕ) → i + n ≤ C.count → start_at i ≤ start_at (i + n)
  rise i zero h = omega (arith, ap start_at (add-zero i))
  rise i (suc n) h = omega (arith, rise i n (omega arith), S.rising (i + n) (omega arith), ap start_at next)
    where
      next : i + suc n ≡ i + n + 1
      next = omega arith

  between : (i j : ℕ) → i ≤ j → j ≤ C.count → start_at i ≤ start_at j
  between i j h l = subst (λ k. start_at i ≤ start_at k) same (rise i (j - i) (omega arith))
    where
      same : i + (j - i) ≡ j
      same = omega arith

  pub starts_fit : (i : ℕ) → i ≤ C.count → 2 * start_at i ≤ length rows
  starts_fit i h = omega (arith, between i C.count h (omega arith), S.long)

  pub starts-rise : (i j : ℕ) → i ≤ j → j ≤ C.count → 2 * start_at i ≤ 2 * start_at j
  starts-rise i j h l = omega (arith, between i j h l)

  -- the boundary whose row it is
  record Holder (n row : ℕ) : Type 0 where
    boundary : ℕ
    below : boundary < n
    from : start_at boundary ≤ row
    upto : row < start_at (boundary + 1)

  holder : (n : ℕ) → n ≤ C.count → (row : ℕ) → start_at 0 ≤ row → row < start_at n → Holder n row
  holder zero h row l m = absurd (omega arith)
  holder (suc n) h row l m = go (ltb row (start_at n)) refl (holder n (omega arith) row l)
    where
      next : suc n ≡ n + 1
      next = omega arith

      go : (t : Bool) → ltb row (start_at n) ≡ t → (row < start_at n → Holder n row) → Holder (suc n) row
      go true e ih =
          let r = ih (ltb-true row (start_at n) e) in
          record { boundary = r.boundary; below = omega (arith, r.below); from = r.from; upto = r.upto }
      go false e ih = record { boundary = n; below = omega arith; from = omega (arith, ltb-false row (start_at n) e); upto = subst (λ k. row < start_at k) next m }

  -- ---- places

  parity : (k : ℕ) → (k % 2 ≡ 0) ⊎ (k % 2 ≡ 1)
  parity k = go (eqb (k % 2) 0) refl
    where
      go : (t : Bool) → eqb (k % 2) 0 ≡ t → (k % 2 ≡ 0) ⊎ (k % 2 ≡ 1)
      go true e = inl (eqb-true (k % 2) 0 e)
      go false e = inr (omega (arith, eqb-false (k % 2) 0 e))

  even_is : (k m : ℕ) → k ≡ 2 * m → region_at rows k ≡ (pair_at rows m).lo
  even_is k m e = ap (λ i. get_or rows i 0) (omega (arith, e))

  odd_is : (k m : ℕ) → k ≡ 2 * m + 1 → region_at rows k ≡ (pair_at rows m).hi
  odd_is k m e = ap (λ i. get_or rows i 0) (omega (arith, e))

  readable : (k : ℕ) → 2 * start_at 0 ≤ k → k < 2 * start_at C.count → Readable rows C.regions k
  readable k l m =
      let w = holder C.count (omega arith) (k / 2) (omega arith) (omega arith) in
      let n = between_at {P = λ p. (1 ≤ p.lo) × ((p.lo < p.hi) × (p.hi ≤ C.regions))} rows (start_at w.boundary) (start_at (w.boundary + 1)) (subst (All (λ p. (1 ≤ p.lo) × ((p.lo < p.hi) × (p.hi ≤ C.regions)))) (S.at w.boundary w.below) (S.named w.boundary w.below)) (k / 2) w.from w.upto in
      record {
        whole = omega (arith, S.long);
        from = ⊎_elim (λ e. omega (arith, n.0, even_is k (k / 2) (omega (arith, e)))) (λ e. omega (arith, n.0, n.1.0, odd_is k (k / 2) (omega (arith, e)))) (parity k);
        upto = ⊎_elim (λ e. omega (arith, n.1.0, n.1.1, even_is k (k / 2) (omega (arith, e)))) (λ e. omega (arith, n.1.1, odd_is k (k / 2) (omega (arith, e)))) (parity k);
      }

  -- the places of the rows from one boundary up to another
  module _ (low high : ℕ) (short : high ≤ C.count) (rising : low ≤ high) where
    pub place-readable : (k : ℕ) → 2 * start_at low ≤ k → k < 2 * start_at high → Readable rows C.regions k
    place-readable k l m = readable k (omega (arith, between 0 low (omega arith) (omega arith))) (omega (arith, between high C.count short (omega arith)))

    -- one of region x
    pub record Placed (x : ℕ) : Type 0 where
      pub place : ℕ
      pub from : 2 * start_at low ≤ place
      pub upto : place < 2 * start_at high
      pub region : region_at rows place ≡ x

    pub incident_placed : (j x : ℕ) → low ≤ j → j < high → is_incident C j x ≡ true → Placed x
    unfolding is_incident
    incident_placed j x a b h =
        let r = rows-found (contains x) rows (start_at j) (start_at (j + 1) - start_at j) (subst (λ ps. any (contains x) ps ≡ true) (S.at j (omega arith) ∙ ap (pairs_between rows (start_at j)) (sym same)) h) in
        go r.row (omega (arith, r.from, between low j a (omega arith))) (omega (arith, r.upto, same, between (j + 1) high (omega arith) short))
        (eqb (pair_at rows r.row).lo x) refl (eqb (pair_at rows r.row).hi x) refl r.passes
      where
        same : start_at j + (start_at (j + 1) - start_at j) ≡ start_at (j + 1)
        same = omega (arith, S.rising j (omega arith))

        go : (m : ℕ) → start_at low ≤ m → m < start_at high → (a : Bool) → eqb (pair_at rows m).lo x ≡ a → (b : Bool) → eqb (pair_at rows m).hi x ≡ b → (a || b) ≡ true → Placed x
        go m u v true e b d k = record { place = 2 * m; from = omega arith; upto = omega arith; region = even_is (2 * m) m refl ∙ eqb-true _ x e }
        go m u v false e true d k = record { place = 2 * m + 1; from = omega arith; upto = omega arith; region = odd_is (2 * m + 1) m refl ∙ eqb-true _ x d }
        go m u v false e false d k = absurd (false≢true k)

-- ---- the regions of an interior

-- the edges of a component and its ports are among the boundaries from `low` on, before `high`
pub record Spanned (C : Context) (r a b low high : ℕ) : Type 0 where
  pub upto : high ≤ C.count
  pub edges : (j : ℕ) → j < C.count → edge C r j ≡ true → (low ≤ j) × (j < high)
  pub first : (low ≤ a) × (a < high)
  pub second : (low ≤ b) × (b < high)

module _ {C : Context} (S : Sound C) {r a b low high : ℕ} (F : Fit C S r a b) (N : Spanned C r a b low high) where
  abbrev Incident : ℕ → Type 0
  Incident x = (j : ℕ) × ((low ≤ j) × ((j < high) × (is_incident C j x ≡ true)))

  own_incident : (x : ℕ) → member x (own C r).regions ≡ true → Incident x
  own_incident x h =
      let f = below_first (λ j. edge C r j && named C (within S) r x j) C.count (inside-named C (within S) r x F.from (candidate-edge C r F.cand) (region-inside C S r F.from F.cand x h)) in
      let t = both (edge C r f.place) (named C (within S) r x f.place) f.found in
      let e = N.edges f.place f.below t.0 in
      (f.place, (e.0, (e.1, named_incident C S x f.place t.1)))

  pub expanded_incident : (x : ℕ) → member x (expanded_of C r a b).regions ≡ true → Incident x
  expanded_incident x h = ⊎_elim
      (λ m. ⊎_elim (own_incident x) (λ e. (a, (N.first.0, (N.first.1, e.single.mine)))) (port-leaf C a (own C r) x m))
      (λ e. (b, (N.second.0, (N.second.1, e.single.mine)))) (port-leaf C b (expand_port C (own C r) a) x h)
