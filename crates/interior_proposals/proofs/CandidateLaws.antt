-- Candidates, from the owners of boundaries: an edge whose owner is the component has all its pairs there, and every other edge of it spoils it. Assumes nothing.
use Prim.Native.Nat.{ℕ, zero, suc, ◌+◌, ◌-◌, ◌%◌, ◌≤◌, ◌<◌}
use native.Mathlib.Omega.{arith}
use mathlib.Core.Path.{◌≡◌, refl, sym, ap, ap₂, ◌∙◌}
use mathlib.Core.Bool.{Bool, true, false, not, ◌&&◌, ◌||◌, cond, and-true, and-false, true≢false, false≢true}
use mathlib.Core.List.{List, []}
use lib.ListN.{length, get_or, take}
use lib.Dec.{eqb, leb}
use borrow.Author.Tests.{eq-eqb, ne_eqb, not-true}
use Rattle.std.specs.Prelude.{MatchBool}
use Rattle.std.specs.List.{filter}
use Rattle.std.proofs.lemmas.List.Filters.{length-filter_more}
use Rattle.definitions.specs.Scan.{any, any_below_lem, all_below, count_below, gather, bit}
use Rattle.definitions.specs.Context.{Context, incident_count}
use Rattle.definitions.specs.MouthShapes.{regions_of}
use Rattle.definitions.specs.RampInteriors.{is_ordinary, components, component_of, is_edge, edges_of, component_regions, is_candidate, is_port, max_interior_edges}
use Rattle.laws.specs.ListLaws.Lists.{All, all_map, all_both, any-gather}
use Rattle.laws.specs.ListLaws.ListsAsSets.{any-add_all}
use Rattle.laws.specs.ListLaws.Tests.{both}
use Rattle.laws.specs.ListLaws.Chains.{any_is}
use Rattle.laws.specs.ListLaws.ScanSteps.{any-fails_at}
use Rattle.laws.specs.SetLaws.Sets.{numbers_below, length-below}
use Rattle.laws.specs.RegionLaws.Merging.{Within}
use Rattle.laws.specs.RustMouths.Triangles.{any-regions}
use Rattle.laws.specs.RustContext.SoundContext.{Sound}
use Rattle.laws.specs.RustInteriors.ComponentRegions.{inside, edge_is}
use Rattle.context.specs.Shown.{pairs_between}
use Rattle.interior_proposals.specs.Given.{flags_of, Marked}
use Rattle.context.specs.declared.found_regions.FoundRegions.{FoundRegions}
use Rattle.interior_proposals.specs.Owners.{pair_named, nobody, one_owner, several, owned_by, owner_at, all_in_lem, edge, Owned, Owners}
use Rattle.interior_proposals.specs.Candidates.{Mapped, is_marked, pair_marked, spoils_at, candidate, port}
use Rattle.interior_proposals.proofs.Commons.{any_same, several_one}

-- ---- tests

-- one test of each number for two
pub split-tests : (e a b : ℕ → Bool) (n : ℕ) → (all_below n (λ i. not (e i) || a i) && not (any_below_lem n (λ i. e i && b i))) ≡ not (any_below_lem n (λ i. e i && (not (a i) || b i)))
unfolding all_below any_below_lem
split-tests e a b zero = refl
split-tests e a b (suc n) = go (all_below n (λ i. not (e i) || a i)) (any_below_lem n (λ i. e i && b i)) (any_below_lem n (λ i. e i && (not (a i) || b i))) (e n) (a n) (b n) (split-tests e a b n)
  where
    go : (p q s x y z : Bool) → (p && not q) ≡ not s → (p && (not x || y) && not (q || (x && z))) ≡ not (s || (x && (not y || z)))
    go true true true x y z h = last (not x || y)
      where
        last : (t : Bool) → (t && false) ≡ false
        last true = refl
        last false = refl
    go true true false x y z h = absurd (false≢true h)
    go true false true x y z h = absurd (true≢false h)
    go true false false true true z h = refl
    go true false false true false z h = refl
    go true false false false y z h = refl
    go false q true x y z h = refl
    go false q false x y z h = absurd (false≢true h)

-- ---- what a mark says

pub flags_anchored : (a s e : Bool) → eqb (flags_of a s e % 2) 1 ≡ a
unfolding flags_of
flags_anchored true true true = refl
flags_anchored true true false = refl
flags_anchored true false true = refl
flags_anchored true false false = refl
flags_anchored false true true = refl
flags_anchored false true false = refl
flags_anchored false false true = refl
flags_anchored false false false = refl

pub marked-anchored : {C : Context} {ext : ℕ → Bool} {marks : List ℕ} → Marked C ext marks → (x : ℕ) → 1 ≤ x → x ≤ C.regions → is_marked marks x ≡ C.anchored x
marked-anchored {C} {ext} M x a b = ap (λ n. eqb (n % 2) 1) (M.at x a b) ∙ flags_anchored (C.anchored x) (eqb (incident_count C x) 1) (ext x)

-- ---- a candidate

module _ (C : Context) (r : ℕ) where
  anchored_scan : any C.anchored (component_regions C (components C) r) ≡ any_below_lem C.count (λ i. edge C r i && any C.anchored (regions_of (C.pairs i)))
  unfolding component_regions any
  anchored_scan =
      any-add_all C.anchored [] (gather C.count (λ i. cond (edge C r i) (regions_of (C.pairs i)) []))
      ∙ any-gather C.anchored C.count (λ i. cond (edge C r i) (regions_of (C.pairs i)) [])
      ∙ (λ j. any_below_lem C.count (λ i. at i (edge C r i) j))
    where
      at : (i : ℕ) (b : Bool) → any C.anchored (cond b (regions_of (C.pairs i)) []) ≡ (b && any C.anchored (regions_of (C.pairs i)))
      at i true = refl
      at i false = refl

  edges-counted : length (edges_of C (components C) r) ≡ count_below C.count (edge C r)
  unfolding edges_of numbers_below
  edges-counted = length-below (edge C r) C.count

  pub candidate_is : candidate C r ≡ (eqb (component_of C (components C) r) r && (leb 1 (count_below C.count (edge C r)) && leb (count_below C.count (edge C r)) max_interior_edges) && not (any_below_lem C.count (spoils_at C r)))
  unfolding is_candidate spoils_at
  candidate_is =
      (λ j. eqb (component_of C (components C) r) r && leb 1 (edges-counted j) && leb (edges-counted j) max_interior_edges && all_below C.count (λ i. not (edge C r i) || all_in_lem C r i) && not (anchored_scan j))
      ∙ order (eqb (component_of C (components C) r) r) (leb 1 (count_below C.count (edge C r))) (leb (count_below C.count (edge C r)) max_interior_edges) (all_below C.count (λ i. not (edge C r i) || all_in_lem C r i)) (not (any_below_lem C.count (λ i. edge C r i && any C.anchored (regions_of (C.pairs i)))))
      ∙ ap (λ t. eqb (component_of C (components C) r) r && (leb 1 (count_below C.count (edge C r)) && leb (count_below C.count (edge C r)) max_interior_edges) && t)
      (split-tests (edge C r) (all_in_lem C r) (λ i. any C.anchored (regions_of (C.pairs i))) C.count)
    where
      order : (a b c d e : Bool) → (a && b && c && d && e) ≡ (a && (b && c) && (d && e))
      order true true true d e = refl
      order true true false d e = refl
      order true false c d e = refl
      order false b c d e = refl

  abbrev named : Bool
  named = eqb (component_of C (components C) r) r

  abbrev some : Bool
  some = leb 1 (count_below C.count (edge C r))

  abbrev few : Bool
  few = leb (count_below C.count (edge C r)) max_interior_edges

  abbrev spoilt_any : Bool
  spoilt_any = any_below_lem C.count (spoils_at C r)

  module _ (h : candidate C r ≡ true) where
    parts : ((named && (some && few)) ≡ true) × (not spoilt_any ≡ true)
    parts = both (named && (some && few)) (not spoilt_any) (sym candidate_is ∙ h)

    pub candidate_some : leb 1 (count_below C.count (edge C r)) ≡ true
    candidate_some = (both some few (both named (some && few) parts.0).1).0

    pub candidate_unspoilt : (i : ℕ) → i < C.count → spoils_at C r i ≡ false
    candidate_unspoilt = any-fails_at (spoils_at C r) C.count (not-true spoilt_any parts.1)

  -- what a chain over the boundaries gives, where its test is told of boundaries of C alone
  spoilt_is : {count : ℕ} → C.count ≡ count → (t : Bool) → MatchBool t ((k : ℕ) × (0 ≤ k) × (k < count) × (k < C.count → spoils_at C r k ≡ true)) ((k : ℕ) → 0 ≤ k → k < count → k < C.count → spoils_at C r k ≡ false) → t ≡ spoilt_any
  spoilt_is e true (k, a, l, h) =
      let m : k < C.count = omega arith in
      any_is (spoils_at C r) C.count true (k, a, m, h m)
  spoilt_is e false h = any_is (spoils_at C r) C.count false (λ k a l. h k a (omega arith) l)

  module _ {count : ℕ} (e : C.count ≡ count) (t : Bool) (chain : MatchBool t ((k : ℕ) × (0 ≤ k) × (k < count) × (k < C.count → spoils_at C r k ≡ true)) ((k : ℕ) → 0 ≤ k → k < count → k < C.count → spoils_at C r k ≡ false)) where
    pub spoilt : t ≡ true → false ≡ candidate C r
    spoilt h = sym (candidate_is ∙ ap (λ t. named && (some && few) && not t) (sym (spoilt_is e t chain) ∙ h) ∙ and-false (named && (some && few)))

    pub unspoilt : t ≡ false → spoilt_any ≡ false
    unspoilt h = sym (spoilt_is e t chain) ∙ h

  pub unnamed : named ≡ false → candidate C r ≡ false
  unnamed e = candidate_is ∙ ap (λ t. t && (some && few) && not spoilt_any) e

  -- n is the number of edges that was counted
  pub counted-candidate : {n : ℕ} → named ≡ true → n ≡ count_below C.count (edge C r) → spoilt_any ≡ false → (leb 1 n && leb n max_interior_edges) ≡ candidate C r
  counted-candidate {n} a e c =
      sym
      (candidate_is ∙ (λ j. a j && (leb 1 (e' j) && leb (e' j) max_interior_edges) && not (c j)) ∙ and-true (leb 1 n && leb n max_interior_edges))
    where
      e' : count_below C.count (edge C r) ≡ n
      e' = sym e

-- ---- a boundary and its owner

module _ (C : Context) (r i : ℕ) {v : FoundRegions} (from : 1 ≤ r) (upto : r ≤ C.regions) (o : Owned C i v) where
  -- an edge that does not spoil the component is owned by it
  pub edge-owned : spoils_at C r i ≡ false → owned_by r v ≡ edge C r i
  unfolding spoils_at
  edge-owned h = o.whole r from upto ∙ go (edge C r i) (all_in_lem C r i) (any C.anchored (regions_of (C.pairs i))) h
    where
      go : (e a b : Bool) → (e && (not a || b)) ≡ false → (e && a) ≡ e
      go true true b q = refl
      go true false b q = absurd (true≢false q)
      go false a b q = refl

  spoils_own : owned_by r v ≡ true → spoils_at C r i ≡ any C.anchored (regions_of (C.pairs i))
  unfolding spoils_at
  spoils_own e =
      let t = both (edge C r i) (all_in_lem C r i) (sym (o.whole r from upto) ∙ e) in
      ap₂ (λ x y. x && (not y || any C.anchored (regions_of (C.pairs i)))) t.0 t.1

  edge_other : owned_by r v ≡ false → (v ≡ several → ⊥) → edge C r i ≡ false
  edge_other n m = go (edge C r i) refl
    where
      go : (b : Bool) → edge C r i ≡ b → b ≡ false
      go true e = absurd (true≢false (sym (o.whole r from upto ∙ ap₂ ◌&&◌ e (o.part r from upto e m)) ∙ n))
      go false e = refl

  pub spoils_other : owned_by r v ≡ false → (v ≡ several → ⊥) → spoils_at C r i ≡ false
  unfolding spoils_at
  spoils_other n m = ap (λ x. x && (not (all_in_lem C r i) || any C.anchored (regions_of (C.pairs i)))) (edge_other n m)

  -- the component n is the owner
  module _ {n : ℕ} (e : v ≡ one_owner n) where
    pub spoils_one : n ≡ r → {t : Bool} → t ≡ any C.anchored (regions_of (C.pairs i)) → t ≡ spoils_at C r i
    spoils_one q h = h ∙ sym (spoils_own (ap (owned_by r) e ∙ eq-eqb n r q))

    pub spoils_not : (n ≡ r → ⊥) → false ≡ spoils_at C r i
    spoils_not q = sym (spoils_other (ap (owned_by r) e ∙ ne_eqb n r q) (λ d. several_one (sym d ∙ e)))

  pub spoils_several : v ≡ several → spoils_at C r i ≡ edge C r i
  unfolding spoils_at
  spoils_several e = go (edge C r i) (all_in_lem C r i) (any C.anchored (regions_of (C.pairs i))) (sym (o.whole r from upto) ∙ ap (owned_by r) e)
    where
      go : (x y z : Bool) → (x && y) ≡ false → (x && (not y || z)) ≡ x
      go true true z q = absurd (true≢false q)
      go true false z q = refl
      go false y z q = refl

  -- a port, of a candidate
  port-owned : i < C.count → candidate C r ≡ true → port C r i ≡ (not (owned_by r v) && any (λ p. inside C r p.lo || inside C r p.hi) (C.pairs i))
  unfolding is_port
  port-owned l h = ap (λ t. not t && any (λ p. inside C r p.lo || inside C r p.hi) (C.pairs i)) (sym (edge-owned (candidate_unspoilt C r h i l)))

  port-own : i < C.count → candidate C r ≡ true → owned_by r v ≡ true → false ≡ port C r i
  port-own l h e = sym (port-owned l h ∙ ap (λ t. not t && any (λ p. inside C r p.lo || inside C r p.hi) (C.pairs i)) e)

  pub port-other : i < C.count → candidate C r ≡ true → owned_by r v ≡ false → any (λ p. inside C r p.lo || inside C r p.hi) (C.pairs i) ≡ port C r i
  port-other l h e = sym (port-owned l h ∙ ap (λ t. not t && any (λ p. inside C r p.lo || inside C r p.hi) (C.pairs i)) e)

-- ---- edges that are counted

counted_same : (f g : ℕ → Bool) (n : ℕ) → ((k : ℕ) → k < n → f k ≡ g k) → count_below n f ≡ count_below n g
unfolding count_below
counted_same f g zero h = refl
counted_same f g (suc n) h = ap₂ ◌+◌ (counted_same f g n (λ k l. h k (omega arith))) (ap bit (h n (omega arith)))

-- where no boundary spoils the component, those that it owns are its edges
-- how many of the first n owners are the component r
pub owned_count : (owners : List FoundRegions) (r n : ℕ) → n ≤ length owners → length (filter (owned_by r) (take n owners)) ≡ count_below n (λ i. owned_by r (owner_at owners i))
unfolding count_below
owned_count owners r zero l = refl
owned_count owners r (suc n) l =
    let e : n + 1 ≡ suc n = omega arith in
    ap (λ m. length (filter (owned_by r) (take m owners))) (sym e) ∙ length-filter_more (owned_by r) owners n nobody (omega arith)
    ∙ ap₂ ◌+◌ (owned_count owners r n (omega arith)) (bit_is (owned_by r (owner_at owners n)))
  where
    bit_is : (b : Bool) → cond b 1 0 ≡ bit b
    bit_is true = refl
    bit_is false = refl

pub counted_owned : (C : Context) (r : ℕ) (owners : List FoundRegions) {n count : ℕ} {t : Bool} → 1 ≤ r → r ≤ C.regions → Owners C owners → t ≡ eqb (component_of C (components C) r) r → t ≡ true → C.count ≡ count → any_below_lem C.count (spoils_at C r) ≡ false
    → n ≡ count_below count (λ i. owned_by r (owner_at owners i)) → (leb 1 n && leb n max_interior_edges) ≡ candidate C r
counted_owned C r owners from upto O q h e s c =
    counted-candidate C r (sym q ∙ h)
    (c ∙ ap (λ k. count_below k (λ i. owned_by r (owner_at owners i))) (sym e) ∙ counted_same (λ i. owned_by r (owner_at owners i)) (edge C r) C.count (λ i l. edge-owned C r i from upto (O i l) (any-fails_at (spoils_at C r) C.count s i l))) s

-- ---- what the lists say of a boundary's pairs

pub within : {C : Context} → Sound C → (i : ℕ) → All (Within (suc C.regions)) (C.pairs i)
within S i = all_map (λ p t. record { lo = omega (arith, t.0, t.1.1); hi = omega (arith, t.1.1) }) (all_both (S.ordered i) (S.labelled i))

module _ {C : Context} {rows starts names marks : List ℕ} {r : ℕ} (M : Mapped C rows starts names marks r) (i : ℕ) (l : i < C.count) where
  -- of any test on regions that agree
  pub pairs-agree : (f g : ℕ → Bool) → ((x : ℕ) → 1 ≤ x → x ≤ C.regions → f x ≡ g x) → All (λ p. (f p.lo || f p.hi) ≡ (g p.lo || g p.hi)) (C.pairs i)
  pairs-agree f g h = all_map (λ p w. ap₂ ◌||◌ (h p.lo w.0 (omega (arith, w.1.0, w.1.1))) (h p.hi (omega (arith, w.0, w.1.0)) w.1.1)) (M.paired.named i l)

  pub touches_is : any (pair_named names r) (pairs_between rows (get_or starts i 0) (get_or starts (i + 1) 0)) ≡ any (λ p. inside C r p.lo || inside C r p.hi) (C.pairs i)
  touches_is =
      ap (any (pair_named names r)) (sym (M.paired.at i l))
      ∙ any_same (pair_named names r) (λ p. inside C r p.lo || inside C r p.hi) (pairs-agree (λ x. eqb (get_or names (x - 1) 0) r) (inside C r) M.told.at)

  pub anchored_is : any (pair_marked marks) (pairs_between rows (get_or starts i 0) (get_or starts (i + 1) 0)) ≡ any C.anchored (regions_of (C.pairs i))
  anchored_is =
      ap (any (pair_marked marks)) (sym (M.paired.at i l))
      ∙ any_same (pair_marked marks) (λ p. C.anchored p.lo || C.anchored p.hi) (pairs-agree (is_marked marks) C.anchored (marked-anchored M.marked))
      ∙ sym (any-regions C.anchored (C.pairs i))

  pub touches_edge : is_ordinary C i ≡ true → any (pair_named names r) (pairs_between rows (get_or starts i 0) (get_or starts (i + 1) 0)) ≡ edge C r i
  touches_edge o = touches_is ∙ sym (ap (λ t. t && any (λ p. inside C r p.lo || inside C r p.hi) (C.pairs i)) o) ∙ edge_is C (within M.sound) r i l

  -- a boundary that another component owns lies there whole
  port-elsewhere : {v : FoundRegions} → Owned C i v → candidate C r ≡ true → owned_by r v ≡ false → (n : ℕ) → v ≡ one_owner n → false ≡ port C r i
  unfolding is_edge
  port-elsewhere {v} o h m n e =
      let w = o.range n e in
      let own = (both (edge C n i) (all_in_lem C n i) (sym (o.whole n w.0 w.1) ∙ ap (owned_by n) e ∙ eq-eqb n n refl)).0 in
      let plain = (both (is_ordinary C i) (any (λ p. eqb (component_of C (components C) p.lo) n) (C.pairs i)) own).0 in
      sym (edge_other C r i M.from M.upto o m (λ d. several_one (sym d ∙ e))) ∙ sym (touches_edge plain) ∙ touches_is ∙ port-other C r i M.from M.upto o l h m

  -- nor is an edge of the component itself a port
  pub port-one : {v : FoundRegions} → Owned C i v → candidate C r ≡ true → (n : ℕ) → v ≡ one_owner n → false ≡ port C r i
  port-one {v} o h n e = go (owned_by r v) refl
    where
      go : (b : Bool) → owned_by r v ≡ b → false ≡ port C r i
      go true q = port-own C r i M.from M.upto o l h q
      go false q = port-elsewhere o h q n e
