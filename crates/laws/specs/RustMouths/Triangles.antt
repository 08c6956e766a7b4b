-- `triangle_representative` of ramp_boundaries.rs as it is written there, and that it is `triangle_representative`, its regions sorted. Pairs that stand in
-- ascending order, the smaller label first, are their own edge keys and differ; so both sets of edges have two members, and their union has three exactly when
-- one edge is in both. Assumes nothing.
use Prim.Native.Nat.{ℕ, ◌<◌}
use Rattle.std.proofs.Common.{arith, sym, ap, ◌∙◌, true≢false, le-leb, ne_eqb}
use Rattle.std.specs.Prelude.{◌≡◌, Bool, not, ◌&&◌, ◌||◌, length, leb, Option, None, Some}
use Rattle.std.proofs.Math.Path.{refl}
use Rattle.std.proofs.Math.Bool.{true, false, cond, or-false, or_assoc}
use mathlib.Core.List.{List, [], ◌∷◌, ◌++◌, map}
use Rattle.std.proofs.Math.Dec.{eqb, ltb}
use Rattle.definitions.specs.Scan.{any, all, filter, only_if, add_new, add_all}
use Rattle.definitions.specs.Sort.{sort}
use Rattle.definitions.specs.Grid.{Pair, contains, pair_eq, pair_lt}
use Rattle.definitions.specs.MouthShapes.{regions_of, distinct_regions, triangle_representative}
use Rattle.laws.specs.ListLaws.Lists.{All, done, more}
use Rattle.laws.specs.OrderLaws.PairOrder.{pair_same, pair_eq_sym, pair-differ, Ascending, next}

-- ---- as the Rust writes it

--     let mut regions = Vec::new();
--     for pair in &mouth.region_pairs {
--         for region in pair {
--             if !regions.contains(region) {
--                 regions.push(*region);
--             }
unfoldable pub push_regions : List ℕ → List Pair → List ℕ
unfolding add_new
push_regions regions [] = regions
push_regions regions (pair ∷ pairs) = push_regions (add_new (add_new regions pair.lo) pair.hi) pairs

--     let edge_key = |pair: [u32; 2]| {
--         if pair[0] <= pair[1] {
--             pair
--         } else {
--             [pair[1], pair[0]]
--         }
--     };
abbrev pub edge_key : Pair → Pair
edge_key pair = cond (leb pair.lo pair.hi) pair (record { lo = pair.hi; hi = pair.lo })

-- a set of edges, as the list of its members: an edge is put in if it is not there
unfoldable pub add_edge : List Pair → Pair → List Pair
unfolding any
add_edge set e = cond (any (pair_eq e) set) set (set ++ (e ∷ []))

unfoldable pub add_edges : List Pair → List Pair → List Pair
unfolding add_edge
add_edges set [] = set
add_edges set (e ∷ es) = add_edges (add_edge set e) es

--     let mouth_edges: BTreeSet<_> = mouth.region_pairs.iter().copied().map(edge_key).collect();
unfoldable pub edge_set : List Pair → List Pair
unfolding add_edges
edge_set pairs = add_edges [] (map edge_key pairs)

--     mouth_edges.intersection(&ramp_edges).count()
unfoldable pub intersection_count : List Pair → List Pair → ℕ
unfolding filter any
intersection_count set other = length (filter (λ e. any (pair_eq e) other) set)

--     if mouth_edges.len() != 2
--         || ramp_edges.len() != 2
--         || edges.len() != 3
--         || mouth_edges.intersection(&ramp_edges).count() != 1
--     {
--         return None;
--     }
--     regions.sort_unstable();
--     Some(regions)
unfoldable pub triangle_edges : List ℕ → List Pair → List Pair → Option (List ℕ)
unfolding add_edges intersection_count sort
triangle_edges regions mouthEdges rampEdges =
    let edges = add_edges mouthEdges rampEdges in
    cond
    (not (eqb (length mouthEdges) 2) || not (eqb (length rampEdges) 2) || not (eqb (length edges) 3)
    || not (eqb (intersection_count mouthEdges rampEdges) 1))
    None (Some (sort ltb regions))

--     if !full_cut(mouth)
--         || !full_cut(ramp)
--         || mouth.region_pairs.len() != 2
--         || ramp.region_pairs.len() != 2
--     {
--         return None;
--     }
--     ..
--     if regions.len() != 3
--         || regions.iter().any(|region| {
--             !ramp
--                 .region_pairs
--                 .iter()
--                 .flatten()
--                 .any(|ramp_region| ramp_region == region)
--         })
--     {
--         return None;
--     }
unfoldable pub triangle_rust : Bool → Bool → List Pair → List Pair → Option (List ℕ)
unfolding push_regions any edge_set triangle_edges
triangle_rust mouthFull rampFull mouth ramp =
    cond (not mouthFull || not rampFull || not (eqb (length mouth) 2) || not (eqb (length ramp) 2)) None
    (let regions = push_regions [] mouth in
    cond (not (eqb (length regions) 3) || any (λ region. not (any (λ rampRegion. eqb rampRegion region) (regions_of ramp))) regions) None
    (triangle_edges regions (edge_set mouth) (edge_set ramp)))

-- ---- regions

pushes_are : (regions : List ℕ) (pairs : List Pair) → push_regions regions pairs ≡ add_all regions (regions_of pairs)
unfolding push_regions add_all
pushes_are regions [] = refl
pushes_are regions (p ∷ pairs) = pushes_are (add_new (add_new regions p.lo) p.hi) pairs

pub any-regions : (f : ℕ → Bool) (l : List Pair) → any f (regions_of l) ≡ any (λ p. f p.lo || f p.hi) l
unfolding any
any-regions f [] = refl
any-regions f (p ∷ l) = ap (λ b. f p.lo || (f p.hi || b)) (any-regions f l) ∙ sym (or_assoc (f p.lo) (f p.hi) (any (λ p. f p.lo || f p.hi) l))

pub any-not : {A : Type 0} (f g : A → Bool) → ((x : A) → f x ≡ g x) → (l : List A) → any (λ x. not (f x)) l ≡ not (all g l)
unfolding any all
any-not f g h [] = refl
any-not f g h (x ∷ l) = rw (h x, any-not f g h l) (go (g x))
  where
    go : (b : Bool) → (not b || not (all g l)) ≡ not (b && all g l)
    go true = refl
    go false = refl

-- ---- edges

own_key : (p : Pair) → p.lo < p.hi → edge_key p ≡ p
own_key p h = rw (le-leb p.lo p.hi (omega arith)) refl

-- two edges that differ make a set of two
two_edges : (p q : Pair) → p.lo < p.hi → q.lo < q.hi → pair_eq q p ≡ false → edge_set (p ∷ q ∷ []) ≡ p ∷ q ∷ []
unfolding edge_set add_edges add_edge any
two_edges p q h k d = rw (own_key p h, own_key q k, d) refl

module _ (p q s t : Pair) (pq : pair_eq p q ≡ false) (st : pair_eq s t ≡ false) where
  -- the union, by what each edge of the ramp finds among the mouth's
  union_is : add_edges (p ∷ q ∷ []) (s ∷ t ∷ []) ≡ cond (pair_eq p s || pair_eq q s) (cond (pair_eq p t || pair_eq q t) (p ∷ q ∷ []) (p ∷ q ∷ t ∷ [])) (cond (pair_eq p t || pair_eq q t) (p ∷ q ∷ s ∷ []) (p ∷ q ∷ s ∷ t ∷ []))
  unfolding add_edges add_edge any
  union_is = rw (pair_eq_sym s p, pair_eq_sym s q, or-false (pair_eq q s)) (go (pair_eq p s || pair_eq q s))
    where
      go : (b : Bool) → add_edge (cond b (p ∷ q ∷ []) (p ∷ q ∷ s ∷ [])) t ≡ cond b (cond (pair_eq p t || pair_eq q t) (p ∷ q ∷ []) (p ∷ q ∷ t ∷ [])) (cond (pair_eq p t || pair_eq q t) (p ∷ q ∷ s ∷ []) (p ∷ q ∷ s ∷ t ∷ []))
      go true = rw (pair_eq_sym t p, pair_eq_sym t q, or-false (pair_eq q t)) refl
      go false = rw (pair_eq_sym t p, pair_eq_sym t q, pair_eq_sym t s, st, or-false (pair_eq q t)) refl

  -- the union has three edges exactly where one is common
  counts : {A : Type 0} (x : A) → cond (not (eqb (length (add_edges (p ∷ q ∷ []) (s ∷ t ∷ []))) 3) || not (eqb (intersection_count (p ∷ q ∷ []) (s ∷ t ∷ [])) 1)) None (Some x) ≡ only_if (eqb (intersection_count (p ∷ q ∷ []) (s ∷ t ∷ [])) 1) x
  unfolding intersection_count filter any
  counts {A} x = rw (union_is, or-false (pair_eq p t), or-false (pair_eq q t)) (go (pair_eq p s) refl (pair_eq p t) refl (pair_eq q s) refl (pair_eq q t) refl)
    where
      twice : {B : Type 0} (a b c : Pair) → pair_eq b c ≡ false → pair_eq a b ≡ true → pair_eq a c ≡ true → B
      twice a b c d h k = absurd (true≢false (sym (ap (λ x. pair_eq x c) (sym (pair_same a b h)) ∙ k) ∙ d))

      Goal : Bool → Bool → Bool → Bool → Type 0
      Goal ps pt qs qt =
          let union : List Pair = cond (ps || qs) (cond (pt || qt) (p ∷ q ∷ []) (p ∷ q ∷ t ∷ [])) (cond (pt || qt) (p ∷ q ∷ s ∷ []) (p ∷ q ∷ s ∷ t ∷ [])) in
          let common : List Pair = cond (ps || pt) (p ∷ cond (qs || qt) (q ∷ []) []) (cond (qs || qt) (q ∷ []) []) in
          cond (not (eqb (length union) 3) || not (eqb (length common) 1)) None (Some x) ≡ only_if (eqb (length common) 1) x

      go : (ps : Bool) → pair_eq p s ≡ ps → (pt : Bool) → pair_eq p t ≡ pt → (qs : Bool) → pair_eq q s ≡ qs → (qt : Bool) → pair_eq q t ≡ qt → Goal ps pt qs qt
      go true a true b qs c qt d = twice p s t st a b
      go true a false b true c qt d = twice s p q pq (pair_eq_sym s p ∙ a) (pair_eq_sym s q ∙ c)
      go true a false b false c true d = refl
      go true a false b false c false d = refl
      go false a true b qs c true d = twice t p q pq (pair_eq_sym t p ∙ b) (pair_eq_sym t q ∙ d)
      go false a true b true c false d = refl
      go false a true b false c false d = refl
      go false a false b true c true d = twice q s t st c d
      go false a false b true c false d = refl
      go false a false b false c true d = refl
      go false a false b false c false d = refl

-- ---- the whole

abbrev pub sorted_regions : Option (List ℕ) → Option (List ℕ)
sorted_regions None = None
sorted_regions (Some rs) = Some (sort ltb rs)

module _ (p q s t : Pair) (hp : p.lo < p.hi) (hq : q.lo < q.hi) (hs : s.lo < s.hi) (ht : t.lo < t.hi) (pq : pair_lt p q ≡ true) (st : pair_lt s t ≡ true) where
  two_pairs : triangle_rust true true (p ∷ q ∷ []) (s ∷ t ∷ []) ≡ sorted_regions (triangle_representative (p ∷ q ∷ []) (s ∷ t ∷ []))
  unfolding triangle_rust triangle_representative triangle_edges distinct_regions intersection_count
  two_pairs =
      rw (
        two_edges p q hp hq (pair_eq_sym q p ∙ pair-differ p q pq),
        two_edges s t hs ht (pair_eq_sym t s ∙ pair-differ s t st),
        pushes_are [] (p ∷ q ∷ []),
        any-not (λ r. any (λ x. eqb x r) (regions_of (s ∷ t ∷ []))) (λ r. any (contains r) (s ∷ t ∷ [])) (λ r. any-regions (λ x. eqb x r) (s ∷ t ∷ [])) rs,
        counts p q s t (pair-differ p q pq) (pair-differ s t st) (sort ltb rs),
      )
      (go (eqb (length rs) 3) (all (λ r. any (contains r) (s ∷ t ∷ [])) rs) (eqb (intersection_count (p ∷ q ∷ []) (s ∷ t ∷ [])) 1))
    where
      rs : List ℕ
      rs = add_all [] (regions_of (p ∷ q ∷ []))

      go : (a b c : Bool) → cond (not a || not b) None (only_if c (sort ltb rs)) ≡ sorted_regions (only_if (a && b && c) rs)
      go true true true = refl
      go true true false = refl
      go true false c = refl
      go false b c = refl

-- `triangle_representative` of the Rust is `triangle_representative`, sorted
pub triangle_is : (mouthFull rampFull : Bool) (mouth ramp : List Pair) → All (λ e. e.lo < e.hi) mouth → Ascending mouth → All (λ e. e.lo < e.hi) ramp → Ascending ramp
    → triangle_rust mouthFull rampFull mouth ramp ≡ sorted_regions (cond (mouthFull && rampFull) (triangle_representative mouth ramp) None)
unfolding triangle_rust triangle_representative
triangle_is false rampFull mouth ramp h a k b = refl
triangle_is true false mouth ramp h a k b = refl
triangle_is true true [] ramp h a k b = refl
triangle_is true true (p ∷ []) ramp h a k b = refl
triangle_is true true (p ∷ q ∷ r ∷ l) ramp h a k b = rw (ne_eqb (length (p ∷ q ∷ r ∷ l)) 2 (λ e. omega arith)) refl
triangle_is true true (p ∷ q ∷ []) [] h a k b = refl
triangle_is true true (p ∷ q ∷ []) (s ∷ []) h a k b = refl
triangle_is true true (p ∷ q ∷ []) (s ∷ t ∷ u ∷ m) h a k b = rw (ne_eqb (length (s ∷ t ∷ u ∷ m)) 2 (λ e. omega arith)) refl
triangle_is true true (p ∷ q ∷ []) (s ∷ t ∷ []) h a k b = go h a k b
  where
    go : All (λ e. e.lo < e.hi) (p ∷ q ∷ []) → Ascending (p ∷ q ∷ []) → All (λ e. e.lo < e.hi) (s ∷ t ∷ []) → Ascending (s ∷ t ∷ [])
        → triangle_rust true true (p ∷ q ∷ []) (s ∷ t ∷ []) ≡ sorted_regions (triangle_representative (p ∷ q ∷ []) (s ∷ t ∷ []))
    go (more hp (more hq done)) (next (more pq done) n) (more hs (more ht done)) (next (more st done) l) = two_pairs p q s t hp hq hs ht pq st
