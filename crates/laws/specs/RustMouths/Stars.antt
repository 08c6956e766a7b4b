-- `star` of ramp_boundaries.rs as it is written there, and that it is `mouth_shape`. The inner regions of the loop are the distinct regions other than the
-- outer one; and if the first pair has exactly one common region, its other region is an inner one, so that `inner` is never empty. Assumes nothing, not
-- even that the labels of a pair differ: a first pair of one label twice has no common region or two.
use Prim.Native.Nat.{ℕ}
use Rattle.std.proofs.Common.{arith, sym, ap, ◌∙◌, true≢false, ne_eqb}
use Rattle.std.specs.Prelude.{◌≡◌, true, false, ◌&&◌, ◌||◌, cond, length, get_or, eqb, Option, None, Some}
use Rattle.std.proofs.Math.Path.{refl}
use Rattle.std.proofs.Math.Bool.{Bool, not, or-true}
use Rattle.std.proofs.lemmas.Bool.{false≢true}
use mathlib.Core.List.{List, [], ◌∷◌, ◌++◌}
use Rattle.definitions.specs.Scan.{any, all, filter, only_if, member, add_new, add_all}
use Rattle.definitions.specs.Grid.{Pair, contains}
use Rattle.definitions.specs.MouthShapes.{MouthShape, single, star, regions_of, distinct_regions, common_regions, star_from, mouth_shape}
use Rattle.laws.specs.RustContext.FullCut.{is_empty}
use Rattle.laws.specs.ListLaws.ListsAsSets.{empty-filter, any-add_all, filter-add_all}

-- what an index outside the list gives; the Rust never reads there, as `full_cut` asks for a pair
abbrev pub no_pair : Pair
no_pair = record { lo = 0; hi = 0 }

--     let common: Vec<u32> = entry.region_pairs[0]
--         .into_iter()
--         .filter(|region| entry.region_pairs.iter().all(|pair| pair.contains(region)))
--         .collect();
unfoldable pub common_rust : List Pair → List ℕ
unfolding filter all
common_rust pairs =
    let first = get_or pairs 0 no_pair in
    filter (λ region. all (λ pair. contains region pair) pairs) (first.lo ∷ first.hi ∷ [])

--             if *region != *outer && !inner.contains(region) {
--                 inner.push(*region);
--             }
unfoldable pub push_inner : ℕ → List ℕ → ℕ → List ℕ
unfolding member
push_inner outer inner region = cond (not (eqb region outer) && not (member region inner)) (inner ++ (region ∷ [])) inner

--     for pair in &entry.region_pairs {
--         for region in pair {
unfoldable pub push_inners : ℕ → List ℕ → List Pair → List ℕ
unfolding push_inner
push_inners outer inner [] = inner
push_inners outer inner (pair ∷ pairs) = push_inners outer (push_inner outer (push_inner outer inner pair.lo) pair.hi) pairs

--     let [outer] = common.as_slice() else {
--         return None;
--     };
--     let mut inner = Vec::new();
--     ..
--     (!inner.is_empty()).then_some(MouthShape::Star {
--         outer: *outer,
--         inner,
--     })
unfoldable pub star_from_rust : List Pair → List ℕ → Option MouthShape
unfolding push_inners
star_from_rust pairs [] = None
star_from_rust pairs (outer ∷ []) =
    let inner = push_inners outer [] pairs in
    only_if (not (is_empty inner)) (star outer inner)
star_from_rust pairs (u ∷ v ∷ common) = None

--     if !full_cut(entry) {
--         return None;
--     }
--     if entry.region_pairs.len() == 1 {
--         return Some(MouthShape::Single(entry.region_pairs[0]));
--     }
unfoldable pub star_rust : Bool → List Pair → Option MouthShape
unfolding star_from_rust common_rust
star_rust full pairs =
    cond (not full) None (cond (eqb (length pairs) 1) (Some (single (get_or pairs 0 no_pair))) (star_from_rust pairs (common_rust pairs)))

-- ---- the inner regions

push_is : (outer : ℕ) (inner : List ℕ) (r : ℕ) → push_inner outer inner r ≡ cond (not (eqb r outer)) (add_new inner r) inner
unfolding push_inner add_new
push_is outer inner r = go (eqb r outer) (member r inner)
  where
    go : (b c : Bool) → cond (not b && not c) (inner ++ (r ∷ [])) inner ≡ cond (not b) (cond c inner (inner ++ (r ∷ []))) inner
    go true c = refl
    go false true = refl
    go false false = refl

pushes_are : (outer : ℕ) (inner : List ℕ) (pairs : List Pair) → push_inners outer inner pairs ≡ add_all inner (filter (λ r. not (eqb r outer)) (regions_of pairs))
unfolding push_inners add_all filter
pushes_are outer inner [] = refl
pushes_are outer inner (p ∷ pairs) =
    ap (λ l. push_inners outer l pairs) (push_is outer (push_inner outer inner p.lo) p.hi ∙ ap (λ l. two l p.hi) (push_is outer inner p.lo))
    ∙ pushes_are outer (two (two inner p.lo) p.hi) pairs ∙ go (not (eqb p.lo outer)) (not (eqb p.hi outer))
  where
    f : ℕ → Bool
    f r = not (eqb r outer)

    two : List ℕ → ℕ → List ℕ
    two l r = cond (f r) (add_new l r) l

    rest : List ℕ
    rest = filter f (regions_of pairs)

    go : (b c : Bool) → add_all (cond c (add_new (cond b (add_new inner p.lo) inner) p.hi) (cond b (add_new inner p.lo) inner)) rest ≡ add_all inner (cond b (p.lo ∷ cond c (p.hi ∷ rest) rest) (cond c (p.hi ∷ rest) rest))
    go true true = refl
    go true false = refl
    go false true = refl
    go false false = refl

inner_is : (outer : ℕ) (pairs : List Pair) → push_inners outer [] pairs ≡ filter (λ r. not (eqb r outer)) (distinct_regions pairs)
unfolding distinct_regions filter
inner_is outer pairs = pushes_are outer [] pairs ∙ sym (filter-add_all (λ r. not (eqb r outer)) [] (regions_of pairs))

-- ---- it is not empty

-- of two numbers a filter leaves exactly x: then one of the two is not x
pub other-out : (f : ℕ → Bool) (a b x : ℕ) → filter f (a ∷ b ∷ []) ≡ x ∷ [] → (not (eqb a x) || not (eqb b x)) ≡ true
unfolding filter
other-out f a b x h = go (f a) refl (f b) refl h
  where
    differs : (c d : ℕ) → f c ≡ true → f d ≡ false → d ≡ c → ⊥
    differs c d p q e = true≢false (sym p ∙ sym (ap f e) ∙ q)

    go : (s : Bool) → f a ≡ s → (t : Bool) → f b ≡ t → cond s (a ∷ cond t (b ∷ []) []) (cond t (b ∷ []) []) ≡ x ∷ [] → (not (eqb a x) || not (eqb b x)) ≡ true
    go true p true q e = absurd (long e)
      where
        long : a ∷ b ∷ [] ≡ x ∷ [] → ⊥
        long e = let z : ◌≡◌ {A = ℕ} 0 1 = cc in omega arith
    go true p false q e = rw (ne_eqb b x (λ k. differs a b p q (k ∙ (cc)))) (or-true (not (eqb a x)))
    go false p true q e = rw (ne_eqb a x (λ k. differs b a q p (k ∙ (cc)))) refl
    go false p false q e = absurd (short e)
      where
        short : [] ≡ x ∷ [] → ⊥
        short e = let z : ◌≡◌ {A = ℕ} 0 1 = cc in omega arith

module _ (p : Pair) (l : List Pair) where
  some_inner : (outer : ℕ) → common_rust (p ∷ l) ≡ outer ∷ [] → any (λ r. not (eqb r outer)) (distinct_regions (p ∷ l)) ≡ true
  unfolding common_rust distinct_regions any
  some_inner outer h = any-add_all f [] (regions_of (p ∷ l)) ∙ go (f p.lo) (f p.hi) (other-out (λ r. all (contains r) (p ∷ l)) p.lo p.hi outer h)
    where
      f : ℕ → Bool
      f r = not (eqb r outer)

      go : (s t : Bool) → (s || t) ≡ true → (s || (t || any f (regions_of l))) ≡ true
      go true t e = refl
      go false true e = refl
      go false false e = absurd (false≢true e)

  from_is : (common : List ℕ) → common_rust (p ∷ l) ≡ common → star_from_rust (p ∷ l) common ≡ star_from (p ∷ l) common
  unfolding star_from_rust star_from
  from_is [] h = refl
  from_is (outer ∷ []) h = rw (inner_is outer (p ∷ l), empty-filter (λ r. not (eqb r outer)) (distinct_regions (p ∷ l)), some_inner outer h) refl
  from_is (u ∷ v ∷ w) h = refl

-- `star` of the Rust is `mouth_shape`
pub star_is : (full : Bool) (pairs : List Pair) → star_rust full pairs ≡ mouth_shape full pairs
unfolding star_rust star_from_rust common_rust mouth_shape common_regions filter all
star_is false pairs = refl
star_is true [] = refl
star_is true (p ∷ []) = refl
star_is true (p ∷ q ∷ l) = rw (ne_eqb (length (p ∷ q ∷ l)) 1 (λ e. omega arith)) (from_is p (q ∷ l) (common_rust (p ∷ q ∷ l)) refl)
