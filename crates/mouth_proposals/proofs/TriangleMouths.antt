-- The proposal of a triangle, by how many of its regions are anchored. Assumes nothing.
use Prim.Native.Nat.{ℕ, suc}
use native.Mathlib.Omega.{arith}
use mathlib.Core.Path.{◌≡◌, refl, sym, ap, ◌∙◌, subst}
use mathlib.Core.Bool.{Bool, true, false, not, ◌||◌, cond, or-false, true≢false}
use Rattle.std.specs.Prelude.{None, Some}
use mathlib.Core.List.{List, [], ◌∷◌, ◌++◌}
use lib.ListN.{length}
use lib.Dec.{eqb, leb}
use borrow.Author.Tests.{eq-eqb, ne_eqb, lt-leb}
use Rattle.definitions.specs.Scan.{any, filter, only_if, member, add_new, add_all}
use Rattle.definitions.specs.Grid.{Pair}
use Rattle.definitions.specs.MouthShapes.{regions_of, distinct_regions}
use Rattle.definitions.specs.Context.{Context}
use Rattle.definitions.specs.RampMouths.{MouthProposal, separation_of, triangle_mouth}
use Rattle.laws.specs.ListLaws.Lists.{All, done, more, all_map}
use Rattle.laws.specs.ListLaws.Members.{filter_passes}
use Rattle.laws.specs.ListLaws.ListsAsSets.{filter-add_all}
use Rattle.laws.specs.ListLaws.Scans.{filter_ext}
use Rattle.laws.specs.OrderLaws.ListOrder.{eqb_sym}
use Rattle.mouth_proposals.specs.Rows.{inner_of}
use Rattle.mouth_proposals.specs.Outers.{outers_of, with_region}
use Rattle.mouth_proposals.specs.Candidates.{triangular, proposal_of}
use Rattle.context.specs.declared.found_regions.FoundRegions.{FoundRegions}
use Rattle.context.specs.declared.found_regions.FoundRegions.TheVariants as outers

-- ---- the anchored ones, region by region

added : (l : List ℕ) (x : ℕ) → with_region (outers_of l) x ≡ outers_of (add_new l x)
unfolding add_new member any
added [] x = refl
added (s ∷ []) x = ap (λ b. cond b (outers.One s) outers.Several) (eqb_sym s x ∙ sym (or-false (eqb x s))) ∙ go (eqb x s || false)
  where
    go : (b : Bool) → cond b (outers.One s) outers.Several ≡ outers_of (cond b (s ∷ []) (s ∷ x ∷ []))
    go true = refl
    go false = refl
added (s ∷ t ∷ l) x = go (any (eqb x) (s ∷ t ∷ l))
  where
    go : (b : Bool) → outers.Several ≡ outers_of (cond b (s ∷ t ∷ l) (s ∷ t ∷ l ++ (x ∷ [])))
    go true = refl
    go false = refl

module _ (f : ℕ → Bool) where
  abbrev pub step : FoundRegions → ℕ → FoundRegions
  step o x = cond (f x) (with_region o x) o

  stepped : (l : List ℕ) (x : ℕ) → step (outers_of l) x ≡ outers_of (cond (f x) (add_new l x) l)
  stepped l x = go (f x)
    where
      go : (b : Bool) → cond b (with_region (outers_of l) x) (outers_of l) ≡ outers_of (cond b (add_new l x) l)
      go true = added l x
      go false = refl

  one_by_one : (l : List ℕ) (x : ℕ) (xs : List ℕ) → add_all l (filter f (x ∷ xs)) ≡ add_all (cond (f x) (add_new l x) l) (filter f xs)
  unfolding filter add_all
  one_by_one l x xs = go (f x)
    where
      go : (b : Bool) → add_all l (cond b (x ∷ filter f xs) (filter f xs)) ≡ add_all (cond b (add_new l x) l) (filter f xs)
      go true = refl
      go false = refl

  unfoldable step_all : FoundRegions → List ℕ → FoundRegions
  step_all o [] = o
  step_all o (x ∷ xs) = step_all (step o x) xs

  all-stepped : (l xs : List ℕ) → step_all (outers_of l) xs ≡ outers_of (add_all l (filter f xs))
  unfolding step_all filter add_all
  all-stepped l [] = refl
  all-stepped l (x ∷ xs) =
      ap (λ o. step_all o xs) (stepped l x) ∙ all-stepped (cond (f x) (add_new l x) l) xs ∙ ap outers_of (sym (one_by_one l x xs))

  pub four-steps : (p q : Pair) → step (step (step (step outers.None p.lo) p.hi) q.lo) q.hi ≡ outers_of (filter f (distinct_regions (p ∷ q ∷ [])))
  unfolding distinct_regions step_all filter
  four-steps p q = all-stepped [] (regions_of (p ∷ q ∷ [])) ∙ ap outers_of (sym (filter-add_all f [] (regions_of (p ∷ q ∷ []))))

  -- ---- what passes f, where none or one does

  none_passes : (l : List ℕ) → filter f l ≡ [] → All (λ x. f x ≡ false) l
  unfolding filter
  none_passes [] e = done
  none_passes (x ∷ l) e = go (f x) refl e (none_passes l)
    where
      go : (b : Bool) → f x ≡ b → cond b (x ∷ filter f l) (filter f l) ≡ [] → (filter f l ≡ [] → All (λ x. f x ≡ false) l) → All (λ x. f x ≡ false) (x ∷ l)
      go true h e ih = absurd (let z : ◌≡◌ {A = ℕ} 0 1 = cc in omega arith)
      go false h e ih = more h (ih e)

  one_passes : (o : ℕ) → f o ≡ true → (l : List ℕ) → filter f l ≡ o ∷ [] → All (λ x. f x ≡ eqb x o) l
  unfolding filter
  one_passes o t [] e = done
  one_passes o t (x ∷ l) e = go (f x) refl e (one_passes o t l)
    where
      differs : (y : ℕ) → f y ≡ false → eqb y o ≡ false
      differs y h = ne_eqb y o (λ k. true≢false (sym t ∙ sym (ap f k) ∙ h))

      go : (b : Bool) → f x ≡ b → cond b (x ∷ filter f l) (filter f l) ≡ o ∷ [] → (filter f l ≡ o ∷ [] → All (λ x. f x ≡ eqb x o) l) → All (λ x. f x ≡ eqb x o) (x ∷ l)
      go true h e ih =
          let here : x ≡ o = cc in
          let rest : filter f l ≡ [] = cc in
          more (h ∙ sym (eq-eqb x o here)) (all_map (λ y k. k ∙ sym (differs y k)) (none_passes l rest))
      go false h e ih = more (h ∙ sym (differs x h)) (ih e)

  pub passed_one : {o : ℕ} (l : List ℕ) → filter f l ≡ o ∷ [] → f o ≡ true
  passed_one {o} l e = head (subst (All (λ x. f x ≡ true)) e (filter_passes f l))
    where
      head : All (λ x. f x ≡ true) (o ∷ []) → f o ≡ true
      head (more h a) = h

-- ---- the list from the answer

none_of : (l : List ℕ) → outers_of l ≡ outers.None → l ≡ []
none_of [] e = refl
none_of (x ∷ []) e = absurd (let z : ◌≡◌ {A = ℕ} 0 1 = cc in omega arith)
none_of (x ∷ y ∷ l) e = absurd (let z : ◌≡◌ {A = ℕ} 0 1 = cc in omega arith)

one_of_lem : (l : List ℕ) (r : ℕ) → outers_of l ≡ outers.One r → l ≡ r ∷ []
one_of_lem [] r e = absurd (let z : ◌≡◌ {A = ℕ} 0 1 = cc in omega arith)
one_of_lem (x ∷ []) r e = let same : x ≡ r = cc in ap (λ x. x ∷ []) same
one_of_lem (x ∷ y ∷ l) r e = absurd (let z : ◌≡◌ {A = ℕ} 0 1 = cc in omega arith)

several_of : (l : List ℕ) → outers_of l ≡ outers.Several → leb (length l) 1 ≡ false
several_of [] e = absurd (let z : ◌≡◌ {A = ℕ} 0 1 = cc in omega arith)
several_of (x ∷ []) e = absurd (let z : ◌≡◌ {A = ℕ} 0 1 = cc in omega arith)
several_of (x ∷ y ∷ l) e = lt-leb (suc (suc (length l))) 1 (omega arith)

-- ---- the proposal

module _ (C : Context) (m a : ℕ) where
  abbrev rs : List ℕ
  rs = distinct_regions (C.pairs m)

  abbrev made : List ℕ → List ℕ → MouthProposal
  made o i =
      record {
        mouth_index = m;
        ramp_index = a;
        outer = o;
        inner = i;
        is_triangle = true;
        two_port_broad_approach = false;
        separation = separation_of C m a;
      }

  by_outer : {o i : List ℕ} → filter C.anchored rs ≡ o → filter (λ r. not (C.anchored r)) rs ≡ i → triangle_mouth C m a rs ≡ only_if (leb (length o) 1) (made o i)
  unfolding triangle_mouth
  by_outer e f = λ j. only_if (leb (length (e j)) 1) (made (e j) (f j))

  pub triangle_none : outers_of (filter C.anchored rs) ≡ outers.None → Some (proposal_of C m a None triangular) ≡ triangle_mouth C m a rs
  unfolding proposal_of inner_of
  triangle_none e = sym (by_outer (none_of (filter C.anchored rs) e) (filter_ext (all_map (λ x k. ap not k) (none_passes C.anchored rs (none_of (filter C.anchored rs) e)))))

  pub triangle_one : (r : ℕ) → outers_of (filter C.anchored rs) ≡ outers.One r → Some (proposal_of C m a (Some r) triangular) ≡ triangle_mouth C m a rs
  unfolding proposal_of inner_of
  triangle_one r e =
      sym (by_outer is_one (filter_ext (all_map (λ x k. ap not k) (one_passes C.anchored r (passed_one C.anchored rs is_one) rs is_one))))
    where
      is_one : filter C.anchored rs ≡ r ∷ []
      is_one = one_of_lem (filter C.anchored rs) r e

  pub triangle-several : outers_of (filter C.anchored rs) ≡ outers.Several → None ≡ triangle_mouth C m a rs
  unfolding triangle_mouth
  triangle-several e = sym (ap (λ b. only_if b (made (filter C.anchored rs) (filter (λ r. not (C.anchored r)) rs))) (several_of (filter C.anchored rs) e))
