-- Merging, seen inside. Where every pair lies inside or outside whole, the names inside are those that the pairs inside give, through a renaming e that keeps the
-- order of what is inside: merging outside changes no name inside. Used with the identity for cells and with ranks for regions. Assumes nothing.
use Prim.Native.Nat.{ℕ, ◌≤◌, ◌<◌, min, max}
use Rattle.std.proofs.Common.{arith, ◌∙◌, true≢false, ltb-true, ltb-false, eqb-true}
use Rattle.std.specs.Prelude.{◌≡◌, Bool, length, ltb}
use Rattle.std.proofs.Math.Path.{refl, sym, ap}
use Rattle.std.proofs.Math.Bool.{true, false, cond}
use mathlib.Core.List.{List, ◌∷◌, map}
use Rattle.std.proofs.Math.ListN.{get_or}
use Rattle.std.proofs.Math.Dec.{eqb}
use Rattle.definitions.specs.Scan.{filter, run}
use Rattle.definitions.specs.Grid.{Pair}
use Rattle.definitions.specs.Partition.{merge, merge_all}
use Rattle.laws.specs.ListLaws.Lists.{All, done, more, length_run}
use Rattle.laws.specs.RegionLaws.Merging.{merged, merge_at, merge-length, run_at}

pub min-l : (a c : ℕ) → a < c → min a c ≡ a
min-l a c h = omega arith

pub min-r : (a c : ℕ) → c ≤ a → min a c ≡ c
min-r a c h = omega arith

pub max-l : (a c : ℕ) → a < c → max a c ≡ c
max-l a c h = omega arith

pub max-r : (a c : ℕ) → c ≤ a → max a c ≡ a
max-r a c h = omega arith

module _ (inside : ℕ → Bool) where
  pub pick-max : (b : Bool) (x y : ℕ) → inside x ≡ b → inside y ≡ b → inside (max x y) ≡ b
  pick-max b x y h k = go (ltb x y) refl
    where
      go : (c : Bool) → ltb x y ≡ c → inside (max x y) ≡ b
      go true e = ap inside (max-l x y (ltb-true x y e)) ∙ k
      go false e = ap inside (max-r x y (ltb-false x y e)) ∙ h

  pub pick-min : (b : Bool) (x y : ℕ) → inside x ≡ b → inside y ≡ b → inside (min x y) ≡ b
  pick-min b x y h k = go (ltb x y) refl
    where
      go : (c : Bool) → ltb x y ≡ c → inside (min x y) ≡ b
      go true e = ap inside (min-l x y (ltb-true x y e)) ∙ h
      go false e = ap inside (min-r x y (ltb-false x y e)) ∙ k

-- e keeps the order and the equality of the numbers inside, and takes those below n below n'
pub record Keeps (inside : ℕ → Bool) (e : ℕ → ℕ) (n n' : ℕ) : Type 0 where
  pub order : (a b : ℕ) → inside a ≡ true → inside b ≡ true → ltb a b ≡ ltb (e a) (e b)
  pub level : (a b : ℕ) → inside a ≡ true → inside b ≡ true → eqb a b ≡ eqb (e a) (e b)
  pub small : (c : ℕ) → c < n → inside c ≡ true → e c < n'

module _ (inside : ℕ → Bool) (e : ℕ → ℕ) (n n' : ℕ) (K : Keeps inside e n n') where
  abbrev pub renamed : Pair → Pair
  renamed p = record { lo = e p.lo; hi = e p.hi }

  pub max-ren : (a c : ℕ) → inside a ≡ true → inside c ≡ true → e (max a c) ≡ max (e a) (e c)
  max-ren a c h k = go (ltb a c) refl
    where
      go : (t : Bool) → ltb a c ≡ t → e (max a c) ≡ max (e a) (e c)
      go true q = ap e (max-l a c (ltb-true a c q)) ∙ sym (max-l (e a) (e c) (ltb-true _ _ (sym (K.order a c h k) ∙ q)))
      go false q = ap e (max-r a c (ltb-false a c q)) ∙ sym (max-r (e a) (e c) (ltb-false _ _ (sym (K.order a c h k) ∙ q)))

  pub min-ren : (a c : ℕ) → inside a ≡ true → inside c ≡ true → e (min a c) ≡ min (e a) (e c)
  min-ren a c h k = go (ltb a c) refl
    where
      go : (t : Bool) → ltb a c ≡ t → e (min a c) ≡ min (e a) (e c)
      go true q = ap e (min-l a c (ltb-true a c q)) ∙ sym (min-l (e a) (e c) (ltb-true _ _ (sym (K.order a c h k) ∙ q)))
      go false q = ap e (min-r a c (ltb-false a c q)) ∙ sym (min-r (e a) (e c) (ltb-false _ _ (sym (K.order a c h k) ∙ q)))

  -- each name lies where its number does, and inside the two lists agree
  pub record Agree (rs rs' : List ℕ) : Type 0 where
    pub long : length rs ≡ n
    pub long' : length rs' ≡ n'
    pub side : (c : ℕ) → c < n → inside (get_or rs c 0) ≡ inside c
    pub same : (c : ℕ) → c < n → inside c ≡ true → e (get_or rs c 0) ≡ get_or rs' (e c) 0

  -- a pair whole on one side
  pub record Sided (p : Pair) : Type 0 where
    pub lo : p.lo < n
    pub hi : p.hi < n
    pub one : inside p.lo ≡ inside p.hi

  side-merge : (rs rs' : List ℕ) (p : Pair) → Agree rs rs' → Sided p → (c : ℕ) → c < n → inside (get_or (merge rs p) c 0) ≡ inside c
  unfolding merged
  side-merge rs rs' p g s c h = ap inside (merge_at rs p c (omega (arith, g.long))) ∙ go (eqb r (max a b)) refl
    where
      r : ℕ
      r = get_or rs c 0

      a : ℕ
      a = get_or rs p.lo 0

      b : ℕ
      b = get_or rs p.hi 0

      ha : inside a ≡ inside p.lo
      ha = g.side p.lo s.lo

      hb : inside b ≡ inside p.lo
      hb = g.side p.hi s.hi ∙ sym s.one

      go : (t : Bool) → eqb r (max a b) ≡ t → inside (cond t (min a b) r) ≡ inside c
      go true q = pick-min inside (inside p.lo) a b ha hb ∙ sym (pick-max inside (inside p.lo) a b ha hb) ∙ ap inside (sym (eqb-true r (max a b) q)) ∙ g.side c h
      go false q = g.side c h

  merged-ren : (a b r : ℕ) → inside a ≡ true → inside b ≡ true → inside r ≡ true → e (merged a b r) ≡ merged (e a) (e b) (e r)
  unfolding merged
  merged-ren a b r ha hb hr =
      pick (eqb r (max a b))
      ∙ ap (λ t. cond t (min (e a) (e b)) (e r)) (K.level r (max a b) hr (pick-max inside true a b ha hb) ∙ ap (eqb (e r)) (max-ren a b ha hb))
    where
      pick : (t : Bool) → e (cond t (min a b) r) ≡ cond t (min (e a) (e b)) (e r)
      pick true = min-ren a b ha hb
      pick false = refl

  merge_inside : (rs rs' : List ℕ) (p : Pair) → Agree rs rs' → Sided p → inside p.lo ≡ true → Agree (merge rs p) (merge rs' (renamed p))
  merge_inside rs rs' p g s i =
      record {
        long = merge-length rs p ∙ g.long;
        long' = merge-length rs' (renamed p) ∙ g.long';
        side = side-merge rs rs' p g s;
        same = λ c h k.
            ap e (merge_at rs p c (omega (arith, g.long)))
            ∙ merged-ren (get_or rs p.lo 0) (get_or rs p.hi 0) (get_or rs c 0) (g.side p.lo s.lo ∙ i) (g.side p.hi s.hi ∙ i') (g.side c h ∙ k)
            ∙ (λ t. merged (g.same p.lo s.lo i t) (g.same p.hi s.hi i' t) (g.same c h k t))
            ∙ sym (merge_at rs' (renamed p) (e c) (omega (arith, g.long', K.small c h k)));
      }
    where
      i' : inside p.hi ≡ true
      i' = sym s.one ∙ i

  merge-outside : (rs rs' : List ℕ) (p : Pair) → Agree rs rs' → Sided p → inside p.lo ≡ false → Agree (merge rs p) rs'
  unfolding merged
  merge-outside rs rs' p g s o =
      record {
        long = merge-length rs p ∙ g.long;
        long' = g.long';
        side = side-merge rs rs' p g s;
        same = λ c h k. ap e (merge_at rs p c (omega (arith, g.long))) ∙ go c h k (eqb (get_or rs c 0) (max (get_or rs p.lo 0) (get_or rs p.hi 0))) refl;
      }
    where
      go : (c : ℕ) → c < n → inside c ≡ true → (t : Bool) → eqb (get_or rs c 0) (max (get_or rs p.lo 0) (get_or rs p.hi 0)) ≡ t → e (cond t (min (get_or rs p.lo 0) (get_or rs p.hi 0)) (get_or rs c 0)) ≡ get_or rs' (e c) 0
      go c h k true q =
          absurd
          (true≢false
          (sym k ∙ sym (g.side c h) ∙ ap inside (eqb-true _ _ q)
          ∙ pick-max inside false _ _ (g.side p.lo s.lo ∙ o) (g.side p.hi s.hi ∙ sym s.one ∙ o)))
      go c h k false q = g.same c h k

  agree_from : {ps : List Pair} (rs rs' : List ℕ) → Agree rs rs' → All Sided ps → Agree (merge_all rs ps) (merge_all rs' (map renamed (filter (λ p. inside p.lo) ps)))
  unfolding merge_all filter
  agree_from rs rs' g done = g
  agree_from rs rs' g (more {x = p} {l = ps} s a) = go (inside p.lo) refl (λ rs' h. agree_from (merge rs p) rs' h a)
    where
      go : (b : Bool) → inside p.lo ≡ b → ((rs' : List ℕ) → Agree (merge rs p) rs' → Agree (merge_all (merge rs p) ps) (merge_all rs' (map renamed (filter (λ p. inside p.lo) ps)))) → Agree (merge_all (merge rs p) ps) (merge_all rs' (map renamed (cond b (p ∷ filter (λ p. inside p.lo) ps) (filter (λ p. inside p.lo) ps))))
      go true i ih = ih (merge rs' (renamed p)) (merge_inside rs rs' p g s i)
      go false o ih = ih rs' (merge-outside rs rs' p g s o)

  -- from each number alone
  pub merging_inside : {ps : List Pair} → All Sided ps → Agree (merge_all (run 0 n) ps) (merge_all (run 0 n') (map renamed (filter (λ p. inside p.lo) ps)))
  merging_inside a =
      agree_from (run 0 n) (run 0 n')
      (record {
        long = length_run 0 n;
        long' = length_run 0 n';
        side = λ c h. ap inside (run_at n c h);
        same = λ c h k. ap e (run_at n c h) ∙ sym (run_at n' (e c) (K.small c h k));
      })
      a
