-- Classes by merging pairs (`merge`, `merge_all` of definitions), which make the regions of the grid and the components of pass 2. The two halves of what a
-- reader expects: the numbers of a pair end up in one class (`step-joins`), and whatever is the same at both numbers of every pair is the same at a number and
-- at its class's name (`kept-all`). Besides: a name is the least number of its class, and its own name (`Rooted`). Assumes nothing.
use Rattle.std.specs.Prelude.{ℕ, zero, suc, ◌≤◌, ◌<◌, min, max, ◌≡◌, Bool, cond, length, get_or}
use Rattle.std.proofs.Common.{arith, ◌∙◌}
use Rattle.std.proofs.Math.Path.{refl, sym, ap}
use Rattle.std.proofs.Math.Bool.{true, false}
use mathlib.Core.List.{List, [], ◌∷◌, map}
use Rattle.std.proofs.lemmas.List.{length-map}
use Rattle.std.proofs.Math.Dec.{eqb, ltb}
use borrow.Author.Tests.{ltb-true, ltb-false, eqb-true, eqb-false}
use Rattle.definitions.specs.Scan.{run}
use Rattle.definitions.specs.Grid.{Pair}
use Rattle.definitions.specs.Partition.{merge, merge_all}
use Rattle.laws.specs.ListLaws.Lists.{All, done, more, length_run, get_d_tab}

-- ---- one merge, place by place

-- the new name of a class named r, where those named a and b become one
unfoldable pub merged : ℕ → ℕ → ℕ → ℕ
merged a b r = cond (eqb r (max a b)) (min a b) r

get_d_map : (f : ℕ → ℕ) (l : List ℕ) (c : ℕ) → c < length l → get_or (map f l) c 0 ≡ f (get_or l c 0)
get_d_map f [] c h = absurd (omega arith)
get_d_map f (x ∷ l) zero h = refl
get_d_map f (x ∷ l) (suc c) h = get_d_map f l c (omega arith)

pub merge_at : (rs : List ℕ) (p : Pair) (c : ℕ) → c < length rs → get_or (merge rs p) c 0 ≡ merged (get_or rs p.lo 0) (get_or rs p.hi 0) (get_or rs c 0)
unfolding merge merged
merge_at rs p c h = get_d_map _ rs c h

pub merge-length : (rs : List ℕ) (p : Pair) → length (merge rs p) ≡ length rs
unfolding merge
merge-length rs p = length-map rs _

pub merge_all-length : (rs : List ℕ) (ps : List Pair) → length (merge_all rs ps) ≡ length rs
unfolding merge_all
merge_all-length rs [] = refl
merge_all-length rs (p ∷ ps) = merge_all-length (merge rs p) ps ∙ merge-length rs p

-- both numbers of a pair are below n
pub record Within (n : ℕ) (p : Pair) : Type 0 where
  pub lo : p.lo < n
  pub hi : p.hi < n

-- ---- names

-- a name is no larger than the number, and is its own name
pub record Rooted (n : ℕ) (rs : List ℕ) : Type 0 where
  pub long : length rs ≡ n
  pub low : (c : ℕ) → c < n → get_or rs c 0 ≤ c
  pub own : (c : ℕ) → c < n → get_or rs (get_or rs c 0) 0 ≡ get_or rs c 0

merged-le : (a b r : ℕ) → merged a b r ≤ r
unfolding merged
merged-le a b r = go (eqb r (max a b)) refl
  where
    go : (t : Bool) → eqb r (max a b) ≡ t → cond t (min a b) r ≤ r
    go true q = omega (arith, eqb-true r (max a b) q)
    go false q = omega arith

merged-twice : (a b r : ℕ) → merged a b (merged a b r) ≡ merged a b r
unfolding merged
merged-twice a b r = go (eqb r (max a b)) refl
  where
    low : (t : Bool) → eqb (min a b) (max a b) ≡ t → cond t (min a b) (min a b) ≡ min a b
    low true q = refl
    low false q = refl

    go : (t : Bool) → eqb r (max a b) ≡ t → merged a b (cond t (min a b) r) ≡ cond t (min a b) r
    go true q = low (eqb (min a b) (max a b)) refl
    go false q = rw q refl

merged-name : (f : ℕ → ℕ) (a b r : ℕ) → f a ≡ a → f b ≡ b → f r ≡ r → f (merged a b r) ≡ merged a b r
unfolding merged
merged-name f a b r ha hb hr = go (eqb r (max a b)) (ltb a b) refl
  where
    go : (t u : Bool) → ltb a b ≡ u → f (cond t (min a b) r) ≡ cond t (min a b) r
    go false u q = hr
    go true true q = ap f (omega (arith, ltb-true a b q)) ∙ ha ∙ omega (arith, ltb-true a b q)
    go true false q = ap f (omega (arith, ltb-false a b q)) ∙ hb ∙ omega (arith, ltb-false a b q)

module _ (n : ℕ) where
  rooted-merge : (rs : List ℕ) (p : Pair) → Rooted n rs → Within n p → Rooted n (merge rs p)
  rooted-merge rs p R w =
      record {
        long = merge-length rs p ∙ R.long;
        low = λ c l. omega (arith, new c l, merged-le a b (get_or rs c 0), R.low c l);
        own = λ c l. ap (λ x. get_or (merge rs p) x 0) (new c l) ∙ twice c l ∙ sym (new c l);
      }
    where
      a : ℕ
      a = get_or rs p.lo 0

      b : ℕ
      b = get_or rs p.hi 0

      new : (c : ℕ) → c < n → get_or (merge rs p) c 0 ≡ merged a b (get_or rs c 0)
      new c l = merge_at rs p c (omega (arith, R.long))

      twice : (c : ℕ) → c < n → get_or (merge rs p) (merged a b (get_or rs c 0)) 0 ≡ merged a b (get_or rs c 0)
      twice c l =
          new (merged a b (get_or rs c 0)) (omega (arith, merged-le a b (get_or rs c 0), R.low c l))
          ∙ ap (merged a b) (merged-name (λ x. get_or rs x 0) a b (get_or rs c 0) (R.own p.lo w.lo) (R.own p.hi w.hi) (R.own c l))
          ∙ merged-twice a b (get_or rs c 0)

  rooted-all : {ps : List Pair} (rs : List ℕ) → Rooted n rs → All (Within n) ps → Rooted n (merge_all rs ps)
  unfolding merge_all
  rooted-all rs R done = R
  rooted-all rs R (more {x = p} w a) = rooted-all (merge rs p) (rooted-merge rs p R w) a

  pub run_at : (c : ℕ) → c < n → get_or (run 0 n) c 0 ≡ c
  run_at c h = go (get_d_tab (λ x. x) 0 n c h)
    where
      map_same : (l : List ℕ) → map (λ x. x) l ≡ l
      map_same [] = refl
      map_same (x ∷ l) = ap {B = List ℕ} (λ r. x ∷ r) (map_same l)

      go : get_or (map (λ x. x) (run 0 n)) c 0 ≡ c → get_or (run 0 n) c 0 ≡ c
      go e = ap (λ l. get_or l c 0) (sym (map_same (run 0 n))) ∙ e

  -- from each number alone
  pub rooted : {ps : List Pair} → All (Within n) ps → Rooted n (merge_all (run 0 n) ps)
  rooted a =
      rooted-all (run 0 n)
      (record { long = length_run 0 n; low = λ c h. omega (arith, run_at c h); own = λ c h. ap (λ x. get_or (run 0 n) x 0) (run_at c h) })
      a

-- ---- whatever is the same at both numbers of each pair is the same at a number and at its name

module _ {X : Type 0} (g : ℕ → X) (n : ℕ) where
  pub record Kept (rs : List ℕ) : Type 0 where
    pub long : length rs ≡ n
    pub same : (c : ℕ) → c < n → g (get_or rs c 0) ≡ g c

  pub record Level (p : Pair) : Type 0 where
    pub lo : p.lo < n
    pub hi : p.hi < n
    pub level : g p.lo ≡ g p.hi

  merged_same : (a b r : ℕ) → g a ≡ g b → g (merged a b r) ≡ g r
  unfolding merged
  merged_same a b r h = go (eqb r (max a b)) refl (ltb a b) refl
    where
      go : (t : Bool) → eqb r (max a b) ≡ t → (u : Bool) → ltb a b ≡ u → g (cond t (min a b) r) ≡ g r
      go false q u v = refl
      go true q true v = ap g (omega (arith, ltb-true a b v)) ∙ h ∙ ap g (omega (arith, ltb-true a b v, eqb-true r (max a b) q))
      go true q false v = ap g (omega (arith, ltb-false a b v)) ∙ sym h ∙ ap g (omega (arith, ltb-false a b v, eqb-true r (max a b) q))

  kept-merge : (rs : List ℕ) (p : Pair) → Kept rs → Level p → Kept (merge rs p)
  kept-merge rs p k l =
      record {
        long = merge-length rs p ∙ k.long;
        same = λ c h.
            ap g (merge_at rs p c (omega (arith, k.long)))
            ∙ merged_same _ _ _ (k.same p.lo l.lo ∙ l.level ∙ sym (k.same p.hi l.hi)) ∙ k.same c h;
      }

  kept_from : {ps : List Pair} (rs : List ℕ) → Kept rs → All Level ps → Kept (merge_all rs ps)
  unfolding merge_all
  kept_from rs k done = k
  kept_from rs k (more {x = p} l a) = kept_from (merge rs p) (kept-merge rs p k l) a

  -- from each number alone
  pub kept-all : {ps : List Pair} → All Level ps → Kept (merge_all (run 0 n) ps)
  kept-all a = kept_from (run 0 n) (record { long = length_run 0 n; same = λ c h. ap g (run_at n c h) }) a

-- ---- the two numbers of a pair have one name at the end

pub merged_one : (a b : ℕ) → merged a b a ≡ merged a b b
unfolding merged
merged_one a b = go (eqb a (max a b)) refl (eqb b (max a b)) refl
  where
    go : (t : Bool) → eqb a (max a b) ≡ t → (u : Bool) → eqb b (max a b) ≡ u → cond t (min a b) a ≡ cond u (min a b) b
    go true q true v = refl
    go true q false v = omega (arith, eqb-true a (max a b) q)
    go false q true v = omega (arith, eqb-true b (max a b) v)
    go false q false v = pick (ltb a b) refl
      where
        pick : (c : Bool) → ltb a b ≡ c → a ≡ b
        pick true e = absurd (eqb-false b (max a b) v (omega (arith, ltb-true a b e)))
        pick false e = absurd (eqb-false a (max a b) q (omega (arith, ltb-false a b e)))

module _ (n : ℕ) where
  one_stays : (ps : List Pair) (rs : List ℕ) (c d : ℕ) → length rs ≡ n → c < n → d < n → get_or rs c 0 ≡ get_or rs d 0 → get_or (merge_all rs ps) c 0 ≡ get_or (merge_all rs ps) d 0
  unfolding merge_all
  one_stays [] rs c d l h k e = e
  one_stays (p ∷ ps) rs c d l h k e =
      one_stays ps (merge rs p) c d (merge-length rs p ∙ l) h k
      (merge_at rs p c (omega arith) ∙ ap (merged (get_or rs p.lo 0) (get_or rs p.hi 0)) e ∙ sym (merge_at rs p d (omega arith)))

  joins_from : {ps : List Pair} (rs : List ℕ) → length rs ≡ n → All (Within n) ps → All (λ p. get_or (merge_all rs ps) p.lo 0 ≡ get_or (merge_all rs ps) p.hi 0) ps
  unfolding merge_all
  joins_from rs l done = done
  joins_from rs l (more {x = p} {l = ps} w a) =
      more
      (one_stays ps (merge rs p) p.lo p.hi (merge-length rs p ∙ l) w.lo w.hi
      (merge_at rs p p.lo (omega (arith, w.lo)) ∙ merged_one _ _ ∙ sym (merge_at rs p p.hi (omega (arith, w.hi)))))
      (joins_from (merge rs p) (merge-length rs p ∙ l) a)

  -- from each number alone
  pub step-joins : {ps : List Pair} → All (Within n) ps → All (λ p. get_or (merge_all (run 0 n) ps) p.lo 0 ≡ get_or (merge_all (run 0 n) ps) p.hi 0) ps
  step-joins a = joins_from (run 0 n) (length_run 0 n) a
