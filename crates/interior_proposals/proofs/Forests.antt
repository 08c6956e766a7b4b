-- Classes of regions by their names: two classes joined are two names merged, and in ascending order the parents become names. Assumes nothing.
use Prim.Native.Nat.{ℕ, suc, ◌+◌, ◌-◌, ◌≤◌, ◌<◌, min, max}
use native.Mathlib.Omega.{arith}
use lib.Arith.{lt_of_le-ne}
use mathlib.Core.Path.{◌≡◌, refl, sym, ap, ap₂, subst, ◌∙◌}
use mathlib.Core.Bool.{Bool, true, false, cond}
use mathlib.Core.Logic.{⊎_elim}
use mathlib.Core.List.{List, [], ◌∷◌, ◌++◌}
use lib.ListN.{length, get_or, set, length-set}
use lib.Seq.{get_or-set_same, get_or-set_other}
use lib.Dec.{eqb}
use borrow.Author.Tests.{eqb-true, eqb-false}
use Rattle.definitions.specs.Grid.{Pair}
use Rattle.definitions.specs.Partition.{merge, merge_all}
use Rattle.laws.specs.RegionLaws.Merging.{merged, merge_at, merge-length, merge_all-length}
use Rattle.laws.specs.ListLaws.Beyond.{Beyond, beyond_same, beyond-then}
use Rattle.laws.specs.NumberLaws.Comparisons.{same_or}
use Rattle.context.specs.Shown.{pair_at, pairs_between}
use Rattle.parents.specs.Forest.{joined_name, Left}
use Rattle.parents.specs.Forest as parents
use Rattle.parents.specs.ForestLaws.{name-low}
use Rattle.interior_proposals.specs.Forest.{class_of, Parented, Placed, Merged, Names}
use Rattle.interior_proposals.proofs.RowScans.{between_none, between_next, between-end}

-- ---- a store

-- what stands for region y after a store for region x
pub at_set : (ps : List ℕ) (x v y : ℕ) → 1 ≤ x → 1 ≤ y → (y ≡ x → ⊥) → get_or (set ps (x - 1) v) (y - 1) 0 ≡ get_or ps (y - 1) 0
at_set ps x v y a b n = get_or-set_other ps (x - 1) (y - 1) v 0 (λ e. n (omega arith))

module _ (P : ℕ → ℕ → Type 0) (ps : List ℕ) (x v : ℕ) (a : 1 ≤ x) (l : x ≤ length ps) where
  -- what holds of each region and what stands for it holds after a store, if it holds of what is stored
  pub set_case : (y : ℕ) → 1 ≤ y → P x v → ((y ≡ x → ⊥) → P y (get_or ps (y - 1) 0)) → P y (get_or (set ps (x - 1) v) (y - 1) 0)
  set_case y b new old =
      ⊎_elim
      (λ e. subst (λ z. P z (get_or (set ps (x - 1) v) (z - 1) 0)) (sym e) (subst (P x) (sym (get_or-set_same ps (x - 1) v 0 (omega arith))) new))
      (λ n. subst (P y) (sym (at_set ps x v y a b n)) (old n))
      (same_or y x)

-- ---- two classes become one

-- parents of the same names
pub renamed : {n : ℕ} {f g : ℕ → ℕ} {p : List ℕ} → ((c : ℕ) → c < n → f c ≡ g c) → parents.Forest n f p → parents.Forest n g p
renamed h F =
    record {
      few = F.few;
      long = F.long;
      parent = λ c l.
          let P = F.parent c l in
          record { low = P.low; same = sym (h _ (omega (arith, P.low, l))) ∙ P.same ∙ h c l; top = λ e. sym (h c l) ∙ P.top e };
    }

-- one merge, of numbers from 1 on and of those one less
merged_less : (a b r : ℕ) → 1 ≤ a → 1 ≤ b → 1 ≤ r → merged (a - 1) (b - 1) (r - 1) ≡ merged a b r - 1
unfolding merged
merged_less a b r i j k = go (eqb r (max a b)) refl (eqb (r - 1) (max (a - 1) (b - 1))) refl
  where
    go : (s : Bool) → eqb r (max a b) ≡ s → (t : Bool) → eqb (r - 1) (max (a - 1) (b - 1)) ≡ t → cond t (min (a - 1) (b - 1)) (r - 1) ≡ cond s (min a b) r - 1
    go true e true f = omega (arith, i, j)
    go false e false f = refl
    go true e false f = absurd (eqb-false (r - 1) (max (a - 1) (b - 1)) f (omega (arith, eqb-true r (max a b) e, i, j)))
    go false e true f = absurd (eqb-false r (max a b) e (omega (arith, eqb-true (r - 1) (max (a - 1) (b - 1)) f, i, j, k)))

merged_from : (a b r : ℕ) → 1 ≤ a → 1 ≤ b → 1 ≤ r → 1 ≤ merged a b r
unfolding merged
merged_from a b r i j k = go (eqb r (max a b))
  where
    go : (t : Bool) → 1 ≤ cond t (min a b) r
    go true = omega (arith, i, j)
    go false = k

module _ {cs ps : List ℕ} {p : Pair} (w : Placed (length cs) p) (P : Parented cs ps) where
  abbrev low : ℕ
  low = get_or cs p.lo 0

  abbrev high : ℕ
  high = get_or cs p.hi 0

  low_name : 1 ≤ low
  low_name = P.named p.lo w.low_from w.low_upto

  high_name : 1 ≤ high
  high_name = P.named p.hi w.high_from w.high_upto

  merged-size : length (merge cs p) ≡ length cs
  merged-size = merge-length cs p

  at_region : (x : ℕ) → 1 ≤ x → suc (x - 1) ≡ x
  at_region x h = omega arith

  class_is : (c : ℕ) → c < length cs - 1 → joined_name (class_of cs) (p.lo - 1) (p.hi - 1) c ≡ class_of (merge cs p) c
  class_is c l =
      ap₂ (λ x y. merged (get_or cs x 0 - 1) (get_or cs y 0 - 1) (get_or cs (suc c) 0 - 1)) (at_region p.lo w.low_from) (at_region p.hi w.high_from)
      ∙ merged_less low high (get_or cs (suc c) 0) low_name high_name (P.named (suc c) (omega arith) (omega (arith, l)))
      ∙ ap (λ n. n - 1) (sym (merge_at cs p (suc c) (omega (arith, l))))

  pub two_classes : parents.PlacedTwo ps (p.lo - 1) (p.hi - 1)
  two_classes =
      record {
        n = length cs - 1;
        name = class_of cs;
        forest = P.classes;
        first = omega (arith, w.low_from, w.low_upto);
        second = omega (arith, w.high_from, w.high_upto);
      }

  -- from what `join` of crate `parents` ensures
  pub joined : {now : List ℕ} → ((n : ℕ) (name : ℕ → ℕ) → parents.Forest n name ps → p.lo - 1 < n → p.hi - 1 < n → Left n (joined_name name (p.lo - 1) (p.hi - 1)) ps now) → Merged cs ps (p ∷ []) now
  unfolding merge_all
  joined {now} ensures =
      let L = ensures (length cs - 1) (class_of cs) P.classes (omega (arith, w.low_from, w.low_upto)) (omega (arith, w.high_from, w.high_upto)) in
      record {
        parented =
            record {
              named = λ x a l.
                  let k : x < length cs = omega (arith, l, merged-size) in
                  subst (λ n. 1 ≤ n) (sym (merge_at cs p x k)) (merged_from low high (get_or cs x 0) low_name high_name (P.named x a k));
              classes = subst (λ n. parents.Forest (n - 1) (class_of (merge cs p)) now) (sym merged-size) (renamed class_is L.forest);
            };
        beyond = L.beyond;
      }

-- ---- many pairs

pub merge_all-append : (cs : List ℕ) (l m : List Pair) → merge_all cs (l ++ m) ≡ merge_all (merge_all cs l) m
unfolding merge_all
merge_all-append cs [] m = refl
merge_all-append cs (p ∷ l) m = merge_all-append (merge cs p) l m

module _ {cs was : List ℕ} where
  pub merged-start : Parented cs was → Merged cs was [] was
  unfolding merge_all
  merged-start P = record { parented = P; beyond = beyond_same (length cs - 1) was }

  pub merged-then : {l m : List Pair} {mid ps : List ℕ} → Merged cs was l mid → Merged (merge_all cs l) mid m ps → Merged cs was (l ++ m) ps
  merged-then {l} {m} {mid} {ps} a b =
      record {
        parented = subst (λ ns. Parented ns ps) (sym (merge_all-append cs l m)) b.parented;
        beyond = beyond-then a.beyond (subst (λ n. Beyond (n - 1) mid ps) (merge_all-length cs l) b.beyond);
      }

-- ---- parents become names, in ascending order

-- the first k are names, and the others parents as they were
pub record Flat (cs was ps : List ℕ) (k : ℕ) : Type 0 where
  pub flat : (c : ℕ) → c < k → get_or ps c 0 ≡ get_or cs (suc c) 0
  pub rest : (c : ℕ) → k ≤ c → get_or ps c 0 ≡ get_or was c 0
  pub same_long : length ps ≡ length was

pub flat-start : (cs was : List ℕ) → Flat cs was was 0
flat-start cs was = record { flat = λ c h. absurd (omega arith); rest = λ c h. refl; same_long = refl }

module _ {cs was ps : List ℕ} {k : ℕ} (P : Parented cs was) (F : Flat cs was ps k) (l : k + 1 < length cs) where
  abbrev up : parents.Parent (class_of cs) k (get_or was k 0)
  up = P.classes.parent k (omega (arith, l))

  name_from : (c : ℕ) → c ≤ k → 1 ≤ get_or cs (suc c) 0
  name_from c h = P.named (suc c) (omega arith) (omega (arith, l, h))

  pub parent_low : get_or ps k 0 ≤ k
  parent_low = omega (arith, F.rest k (omega arith), up.low)

  -- what is stored is the name
  pub own_name : get_or ps k 0 ≡ k → k + 1 ≡ get_or cs (suc k) 0
  own_name e = omega (arith, up.top (sym (F.rest k (omega arith)) ∙ e), name_from k (omega arith))

  pub parents_name : (get_or ps k 0 ≡ k → ⊥) → get_or ps (get_or ps k 0) 0 ≡ get_or cs (suc k) 0
  parents_name n =
      let p : get_or ps k 0 ≡ get_or was k 0 = F.rest k (omega arith) in
      let same : class_of cs (get_or ps k 0) ≡ class_of cs k = ap (class_of cs) p ∙ up.same in
      F.flat (get_or ps k 0) (lt_of_le-ne parent_low n) ∙ omega (arith, same, name_from (get_or ps k 0) parent_low, name_from k (omega arith))

  pub flat_more : (v : ℕ) → v ≡ get_or cs (suc k) 0 → Flat cs was (set ps k v) (k + 1)
  flat_more v e =
      record {
        flat = λ c h. ⊎_elim
            (λ q. ap (λ i. get_or (set ps k v) i 0) q ∙ get_or-set_same ps k v 0 (omega (arith, F.same_long, P.classes.long, l)) ∙ e ∙ ap (λ i. get_or cs (suc i) 0) (sym q))
            (λ n. get_or-set_other ps k c v 0 n ∙ F.flat c (lt_of_le-ne (omega arith) n)) (same_or c k);
        rest = λ c h. get_or-set_other ps k c v 0 (λ q. omega arith) ∙ F.rest c (omega arith);
        same_long = length-set ps k v ∙ F.same_long;
      }

pub flat-end : {cs was ps : List ℕ} {k n : ℕ} → Parented cs was → Flat cs was ps k → n ≤ k → length cs ≡ suc n → Names cs ps
flat-end {cs} {was} {ps} {k} {n} P F a e =
    record {
      long = omega (arith, F.same_long, P.classes.long);
      low = λ x b l. subst (λ v. 1 ≤ v) (sym (at x b l)) (P.named x b l);
      high = λ x b l. subst (λ v. v ≤ x) (sym (at x b l)) (under x b l);
      at = at;
    }
  where
    back : (x : ℕ) → 1 ≤ x → suc (x - 1) ≡ x
    back x b = omega arith

    at : (x : ℕ) → 1 ≤ x → x < length cs → get_or ps (x - 1) 0 ≡ get_or cs x 0
    at x b l = F.flat (x - 1) (omega (arith, a, e, b, l)) ∙ ap (λ i. get_or cs i 0) (back x b)

    under : (x : ℕ) → 1 ≤ x → x < length cs → get_or cs x 0 ≤ x
    under x b l =
        let low : get_or cs (suc (x - 1)) 0 - 1 ≤ x - 1 = name-low P.classes (x - 1) (omega (arith, b, l)) in
        omega (arith, low, ap (λ i. get_or cs i 0) (back x b), P.named x b l)

-- ---- row by row

module _ (cs was rows : List ℕ) (first : ℕ) where
  pub rows_start : Parented cs was → Merged cs was (pairs_between rows first first) was
  rows_start P = subst (λ l. Merged cs was l was) (sym (between_none rows first)) (merged-start P)

  module _ (k : ℕ) {mid : List ℕ} (m : Merged cs was (pairs_between rows first k) mid) where
    size : length (merge_all cs (pairs_between rows first k)) ≡ length cs
    size = merge_all-length cs (pairs_between rows first k)

    -- a and b are the regions of row k, as they were read
    module _ {a b : ℕ} (w : Placed (length cs) (pair_at rows k)) (d : a ≡ (pair_at rows k).lo) (e : b ≡ (pair_at rows k).hi) where
      pub row-placed : Placed (length (merge_all cs (pairs_between rows first k))) (record { lo = a; hi = b })
      row-placed =
          subst (λ n. Placed n (record { lo = a; hi = b })) (sym size)
          (record { low_from = omega (arith, w.low_from); low_upto = omega (arith, w.low_upto); high_from = omega (arith, w.high_from); high_upto = omega (arith, w.high_upto) })

      pub rows_more : {now : List ℕ} → first ≤ k → Merged (merge_all cs (pairs_between rows first k)) mid (record { lo = a; hi = b } ∷ []) now → Merged cs was (pairs_between rows first (k + 1)) now
      rows_more {now} h n =
          subst (λ l. Merged cs was l now) (sym (between_next rows first k h))
          (merged-then m (subst (λ p. Merged (merge_all cs (pairs_between rows first k)) mid (p ∷ []) now) same n))
        where
          same : ◌≡◌ {A = Pair} (record { lo = a; hi = b }) (pair_at rows k)
          same = ap₂ {C = Pair} (λ x y. record { lo = x; hi = y }) d e

    pub rows_end : {end : ℕ} → k ≤ end → end ≤ k → Merged cs was (pairs_between rows first end) mid
    rows_end a b = subst (λ l. Merged cs was l mid) (between-end rows first a b) m
