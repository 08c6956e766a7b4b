-- Chains of pairs (`Joined` of definitions) and the classes that merging the pairs makes: two numbers have one name exactly when a chain joins them, and the
-- name is the least number of the class. By induction along the merging, each number is joined to its name by the pairs merged so far; the other direction is
-- that the two numbers of a pair end up with one name. Besides, the closure law: a test that says the same at both numbers of every pair and holds at a number
-- holds throughout its class. Assumes nothing.
use Prim.Native.Nat.{ℕ, ◌<◌, min, max}
use Rattle.std.proofs.Common.{arith, sym, ◌∙◌, ltb-true, ltb-false, eqb-true}
use Rattle.std.specs.Prelude.{◌≡◌, ◌↔◌, Bool, true, false, cond, length, eqb, ltb}
use Rattle.std.proofs.Math.Path.{refl, subst}
use mathlib.Core.List.{List, Memᴰ}
use Rattle.std.proofs.Math.ListN.{get_or}
use Rattle.definitions.specs.Scan.{run}
use Rattle.definitions.specs.Grid.{Pair}
use Rattle.definitions.specs.Partition.{Joined, here, along, back, merge, merge_all}
use Rattle.laws.specs.ListLaws.Lists.{All, done, more, all_both, length_run}
use Rattle.laws.specs.ListLaws.Members.{all_at, all_members}
use Rattle.laws.specs.RegionLaws.Merging.{merged, merge_at, merge-length, Within, run_at, step-joins}

-- ---- chains

module _ {E : List Pair} where
  pub joined_trans : {a b c : ℕ} → Joined E a b → Joined E b c → Joined E a c
  joined_trans j here = j
  joined_trans j (along k m) = along (joined_trans j k) m
  joined_trans j (back k m) = back (joined_trans j k) m

  pub joined_sym : {a b : ℕ} → Joined E a b → Joined E b a
  joined_sym here = here
  joined_sym (along {e = e} j m) = joined_trans (back {e = e} here m) (joined_sym j)
  joined_sym (back {e = e} j m) = joined_trans (along {e = e} here m) (joined_sym j)

  -- whatever is the same at both numbers of every pair is the same along a chain
  pub joined_same : {X : Type 0} (g : ℕ → X) {a b : ℕ} → All (λ p. g p.lo ≡ g p.hi) E → Joined E a b → g a ≡ g b
  joined_same g s here = refl
  joined_same g s (along j m) = joined_same g s j ∙ all_at s m
  joined_same g s (back j m) = joined_same g s j ∙ sym (all_at s m)

-- ---- each number is joined to its name

module _ (E : List Pair) (n : ℕ) where
  -- one merge: the names of p's numbers are joined to them, and so to one another
  merged-joined : (rs : List ℕ) (p : Pair) → ((c : ℕ) → c < n → Joined E c (get_or rs c 0)) → Within n p → Memᴰ p E → (c : ℕ) → c < n → Joined E c (merged (get_or rs p.lo 0) (get_or rs p.hi 0) (get_or rs c 0))
  unfolding merged
  merged-joined rs p j w m c h = go (eqb r (max a b)) refl (ltb a b) refl
    where
      a : ℕ
      a = get_or rs p.lo 0

      b : ℕ
      b = get_or rs p.hi 0

      r : ℕ
      r = get_or rs c 0

      across : Joined E a b
      across = joined_trans (along {e = p} (joined_sym (j p.lo w.lo)) m) (j p.hi w.hi)

      named : (k : ℕ) → r ≡ k → Joined E c k
      named k e = subst (λ x. Joined E c x) e (j c h)

      go : (t : Bool) → eqb r (max a b) ≡ t → (u : Bool) → ltb a b ≡ u → Joined E c (cond t (min a b) r)
      go false q u v = j c h
      go true q true v =
          subst (λ x. Joined E c x) (omega (arith, ltb-true a b v))
          (joined_trans (named b (omega (arith, ltb-true a b v, eqb-true r (max a b) q))) (joined_sym across))
      go true q false v =
          subst (λ x. Joined E c x) (omega (arith, ltb-false a b v))
          (joined_trans (named a (omega (arith, ltb-false a b v, eqb-true r (max a b) q))) across)

  names-joined : {ps : List Pair} (rs : List ℕ) → length rs ≡ n → ((c : ℕ) → c < n → Joined E c (get_or rs c 0)) → All (λ p. Within n p × Memᴰ p E) ps → (c : ℕ) → c < n → Joined E c (get_or (merge_all rs ps) c 0)
  unfolding merge_all
  names-joined rs l j done = j
  names-joined rs l j (more {x = p} w a) =
      names-joined (merge rs p) (merge-length rs p ∙ l)
      (λ c h. subst (λ x. Joined E c x) (sym (merge_at rs p c (omega arith))) (merged-joined rs p j w.0 w.1 c h)) a

-- ---- the classes, from each number alone

module _ (n : ℕ) {ps : List Pair} (w : All (Within n) ps) where
  abbrev name : ℕ → ℕ
  name c = get_or (merge_all (run 0 n) ps) c 0

  pub name-joined : (c : ℕ) → c < n → Joined ps c (name c)
  name-joined =
      names-joined ps n (run 0 n) (length_run 0 n) (λ c h. subst (λ x. Joined ps c x) (sym (run_at n c h)) here) (all_both w (all_members ps))

  pub joined_name_lem : {c d : ℕ} → Joined ps c d → name c ≡ name d
  joined_name_lem j = joined_same name (step-joins n w) j

  pub same_name : (c d : ℕ) → c < n → d < n → (name c ≡ name d) ↔ Joined ps c d
  same_name c d h k =
      (λ e. joined_trans (name-joined c h) (joined_sym (subst (λ x. Joined ps d x) (sym e) (name-joined d k))), joined_name_lem)

  -- a test that says the same at both numbers of every pair and holds at c holds throughout the class of c
  pub class_least : (P : ℕ → Bool) → All (λ p. P p.lo ≡ P p.hi) ps → (c d : ℕ) → c < n → d < n → name d ≡ name c → P c ≡ true → P d ≡ true
  class_least P s c d h k e t = joined_same P s ((same_name d c k h).0 e) ∙ t
