-- Cells that have a label: which they are after one more is labelled, and how many. Assumes nothing.
use Prim.Native.Nat.{ℕ, zero, suc, ◌+◌, ◌≤◌, ◌<◌}
use Rattle.std.proofs.Common.{arith, sym, ◌∙◌, inl, inr, get_or-set_other}
use Rattle.std.specs.Prelude.{◌≡◌, Bool, ◌⊎◌, List, length, get_or, set}
use Rattle.std.proofs.Math.Path.{refl, ap}
use Rattle.std.proofs.Math.Bool.{true, false}
use Rattle.std.proofs.Math.Logic.{⊎_elim}
use Rattle.std.proofs.Math.Seq.{get_or-set_same}
use Rattle.std.proofs.Math.Dec.{ltb}
use borrow.Author.Tests.{ltb-true, ltb-false, lt-ltb, le-ltb}
use Rattle.definitions.specs.Scan.{count_below, bit}
use Rattle.laws.specs.NumberLaws.Comparisons.{same_or, last_or}

-- cell c has a label
unfoldable pub used : List ℕ → ℕ → Bool
used l c = ltb 0 (get_or l c 0)

module _ (l : List ℕ) (c : ℕ) where
  pub used_some : (get_or l c 0 ≡ 0 → ⊥) → used l c ≡ true
  unfolding used
  used_some h = go (ltb 0 (get_or l c 0)) refl
    where
      go : (b : Bool) → ltb 0 (get_or l c 0) ≡ b → b ≡ true
      go true e = refl
      go false e = absurd (h (omega (arith, ltb-false 0 (get_or l c 0) e)))

  pub used_none : get_or l c 0 ≡ 0 → used l c ≡ false
  unfolding used
  used_none h = le-ltb 0 (get_or l c 0) (omega arith)

  pub used-zero : used l c ≡ false → get_or l c 0 ≡ 0
  unfolding used
  used-zero h = omega (arith, ltb-false 0 (get_or l c 0) h)

  pub used_pos : used l c ≡ true → 0 < get_or l c 0
  unfolding used
  used_pos h = ltb-true 0 (get_or l c 0) h

-- cell t is given the label v
module _ (l : List ℕ) (t v : ℕ) (in_l : t < length l) (some : 0 < v) where
  pub used_same : used (set l t v) t ≡ true
  unfolding used
  used_same = lt-ltb 0 (get_or (set l t v) t 0) (omega (arith, get_or-set_same l t v 0 in_l))

  pub used-other : (c : ℕ) → (c ≡ t → ⊥) → used (set l t v) c ≡ used l c
  unfolding used
  used-other c h = ap (ltb 0) (get_or-set_other l t c v 0 h)

  pub used-keeps : (c : ℕ) → used l c ≡ true → used (set l t v) c ≡ true
  used-keeps c h = ⊎_elim (λ e. rw e used_same) (λ e. used-other c e ∙ h) (same_or c t)

  pub used-new : (c : ℕ) → used (set l t v) c ≡ true → (c ≡ t) ⊎ ((c ≡ t → ⊥) × (used l c ≡ true))
  used-new c h = ⊎_elim (λ e. inl e) (λ e. inr (e, sym (used-other c e) ∙ h)) (same_or c t)

  count-before : (n : ℕ) → n ≤ t → count_below n (used (set l t v)) ≡ count_below n (used l)
  unfolding count_below
  count-before zero h = refl
  count-before (suc n) h = rw (count-before n (omega arith), used-other n (λ e. omega arith)) refl

  -- one more is labelled
  pub count_set : (n : ℕ) → t < n → used l t ≡ false → count_below n (used (set l t v)) ≡ suc (count_below n (used l))
  unfolding count_below
  count_set zero h u = absurd (omega arith)
  count_set (suc n) h u = ⊎_elim here (λ b. there b (count_set n b u)) (last_or t n (omega arith))
    where
      here : t ≡ n → count_below n (used (set l t v)) + bit (used (set l t v) n) ≡ suc (count_below n (used l) + bit (used l n))
      here e = rw (sym e, used_same, u, count-before t (omega arith)) (omega arith)

      there : t < n → count_below n (used (set l t v)) ≡ suc (count_below n (used l)) → count_below n (used (set l t v)) + bit (used (set l t v) n) ≡ suc (count_below n (used l) + bit (used l n))
      there b ih = rw (ih, used-other n (λ e. omega arith)) (omega arith)
