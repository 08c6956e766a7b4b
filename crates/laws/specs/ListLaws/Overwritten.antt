-- Stores behind what a list begins with. Assumes nothing.
use Rattle.std.specs.Prelude.{ℕ, suc, ◌+◌, ◌-◌, ◌≤◌, ◌≡◌, refl, List, [], ◌∷◌, ◌++◌, length, drop, set}
use Rattle.std.proofs.Common.{arith, add-zero, sym, ap, ap₂, ◌∙◌, length-append, length-drop, drop-drop}
use Rattle.std.proofs.lemmas.List.Edits.{sets, sets-eq}
use Rattle.std.proofs.Math.Seq.{take-append_seam, drop-append-add}
use Rattle.std.proofs.lemmas.List.{set_comm}
use Rattle.definitions.specs.Lists.{overwrite}

module _ {A : Type 0} where
  -- a list stored behind what was written
  pub overwrite_more : (x vs old : List A) → length x + length vs ≤ length old → sets (overwrite x old) (length x) vs ≡ overwrite (x ++ vs) old
  overwrite_more x vs old h =
      sets-eq vs (overwrite x old) (length x) (omega (arith, length-append x (drop (length x) old), length-drop (length x) old))
      ∙ ap₂ (λ u v. (u ++ vs) ++ v) (take-append_seam x (drop (length x) old)) back
    where
      back : drop (length x + length vs) (overwrite x old) ≡ drop (length (x ++ vs)) old
      back = drop-append-add x (drop (length x) old) (length vs) ∙ drop-drop (length vs) (length x) old ∙ ap (λ k. drop k old) (sym (length-append x vs))

  -- what is written again
  pub overwrite-twice : (new mid old : List A) → length mid ≤ length new → overwrite new (overwrite mid old) ≡ overwrite new old
  overwrite-twice new mid old h =
      let e : length mid + (length new - length mid) ≡ length new = omega arith in
      ap (λ l. new ++ l) (ap (λ n. drop n (overwrite mid old)) (sym e) ∙ drop-append-add mid (drop (length mid) old) (length new - length mid) ∙ drop-drop (length new - length mid) (length mid) old ∙ ap (λ n. drop n old) e)

  -- one list is stored behind another
  pub sets_append : (l : List A) (k : ℕ) (v w : List A) → sets l k (v ++ w) ≡ sets (sets l k v) (k + length v) w
  sets_append l k [] w = ap (λ n. sets l n w) (sym (add-zero k))
  sets_append l k (x ∷ v) w =
      let e : suc k + length v ≡ k + suc (length v) = omega arith in
      sets_append (set l k x) (suc k) v w ∙ ap (λ n. sets (sets (set l k x) (suc k) v) n w) e

  -- an entry behind them may be stored before them
  pub sets_later : (l : List A) (k : ℕ) (v : List A) (n : ℕ) (x : A) → k + length v ≤ n → sets (set l n x) k v ≡ set (sets l k v) n x
  sets_later l k [] n x h = refl
  sets_later l k (y ∷ v) n x h =
      ap (λ m. sets m (suc k) v) (set_comm l n k x y (λ e. omega arith)) ∙ sets_later (set l k y) (suc k) v n x (omega arith)

  pub sets_overwrite : (old new : List A) → length new ≤ length old → sets old 0 new ≡ overwrite new old
  sets_overwrite old new h =
      let e : 0 + length new ≡ length new = omega arith in
      sets-eq new old 0 (omega arith) ∙ ap (λ n. new ++ drop n old) e
