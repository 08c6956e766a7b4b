-- A lent list through a run: each pass overwrites its front, none beyond what the first one filled (`FewerPairs.antt`); so beyond that it is as it was
-- (`beyond-stays`), and once the entries between the last pass's and the first's are cleared it is what `RestExit.antt` says (`cleared`). Assumes nothing.
use Rattle.std.specs.Prelude.{ℕ, zero, suc, ◌+◌, ◌-◌, ◌≤◌, ◌≡◌, List, ◌++◌, length, drop, replicate}
use Rattle.std.proofs.Common.{arith, sym, ap, ◌∙◌, drop-drop}
use Rattle.std.proofs.Math.Seq.{drop-append-add}
use Rattle.definitions.specs.Lists.{overwrite}

module _ {A : Type 0} where
  pub beyond-stays : (n : ℕ) (new old : List A) → length new ≤ n → drop n (overwrite new old) ≡ drop n old
  beyond-stays n new old h =
      let e : length new + (n - length new) ≡ n = omega arith in
      ap (λ m. drop m (overwrite new old)) (sym e) ∙ drop-append-add new (drop (length new) old) (n - length new) ∙ drop-drop (n - length new) (length new) old ∙ ap (λ m. drop m old) e

  drop-replicate : (k n : ℕ) (x : A) (l : List A) → k ≤ n → drop k (replicate n x ++ l) ≡ replicate (n - k) x ++ l
  drop-replicate zero n x l h =
      let e : n ≡ n - 0 = omega arith in
      ap (λ m. replicate m x ++ l) e
  drop-replicate (suc k) zero x l h = absurd (omega arith)
  drop-replicate (suc k) (suc n) x l h =
      let e : n - k ≡ suc n - suc k = omega arith in
      drop-replicate k n x l (omega arith) ∙ ap (λ m. replicate m x ++ l) e

  -- the last pass's data, the empty entry x up to n, and the list beyond as it was lent
  pub cleared : (n : ℕ) (x : A) (new now old : List A) → length new ≤ n → drop n now ≡ drop n old
      → new ++ (replicate (n - length new) x ++ drop n now) ≡ overwrite new (replicate n x ++ drop n old)
  cleared n x new now old h e = ap (λ l. new ++ l) (ap (λ l. replicate (n - length new) x ++ l) e ∙ sym (drop-replicate (length new) n x (drop n old) h))
