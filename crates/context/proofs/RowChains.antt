-- A chain over the numbers of rows asks what a scan of the pairs in them asks. Assumes nothing.
use Prim.Native.Nat.{ℕ, zero, suc, ◌-◌}
use Rattle.std.proofs.Common.{◌≡◌, ap, ◌∙◌, refl, add-one, Bool, ◌&&◌, ◌||◌, List, map}
use Rattle.std.specs.List.{list_any, list_all, range_with_len}
use Rattle.definitions.specs.Scan.{run, any, all}
use Rattle.definitions.specs.Grid.{Pair}
use Rattle.context.specs.Shown.{pair_at, pairs_between}

module _ (f : Pair → Bool) (rows : List ℕ) where
  any_run : (first n : ℕ) → list_any (λ k. f (pair_at rows k)) (range_with_len first n) ≡ any f (map (pair_at rows) (run first n))
  unfolding any run
  any_run first zero = refl
  any_run first (suc n) =
      ap (λ b. f (pair_at rows first) || b) (ap (λ k. list_any (λ k. f (pair_at rows k)) (range_with_len k n)) (add-one first) ∙ any_run (suc first) n)

  pub any_in_rows : (first end : ℕ) → list_any (λ k. f (pair_at rows k)) (range_with_len first (end - first)) ≡ any f (pairs_between rows first end)
  unfolding pairs_between
  any_in_rows first end = any_run first (end - first)

  all_run : (first n : ℕ) → list_all (λ k. f (pair_at rows k)) (range_with_len first n) ≡ all f (map (pair_at rows) (run first n))
  unfolding all run
  all_run first zero = refl
  all_run first (suc n) =
      ap (λ b. f (pair_at rows first) && b) (ap (λ k. list_all (λ k. f (pair_at rows k)) (range_with_len k n)) (add-one first) ∙ all_run (suc first) n)

  pub all_in_rows : (first end : ℕ) → list_all (λ k. f (pair_at rows k)) (range_with_len first (end - first)) ≡ all f (pairs_between rows first end)
  unfolding pairs_between
  all_in_rows first end = all_run first (end - first)
