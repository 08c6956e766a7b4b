-- A list of which the first n numbers, or all, are filled with 0 is the list cleared over that length. Assumes nothing.
use Prim.Native.Nat.{ℕ, ◌≤◌}
use mathlib.Core.Path.{◌≡◌, sym, ap, ◌∙◌}
use mathlib.Core.List.{List, ◌++◌, append-nil}
use lib.ListN.{length, take, drop, replicate}
use lib.Seq.{drop-length}
use borrow.Author.Rules.{rules}
use Rattle.definitions.specs.Lists.{zeroed}

pub cleared_front : (n : ℕ) (l : List ℕ) {z : List ℕ} → n ≤ length l → z ≡ replicate (length (take n l)) 0 → z ++ drop n l ≡ zeroed n l
cleared_front n l h e = ap (λ r. r ++ drop n l) (e ∙ ap (λ k. replicate k 0) (search rules))

pub cleared_all : (l : List ℕ) {z : List ℕ} → z ≡ replicate (length l) 0 → z ≡ zeroed (length l) l
cleared_all l e = e ∙ sym (ap (λ r. replicate (length l) 0 ++ r) (drop-length l) ∙ append-nil _)
