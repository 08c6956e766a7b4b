-- Of a list of which only the first n entries were changed: it is as long as it was, and what stands beyond them is as it was. Assumes nothing.
use Rattle.std.specs.Prelude.{ℕ, ◌<◌, ◌≡◌, refl, List, length, drop, set}
use Rattle.std.proofs.Common.{◌∙◌, length-set, drop-set-lt}

pub record Beyond (n : ℕ) (was l : List ℕ) : Type 0 where
  pub long : length l ≡ length was
  pub rest : drop n l ≡ drop n was

pub beyond_same : (n : ℕ) (l : List ℕ) → Beyond n l l
beyond_same n l = record { long = refl; rest = refl }

pub beyond-set : (n : ℕ) (l : List ℕ) (i v : ℕ) → i < n → Beyond n l (set l i v)
beyond-set n l i v h = record { long = length-set l i v; rest = drop-set-lt n l i v h }

pub beyond-then : {n : ℕ} {k l m : List ℕ} → Beyond n k l → Beyond n l m → Beyond n k m
beyond-then a b = record { long = b.long ∙ a.long; rest = b.rest ∙ a.rest }
