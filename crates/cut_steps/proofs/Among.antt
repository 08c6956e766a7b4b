-- Steps among others: those of a list among those of a longer one, and those of some numbers among those of more. Assumes nothing.
use Prim.Native.Nat.{ℕ, ◌+◌, ◌≤◌, ◌<◌}
use native.Mathlib.Omega.{arith}
use mathlib.Core.Path.{◌≡◌, sym, ap, ◌∙◌}
use mathlib.Core.Bool.{◌||◌}
use mathlib.Core.List.{List, ◌++◌}
use Rattle.definitions.specs.Scan.{any, concat_map}
use Rattle.definitions.specs.Grid.{Pair}
use Rattle.laws.specs.ListLaws.Tests.{or_right}
use Rattle.laws.specs.ListLaws.Lists.{any_append}
use Rattle.cut_steps.specs.Prefixes.{up_to, concat_more}
use Rattle.cut_steps.specs.Visits.{Among}
use Rattle.cut_steps.proofs.Trimmed.{concat-split}

pub among_same : {E F : List Pair} → F ≡ E → Among F E
among_same e f t = sym (ap (any f) e) ∙ t

among-then : (G F E : List Pair) → Among G F → Among F E → Among G E
among-then G F E a b f t = b f (a f t)

among-left : (E F : List Pair) → Among E (E ++ F)
among-left E F f e = any_append f E F ∙ ap (λ t. t || any f F) e

among-right : (E F : List Pair) → Among F (E ++ F)
among-right E F f e = any_append f E F ∙ or_right (any f E) (any f F) e

-- those of numbers between two others, and of one of them
module _ (f : ℕ → List Pair) where
  abbrev steps : ℕ → ℕ → List Pair
  steps a b = concat_map f (up_to a b)

  pub among-part : {from to k next : ℕ} → from ≤ k → k ≤ next → next ≤ to → Among (concat_map f (up_to k next)) (concat_map f (up_to from to))
  among-part {from} {to} {k} {next} a b c =
      among-then (steps k next) (steps k to) (steps from to)
      (among-then (steps k next) (steps k next ++ steps next to) (steps k to) (among-left (steps k next) (steps next to)) (among_same (concat-split f k next to b c)))
      (among-then (steps k to) (steps from k ++ steps k to) (steps from to) (among-right (steps from k) (steps k to)) (among_same (concat-split f from k to a (omega arith))))

  pub among_at : {from to k : ℕ} → from ≤ k → k < to → Among (f k) (concat_map f (up_to from to))
  among_at {from} {to} {k} a b =
      among-then (f k) (steps from (k + 1)) (steps from to)
      (among-then (f k) (steps from k ++ f k) (steps from (k + 1)) (among-right (steps from k) (f k)) (among_same (sym (concat_more f from k a))))
      (among-part {k = from} {next = k + 1} (omega arith) (omega arith) (omega arith))
