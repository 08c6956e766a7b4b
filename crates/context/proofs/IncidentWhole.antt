-- Counting in the first entries of a longer list: what holds of those is said of the whole, and the rest is as it was. Assumes nothing.
use Prim.Native.Nat.{ℕ, ◌≤◌, ◌<◌}
use mathlib.Core.Path.{◌≡◌, sym, ap, ◌∙◌, subst}
use mathlib.Core.Logic.{⊎_elim}
use mathlib.Core.List.{List, ◌++◌, map}
use lib.ListN.{length, get_or, take, drop, get_or-eq_default}
use lib.Seq.{get_or-take, length-take-le}
use Rattle.definitions.specs.Context.{Context}
use Rattle.laws.specs.NumberLaws.Comparisons.{le_or_lt}
use Rattle.context.specs.Shown.{ShownPairs, ShownIncidents}
use Rattle.context.specs.Packed.{span_pairs, count_spans, unpacked}
use Rattle.context.proofs.IncidentCounts.{incidents-shown}

module _ (rows starts : List ℕ) (count regions : ℕ) (counts : List ℕ) (room : regions ≤ length counts) where
  pub part-zero : ((k : ℕ) → k < regions → get_or counts k 0 ≡ 0) → (k : ℕ) → get_or (take regions counts) k 0 ≡ 0
  part-zero z k =
      ⊎_elim (λ l. get_or-eq_default (take regions counts) 0 (subst (λ n. n ≤ k) (sym (length-take-le regions counts room)) l))
      (λ l. get_or-take regions counts k 0 l ∙ z k l) (le_or_lt regions k)

  module _ {last : List ℕ} (counted : last ≡ map unpacked (count_spans (span_pairs rows starts) count (take regions counts))) where
    pub whole-shown : (C : Context) → C.count ≡ count → C.regions ≡ regions → ShownPairs C rows starts → ((k : ℕ) → k < regions → get_or counts k 0 ≡ 0)
        → ShownIncidents C (last ++ drop regions counts)
    whole-shown C e r P z =
        subst (λ l. ShownIncidents C (l ++ drop regions counts)) (sym (counted ∙ ap (λ n. map unpacked (count_spans (span_pairs rows starts) n (take regions counts))) (sym e)))
        (incidents-shown P (take regions counts) (drop regions counts) (length-take-le regions counts room ∙ sym r) (part-zero z))
