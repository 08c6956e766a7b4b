-- How many entries have changed, from the last that has. Assumes nothing.
use Rattle.std.proofs.Common.{ℕ, arith, subst, ◌+◌, ◌<◌, ◌≡◌, List, length, true, false}
use Rattle.std.specs.Prelude.{Option, None, Some, MatchOption}
use Rattle.replay_lists.specs.Contract.{IsOther, Changed}

pub up_to_last : {A : Type 0} {converts : A → ℕ → Type 0} {l : List A} (r : Option ℕ) {s : ℕ}
    → MatchOption r ((k : ℕ) → k < length l → IsOther converts l k false) (λ i. (i < length l) × IsOther converts l i true × ((k : ℕ) → i < k → k < length l → IsOther converts l k false))
    → MatchOption r (s ≡ 0) (λ i. s ≡ i + 1) → Changed converts l s
up_to_last {converts = converts} {l} None h e =
    record { within = omega (arith, e); left = λ i a b. h i b; last = λ i q. absurd (omega (arith, q, e)) }
up_to_last {converts = converts} {l} (Some x) h e =
    record {
      within = omega (arith, e, h.0);
      left = λ i a b. h.2 i (omega (arith, a, e)) b;
      last = λ i q. subst (λ k. IsOther converts l k true) {x = x} {y = i} (omega (arith, q, e)) h.1;
    }
