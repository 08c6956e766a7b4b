-- What `find_map` over a range gives, where its closure leaves its state as it is. Assumes nothing.
use Prim.Native.Nat.{ℕ, ◌+◌, ◌-◌, ◌≤◌, ◌<◌}
use native.Mathlib.Omega.{arith}
use mathlib.Core.Path.{◌≡◌, ap, subst}
use mathlib.Core.Bool.{true}
use denote.Param.Members.{Mut, Called}
use Rattle.std.specs.Prelude.{Option, None, Some, MatchOption, IfSome, IsSomeAnd}
use Rattle.std.specs.declared.ops.Range.{Range}
use Rattle.std.proofs.lemmas.Option.{none-some, same_Some}
use Rattle.std.specs.Option.{option_map}
use Rattle.std.specs.Iterator.Runs.{SomeRun, CallKeepsClosure, ItemsCountUp, AllItemsGive, IsFirstToGive}
use Rattle.std.proofs.iter.Yields.{nat_range_steps}
use Rattle.std.proofs.iter.runs.Sources.{range_runs}

-- an item that is known
item_is : (P : ℕ → Type 0) (o : Option ℕ) (n : ℕ) → option_map (λ y. y) o ≡ Some n → IfSome o P → P n
item_is P None n e h = absurd (none-some n e)
item_is P (Some x) n e h = subst P (same_Some x n e) h

item_at : (P : ℕ → Type 0) (o : Option ℕ) (n : ℕ) → option_map (λ y. y) o ≡ Some n → IsSomeAnd o P → P n
item_at P None n e h = absurd (none-some n e)
item_at P (Some x) n e h = subst P (same_Some x n e) h

module _ {F B : Type 0} {g : Mut F (ℕ × Unit {0}) (Option B)} (s : Range ℕ) (f : F) (keeps : CallKeepsClosure g f) (No : ℕ → Type 0) (Hit : ℕ → B → Type 0)
    (no' : (x : ℕ) → Called g f (x, tt) None f → No x) (hit' : (x : ℕ) (y : B) → Called g f (x, tt) (Some y) f → Hit x y) where
  pub first_given_from_Range : (r : Option B)
      → SomeRun nat_range_steps s (λ p. MatchOption r ((p.whole ≡ true) × AllItemsGive p g f None) (λ y. (i : ℕ) × (i < p.len) × (p.len ≡ i + 1) × IsFirstToGive p g f (Some y) None i))
      → MatchOption r ((k : ℕ) → s.start ≤ k → k < s.end → No k) (λ y. (i : ℕ) × (s.start ≤ i) × (i < s.end) × Hit i y × ((k : ℕ) → s.start ≤ k → k < i → No k))
  first_given_from_Range r (p, from, given) = go r given
    where
      counted : ItemsCountUp p p.from.start p.from.end
      counted = range_runs p p.seen

      start : p.from.start ≡ s.start
      start = ap (λ (r : Range ℕ). r.start) from

      end : p.from.end ≡ s.end
      end = ap (λ (r : Range ℕ). r.end) from

      -- a place of the range, by its distance from the first
      placed : (P : ℕ → Type 0) (k : ℕ) → s.start ≤ k → P (p.from.start + (k - s.start)) → P k
      placed P k a h = subst P (omega (arith, start)) h

      go : (r : Option B) → MatchOption r ((p.whole ≡ true) × AllItemsGive p g f None) (λ y. (i : ℕ) × (i < p.len) × (p.len ≡ i + 1) × IsFirstToGive p g f (Some y) None i)
          → MatchOption r ((k : ℕ) → s.start ≤ k → k < s.end → No k) (λ y. (i : ℕ) × (s.start ≤ i) × (i < s.end) × Hit i y × ((k : ℕ) → s.start ≤ k → k < i → No k))
      go None (whole, all) = λ k a b.
          let n = k - s.start in
          no' k (placed (λ x. Called g f (x, tt) None f) k a (item_is (λ x. Called g f (x, tt) None f) (p.at n) (p.from.start + n) (counted.3 n (omega (arith, counted.1 whole, start, end))) (all keeps n)))
      go (Some y) (i, within, long, first) = (
        p.from.start + i,
        omega (arith, start),
        omega (arith, within, counted.0, start, end),
        hit' (p.from.start + i) y (item_at (λ x. Called g f (x, tt) (Some y) f) (p.at i) (p.from.start + i) (counted.3 i within) (first keeps).0),
        λ k a b.
            let n = k - s.start in
            no' k
            (placed (λ x. Called g f (x, tt) None f) k a
            (item_at (λ x. Called g f (x, tt) None f) (p.at n) (p.from.start + n) (counted.3 n (omega (arith, within, start))) ((first keeps).1 n (omega (arith, start))))),
      )
