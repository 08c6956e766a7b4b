-- What a chain over the numbers below n gives, as a scan of `definitions` says it: the first that fails a test, whether any passes one, whether all do. std's lemmas
-- on a chain say what was asked; these turn that into the scan. Assumes nothing.
use Prim.Native.Nat.{ℕ, zero, suc, ◌+◌, ◌-◌, ◌≤◌, ◌<◌}
use lib.ListN.{length, get_or}
use denote.Param.Members.{Mut}
use Rattle.std.proofs.Common.{arith, sym, ap, ap₂}
use Rattle.std.specs.Prelude.{◌≡◌, Bool, true, false, not, List, Option, None, Some, MatchOption, MatchBool}
use Rattle.std.specs.Fn.{Called}
use Rattle.std.specs.Iterator.{YieldsThen}
use Rattle.std.specs.List.{FoldsTo, AllWithin, HoldsAt, range_with_len}
use Rattle.std.specs.declared.ops.Range.{Range}
use Rattle.std.proofs.iter.Yields.{nat_range_steps}
use Rattle.std.proofs.lemmas.Iterator.{cases_from_any, cases_from_all, YieldsList-from_range}
use Rattle.std.proofs.lemmas.List.FromFn.{length-range_with_len, get_or-range_with_len}
use Rattle.std.proofs.Math.Path.{refl, subst}
use Rattle.definitions.specs.Scan.{only_if, any_below_lem, all_below}
use Rattle.definitions.specs.Refusals.{or_else, first_below_lem, first_faulty}
use Rattle.laws.specs.ListLaws.Below.{below_at, below_none}
use Rattle.laws.specs.ListLaws.ScanSteps.{all-fails, all_intro}
use Rattle.laws.specs.ListLaws.FirstBelow.{first_faulty_lem}

module _ (fits : ℕ → Bool) where
  all_fit : (n : ℕ) → ((k : ℕ) → k < n → fits k ≡ true) → first_faulty n fits ≡ None
  unfolding first_below_lem
  all_fit zero h = refl
  all_fit (suc n) h = ap₂ or_else (all_fit n (λ k l. h k (omega arith))) (ap (λ b. only_if (not b) n) (h n (omega arith)))

  -- what `find` gives, where it looks for what does not fit
  pub found_is_first : (n : ℕ) (r : Option ℕ) → MatchOption r ((k : ℕ) → 0 ≤ k → k < n → fits k ≡ true) (λ i. (0 ≤ i) × (i < n) × (fits i ≡ false) × ((k : ℕ) → 0 ≤ k → k < i → fits k ≡ true)) → r ≡ first_faulty n fits
  found_is_first n None h = sym (all_fit n (λ k l. h k (omega arith) l))
  found_is_first n (Some i) (_, l, e, before) = sym (first_faulty_lem fits n i l (all_fit i (λ k m. before k (omega arith) m)) (sym e) refl)

  -- what `any` gives, and `all`, by their cases over a range, below
  pub any_is : (n : ℕ) (r : Bool) → MatchBool r ((k : ℕ) × (0 ≤ k) × (k < n) × (fits k ≡ true)) ((k : ℕ) → 0 ≤ k → k < n → fits k ≡ false) → r ≡ any_below_lem n fits
  any_is n true (k, _, l, e) = sym (below_at n fits k l e)
  any_is n false h = sym (below_none n fits (λ k l. h k (omega arith) l))

  pub all_is : (n : ℕ) (r : Bool) → MatchBool r ((k : ℕ) → 0 ≤ k → k < n → fits k ≡ true) ((k : ℕ) × (0 ≤ k) × (k < n) × (fits k ≡ false)) → r ≡ all_below n fits
  all_is n true h = sym (all_intro fits n (λ k l. h k (omega arith) l))
  all_is n false (k, _, l, e) = sym (all-fails fits n k l e)

-- ---- `any` and `all` over a range, said of the numbers in it and not of a list

module _ (s : Range ℕ) where
  abbrev numbers : List ℕ
  numbers = range_with_len s.start (s.end - s.start)

  numbers_long : length numbers ≡ s.end - s.start
  numbers_long = length-range_with_len s.start (s.end - s.start)

  each : (P : ℕ → Type 0) → AllWithin P numbers 0 (length numbers) → (k : ℕ) → s.start ≤ k → k < s.end → P k
  each P h k a b = subst P {x = get_or numbers (k - s.start) 0} {y = k} (omega (arith, get_or-range_with_len s.start (s.end - s.start) (k - s.start) 0 (omega arith))) (h (k - s.start) 0 (omega arith) (omega (arith, numbers_long)))

  some : (P : ℕ → Type 0) → (i : ℕ) × (i < length numbers) × HoldsAt P numbers i → (k : ℕ) × (s.start ≤ k) × (k < s.end) × P k
  some P (i, l, h) =
      let m : i < s.end - s.start = omega (arith, numbers_long) in
      (s.start + i, omega arith, omega arith, subst P (get_or-range_with_len s.start (s.end - s.start) i 0 m) (h 0))

  module _ {F : Type 0} {g : Mut F (ℕ × Unit {0}) Bool} (u : Range ℕ) (f : F) (r : Bool) (Yes No : ℕ → Type 0) where
    pub any_from_range : (xs : List ℕ) × (o : Option ℕ) × (j : F) × YieldsThen nat_range_steps s xs o u × FoldsTo (λ p x q. Called g p (x, tt) false q) f xs j × MatchOption o (r ≡ false) (λ x. (r ≡ true) × ((h : F) × Called g j (x, tt) true h)) → ((x : ℕ) (q : F) → Called g f (x, tt) true q → Yes x) → ((x : ℕ) (q : F) → Called g f (x, tt) false q → (q ≡ f) × No x) → MatchBool r ((k : ℕ) × (s.start ≤ k) × (k < s.end) × Yes k) ((k : ℕ) → s.start ≤ k → k < s.end → No k)
    any_from_range d hit miss = by r (cases_from_any u f r Yes No d (YieldsList-from_range s.start s.end _ refl refl) hit miss)
      where
        by : (b : Bool) → MatchBool b ((k : ℕ) × (k < length numbers) × HoldsAt Yes numbers k) (AllWithin No numbers 0 (length numbers)) → MatchBool b ((k : ℕ) × (s.start ≤ k) × (k < s.end) × Yes k) ((k : ℕ) → s.start ≤ k → k < s.end → No k)
        by true h = some Yes h
        by false h = each No h

    pub all_from_range : (xs : List ℕ) × (o : Option ℕ) × (j : F) × YieldsThen nat_range_steps s xs o u × FoldsTo (λ p x q. Called g p (x, tt) true q) f xs j × MatchOption o (r ≡ true) (λ x. (r ≡ false) × ((h : F) × Called g j (x, tt) false h)) → ((x : ℕ) (q : F) → Called g f (x, tt) true q → (q ≡ f) × Yes x) → ((x : ℕ) (q : F) → Called g f (x, tt) false q → No x) → MatchBool r ((k : ℕ) → s.start ≤ k → k < s.end → Yes k) ((k : ℕ) × (s.start ≤ k) × (k < s.end) × No k)
    all_from_range d hit miss = by r (cases_from_all u f r Yes No d (YieldsList-from_range s.start s.end _ refl refl) hit miss)
      where
        by : (b : Bool) → MatchBool b (AllWithin Yes numbers 0 (length numbers)) ((k : ℕ) × (k < length numbers) × HoldsAt No numbers k) → MatchBool b ((k : ℕ) → s.start ≤ k → k < s.end → Yes k) ((k : ℕ) × (s.start ≤ k) × (k < s.end) × No k)
        by true h = each Yes h
        by false h = some No h
