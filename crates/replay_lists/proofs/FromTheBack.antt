-- What a search over the numbers below n finds that begins at the last of them. Assumes nothing.
use Rattle.std.proofs.Common.{ℕ, arith, ◌+◌, ◌-◌, ◌<◌, ◌≡◌, ◌∙◌, ap, subst, Bool, true, false}
use Rattle.std.specs.Prelude.{Option, None, Some, MatchOption, IsSomeAnd, IfSome, ◌≤◌}
use Rattle.std.specs.Bool.{IsTrue}
use Rattle.std.specs.Fn.{CalledAt}
use Rattle.std.specs.Option.{option_map}
use Rattle.std.specs.Iterator.Runs.{Run, CallKeepsClosure, NoItemPasses, EndsAtFirstPassing, ItemsCountDown}
use Rattle.std.proofs.iter.runs.Sources.{nat_range_steps_back}
use Rattle.std.proofs.iter.runs.Sources.{range_runs_back}
use denote.Ref.{Bor}
use denote.Param.Members.{Mut}

held : Option ℕ → ℕ
held (Some x) = x
held None = 0

some_same : {x y : ℕ} → Some x ≡ Some y → x ≡ y
unfolding held
some_same e = ap held e

-- an item that is known, and what holds of it
of_item : {x : ℕ} (P : ℕ → Type 0) (o : Option ℕ) → option_map (λ y. y) o ≡ Some x → IfSome o P → P x
of_item P (Some y) e h = subst P (some_same e) h
of_item P None e h = absurd (cc e)

some_item : {x : ℕ} (P : ℕ → Type 0) (o : Option ℕ) → option_map (λ y. y) o ≡ Some x → IsSomeAnd o P → P x
some_item P (Some y) e h = subst P (some_same e) h
some_item P None e h = absurd h

module _ {F : Type 0} {g : Mut F (Bor ℕ × Unit {0}) Bool} (f : F) (n : ℕ) (Yes No : ℕ → Type 0) (kept : CallKeepsClosure g f)
    (hit : (x : ℕ) → CalledAt g f x true f → Yes x) (miss : (x : ℕ) → CalledAt g f x false f → No x) where
  module _ (p : Run nat_range_steps_back) (s : p.from.start ≡ 0) (e : p.from.end ≡ n) where
    counts : ItemsCountDown p p.from.start p.from.end
    counts = range_runs_back p p.seen

    -- the item at a place
    item : (k j : ℕ) → j + k + 1 ≡ n → j < p.len → option_map (λ y. y) (p.at j) ≡ Some k
    item k j h l =
        let q : p.from.end - 1 - j ≡ k = omega (arith, h, e) in
        counts.3 j l ∙ ap Some q

    pub found_last : (r : Option ℕ) → MatchOption r (IsTrue p.whole × NoItemPasses p g f) (EndsAtFirstPassing p g f)
        → MatchOption r ((k : ℕ) → k < n → No k) (λ i. (i < n) × Yes i × ((k : ℕ) → i < k → k < n → No k))
    found_last None (w, none) = λ k l.
        let j : ℕ = n - 1 - k in
        let all : p.len ≡ p.from.end - p.from.start = counts.1 w in
        miss k (of_item (λ x. CalledAt g f x false f) (p.at j) (item k j (omega arith) (omega arith)) (none kept j))
    found_last (Some x) (i, long, at, c) =
        let last : (x + i + 1 ≡ p.from.end) × (p.from.start ≤ x) = subst (λ o. IfSome o (λ x. (x + i + 1 ≡ p.from.end) × (p.from.start ≤ x))) at (counts.2 i) in
        let place = last.0 in
        let called = c kept in
        (omega arith, hit x called.0, λ k a b. miss k (some_item (λ x. CalledAt g f x false f) (p.at (n - 1 - k)) (item k (n - 1 - k) (omega arith) (omega arith)) (called.1 (n - 1 - k) (omega arith))))
