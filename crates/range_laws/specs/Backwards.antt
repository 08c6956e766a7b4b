-- What `find` gives over a range from its end: the last number that passes. Assumes nothing.
use Prim.Native.Nat.{ℕ, zero, suc, ◌+◌, ◌-◌, ◌≤◌, ◌<◌}
use native.Mathlib.Omega.{arith}
use mathlib.Core.Path.{◌≡◌, refl, sym, ap, subst, ◌∙◌}
use mathlib.Core.Bool.{Bool, true, false}
use mathlib.Core.List.{List, [], ◌∷◌}
use lib.ListN.{length, get_or}
use denote.Param.Members.{Mut}
use denote.Ref.{Bor}
use Rattle.std.specs.Prelude.{Option, None, Some, MatchOption}
use Rattle.std.specs.Bool.{⊤}
use Rattle.std.specs.Fn.{CalledAt}
use Rattle.std.specs.Iterator.{YieldsThen}
use Rattle.std.specs.Iterator.Adapters.{rev_source, rev_steps}
use Rattle.std.specs.List.{FoldsTo, AllWithin, HoldsAt}
use Rattle.std.specs.declared.ops.Range.{Range}
use Rattle.std.specs.declared.iter.Rev.{Rev}
use Rattle.std.proofs.lemmas.Iterator.{first_from_find}
use Rattle.std.proofs.lemmas.Iterator.Consumers.{YieldsList-from_shown}

-- one step of a range from its end
abbrev back : Range ℕ → Option ℕ → Range ℕ → Type 0
back s r t = (t.start ≡ s.start) × MatchOption r ((s.end - s.start ≡ 0) × (t.end ≡ s.end)) (λ x. (0 < s.end - s.start) × (x ≡ t.end) × (s.end ≡ t.end + 1))

-- the n numbers from a on, the last first
abbrev down : ℕ → ℕ → List ℕ
down a zero = []
down a (suc n) = (a + n) ∷ down a n

down-long : (a n : ℕ) → length (down a n) ≡ n
down-long a zero = refl
down-long a (suc n) = ap suc (down-long a n)

down-at : (a n i d : ℕ) → i < n → get_or (down a n) i d ≡ a + (n - 1 - i)
down-at a zero i d l = absurd (omega arith)
down-at a (suc n) zero d l = omega arith
down-at a (suc n) (suc i) d l = down-at a n i d (omega arith) ∙ omega arith

stepped : (a n b m x : ℕ) → n ≡ suc m → x ≡ a + m → b ≡ a → down a n ≡ x ∷ down b m
stepped a n b m x e f g = ap (down a) e ∙ ap {B = List ℕ} (λ w. w ∷ down a m) (sym f) ∙ ap {B = List ℕ} (λ w. x ∷ down w m) (sym g)

abbrev shown : Rev (Range ℕ) → List ℕ
shown s = down (rev_source s).start ((rev_source s).end - (rev_source s).start)

module _ (s : Rev (Range ℕ)) where
  abbrev low : ℕ
  low = (rev_source s).start

  abbrev high : ℕ
  high = (rev_source s).end

  -- none passes of the last n
  above : (No : ℕ → Type 0) (n : ℕ) → n ≤ high - low → AllWithin No (shown s) 0 n → (k : ℕ) → low ≤ k → k < high → high ≤ k + n → No k
  above No n l h k a b c = subst No {x = get_or (shown s) (high - 1 - k) 0} {y = k} (down-at low (high - low) (high - 1 - k) 0 (omega arith) ∙ omega arith) (h (high - 1 - k) 0 (omega arith) (omega arith))

  by : (Yes No : ℕ → Type 0) (o : Option ℕ) → MatchOption o (AllWithin No (shown s) 0 (length (shown s))) (λ x. Yes x × (i : ℕ) × (i < length (shown s)) × HoldsAt (λ y. y ≡ x) (shown s) i × AllWithin No (shown s) 0 i)
      → MatchOption o ((k : ℕ) → low ≤ k → k < high → No k) (λ j. (low ≤ j) × (j < high) × Yes j × ((k : ℕ) → j < k → k < high → No k))
  by Yes No None h = λ k a b. above No (length (shown s)) (omega (arith, down-long low (high - low))) h k a b (omega (arith, down-long low (high - low)))
  by Yes No (Some x) (yes', i, l, e, h) =
      let m : i < high - low = omega (arith, down-long low (high - low)) in
      let at : low + (high - low - 1 - i) ≡ x = sym (down-at low (high - low) i 0 m) ∙ e 0 in
      (omega (arith, at), omega (arith, at), yes', λ k a b. above No i (omega arith) h k (omega (arith, at)) b (omega (arith, at)))

  pub last_from_range : {F : Type 0} {g : Mut F (Bor ℕ × Unit {0}) Bool} (u : Rev (Range ℕ)) (f : F) (r : Option ℕ) (Yes No : ℕ → Type 0) → (xs : List ℕ) × (j : F) × YieldsThen (rev_steps back) s xs r u × FoldsTo (λ p x q. CalledAt g p x false q) f xs j × MatchOption r ⊤ (λ x. (h : F) × CalledAt g j x true h)
      → ((x : ℕ) (q : F) → CalledAt g f x true q → Yes x) → ((x : ℕ) (q : F) → CalledAt g f x false q → (q ≡ f) × No x)
      → MatchOption r ((k : ℕ) → low ≤ k → k < high → No k) (λ j. (low ≤ j) × (j < high) × Yes j × ((k : ℕ) → j < k → k < high → No k))
  last_from_range u f r Yes No d yes' no' = by Yes No r (first_from_find u f r Yes No d (YieldsList-from_shown (rev_steps back) (λ x. x) shown (λ v t p. ap (λ n. length (down (rev_source v).start n)) p.1.0)
      (λ v x t p. stepped (rev_source v).start ((rev_source v).end - (rev_source v).start) (rev_source t).start ((rev_source t).end - (rev_source t).start) x (omega (arith, p.0, p.1.0, p.1.2)) (omega (arith, p.0, p.1.0, p.1.1, p.1.2)) p.0) s) yes' no')
