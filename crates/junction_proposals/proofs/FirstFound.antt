-- A search in ascending order from a number on, and what is collected between the places that it finds. Assumes nothing.
use Prim.Native.Nat.{ℕ, zero, suc, ◌+◌, ◌-◌, ◌≤◌}
use native.Mathlib.Numerals.{add-one}
use native.Mathlib.Omega.{arith}
use mathlib.Core.Path.{◌≡◌, refl, ap, ◌∙◌}
use mathlib.Core.Bool.{Bool, true}
use mathlib.Core.List.{List, [], ◌∷◌, ◌++◌, append-nil}
use lib.ListN.{length}
use Rattle.definitions.specs.Scan.{collect, only_if, to_list}
use Rattle.laws.specs.ListLaws.Scans.{picked-length}
use Rattle.laws.specs.OrderLaws.Ranks.{rank_mono}
use Rattle.junction_proposals.specs.Bridges.{NoneFrom, FirstAt}

abbrev pub found : (ℕ → Bool) → ℕ → List ℕ
found f n = collect n (λ j. only_if (f j) j)

-- nothing between from and from + k
skip : (f : ℕ → Bool) (from k : ℕ) → NoneFrom f from (k + from) → found f (k + from) ≡ found f from
unfolding collect
skip f from zero h = rw (native.Mathlib.Nat.zero-add) refl
skip f from (suc k) h =
    rw (native.Mathlib.Nat.suc-add)
    (ap (λ b. found f (k + from) ++ to_list (only_if b (k + from))) (h (k + from) (omega arith) (omega arith)) ∙ append-nil (found f (k + from)) ∙ skip f from k (λ l a b. h l a (omega arith)))

pub found-skip : (f : ℕ → Bool) (from n : ℕ) → from ≤ n → NoneFrom f from n → found f n ≡ found f from
found-skip f from n l h = rw at at (skip f from (n - from) (rw (← at) at h))
  where
    at : n - from + from ≡ n
    at = omega arith

pub found_next : (f : ℕ → Bool) (j : ℕ) → f j ≡ true → found f (j + 1) ≡ found f j ++ (j ∷ [])
unfolding collect
found_next f j h = rw add-one (ap (λ b. found f j ++ to_list (only_if b j)) h)

-- ---- the first four places

module _ (f : ℕ → Bool) (n : ℕ) where
  pub none_found : NoneFrom f 0 n → length (found f n) ≡ 3 → ⊥
  unfolding collect
  none_found h e =
      let none : length (found f n) ≡ 0 = ap length (found-skip f 0 n (omega arith) h) in
      omega arith

  module _ {i : ℕ} (first : FirstAt f 0 n i) where
    past_first : found f (i + 1) ≡ i ∷ []
    unfolding collect
    past_first = found_next f i first.2 ∙ ap (λ m. m ++ (i ∷ [])) (found-skip f 0 i (omega arith) first.3)

    pub one_found : NoneFrom f (i + 1) n → length (found f n) ≡ 3 → ⊥
    one_found h e =
        let one : length (found f n) ≡ 1 = ap length (found-skip f (i + 1) n (omega (arith, first.1)) h ∙ past_first) in
        omega arith

    module _ {j : ℕ} (second : FirstAt f (i + 1) n j) where
      past-second : found f (j + 1) ≡ i ∷ j ∷ []
      past-second = found_next f j second.2 ∙ ap (λ m. m ++ (j ∷ [])) (found-skip f (i + 1) j second.0 second.3 ∙ past_first)

      pub two_found : NoneFrom f (j + 1) n → length (found f n) ≡ 3 → ⊥
      two_found h e =
          let two : length (found f n) ≡ 2 = ap length (found-skip f (j + 1) n (omega (arith, second.1)) h ∙ past-second) in
          omega arith

      module _ {k : ℕ} (third : FirstAt f (j + 1) n k) where
        past-third : found f (k + 1) ≡ i ∷ j ∷ k ∷ []
        past-third = found_next f k third.2 ∙ ap (λ m. m ++ (k ∷ [])) (found-skip f (j + 1) k third.0 third.3 ∙ past-second)

        pub three-found : NoneFrom f (k + 1) n → found f n ≡ i ∷ j ∷ k ∷ []
        three-found h = found-skip f (k + 1) n (omega (arith, third.1)) h ∙ past-third

        pub more_found : {x : ℕ} → FirstAt f (k + 1) n x → length (found f n) ≡ 3 → ⊥
        more_found {x} fourth e = omega (arith, e, picked-length f (λ m. m) n, picked-length f (λ m. m) (x + 1), rank_mono f (x + 1) n (omega (arith, fourth.1)), four)
          where
            four : length (found f (x + 1)) ≡ 4
            four = ap length (found_next f x fourth.2 ∙ ap (λ m. m ++ (x ∷ [])) (found-skip f (k + 1) x fourth.0 fourth.3 ∙ past-third))
