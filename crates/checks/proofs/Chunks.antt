-- The numbers of a list that is read in chunks, and what `position` says of a list's items. Assumes nothing.
use Prim.Native.Nat.{ℕ, zero, suc, ◌+◌, ◌*◌, ◌/◌, ◌<◌, ◌≤◌}
use native.Mathlib.Omega.{arith}
use mathlib.Core.Path.{◌≡◌, sym, ap, ◌∙◌}
use mathlib.Core.Bool.{Bool, true, false}
use mathlib.Core.List.{List}
use lib.ListN.{get_or, drop, length}
use Rattle.std.proofs.Common.{get_or-drop, get_or-take}
use Rattle.std.specs.Prelude.{Option, None, Some, MatchOption}
use Rattle.std.specs.List.{AllWithin, HoldsAt}
use Rattle.std.specs.Simd.{first_chunks}
use Rattle.definitions.specs.Grid.{segment_at, boundary_at}
use Rattle.definitions.specs.Refusals.{first_faulty}
use Rattle.laws.specs.ListLaws.Chains.{found_is_first}

in_chunk : (n k i j : ℕ) (d l : List ℕ) → i < k → j < n → get_or (get_or (first_chunks n k l) i d) j 0 ≡ get_or l (n * i + j) 0
in_chunk n zero i j d l h m = absurd (omega arith)
in_chunk n (suc k) zero j d l h m = get_or-take n l j 0 m ∙ ap (λ p. get_or l p 0) (omega arith)
in_chunk n (suc k) (suc i) j d l h m =
    let same : n + (n * i + j) ≡ n * suc i + j = omega arith in
    in_chunk n k i j d (drop n l) (omega arith) m ∙ get_or-drop n l (n * i + j) 0 ∙ ap (λ p. get_or l p 0) same

module _ (n : ℕ) (l : List ℕ) {chunks : List (List ℕ)} (e : chunks ≡ first_chunks n (length l / n) l) (i : ℕ) (d : List ℕ) (h : i < length l / n) where
  -- number j of chunk i
  pub number_in : (j : ℕ) → j < n → get_or (get_or chunks i d) j 0 ≡ get_or l (n * i + j) 0
  number_in j m = ap (λ (c : List (List ℕ)). get_or (get_or c i d) j 0) e ∙ in_chunk n (length l / n) i j d l h m

  pub first_in : 0 < n → get_or (get_or chunks i d) 0 0 ≡ get_or l (n * i) 0
  first_in m = let same : n * i + 0 ≡ n * i = omega arith in number_in 0 m ∙ ap (λ p. get_or l p 0) same

  pub segment_in : 3 < n → segment_at (get_or chunks i d) 0 ≡ segment_at l (n * i)
  segment_in m =
      let x0 = first_in (omega (arith, m)) in
      let y0 = number_in 1 (omega (arith, m)) in
      let x1 = number_in 2 (omega (arith, m)) in
      let y1 = number_in 3 (omega (arith, m)) in
      λ t. record { a = record { x = x0 t; y = y0 t }; b = record { x = x1 t; y = y1 t } }

-- span i, read in its own four numbers, is that of the list
pub span_is : (l : List ℕ) {chunks : List (List ℕ)} → chunks ≡ first_chunks 4 (length l / 4) l → (i : ℕ) (d : List ℕ) → i < length l / 4
    → segment_at (get_or chunks i d) 0 ≡ segment_at l (4 * i)
span_is l e i d h = segment_in 4 l e i d h (omega arith)

-- and boundary i, in its own nine
pub boundary_is : (l : List ℕ) {chunks : List (List ℕ)} → chunks ≡ first_chunks 9 (length l / 9) l → (i : ℕ) (d : List ℕ) → i < length l / 9
    → boundary_at (get_or chunks i d) 0 ≡ boundary_at l (9 * i)
boundary_is l e i d h =
    let line = segment_in 9 l e i d h (omega arith) in
    let bits = number_in 9 l e i d h 4 (omega arith) in
    let kind = number_in 9 l e i d h 5 (omega arith) in
    let id = number_in 9 l e i d h 6 (omega arith) in
    let low = number_in 9 l e i d h 7 (omega arith) in
    let high = number_in 9 l e i d h 8 (omega arith) in
    λ t. record { endpoints = line t; width_bits = bits t; kind = kind t; ramp_id = id t; lower = low t; upper = high t }

-- what `position` says of the items of a list, where item i is asked what is asked at place i
module _ {X : Type 0} (d : X) (fits : X → Bool) (at : ℕ → Bool) (n : ℕ) (xs : List X) where
  by_place : (r : Option ℕ) → length xs ≡ n → ((i : ℕ) → i < n → fits (get_or xs i d) ≡ at i)
      → MatchOption r (AllWithin (λ x. fits x ≡ true) xs 0 (length xs)) (λ i. (i < length xs) × HoldsAt (λ x. fits x ≡ false) xs i × AllWithin (λ x. fits x ≡ true) xs 0 i)
      → MatchOption r ((k : ℕ) → 0 ≤ k → k < n → at k ≡ true)
      (λ i. (0 ≤ i) × (i < n) × (at i ≡ false) × ((k : ℕ) → 0 ≤ k → k < i → at k ≡ true))
  by_place None long same h = λ k a b. sym (same k b) ∙ h k d a (omega (arith, b, long))
  by_place (Some i) long same (l, e, before) =
      let below : i < n = omega (arith, l, long) in
      (omega arith, below, sym (same i below) ∙ e d, λ k a b. sym (same k (omega (arith, b, below))) ∙ before k d a b)

  pub found_by_place : (r : Option ℕ) → length xs ≡ n → ((i : ℕ) → i < n → fits (get_or xs i d) ≡ at i)
      → MatchOption r (AllWithin (λ x. fits x ≡ true) xs 0 (length xs)) (λ i. (i < length xs) × HoldsAt (λ x. fits x ≡ false) xs i × AllWithin (λ x. fits x ≡ true) xs 0 i)
      → r ≡ first_faulty n at
  found_by_place r long same h = found_is_first at n r (by_place r long same h)
