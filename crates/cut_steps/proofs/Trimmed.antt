-- A list joined over the numbers of a range, where most of them give nothing: it is that of a smaller range (`trim`). So the candidates of a column, or row, are joined as the
-- four places about the first one past the line (`four-places`). Assumes nothing.
use Prim.Native.Nat.{ℕ, zero, suc, ◌+◌, ◌-◌, ◌/◌, ◌≤◌, ◌<◌, min}
use native.Mathlib.Omega.{arith}
use mathlib.Core.Path.{◌≡◌, refl, sym, ap, ap₂, ◌∙◌}
use mathlib.Core.Logic.{◌⊎◌, inl, inr, ⊎_elim}
use mathlib.Core.Bool.{Bool, true, false, ◌&&◌, cond, and-false}
use mathlib.Core.List.{List, [], ◌∷◌, ◌++◌, append_assoc, append-nil}
use lib.Dec.{leb, ltb}
use borrow.Author.Tests.{leb-true, le-leb, lt-leb, ltb-true, lt-ltb, le-ltb}
use Rattle.definitions.specs.Scan.{concat_map, run}
use Rattle.definitions.specs.Grid.{Pair}
use Rattle.definitions.specs.Spans.{pixels_per_walk_cell, range_inclusive, candidate_minor_range}
use Rattle.laws.specs.ListLaws.Tests.{both}
use Rattle.laws.specs.NumberLaws.Comparisons.{le_or_lt}
use Rattle.cut_steps.specs.Prefixes.{up_to, concat-append, concat_none, concat_more}
use Rattle.cut_steps.specs.Crossed.{two_back}

pub run-split : (a n k : ℕ) → run a (n + k) ≡ run a n ++ run (a + n) k
unfolding run
run-split a zero k =
    let e : 0 + k ≡ k = omega arith in
    let f : a ≡ a + 0 = omega arith in
    (λ i. run (f i) (e i))
run-split a (suc n) k =
    let e : suc n + k ≡ suc (n + k) = omega arith in
    let f : suc a + n ≡ a + suc n = omega arith in
    ap (run a) e ∙ ap {B = List ℕ} (λ r. a ∷ r) (run-split (suc a) n k ∙ ap (λ x. run (suc a) n ++ run x k) f)

-- numbers up to one between, and from there on
pub concat-split : {B : Type 0} (f : ℕ → List B) (a b c : ℕ) → a ≤ b → b ≤ c → concat_map f (up_to a b) ++ concat_map f (up_to b c) ≡ concat_map f (up_to a c)
concat-split f a b c h i =
    let e : (b - a) + (c - b) ≡ c - a = omega arith in
    let g : a + (b - a) ≡ b = omega arith in
    sym (concat-append f (up_to a b) (up_to b c)) ∙ ap (concat_map f) (sym (ap (run a) (sym e) ∙ run-split a (b - a) (c - b) ∙ ap (λ x. up_to a b ++ run x (c - b)) g))

module _ {B : Type 0} (f : ℕ → List B) where
  concat-empty : (a n : ℕ) → ((i : ℕ) → a ≤ i → i < a + n → f i ≡ []) → concat_map f (run a n) ≡ []
  unfolding concat_map run
  concat-empty a zero h = refl
  concat-empty a (suc n) h = ap₂ ◌++◌ (h a (omega arith) (omega arith)) (concat-empty (suc a) n (λ i p q. h i (omega arith) (omega arith)))

  pub trim : (p n k : ℕ) → ((b : ℕ) → b < p → f b ≡ []) → ((b : ℕ) → p + n ≤ b → f b ≡ []) → concat_map f (run 0 (p + n + k)) ≡ concat_map f (run p n)
  trim p n k early late =
      let e : 0 + p ≡ p = omega arith in
      let g : p + n + k ≡ p + (n + k) = omega arith in
      ap (λ m. concat_map f (run 0 m)) g ∙ ap (concat_map f) (run-split 0 p (n + k)) ∙ concat-append f (run 0 p) (run (0 + p) (n + k))
      ∙ ap₂ ◌++◌ (concat-empty 0 p (λ i _ h. early i (omega arith))) (ap (λ x. concat_map f (run x (n + k))) e ∙ ap (concat_map f) (run-split p n k) ∙ concat-append f (run p n) (run (p + n) k))
      ∙ ap (λ r. concat_map f (run p n) ++ r) (concat-empty (p + n) k (λ i h _. late i h)) ∙ append-nil (concat_map f (run p n))

  none_joined : (a b : ℕ) → ((i : ℕ) → a ≤ i → i < b → f i ≡ []) → concat_map f (up_to a b) ≡ []
  none_joined a b h = concat-empty a (b - a) (λ i p q. h i p (omega arith))

  -- a range, and a narrower one outside of which there is nothing
  pub narrow : (a b first last : ℕ) → a ≤ first → last ≤ b → ((m : ℕ) → a ≤ m → m ≤ b → (m < first) ⊎ (last < m) → f m ≡ []) → concat_map f (range_inclusive first last) ≡ concat_map f (range_inclusive a b)
  unfolding range_inclusive
  narrow a b first last p q none = ⊎_elim some no (le_or_lt first last)
    where
      some : first ≤ last → concat_map f (up_to first (suc last)) ≡ concat_map f (up_to a (suc b))
      some o =
          sym (append-nil (concat_map f (up_to first (suc last)))) ∙ ap (λ r. concat_map f (up_to first (suc last)) ++ r) (sym (none_joined (suc last) (suc b) (λ i h k. none i (omega arith) (omega arith) (inr (omega arith)))))
          ∙ concat-split f first (suc last) (suc b) (omega arith) (omega arith) ∙ ap (λ r. r ++ concat_map f (up_to first (suc b))) (sym (none_joined a first (λ i h k. none i h (omega arith) (inl k))))
          ∙ concat-split f a first (suc b) p (omega arith)

      no : last < first → concat_map f (up_to first (suc last)) ≡ concat_map f (up_to a (suc b))
      no o =
          none_joined first (suc last) (λ i h k. absurd (omega arith))
          ∙ sym (none_joined a (suc b) (λ i h k. none i h (omega arith) (⊎_elim (λ l. inr (omega arith)) (λ l. inl l) (le_or_lt first i))))

-- ---- moved by two

module _ (f : ℕ → List Pair) (limit : ℕ) where
  abbrev T : ℕ → List Pair
  T = two_back f limit

  there : (a : ℕ) → a < limit → T (a + 2) ≡ f a
  there a h =
      let e : a + 2 - 2 ≡ a = omega arith in
      ap (λ t. cond (t && ltb (a + 2 - 2) limit) (f (a + 2 - 2)) []) (le-leb 2 (a + 2) (omega arith)) ∙ (λ i. cond (ltb (e i) limit) (f (e i)) []) ∙ ap (λ t. cond t (f a) []) (lt-ltb a limit h)

  moved : (a n : ℕ) → a + n ≤ limit → concat_map T (run (a + 2) n) ≡ concat_map f (run a n)
  unfolding concat_map run
  moved a zero h = refl
  moved a (suc n) h =
      let e : suc (a + 2) ≡ suc a + 2 = omega arith in
      ap₂ ◌++◌ (there a (omega arith)) (ap (λ x. concat_map T (run x n)) e ∙ moved (suc a) n (omega arith))

  module _ (first : ℕ) (far : (i : ℕ) → i < limit → (i + 2 < first) ⊎ (first + 2 ≤ i) → f i ≡ []) where
    nothing : (b : ℕ) → (b < first) ⊎ (first + 4 ≤ b) → T b ≡ []
    nothing b h = go (leb 2 b && ltb (b - 2) limit) refl
      where
        go : (t : Bool) → (leb 2 b && ltb (b - 2) limit) ≡ t → cond t (f (b - 2)) [] ≡ []
        go false e = refl
        go true e =
            let p = both (leb 2 b) (ltb (b - 2) limit) e in
            let two = leb-true 2 b p.0 in
            far (b - 2) (ltb-true (b - 2) limit p.1) (⊎_elim (λ i. inl (omega (arith, two))) (λ i. inr (omega (arith, two))) h)

    -- beyond the limit there is nothing either
    past : (b : ℕ) → limit + 2 ≤ b → T b ≡ []
    past b h = ap (λ t. cond (leb 2 b && t) (f (b - 2)) []) (le-ltb (b - 2) limit (omega arith)) ∙ ap (λ t. cond t (f (b - 2)) []) (and-false (leb 2 b))

    -- the range from a on, of n numbers: all that is not nothing
    module _ (a n : ℕ) (fits : a + n ≤ limit) (low : a ≤ first - 2) (high : (first + 2 ≤ a + n) ⊎ (limit ≤ a + n)) where
      early : (b : ℕ) → b < a + 2 → T b ≡ []
      early b h = ⊎_elim (λ i. nothing b (inl (omega arith))) (λ i. ap (λ t. cond (t && ltb (b - 2) limit) (f (b - 2)) []) (lt-leb 2 b (omega arith))) (le_or_lt 2 b)

      late : (b : ℕ) → a + 2 + n ≤ b → T b ≡ []
      late b h = ⊎_elim (λ i. nothing b (inr (omega arith))) (λ i. past b (omega arith)) high

      pub four-places : ((T first ++ T (first + 1)) ++ T (first + 2)) ++ T (first + 3) ≡ concat_map f (run a n)
      unfolding concat_map run
      four-places =
          let one : first + 1 ≡ suc first = omega arith in
          let two : first + 2 ≡ suc (suc first) = omega arith in
          let three : first + 3 ≡ suc (suc (suc first)) = omega arith in
          let same : first + 4 + (a + n + 2) ≡ a + 2 + n + (first + 4) = omega arith in
          (λ i. ((T first ++ T (one i)) ++ T (two i)) ++ T (three i)) ∙ regroup (T first) (T (suc first)) (T (suc (suc first))) (T (suc (suc (suc first))))
          ∙ sym (trim T first 4 (a + n + 2) (λ b h. nothing b (inl h)) (λ b h. nothing b (inr h))) ∙ ap (λ m. concat_map T (run 0 m)) same ∙ trim T (a + 2) n (first + 4) early late ∙ moved a n fits
        where
          regroup : (p q r s : List Pair) → ((p ++ q) ++ r) ++ s ≡ p ++ (q ++ (r ++ (s ++ [])))
          regroup p q r s = simp (append_assoc, append-nil)

-- ---- of a column's candidates

pub places-joined :
    (f : ℕ → List Pair) (limit first reference : ℕ) → 0 < limit → (reference / pixels_per_walk_cell ≤ first) × (first ≤ reference / pixels_per_walk_cell + 1)
    → ((i : ℕ) → i < limit → (i + 2 < first) ⊎ (first + 2 ≤ i) → f i ≡ [])
    → ((two_back f limit first ++ two_back f limit (first + 1)) ++ two_back f limit (first + 2)) ++ two_back f limit (first + 3) ≡ concat_map f (candidate_minor_range reference limit)
unfolding candidate_minor_range range_inclusive concat_map run
places-joined f limit first reference some near far = go (reference / pixels_per_walk_cell) near.0 near.1
  where
    go :
        (c : ℕ) → c ≤ first → first ≤ c + 1
        → ((two_back f limit first ++ two_back f limit (first + 1)) ++ two_back f limit (first + 2)) ++ two_back f limit (first + 3) ≡ concat_map f (run (c - 3) (suc (min (c + 3) (limit - 1)) - (c - 3)))
    go c l h = ⊎_elim some_numbers no_numbers (le_or_lt (c - 3) (min (c + 3) (limit - 1)))
      where
        some_numbers : c - 3 ≤ min (c + 3) (limit - 1) → ((two_back f limit first ++ two_back f limit (first + 1)) ++ two_back f limit (first + 2)) ++ two_back f limit (first + 3) ≡ concat_map f (run (c - 3) (suc (min (c + 3) (limit - 1)) - (c - 3)))
        some_numbers o = four-places f limit first far (c - 3) (suc (min (c + 3) (limit - 1)) - (c - 3)) (omega arith) (omega arith) (⊎_elim (λ i. inl (omega arith)) (λ i. inr (omega arith)) (le_or_lt (c + 3) (limit - 1)))

        no_numbers : min (c + 3) (limit - 1) < c - 3 → ((two_back f limit first ++ two_back f limit (first + 1)) ++ two_back f limit (first + 2)) ++ two_back f limit (first + 3) ≡ concat_map f (run (c - 3) (suc (min (c + 3) (limit - 1)) - (c - 3)))
        no_numbers o =
            let e : (b : ℕ) → first ≤ b → two_back f limit b ≡ [] = λ b h. past f limit first far b (omega arith) in
            let none : suc (min (c + 3) (limit - 1)) - (c - 3) ≡ 0 = omega arith in
            ap₂ ◌++◌ (ap₂ ◌++◌ (ap₂ ◌++◌ (e first (omega arith)) (e (first + 1) (omega arith))) (e (first + 2) (omega arith))) (e (first + 3) (omega arith)) ∙ sym (ap (λ n. concat_map f (run (c - 3) n)) none)

pub four-passed : {A : Type 0} (f : ℕ → List A) (m : ℕ) → concat_map f (up_to m (m + 4)) ≡ ((f m ++ f (m + 1)) ++ f (m + 2)) ++ f (m + 3)
four-passed f m =
    let one : m + 1 + 1 ≡ m + 2 = omega arith in
    let two : m + 2 + 1 ≡ m + 3 = omega arith in
    let three : m + 3 + 1 ≡ m + 4 = omega arith in
    ap (λ n. concat_map f (up_to m n)) (sym three) ∙ concat_more f m (m + 3) (omega arith)
    ∙ ap (λ l. l ++ f (m + 3)) (ap (λ n. concat_map f (up_to m n)) (sym two) ∙ concat_more f m (m + 2) (omega arith) ∙ ap (λ l. l ++ f (m + 2)) (ap (λ n. concat_map f (up_to m n)) (sym one) ∙ concat_more f m (m + 1) (omega arith) ∙ ap (λ l. l ++ f (m + 1)) (concat_more f m m (omega arith) ∙ ap (λ l. l ++ f m) (concat_none f m))))
