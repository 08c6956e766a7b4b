-- A number written in shortest form reads as itself, whatever follows. Assumes nothing.
use Rattle.std.specs.Prelude.{ℕ, zero, suc, ◌+◌, ◌*◌, ◌/◌, ◌%◌, ◌^◌, ◌<◌, ◌≤◌, ◌≡◌, refl, Bool, true, false, ◌&&◌, ◌||◌, cond, List, [], ◌∷◌, ◌++◌, leb, ltb, eqb, length}
use Rattle.std.proofs.Common.{arith, mul_assoc, mul_comm, add-mul, add_assoc, mul-le-mul_right, sym, ap, ◌∙◌, pow-add, leb-true, leb-false, ltb-true, ltb-false, eqb-true, le-ltb, ne_eqb}
use Rattle.definitions.specs.SheetNumber.{found, with_group, ill_formed, groups, number}
use Rattle.laws.specs.SheetReading.SheetLaws.{groups_more, groups_last}
use Rattle.results.specs.Shortest.{shortest_within, shortest}

-- a byte that is at most 1 behind nine groups, and not 0 behind any
well_formed_lem : (g b : ℕ) → (g ≡ 9 → b ≤ 1) → (0 < g → 0 < b) → ill_formed g b ≡ false
well_formed_lem g b h k = go (eqb g 9) refl (ltb 0 g) refl
  where
    go : (t : Bool) → eqb g 9 ≡ t → (u : Bool) → ltb 0 g ≡ u → (t && ltb 1 b || (u && eqb b 0)) ≡ false
    go true e u f =
        let n : g ≡ 9 = eqb-true g 9 e in
        let z : 0 < b = k (omega arith) in
        rw (le-ltb 1 b (h n)) (tail u z)
      where
        tail : (u : Bool) → 0 < b → (u && eqb b 0) ≡ false
        tail true z = ne_eqb b 0 (λ q. omega arith)
        tail false z = refl
    go false e true f = ne_eqb b 0 (λ q. let z : 0 < b = k (ltb-true 0 g f) in omega arith)
    go false e false f = refl

-- the groups from g on, m more at most, of what is left of a number of 64 bits
groups-shortest : (first m g value high offset : ℕ) (rest : List ℕ) → g + m ≡ 10 → high * 2 ^ (7 * g) < 2 ^ 64 → (0 < g → 0 < high)
    → groups first g value offset (shortest_within m high ++ rest) ≡ found (value + high * 2 ^ (7 * g)) (offset + length (shortest_within m high)) rest
unfolding shortest_within
groups-shortest first zero g value high offset rest s h k =
    let ten : g ≡ 10 = omega arith in
    let e : 2 ^ (7 * g) ≡ 2 ^ 70 = ap (λ n. 2 ^ (7 * n)) ten in
    let z : 0 < high = k (omega arith) in
    let c : 1 * 2 ^ (7 * g) ≤ high * 2 ^ (7 * g) = mul-le-mul_right (2 ^ (7 * g)) z in
    absurd (omega arith)
groups-shortest first (suc m) g value high offset rest s h k = go (ltb high 128) refl (λ v o p q r. groups-shortest first m (g + 1) v (high / 128) o rest p q r)
  where
    P : ℕ
    P = 2 ^ (7 * g)

    -- behind nine groups one bit is left
    tenth : g ≡ 9 → high ≤ 1
    tenth n =
        let e : 2 ^ (7 * g) ≡ 2 ^ 63 = ap (λ i. 2 ^ (7 * i)) n in
        pick (leb high 1) refl e
      where
        pick : (t : Bool) → leb high 1 ≡ t → 2 ^ (7 * g) ≡ 2 ^ 63 → high ≤ 1
        pick true f e = leb-true high 1 f
        pick false f e =
            let two : 2 ≤ high = leb-false high 1 f in
            let c : 2 * 2 ^ (7 * g) ≤ high * 2 ^ (7 * g) = mul-le-mul_right (2 ^ (7 * g)) two in
            absurd (omega arith)

    go : (t : Bool) → ltb high 128 ≡ t
        → ((v o : ℕ) → g + 1 + m ≡ 10 → high / 128 * 2 ^ (7 * (g + 1)) < 2 ^ 64 → (0 < g + 1 → 0 < high / 128)
        → groups first (g + 1) v o (shortest_within m (high / 128) ++ rest) ≡ found (v + high / 128 * 2 ^ (7 * (g + 1))) (o + length (shortest_within m (high / 128))) rest)
        → groups first g value offset (cond t (high ∷ []) ((128 + high % 128) ∷ shortest_within m (high / 128)) ++ rest)
        ≡ found (value + high * 2 ^ (7 * g)) (offset + length (cond t (high ∷ []) ((128 + high % 128) ∷ shortest_within m (high / 128)))) rest
    go true f ih =
        let small : high < 128 = ltb-true high 128 f in
        let digit : high % 128 ≡ high = omega arith in
        groups_last first g value offset high rest (well_formed_lem g high tenth k) small ∙ ap (λ n. found (value + n * 2 ^ (7 * g)) (offset + 1) rest) digit
    go false f ih =
        let large : 128 ≤ high = ltb-false high 128 f in
        let b : ℕ = 128 + high % 128 in
        let low : b % 128 ≡ high % 128 = omega arith in
        let parts : high ≡ high % 128 + high / 128 * 128 = omega arith in
        let power : 2 ^ (7 * (g + 1)) ≡ P * 128 = ap (λ n. 2 ^ n) (omega arith) ∙ pow-add 2 (7 * g) 7 in
        let shifted : high / 128 * 2 ^ (7 * (g + 1)) ≡ high / 128 * 128 * P = ap (λ n. high / 128 * n) (power ∙ mul_comm P 128) ∙ sym (mul_assoc (high / 128) 128 P) in
        let whole : high * P ≡ high % 128 * P + high / 128 * 128 * P = ap (λ n. n * P) parts ∙ add-mul (high % 128) (high / 128 * 128) P in
        let behind : offset + 1 + length (shortest_within m (high / 128)) ≡ offset + suc (length (shortest_within m (high / 128))) = omega arith in
        let more : groups first g value offset (b ∷ (shortest_within m (high / 128) ++ rest)) ≡ groups first (g + 1) (with_group value g b) (offset + 1) (shortest_within m (high / 128) ++ rest) =
        groups_more first g value offset b (shortest_within m (high / 128) ++ rest) (well_formed_lem g b (λ n. absurd (not-nine n)) (λ p. omega arith)) (omega arith) in
        more ∙ ih (with_group value g b) (offset + 1) (omega arith) (omega arith) (λ p. omega arith)
        ∙ ap (λ n. found n (offset + 1 + length (shortest_within m (high / 128))) rest) (sum low shifted whole)
        ∙ ap (λ n. found (value + high * P) n rest) behind
      where
        not-nine : g ≡ 9 → ⊥
        not-nine n =
            let large : 128 ≤ high = ltb-false high 128 f in
            omega (arith, tenth n)

        sum : (128 + high % 128) % 128 ≡ high % 128 → high / 128 * 2 ^ (7 * (g + 1)) ≡ high / 128 * 128 * P → high * P ≡ high % 128 * P + high / 128 * 128 * P
            → with_group value g (128 + high % 128) + high / 128 * 2 ^ (7 * (g + 1)) ≡ value + high * P
        sum low shifted whole =
            ap (λ n. value + n * P + high / 128 * 2 ^ (7 * (g + 1))) low ∙ ap (λ n. value + high % 128 * P + n) shifted ∙ add_assoc value (high % 128 * P) (high / 128 * 128 * P)
            ∙ ap (λ n. value + n) (sym whole)

pub number-shortest : (n offset : ℕ) (rest : List ℕ) → n < 2 ^ 64 → number offset (shortest n ++ rest) ≡ found n (offset + length (shortest n)) rest
unfolding number shortest
number-shortest n offset rest h = groups-shortest offset 10 0 0 n offset rest refl below (λ p. omega arith) ∙ ap (λ v. found v (offset + length (shortest n)) rest) same
  where
    below : n * 2 ^ (7 * 0) < 2 ^ 64
    below = omega arith

    same : 0 + n * 2 ^ (7 * 0) ≡ n
    same = omega arith
