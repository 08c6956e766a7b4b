-- Reading a number gives exactly the bytes that `shortest` would write for it (document 02, request 3). What is assumed: the bytes are below 256.
use Rattle.std.specs.Prelude.{ℕ, suc, ◌+◌, ◌*◌, ◌-◌, ◌/◌, ◌%◌, ◌^◌, ◌<◌, ◌≤◌, ◌≡◌, refl, Bool, true, false, ◌&&◌, List, [], ◌∷◌, ◌++◌, leb, ltb, eqb}
use Rattle.std.proofs.Common.{arith, mul_assoc, mul_comm, add-mul, add_assoc, sym, ap, ◌∙◌, pow-add, leb-true, leb-false, lt-ltb}
use Rattle.std.proofs.lemmas.Bool.{false≢true, eqb-false}
use Rattle.definitions.specs.SheetNumber.{found, with_group, too_long_lem, padded, ill_formed, groups, number}
use Rattle.laws.specs.ListLaws.Tests.{neither}
use Rattle.laws.specs.ListLaws.Lists.{more}
use Rattle.laws.specs.SheetReading.SheetLaws.{groups-bad, groups_more, groups_last, not-tenth, not_found}
use Rattle.results.specs.Shortest.{shortest_within, shortest}
use Rattle.results.specs.ShortestSteps.{one_group, more_groups}
use Rattle.sheets_equal.specs.NumberBytes.{Bytes}

-- what the groups from g on are: the shortest form of what they add, which is not 0 behind other groups
record Groups (g value : ℕ) (bytes : List ℕ) (v : ℕ) (rest : List ℕ) : Type 0 where
  pub high : ℕ
  pub adds : v ≡ value + high * 2 ^ (7 * g)
  pub counts : 0 < g → 0 < high
  pub same : bytes ≡ shortest_within (10 - g) high ++ rest

-- the last group, and one before others
last_group : (m n : ℕ) (rest : List ℕ) → n < 128 → shortest_within (suc m) n ++ rest ≡ n ∷ rest
last_group m n rest h = ap (λ l. l ++ rest) (one_group m n h)

next_group : (m n : ℕ) (rest : List ℕ) → 128 ≤ n → shortest_within (suc m) n ++ rest ≡ (128 + n % 128) ∷ (shortest_within m (n / 128) ++ rest)
next_group m n rest h = ap (λ l. l ++ rest) (more_groups m n h)

groups-are : (first g value offset : ℕ) (bytes : List ℕ) {v next : ℕ} {rest : List ℕ} → g ≤ 9 → Bytes bytes → groups first g value offset bytes ≡ found v next rest
    → Groups g value bytes v rest
unfolding groups
groups-are first g value offset [] k B h = absurd (not_found h)
groups-are first g value offset (b ∷ bytes) {v} {next} {rest} k (more c B) h =
    go (ill_formed g b) refl (leb 128 b) refl (λ few q. groups-are first (g + 1) (with_group value g b) (offset + 1) bytes few B q)
  where
    step : 10 - g ≡ suc (10 - (g + 1))
    step = omega arith

    last : ill_formed g b ≡ false → b < 128 → found (with_group value g b) (offset + 1) bytes ≡ found v next rest → Groups g value (b ∷ bytes) v rest
    last e f q =
        let u : with_group value g b ≡ v = cc in
        let w : bytes ≡ rest = cc in
        let r : b % 128 ≡ b = omega arith in
        record {
          high = b;
          adds = sym u ∙ ap (λ n. value + n * 2 ^ (7 * g)) r;
          counts = λ p. nonzero p;
          same = ap (λ l. b ∷ l) w ∙ sym (last_group (10 - (g + 1)) b rest f) ∙ ap (λ m. shortest_within m b ++ rest) (sym step);
        }
      where
        nonzero : 0 < g → 0 < b
        nonzero p = pick (eqb b 0) refl
          where
            pick : (t : Bool) → eqb b 0 ≡ t → 0 < b
            pick true z =
                let n : padded g b ≡ false = (neither (too_long_lem g b) (padded g b) e).1 in
                let y : (ltb 0 g && true) ≡ false = rw (← z) n in
                absurd (false≢true (sym (rw (lt-ltb 0 g p) at y)))
            pick false z =
                let d : (b ≡ 0 → ⊥) = eqb-false b 0 z in
                omega arith

    onward : 128 ≤ b → Groups (g + 1) (with_group value g b) bytes v rest → Groups g value (b ∷ bytes) v rest
    onward f G =
        let low : ℕ = b % 128 in
        let P : ℕ = 2 ^ (7 * g) in
        let high : ℕ = low + G.high * 128 in
        let power : 2 ^ (7 * (g + 1)) ≡ P * 128 = ap (λ n. 2 ^ n) (omega arith) ∙ pow-add 2 (7 * g) 7 in
        let shifted : G.high * (P * 128) ≡ G.high * 128 * P = ap (λ n. G.high * n) (mul_comm P 128) ∙ sym (mul_assoc G.high 128 P) in
        let some : 0 < G.high = G.counts (omega arith) in
        let digit : 128 + high % 128 ≡ b = omega arith in
        let left : high / 128 ≡ G.high = omega arith in
        record {
          high = high;
          adds = G.adds ∙ ap (λ n. with_group value g b + G.high * n) power ∙ ap (λ n. value + low * P + n) shifted ∙ add_assoc value (low * P) (G.high * 128 * P) ∙ ap (λ n. value + n) (sym (add-mul low (G.high * 128) P));
          counts = λ p. omega arith;
          same =
              ap (λ l. b ∷ l) G.same
              ∙ sym (next_group (10 - (g + 1)) high rest (omega arith) ∙ ap (λ n. n ∷ (shortest_within (10 - (g + 1)) (high / 128) ++ rest)) digit ∙ ap (λ n. b ∷ (shortest_within (10 - (g + 1)) n ++ rest)) left)
              ∙ ap (λ m. shortest_within m high ++ rest) (sym step);
        }

    go : (t : Bool) → ill_formed g b ≡ t → (u : Bool) → leb 128 b ≡ u
        → (g + 1 ≤ 9 → groups first (g + 1) (with_group value g b) (offset + 1) bytes ≡ found v next rest → Groups (g + 1) (with_group value g b) bytes v rest)
        → Groups g value (b ∷ bytes) v rest
    go true e u f ih = absurd (not_found (sym (groups-bad first g value offset b bytes e) ∙ h))
    go false e true f ih =
        let d : 128 ≤ b = leb-true 128 b f in
        onward d (ih (not-tenth g b k e d) (sym (groups_more first g value offset b bytes e d) ∙ h))
    go false e false f ih =
        let d : b < 128 = leb-false 128 b f in
        last e d (sym (groups_last first g value offset b bytes e d) ∙ h)

-- the bytes of a number, and nothing else, are taken
pub number-bytes : (offset : ℕ) (bytes : List ℕ) {v next : ℕ} {rest : List ℕ} → Bytes bytes → number offset bytes ≡ found v next rest → bytes ≡ shortest v ++ rest
unfolding number shortest
number-bytes offset bytes {v} {next} {rest} B h =
    let G = groups-are offset 0 0 offset bytes (omega arith) B h in
    let e : G.high ≡ v = omega (arith, G.adds) in
    G.same ∙ ap (λ n. shortest n ++ rest) e
