-- Numbers of one byte and of two, as the grammar reads them, and what is known of the first two bytes where a number stands. Assumes nothing.
use Prim.Native.Nat.{ℕ, suc, ◌+◌, ◌*◌, ◌%◌, ◌<◌, ◌≤◌}
use native.Mathlib.Omega.{arith}
use native.Mathlib.Numerals.{add-one}
use mathlib.Core.Path.{◌≡◌, refl, sym, ap, ◌∙◌}
use mathlib.Core.Bool.{Bool, true, false, ◌&&◌}
use mathlib.Core.List.{List, ◌∷◌}
use lib.Dec.{ltb, eqb}
use lib.ListN.{length, drop, get_or, drop_of_length-le}
use lib.Seq.{drop-cons}
use borrow.Author.Tests.{ltb-true, ltb-false, lt-ltb, ne_eqb}
use Rattle.definitions.specs.SheetNumber.{found, failed, with_group, ill_formed, groups, number}
use Rattle.laws.specs.ListLaws.Tests.{both}
use Rattle.laws.specs.SheetReading.SheetLaws.{groups-bad, groups_more, groups_last, times-failed}
use Rattle.sheet.specs.Numbers.{items_at, is_found, Held}

one_byte : (at b : ℕ) (rest : List ℕ) → b < 128 → number at (b ∷ rest) ≡ found b (at + 1) rest
unfolding number
one_byte at b rest h =
    let value : with_group 0 0 b ≡ b = omega arith in
    groups_last at 0 0 at b rest refl h ∙ ap (λ v. found v (at + 1) rest) value

-- a second byte that is not 0 makes no number ill formed
second_fits : (c : ℕ) → eqb c 0 ≡ false → ill_formed 1 c ≡ false
second_fits c h = h

pub second_ends_lem : (c : ℕ) → 0 < c → c < 128 → (ltb 0 c && ltb c 128) ≡ true
second_ends_lem c z k = rw (lt-ltb 0 c z, lt-ltb c 128 k) refl

two_bytes : (at b c : ℕ) (rest : List ℕ) → 128 ≤ b → 0 < c → c < 128 → number at (b ∷ c ∷ rest) ≡ found (b % 128 + c * 128) (at + 2) rest
unfolding number
two_bytes at b c rest h z k =
    let value : with_group (with_group 0 0 b) 1 c ≡ b % 128 + c * 128 = omega arith in
    let next : at + 1 + 1 ≡ at + 2 = omega arith in
    groups_more at 0 0 at b (c ∷ rest) refl h ∙ groups_last at 1 (with_group 0 0 b) (at + 1) c rest (second_fits c (ne_eqb c 0 (λ e. omega arith))) k ∙ (λ i. found (value i) (next i) rest)

module _ (bytes : List ℕ) (at : ℕ) (h : at < length bytes) where
  pub short_one : {first : ℕ} → first ≡ get_or bytes at 0 → first < 128 → number at (drop at bytes) ≡ found first (at + 1) (drop (at + 1) bytes)
  short_one {first} e k =
      let low : get_or bytes at 0 < 128 = omega arith in
      ap (number at) (drop-cons bytes at 0 h) ∙ one_byte at (get_or bytes at 0) (drop (suc at) bytes) low ∙ (λ i. found (sym e i) (at + 1) (drop (sym (add-one at) i) bytes))

  pub short_two : {first second : ℕ} → first ≡ get_or bytes at 0 → 128 ≤ first → at + 1 < length bytes → second ≡ get_or bytes (at + 1) 0 → (ltb 0 second && ltb second 128) ≡ true
      → number at (drop at bytes) ≡ found (first % 128 + second * 128) (at + 2) (drop (at + 2) bytes)
  short_two {first} {second} e k m f t =
      let each = both (ltb 0 second) (ltb second 128) t in
      let above : 0 < second = ltb-true 0 second each.0 in
      let below : second < 128 = ltb-true second 128 each.1 in
      let high : 128 ≤ get_or bytes at 0 = omega arith in
      let above' : 0 < get_or bytes (at + 1) 0 = omega arith in
      let below' : get_or bytes (at + 1) 0 < 128 = omega arith in
      let tail : drop (suc at) bytes ≡ get_or bytes (at + 1) 0 ∷ drop (suc (at + 1)) bytes = ap (λ n. drop n bytes) (sym (add-one at)) ∙ drop-cons bytes (at + 1) 0 m in
      let last : suc (at + 1) ≡ at + 2 = omega arith in
      ap (number at) (drop-cons bytes at 0 h ∙ ap (λ l. get_or bytes at 0 ∷ l) tail)
      ∙ two_bytes at (get_or bytes at 0) (get_or bytes (at + 1) 0) (drop (suc (at + 1)) bytes) high above' below'
      ∙ (λ i. found (sym e i % 128 + sym f i * 128) (at + 2) (drop (last i) bytes))

-- where a number stands
module _ (bytes : List ℕ) (at : ℕ) (H : Held number bytes at 1) where
  not-failed : {refusal place : ℕ} → number at (drop at bytes) ≡ failed refusal place → ⊥
  unfolding items_at
  not-failed e =
      let q : is_found (items_at number bytes at 1) ≡ false = ap is_found (times-failed number 0 at (drop at bytes) e) in
      let z : ◌≡◌ {A = ℕ} 0 1 = cc H.all in
      omega arith

  pub held_first : at < length bytes
  unfolding number groups
  held_first = go (ltb at (length bytes)) refl
    where
      go : (t : Bool) → ltb at (length bytes) ≡ t → at < length bytes
      go true e = ltb-true at (length bytes) e
      go false e = absurd (not-failed (ap (number at) (drop_of_length-le bytes (ltb-false at (length bytes) e))))

  module _ {first : ℕ} (e : first ≡ get_or bytes at 0) (k : 128 ≤ first) where
    behind_first : number at (drop at bytes) ≡ groups at 1 (with_group 0 0 (get_or bytes at 0)) (at + 1) (drop (at + 1) bytes)
    unfolding number
    behind_first =
        let high : 128 ≤ get_or bytes at 0 = omega arith in
        ap (number at) (drop-cons bytes at 0 held_first) ∙ groups_more at 0 0 at (get_or bytes at 0) (drop (suc at) bytes) refl high
        ∙ ap (λ n. groups at 1 (with_group 0 0 (get_or bytes at 0)) (at + 1) (drop n bytes)) (sym (add-one at))

    pub held-second : at + 1 < length bytes
    unfolding groups
    held-second = go (ltb (at + 1) (length bytes)) refl
      where
        go : (t : Bool) → ltb (at + 1) (length bytes) ≡ t → at + 1 < length bytes
        go true q = ltb-true (at + 1) (length bytes) q
        go false q =
            absurd
            (not-failed
            (behind_first ∙ ap (λ l. groups at 1 (with_group 0 0 (get_or bytes at 0)) (at + 1) l) (drop_of_length-le bytes (ltb-false (at + 1) (length bytes) q))))

    -- a 0 would pad it
    pub held-above : {second : ℕ} → second ≡ get_or bytes (at + 1) 0 → 0 < second
    held-above {second} f = go (ltb 0 second) refl
      where
        padded : get_or bytes (at + 1) 0 ≡ 0 → number at (drop at bytes) ≡ failed 14 at
        padded z =
            behind_first ∙ ap (λ l. groups at 1 (with_group 0 0 (get_or bytes at 0)) (at + 1) l) (drop-cons bytes (at + 1) 0 held-second)
            ∙ groups-bad at 1 (with_group 0 0 (get_or bytes at 0)) (at + 1) (get_or bytes (at + 1) 0) (drop (suc (at + 1)) bytes) (rw z refl)

        go : (t : Bool) → ltb 0 second ≡ t → 0 < second
        go true q = ltb-true 0 second q
        go false q = absurd (not-failed (padded (omega (arith, ltb-false 0 second q))))
