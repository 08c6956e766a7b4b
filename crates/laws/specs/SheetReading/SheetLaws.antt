-- Laws of the sheet's readers: how a number's groups are read one by one, that a reader's offset and the bytes left keep the length, that a number is
-- below 2 ^ 64, and that a chain of readers fails as its first failing part. Assumes nothing.
use Prim.Native.Nat.{ℕ, zero, suc, ◌+◌, ◌*◌, ◌%◌, ◌^◌, ◌<◌, ◌≤◌}
use Rattle.std.proofs.Common.{arith, mul-le-mul_right, sym, ◌∙◌, pow-add, pow_mono, length-drop}
use Rattle.std.specs.Prelude.{◌≡◌, Bool, false, leb, eqb, drop}
use Rattle.std.proofs.Math.Path.{refl, ap}
use Rattle.std.proofs.Math.Bool.{true}
use mathlib.Core.List.{List, [], ◌∷◌}
use Rattle.std.proofs.Math.ListN.{length}
use borrow.Author.Tests.{leb-true, leb-false, ltb-false, eqb-true, eqb-false, le-leb, lt-leb, eq-eqb}
use Rattle.definitions.specs.SheetNumber.{Read, found, failed, with_group, too_long_lem, padded, ill_formed, groups, number}
use Rattle.definitions.specs.Sheet.{Reader, give, check, and_then, times, judged, entries}
use Rattle.definitions.specs.Limits.{max_entries}
use Rattle.laws.specs.ListLaws.Tests.{neither}

-- ---- one group of a number

module _ (first g value offset b : ℕ) (rest : List ℕ) where
  pub groups-bad : ill_formed g b ≡ true → groups first g value offset (b ∷ rest) ≡ failed 14 first
  unfolding groups
  groups-bad h = rw h

  pub groups_more : ill_formed g b ≡ false → 128 ≤ b → groups first g value offset (b ∷ rest) ≡ groups first (g + 1) (with_group value g b) (offset + 1) rest
  unfolding groups
  groups_more h k = rw (h, le-leb 128 b k)

  pub groups_last : ill_formed g b ≡ false → b < 128 → groups first g value offset (b ∷ rest) ≡ found (with_group value g b) (offset + 1) rest
  unfolding groups
  groups_last h k = rw (h, lt-leb 128 b k)

-- a tenth group is 0 or 1
pub tenth-group : (g b : ℕ) → ill_formed g b ≡ false → g ≡ 9 → b ≤ 1
tenth-group g b h e =
    let k : too_long_lem g b ≡ false = (neither (too_long_lem g b) (padded g b) h).0 in
    ltb-false 1 b (rw (eq-eqb g 9 e) at k)

-- after a group that is continued there have been at most nine
pub not-tenth : (g b : ℕ) → g ≤ 9 → ill_formed g b ≡ false → 128 ≤ b → g + 1 ≤ 9
not-tenth g b h k m = go (eqb g 9) refl
  where
    go : (t : Bool) → eqb g 9 ≡ t → g + 1 ≤ 9
    go true e = absurd (omega (arith, tenth-group g b k (eqb-true g 9 e)))
    go false e =
        let d : (g ≡ 9 → ⊥) = eqb-false g 9 e in
        omega arith

-- the groups read before, g of them, have 7 * g bits
pub below_next : (g value b : ℕ) → value < 2 ^ (7 * g) → with_group value g b < 2 ^ (7 * (g + 1))
below_next g value b h =
    let e : 2 ^ (7 * (g + 1)) ≡ 2 ^ (7 * g) * 128 = ap (λ n. 2 ^ n) (omega arith) ∙ pow-add 2 (7 * g) 7 in
    let m : b % 128 * 2 ^ (7 * g) ≤ 127 * 2 ^ (7 * g) = mul-le-mul_right (2 ^ (7 * g)) (omega arith) in
    omega arith

-- ten groups that are not too long have 64
pub within_64 : (g value b : ℕ) → g ≤ 9 → value < 2 ^ (7 * g) → ill_formed g b ≡ false → with_group value g b < 2 ^ 64
within_64 g value b h k m = go (eqb g 9) refl
  where
    go : (t : Bool) → eqb g 9 ≡ t → with_group value g b < 2 ^ 64
    go true e =
        let n : g ≡ 9 = eqb-true g 9 e in
        let p : 2 ^ (7 * g) ≡ 2 ^ 63 = ap (λ i. 2 ^ (7 * i)) n in
        let u : b % 128 ≤ 1 = omega (arith, tenth-group g b m n) in
        let q : b % 128 * 2 ^ (7 * g) ≤ 1 * 2 ^ (7 * g) = mul-le-mul_right (2 ^ (7 * g)) u in
        omega arith
    go false e =
        let d : (g ≡ 9 → ⊥) = eqb-false g 9 e in
        let p : 2 ^ (7 * (g + 1)) ≤ 2 ^ 63 = pow_mono {i = 7 * (g + 1)} {j = 63} (omega arith) in
        omega (arith, below_next g value b k)

-- ---- what a reader leaves of the bytes

-- The offset behind and the number of bytes left have the sum that they had before.
pub record Keeps {A : Type 0} (reader : Reader A) : Type 0 where
  pub sum : (offset : ℕ) (bytes : List ℕ) {value : A} {next : ℕ} {rest : List ℕ} → reader offset bytes ≡ found value next rest → next + length rest ≡ offset + length bytes

pub not_found : {A : Type 0} {value : A} {offset refusal place : ℕ} {rest : List ℕ} → failed refusal place ≡ found value offset rest → ⊥
not_found h = let z : ◌≡◌ {A = ℕ} 0 1 = cc in omega arith

groups-sum : (first g value offset : ℕ) (bytes : List ℕ) {v next : ℕ} {rest : List ℕ} → groups first g value offset bytes ≡ found v next rest → next + length rest ≡ offset + length bytes
unfolding groups
groups-sum first g value offset [] h = absurd (not_found h)
groups-sum first g value offset (b ∷ bytes) {v} {next} {rest} h =
    go (ill_formed g b) refl (leb 128 b) refl (λ q. groups-sum first (g + 1) (with_group value g b) (offset + 1) bytes q)
  where
    last : found (with_group value g b) (offset + 1) bytes ≡ found v next rest → next + length rest ≡ offset + suc (length bytes)
    last q =
        let x : next ≡ offset + 1 = cc in
        let y : length rest ≡ length bytes = cc in
        omega arith

    go : (t : Bool) → ill_formed g b ≡ t → (u : Bool) → leb 128 b ≡ u
        → (groups first (g + 1) (with_group value g b) (offset + 1) bytes ≡ found v next rest → next + length rest ≡ offset + 1 + length bytes)
        → next + length rest ≡ offset + suc (length bytes)
    go true e u f ih = absurd (not_found (sym (groups-bad first g value offset b bytes e) ∙ h))
    go false e true f ih = omega (arith, ih (sym (groups_more first g value offset b bytes e (leb-true 128 b f)) ∙ h))
    go false e false f ih = last (sym (groups_last first g value offset b bytes e (leb-false 128 b f)) ∙ h)

pub keeps-number : Keeps number
unfolding number
keeps-number = record { sum = λ offset bytes h. groups-sum offset 0 0 offset bytes h }

-- ---- a number's value

groups-below : (first g value offset : ℕ) (bytes : List ℕ) {v next : ℕ} {rest : List ℕ} → g ≤ 9 → value < 2 ^ (7 * g) → groups first g value offset bytes ≡ found v next rest → v < 2 ^ 64
unfolding groups
groups-below first g value offset [] k m h = absurd (not_found h)
groups-below first g value offset (b ∷ bytes) {v} {next} {rest} k m h =
    go (ill_formed g b) refl (leb 128 b) refl (λ c q. groups-below first (g + 1) (with_group value g b) (offset + 1) bytes c (below_next g value b m) q)
  where
    go : (t : Bool) → ill_formed g b ≡ t → (u : Bool) → leb 128 b ≡ u
        → (g + 1 ≤ 9 → groups first (g + 1) (with_group value g b) (offset + 1) bytes ≡ found v next rest → v < 2 ^ 64)
        → v < 2 ^ 64
    go true e u f ih = absurd (not_found (sym (groups-bad first g value offset b bytes e) ∙ h))
    go false e true f ih =
        let c : 128 ≤ b = leb-true 128 b f in
        ih (not-tenth g b k e c) (sym (groups_more first g value offset b bytes e c) ∙ h)
    go false e false f ih =
        let q : with_group value g b ≡ v = cc (groups_last first g value offset b bytes e (leb-false 128 b f)) in
        rw (← q) (within_64 g value b k m e)

pub number-below : (offset : ℕ) (bytes : List ℕ) {v next : ℕ} {rest : List ℕ} → number offset bytes ≡ found v next rest → v < 2 ^ 64
unfolding number
number-below offset bytes h = groups-below offset 0 0 offset bytes (omega arith) (omega arith) h

-- so a number that is only asked to be below 2 ^ 64 is any number
pub judged-all : judged (λ value. leb value 0xffff_ffff_ffff_ffff) ≡ number
unfolding judged
judged-all = λ i offset bytes. same offset bytes (number offset bytes) refl i
  where
    same : (offset : ℕ) (bytes : List ℕ) (r : Read ℕ) → number offset bytes ≡ r → and_then r (λ value. check (leb value 0xffff_ffff_ffff_ffff) 14 offset value) ≡ r
    same offset bytes (found v next rest) e = rw (le-leb v 0xffff_ffff_ffff_ffff (omega (arith, number-below offset bytes e)))
    same offset bytes (failed refusal place) e = refl

-- ---- chains of readers

module _ {A B : Type 0} where
  -- "nothing further is then read"
  pub then-failed : {r : Read A} {refusal place : ℕ} (next : A → Reader B) → r ≡ failed refusal place → and_then r next ≡ failed refusal place
  then-failed next h = rw h

  pub then_found : {r : Read A} {value : A} {offset : ℕ} {rest : List ℕ} (next : A → Reader B) → r ≡ found value offset rest → and_then r next ≡ next value offset rest
  then_found next h = rw h

  pub keeps_then : (reader : Reader A) (next : A → Reader B) → Keeps reader → ((value : A) → Keeps (next value)) → Keeps (λ offset bytes. and_then (reader offset bytes) next)
  keeps_then reader next k l = record { sum = λ offset bytes h. go offset bytes (reader offset bytes) refl h }
    where
      go : (offset : ℕ) (bytes : List ℕ) (r : Read A) → reader offset bytes ≡ r → {value : B} {last : ℕ} {rest : List ℕ} → and_then r next ≡ found value last rest → last + length rest ≡ offset + length bytes
      go offset bytes (found v o m) e h = (l v).sum o m h ∙ k.sum offset bytes e
      go offset bytes (failed refusal place) e h = absurd (not_found h)

module _ {A : Type 0} where
  pub keeps-check : (ok : Bool) (refusal place : ℕ) (value : A) → Keeps (check ok refusal place value)
  keeps-check true refusal place value = record { sum = λ offset bytes h. cc }
  keeps-check false refusal place value = record { sum = λ offset bytes h. absurd (not_found h) }

-- ---- the same reader n times

module _ (item : Reader ℕ) where
  pub times-failed : (n offset : ℕ) (bytes : List ℕ) {refusal place : ℕ} → item offset bytes ≡ failed refusal place → times (suc n) item offset bytes ≡ failed refusal place
  unfolding times
  times-failed n offset bytes h = rw h

  pub times-found : (n offset : ℕ) (bytes : List ℕ) {value next : ℕ} {rest : List ℕ} → item offset bytes ≡ found value next rest
      → times (suc n) item offset bytes ≡ and_then (times n item next rest) (λ values. give (value ∷ values))
  unfolding times
  times-found n offset bytes h = rw h

  pub keeps-times : Keeps item → (n : ℕ) → Keeps (times n item)
  unfolding times
  keeps-times k zero = record { sum = λ offset bytes h. cc }
  keeps-times k (suc n) =
      keeps_then item (λ value offset bytes. and_then (times n item offset bytes) (λ values. give (value ∷ values))) k
      (λ value. keeps_then (times n item) (λ values. give (value ∷ values)) (keeps-times k n) (λ values. keeps-check true 0 0 (value ∷ values)))

  pub times-length : (n offset : ℕ) (bytes : List ℕ) {values : List ℕ} {next : ℕ} {rest : List ℕ} → times n item offset bytes ≡ found values next rest → length values ≡ n
  unfolding times
  times-length zero offset bytes h = cc
  times-length (suc n) offset bytes {values} {next} {rest} h = first (item offset bytes) refl (λ o m vs p q g. times-length n o m g)
    where
      second : (value : ℕ) (r : Read (List ℕ)) → ((vs : List ℕ) (o : ℕ) (m : List ℕ) → r ≡ found vs o m → length vs ≡ n) → and_then r (λ values. give (value ∷ values)) ≡ found values next rest → length values ≡ suc n
      second value (found vs o m) ih q =
          let e : value ∷ vs ≡ values = cc in
          ap length (sym e) ∙ ap suc (ih vs o m refl)
      second value (failed refusal place) ih q = absurd (not_found q)

      first : (r : Read ℕ) → item offset bytes ≡ r → ((o : ℕ) (m vs : List ℕ) (p : ℕ) (q : List ℕ) → times n item o m ≡ found vs p q → length vs ≡ n) → length values ≡ suc n
      first (found value o m) e ih = second value (times n item o m) (λ vs p q g. ih o m vs p q g) (sym (times-found n offset bytes e) ∙ h)
      first (failed refusal place) e ih = absurd (not_found (sym (times-failed n offset bytes e) ∙ h))

pub keeps-judged : (ok : ℕ → Bool) → Keeps (judged ok)
unfolding judged
keeps-judged ok = record { sum = λ offset bytes. (keeps_then number (λ value. check (ok value) 14 offset value) keeps-number (λ value. keeps-check (ok value) 14 offset value)).sum offset bytes }

pub keeps-entries : (size : ℕ) → Keeps (entries size)
unfolding entries
keeps-entries size =
    keeps_then number _ keeps-number
    (λ written. keeps_then (check (leb written max_entries) 3 0 written) (λ count. times (count * size) number) (keeps-check (leb written max_entries) 3 0 written)
    (λ count. keeps-times number keeps-number (count * size)))

-- ---- at an offset of a whole list of bytes

-- a reader that starts inside the bytes ends inside them
pub ends-inside : {A : Type 0} {reader : Reader A} → Keeps reader → (bytes : List ℕ) (at : ℕ) {value : A} {next : ℕ} → at ≤ length bytes → reader at (drop at bytes) ≡ found value next (drop next bytes) → next ≤ length bytes
ends-inside k bytes at {next = next} h e = omega (arith, k.sum at (drop at bytes) e, length-drop next bytes, length-drop at bytes)
