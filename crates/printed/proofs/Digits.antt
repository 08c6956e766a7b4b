-- The digits of a number, written from the first on: those of its places down to one (`Written`). Assumes nothing.
use Prim.Native.Nat.{ℕ, suc, ◌+◌, ◌-◌, ◌/◌, ◌%◌, ◌^◌, ◌≤◌, ◌<◌}
use native.Mathlib.Omega.{arith}
use native.Mathlib.Nat.{add-zero, pow-suc, pow-le-pow_right, div-one, div-lt_iff_lt-mul, div-div-eq-div-mul, le-div_iff_mul-le}
use mathlib.Core.Path.{◌≡◌, refl, sym, ap, subst, ◌∙◌}
use mathlib.Core.List.{List, [], ◌∷◌, ◌++◌}
use mathlib.Core.Bool.{Bool, true, false}
use lib.Dec.{ltb}
use borrow.Author.Tests.{ltb-true, ltb-false, lt-ltb, le-ltb}
use lib.ListN.{length, length-append}
use Rattle.std.proofs.lemmas.List.{nil_from_length}
use Rattle.definitions.specs.Printed.{digits, decimal}
use Rattle.byte_writer.specs.declared.Writer.{Writer}
use Rattle.byte_writer.specs.Contract.{HasRoom, Appends}
use Rattle.byte_writer.specs.Chains.{appends_then, appends_long}
use Rattle.printed.specs.Contract.{most_digits, DigitCount}

digits_last : (most n : ℕ) → n < 10 → digits (suc most) n ≡ (48 + n) ∷ []
unfolding digits
digits_last most n h = rw (lt-ltb n 10 h) refl

digits_more : (most n : ℕ) → 10 ≤ n → digits (suc most) n ≡ digits most (n / 10) ++ ((48 + n % 10) ∷ [])
unfolding digits
digits_more most n h = rw (le-ltb n 10 h) refl

-- the digits of all places from `place` on
unfoldable pub above : ℕ → ℕ → List ℕ
unfolding digits
above n place = digits (most_digits - place) (n / 10 ^ place)

above_all : (n : ℕ) → above n 0 ≡ decimal n
unfolding above decimal
above_all n = ap (λ m. digits 20 m) (div-one n)

pub some_power : (place : ℕ) → 0 < 10 ^ place
some_power place = pow-le-pow_right {n = 10} (omega arith) {i = 0} {j = place} (omega arith)

module _ {n count : ℕ} (D : DigitCount n count) where
  -- the first digit
  above_first : (place : ℕ) → suc place ≡ count → above n place ≡ (48 + n / 10 ^ place % 10) ∷ []
  unfolding above
  above_first place e =
      let more : most_digits - place ≡ suc (most_digits - suc place) = omega (arith, D.most, e) in
      let power : n < 10 ^ suc place = subst (λ k. n < 10 ^ k) (sym e) D.enough in
      let few : n / 10 ^ place < 10 = (div-lt_iff_lt-mul {k = 10 ^ place} (some_power place)).1 (omega (arith, power, pow-suc 10 place)) in
      let last : n / 10 ^ place ≡ n / 10 ^ place % 10 = omega (arith, few) in
      ap (λ m. digits m (n / 10 ^ place)) more ∙ digits_last (most_digits - suc place) (n / 10 ^ place) few ∙ ap (λ d. (48 + d) ∷ []) last

  -- one more
  above_next : (place : ℕ) → suc place < count → above n place ≡ above n (suc place) ++ ((48 + n / 10 ^ place % 10) ∷ [])
  unfolding above
  above_next place h =
      let more : most_digits - place ≡ suc (most_digits - suc place) = omega (arith, D.most, h) in
      let higher : 10 ^ suc place ≤ 10 ^ (count - 1) = pow-le-pow_right {n = 10} (omega arith) {i = suc place} {j = count - 1} (omega (arith, h)) in
      let several : 10 ≤ n / 10 ^ place = (le-div_iff_mul-le {k = 10 ^ place} (some_power place)).1 (omega (arith, higher, D.no_more (omega (arith, h)), pow-suc 10 place)) in
      ap (λ m. digits m (n / 10 ^ place)) more
      ∙ digits_more (most_digits - suc place) (n / 10 ^ place) several
      ∙ ap (λ m. digits (most_digits - suc place) m ++ ((48 + n / 10 ^ place % 10) ∷ [])) (div-div-eq-div-mul n (10 ^ place) 10 ∙ ap (λ m. n / m) (sym (pow-suc 10 place)))

-- the digits of the places from `place` on are written
pub record Written (old : Writer) (n count place : ℕ) (now : Writer) : Type 0 where
  pub bytes : List ℕ
  pub so_far : Appends old bytes now
  pub long : length bytes + place ≡ count
  pub are : place < count → bytes ≡ above n place

pub written_none : (old : Writer) (n count : ℕ) → Written old n count count old
written_none old n count =
    record { bytes = []; so_far = record { put = record { stored = refl; next_is = sym (add-zero old.at) }; same = refl }; long = omega arith; are = λ h. absurd (omega arith) }

module _ {old now : Writer} {n count place : ℕ} (D : DigitCount n count) (W : Written old n count place now) where
  pub written_room : HasRoom old most_digits → 0 < place → HasRoom now 1
  written_room r h = omega (arith, r, h, D.most, W.long, W.so_far.put.next_is, appends_long W.so_far)

  pub written_more : (k : ℕ) → suc k ≡ place → {now' : Writer} {byte : ℕ} → byte ≡ 48 + n / 10 ^ k % 10 → Appends now (byte ∷ []) now' → Written old n count k now'
  written_more k e {byte = byte} b A =
      record {
        bytes = W.bytes ++ (byte ∷ []);
        so_far = appends_then W.so_far A;
        long = simp length-append (omega (arith, W.long, e));
        are = λ h. go (ltb (suc k) count) refl;
      }
    where
      go : (more : Bool) → ltb (suc k) count ≡ more → W.bytes ++ (byte ∷ []) ≡ above n k
      go true t =
          let some = ltb-true (suc k) count t in
          ap (λ l. l ++ (byte ∷ [])) (W.are (omega (arith, some, e)) ∙ ap (above n) (sym e)) ∙ ap (λ d. above n (suc k) ++ (d ∷ [])) b ∙ sym (above_next D k some)
      go false t =
          let last : suc k ≡ count = omega (arith, ltb-false (suc k) count t, W.long, e) in
          ap (λ l. l ++ (byte ∷ [])) (nil_from_length W.bytes (omega (arith, W.long, e, last))) ∙ ap (λ d. d ∷ []) b ∙ sym (above_first D k last)

pub written_all : {old now : Writer} {n count : ℕ} → DigitCount n count → Written old n count 0 now → Appends old (decimal n) now × (now.at ≤ old.at + most_digits)
written_all {old} {now} {n} D W =
    (subst (λ l. Appends old l now) (W.are (omega (arith, D.some)) ∙ above_all n) W.so_far, omega (arith, W.so_far.put.next_is, W.long, D.most))
