-- Words of bytes: the lowest bits of one by an `and`, and where the first flag stands by the zeros below it. Assumes nothing.
use Prim.Native.Nat.{ℕ, zero, suc, ◌+◌, ◌*◌, ◌-◌, ◌/◌, ◌%◌, ◌^◌, ◌≤◌, ◌<◌}
use native.Mathlib.Omega.{arith}
use mathlib.Core.Path.{◌≡◌, refl, sym, ap, ap₂, ◌∙◌, subst}
use mathlib.Core.Bool.{Bool, true, false, not}
use mathlib.Core.List.{List, [], ◌∷◌}
use lib.ListN.{get_or}
use mir.Syntax.{w64}
use Rattle.std.specs.Int.{from_le_bytes}
use lib.Bits.{bit_and, and_block, and_mask}
use lib.Count.{count_trailing_zeros, under, trailing_of_zero}
use lib.Dec.{eqb, ltb}
use borrow.Author.Tests.{eqb-true, eqb-false, ltb-true, ltb-false}
use Rattle.definitions.specs.Scan.{bit}
use Rattle.row_runs.specs.Stretch.{walks, Until}
use Rattle.row_runs.specs.Words.{stops}

-- ---- bytes

-- the bytes of n cells from c on
unfoldable word_at : ℕ → List ℕ → ℕ → ℕ
word_at zero cells c = 0
word_at (suc n) cells c = get_or cells c 0 + 256 * word_at n cells (c + 1)

module _ (cells : List ℕ) (c : ℕ) where
  abbrev pub eight : List ℕ
  eight =
      get_or cells c 0 ∷ get_or cells (c + 1) 0 ∷ get_or cells (c + 2) 0 ∷ get_or cells (c + 3) 0 ∷ get_or cells (c + 4) 0 ∷ get_or cells (c + 5) 0 ∷ get_or cells (c + 6) 0 ∷ get_or cells (c + 7) 0 ∷ []

  word_eight : from_le_bytes w64 eight ≡ word_at 8 cells c
  unfolding word_at
  word_eight =
      let at : (m n : ℕ) → m ≡ n → get_or cells m 0 ≡ get_or cells n 0 = λ m n e. ap (λ x. get_or cells x 0) e in
      omega (
        arith,
        at (c + 1 + 1) (c + 2) (omega arith),
        at (c + 1 + 1 + 1) (c + 3) (omega arith),
        at (c + 1 + 1 + 1 + 1) (c + 4) (omega arith),
        at (c + 1 + 1 + 1 + 1 + 1) (c + 5) (omega arith),
        at (c + 1 + 1 + 1 + 1 + 1 + 1) (c + 6) (omega arith),
        at (c + 1 + 1 + 1 + 1 + 1 + 1 + 1) (c + 7) (omega arith),
      )

-- ---- lowest bits

-- 1 in each of n bytes
unfoldable ones : ℕ → ℕ
ones zero = 0
ones (suc n) = 1 + 256 * ones n

-- what is walkable, as a number
walkable-bit : (b : ℕ) → bit (not (not (eqb (b % 2) 1))) ≡ b % 2
walkable-bit b = go (eqb (b % 2) 1) refl
  where
    go : (t : Bool) → eqb (b % 2) 1 ≡ t → bit (not (not t)) ≡ b % 2
    go true e = sym (eqb-true (b % 2) 1 e)
    go false e = omega (arith, eqb-false (b % 2) 1 e)

module _ (cells : List ℕ) (bytes : (d : ℕ) → get_or cells d 0 < 256) where
  and_flags : (n c : ℕ) → bit_and (word_at n cells c) (ones n) ≡ stops n (λ d. not (walks cells d)) c
  unfolding word_at ones stops
  and_flags zero c = refl
  and_flags (suc n) c =
      let b = get_or cells c 0 in
      let x = word_at n cells (c + 1) in
      let y = ones n in
      let e : b + 256 * x ≡ x * 2 ^ 8 + b = omega arith in
      let d : 1 + 256 * y ≡ y * 2 ^ 8 + 1 = omega arith in
      let low : bit_and b 1 ≡ b % 2 = and_mask b 1 in
      let turn : bit_and x y * 2 ^ 8 + bit_and b 1 ≡ b % 2 + 256 * bit_and x y = omega arith in
      ap₂ bit_and e d ∙ and_block 8 x y b 1 (bytes c) (omega arith) ∙ turn ∙ ap₂ (λ v w. v + 256 * w) (sym (walkable-bit b)) (and_flags n (c + 1))

  pub open_flags_are : (c : ℕ) → bit_and (from_le_bytes w64 (eight cells c)) 72340172838076673 ≡ stops 8 (λ d. not (walks cells d)) c
  unfolding ones
  open_flags_are c = ap (λ w. bit_and w 72340172838076673) (word_eight cells c) ∙ and_flags 8 c

-- a flag stands where f holds or where it does not
stops-both : (f : ℕ → Bool) (n c : ℕ) → stops n (λ d. not (f d)) c + stops n f c ≡ ones n
unfolding stops ones
stops-both f zero c = refl
stops-both f (suc n) c = go (f c) (stops-both f n (c + 1))
  where
    go : (b : Bool) → stops n (λ d. not (f d)) (c + 1) + stops n f (c + 1) ≡ ones n → bit (not (not b)) + 256 * stops n (λ d. not (f d)) (c + 1) + (bit (not b) + 256 * stops n f (c + 1)) ≡ 1 + 256 * ones n
    go true ih = omega arith
    go false ih = omega arith

module _ (f : ℕ → Bool) (c flags : ℕ) (e : flags ≡ stops 8 (λ d. not (f d)) c) where
  pub flags_bound : flags ≤ 72340172838076673
  unfolding ones
  flags_bound = omega (arith, e, stops-both f 8 c)

  pub other_flags : 72340172838076673 - flags ≡ stops 8 f c
  unfolding ones
  other_flags = omega (arith, e, stops-both f 8 c)

-- ---- the first flag

zeros-even : (k x : ℕ) → count_trailing_zeros (suc k) (2 * x) ≡ suc (count_trailing_zeros k x)
unfolding count_trailing_zeros
zeros-even k x =
    let even : 2 * x % 2 ≡ 0 = omega arith in
    let half : 2 * x / 2 ≡ x = omega arith in
    ap₂ (λ r y. under r (count_trailing_zeros k y)) even half

zeros-odd : (k x : ℕ) → x % 2 ≡ 1 → count_trailing_zeros (suc k) x ≡ 0
unfolding count_trailing_zeros
zeros-odd k x e = ap (λ r. under r (count_trailing_zeros k (x / 2))) e

-- a byte of zeros below
zeros_byte : (k x : ℕ) → count_trailing_zeros (suc (suc (suc (suc (suc (suc (suc (suc k)))))))) (256 * x) ≡ 8 + count_trailing_zeros k x
zeros_byte k x =
    let four : (n y : ℕ) → count_trailing_zeros (suc (suc (suc (suc n)))) (16 * y) ≡ 4 + count_trailing_zeros n y = λ n y. nibble n y in
    let e : 256 * x ≡ 16 * (16 * x) = omega arith in
    ap (count_trailing_zeros (suc (suc (suc (suc (suc (suc (suc (suc k))))))))) e ∙ four (suc (suc (suc (suc k)))) (16 * x) ∙ ap (λ t. 4 + t) (four k x) ∙ omega arith
  where
    pair : (n y : ℕ) → count_trailing_zeros (suc (suc n)) (4 * y) ≡ 2 + count_trailing_zeros n y
    pair n y =
        let e : 4 * y ≡ 2 * (2 * y) = omega arith in
        ap (count_trailing_zeros (suc (suc n))) e ∙ zeros-even (suc n) (2 * y) ∙ ap suc (zeros-even n y) ∙ omega arith

    nibble : (n y : ℕ) → count_trailing_zeros (suc (suc (suc (suc n)))) (16 * y) ≡ 4 + count_trailing_zeros n y
    nibble n y =
        let e : 16 * y ≡ 4 * (4 * y) = omega arith in
        ap (count_trailing_zeros (suc (suc (suc (suc n))))) e ∙ pair (suc (suc n)) (4 * y) ∙ ap (λ t. 2 + t) (pair n y) ∙ omega arith

-- how many places come before the first of which f does not hold, and that as many bytes below the first flag are zero
record FirstStop (f : ℕ → Bool) (n c : ℕ) : Type 0 where
  place : ℕ
  zeros : count_trailing_zeros (n * 8) (stops n f c) ≡ place * 8
  until : Until f c (c + n) (c + place)

first_stop : (f : ℕ → Bool) (n c : ℕ) → FirstStop f n c
unfolding count_trailing_zeros stops
first_stop f zero c =
    record { place = 0; zeros = refl; until = record { low = omega arith; ends = omega arith; all = λ d i k. absurd (omega arith); stop = λ l. absurd (omega arith) } }
first_stop f (suc n) c = go (f c) refl (first_stop f n (c + 1))
  where
    bits : suc n * 8 ≡ suc (suc (suc (suc (suc (suc (suc (suc (n * 8))))))))
    bits = omega arith

    go : (b : Bool) → f c ≡ b → FirstStop f n (c + 1) → FirstStop f (suc n) c
    go false e r =
        let odd : (bit (not (f c)) + 256 * stops n f (c + 1)) % 2 ≡ 1 = omega (arith, ap (λ b. bit (not b)) e) in
        record {
          place = 0;
          zeros = ap (λ k. count_trailing_zeros k (stops (suc n) f c)) bits ∙ zeros-odd (suc (suc (suc (suc (suc (suc (suc (n * 8)))))))) (stops (suc n) f c) odd;
          until = record { low = omega arith; ends = omega arith; all = λ d i k. absurd (omega arith); stop = λ _. ap f (omega arith) ∙ e };
        }
    go true e r =
        let u = r.until in
        let even : bit (not (f c)) + 256 * stops n f (c + 1) ≡ 256 * stops n f (c + 1) = omega (arith, ap (λ b. bit (not b)) e) in
        record {
          place = suc r.place;
          zeros = ap₂ count_trailing_zeros bits even ∙ zeros_byte (n * 8) (stops n f (c + 1)) ∙ ap (λ t. 8 + t) r.zeros ∙ omega arith;
          until =
              record {
                low = omega arith;
                ends = omega (arith, u.ends);
                all = λ d i k. at_first d i k (eqb d c) refl;
                stop = λ l. ap f (omega arith) ∙ u.stop (omega arith);
              };
        }
      where
        at_first : (d : ℕ) → c ≤ d → d < c + suc r.place → (b : Bool) → eqb d c ≡ b → f d ≡ true
        at_first d i k true t = ap f (eqb-true d c t) ∙ e
        at_first d i k false t = r.until.all d (omega (arith, eqb-false d c t)) (omega arith)

-- where all are passed there is no flag
no_stop : (f : ℕ → Bool) (n c : ℕ) → ((d : ℕ) → c ≤ d → d < c + n → f d ≡ true) → stops n f c ≡ 0
unfolding stops
no_stop f zero c h = refl
no_stop f (suc n) c h = omega (arith, ap (λ b. bit (not b)) (h c (omega arith) (omega arith)), no_stop f n (c + 1) (λ d i k. h d (omega arith) (omega arith)))

module _ (f : ℕ → Bool) (c : ℕ) {flags : ℕ} (e : flags ≡ stops 8 f c) where
  at_first : (r : ℕ) → r ≡ count_trailing_zeros 64 flags / 8 → Until f c (c + 8) (c + r)
  at_first r t =
      let s = first_stop f 8 c in
      let is : s.place ≡ r = omega (arith, t, s.zeros, ap (count_trailing_zeros 64) e) in
      subst (λ x. Until f c (c + 8) (c + x)) is s.until

  pub eight-passed : flags ≡ 0 → Until f c (c + 8) (c + 8)
  eight-passed z = at_first 8 (omega (arith, ap (count_trailing_zeros 64) z, trailing_of_zero 64))

  module _ {r : ℕ} (some : flags ≡ 0 → ⊥) (t : r ≡ count_trailing_zeros 64 flags / 8) where
    pub eight-until : Until f c (c + 8) (c + r)
    eight-until = at_first r t

    pub eight-stops : r < 8
    eight-stops = go (ltb r 8) refl
      where
        go : (b : Bool) → ltb r 8 ≡ b → r < 8
        go true l = ltb-true r 8 l
        go false l =
            absurd (some (e ∙ no_stop f 8 c (λ d i k. eight-until.all d i (omega (arith, ltb-false r 8 l)))))
