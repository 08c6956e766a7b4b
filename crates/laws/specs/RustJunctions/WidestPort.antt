-- The widest port of a union as the Rust finds it (junctions.rs), a fold of `max` from 0.0, and that a boundary is at least as wide exactly where `is_widest` holds.
-- The argument: finite widths whose sign is clear compare as their bits (KeysAsBits), and a number is no less than the greatest of some exactly where it is no less than each.
-- Assumes a sound context.
use Rattle.std.specs.Prelude.{ℕ, ◌*◌, ◌^◌, ◌<◌, ◌≤◌, ◌≡◌, refl, Bool, true, false, ◌&&◌, cond, List, [], ◌∷◌, ltb, Float}
use Rattle.std.proofs.Common.{arith, ◌∙◌, ltb-true, ltb-false, leb-true, le-leb}
use Rattle.std.proofs.Math.Path.{sym, ap}
use Rattle.std.proofs.Math.Bool.{and_assoc, and-true, and-false}
use Rattle.std.proofs.Math.Dec.{leb, leb-zero}
use Rattle.std.specs.Float.Ieee.{binary64, le, of_bits}
use Rattle.definitions.specs.Scan.{all}
use Rattle.definitions.specs.Grid.{Pair}
use Rattle.definitions.specs.Geometry.{float}
use Rattle.definitions.specs.RampGeometry.{fmax}
use Rattle.definitions.specs.Context.{Context, width}
use Rattle.definitions.specs.Junctions.{is_union_port, is_widest}
use Rattle.laws.specs.ListLaws.Lists.{All, done, more, all_map}
use Rattle.laws.specs.RustContext.SoundContext.{Sound}
use Rattle.laws.specs.FloatLaws.KeysAsBits.{lt_of_bits, le_of_bits}
use Rattle.laws.specs.SetLaws.Sets.{numbers_below, below_all, all_below_lem}

-- ---- as the Rust writes it

module _ (C : Context) where
  --     for port in &ports { ..; widest_port = widest_port.max(boundaries[*port].width_pixels); .. }
  unfoldable pub widest_from : Float → List ℕ → Float
  widest_from widest [] = widest
  widest_from widest (j ∷ js) = widest_from (fmax widest (width C j)) js

  --     let mut widest_port: f64 = 0.0;
  --     boundaries[index].width_pixels >= widest_port
  unfoldable pub is_as_wide : ℕ → List ℕ → Bool
  is_as_wide i ports = le (widest_from (float 0) ports) (width C i)

-- ---- and that it is the same

abbrev finite_bits : ℕ → Type 0
finite_bits b = b < 2047 * 2 ^ 52

zero_bits : float 0 ≡ of_bits binary64 0
unfolding float of_bits
zero_bits = refl

fmax-bits : (a b : ℕ) → finite_bits a → finite_bits b → fmax (of_bits binary64 a) (of_bits binary64 b) ≡ of_bits binary64 (cond (ltb a b) b a)
unfolding fmax
fmax-bits a b h k = ap (λ t. cond t (of_bits binary64 b) (of_bits binary64 a)) (lt_of_bits a b h k) ∙ go (ltb a b)
  where
    go : (t : Bool) → cond t (of_bits binary64 b) (of_bits binary64 a) ≡ of_bits binary64 (cond t b a)
    go true = refl
    go false = refl

greater-finite : (a b : ℕ) → finite_bits a → finite_bits b → finite_bits (cond (ltb a b) b a)
greater-finite a b h k = go (ltb a b)
  where
    go : (t : Bool) → finite_bits (cond t b a)
    go true = k
    go false = h

-- a number that is no less than the greater of two is no less than either
greater-leb : (a b w : ℕ) → leb (cond (ltb a b) b a) w ≡ (leb a w && leb b w)
greater-leb a b w = go (ltb a b) refl
  where
    second : a < b → (t : Bool) → leb b w ≡ t → t ≡ (leb a w && t)
    second h true e = rw (le-leb a w (omega (arith, leb-true b w e))) refl
    second h false e = sym (and-false (leb a w))

    first : b ≤ a → (t : Bool) → leb a w ≡ t → t ≡ (t && leb b w)
    first h true e = rw (le-leb b w (omega (arith, leb-true a w e))) refl
    first h false e = refl

    go : (t : Bool) → ltb a b ≡ t → leb (cond t b a) w ≡ (leb a w && leb b w)
    go true e = second (ltb-true a b e) (leb b w) refl
    go false e = first (ltb-false a b e) (leb a w) refl

module _ (C : Context) where
  abbrev bits : ℕ → ℕ
  bits j = (C.boundary j).width_bits

  widest_from_lem : (a w : ℕ) {l : List ℕ} → finite_bits a → finite_bits w → All (λ j. finite_bits (bits j)) l → le (widest_from C (of_bits binary64 a) l) (of_bits binary64 w) ≡ (leb a w && all (λ j. le (width C j) (of_bits binary64 w)) l)
  unfolding widest_from all width
  widest_from_lem a w h k done = le_of_bits a w h k ∙ sym (and-true (leb a w))
  widest_from_lem a w h k (more {x = j} {l = l} f s) =
      ap (λ x. le (widest_from C x l) (of_bits binary64 w)) (fmax-bits a (bits j) h f) ∙ widest_from_lem (cond (ltb a (bits j)) (bits j) a) w (greater-finite a (bits j) h f) k s
      ∙ ap (λ b. b && all (λ j. le (width C j) (of_bits binary64 w)) l) (greater-leb a (bits j) w)
      ∙ and_assoc (leb a w) (leb (bits j) w) (all (λ j. le (width C j) (of_bits binary64 w)) l)
      ∙ ap (λ b. leb a w && (b && all (λ j. le (width C j) (of_bits binary64 w)) l)) (sym (le_of_bits (bits j) w f k))

  as_wide : (i : ℕ) {l : List ℕ} → finite_bits (bits i) → All (λ j. finite_bits (bits j)) l → is_as_wide C i l ≡ all (λ j. le (width C j) (width C i)) l
  unfolding is_as_wide width
  as_wide i {l} h a = ap (λ x. le (widest_from C x l) (of_bits binary64 (bits i))) zero_bits ∙ widest_from_lem 0 (bits i) (omega arith) h a ∙ ap (λ b. b && all (λ j. le (width C j) (width C i)) l) (leb-zero (bits i))

  -- of the ports of a union
  pub widest : Sound C → (i : ℕ) (p : Pair) → i < C.count → is_as_wide C i (numbers_below C.count (is_union_port C i p)) ≡ is_widest C i p
  unfolding is_widest
  widest sound i p h =
      as_wide i (sound.finite i h) (all_map (λ j l. sound.finite j l) (below_all (is_union_port C i p) C.count))
      ∙ all_below_lem (is_union_port C i p) (λ j. le (width C j) (width C i)) C.count
