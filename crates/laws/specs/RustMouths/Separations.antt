-- A separation of two boundaries is a double that is no NaN and has its sign clear, since a hypotenuse is; so two of them compare, under `partial_cmp`, as their
-- bits. (Within a pass none is infinite either: FiniteSeparations. That is not needed here.) Assumes nothing.
use Prim.Native.Nat.{ℕ, compare, Ordering, ◌*◌, ◌^◌, ◌<◌}
use Rattle.std.proofs.Common.{arith, le_of_eq, le_of_lt, sym, ap, ap₂, ◌∙◌, subst, inl, inr, le-leb}
use Rattle.std.specs.Prelude.{◌≡◌, refl, ◌⊎◌, Bool, true, false, ℤ, pos, T, leb, Float, Option, None, Some}
use Rattle.std.specs.Float.{inf, fin, binary64}
use Rattle.std.specs.Float.Ieee.{sub, le, fits, to_bits}
use Rattle.std.proofs.lemmas.Bool.{lt-leb}
use Rattle.definitions.specs.Grid.{Segment}
use Rattle.definitions.specs.Geometry.{Point, float, point, distance, point_segment_distance}
use Rattle.definitions.specs.RampGeometry.{segment_distance}
use Rattle.laws.specs.FloatLaws.Hypotenuse.{hypot_of-fits, hypot_of-sign}
use Rattle.laws.specs.FloatLaws.Patterns.{SignClear, to_bits_below}
use Rattle.laws.specs.FloatLaws.KeysAsBits.{le_to_bits}
use Rattle.laws.specs.FloatLaws.DistanceRange.{nearest_point, point-segment_is}
use Rattle.laws.specs.FloatLaws.FiniteSeparations.{separation_by}
use Rattle.laws.specs.OrderLaws.ListOrder.{Three, less, same, over, three}
use Rattle.laws.specs.OrderLaws.Orderings.{compare_less, compare_same, compare_over}

-- ---- as the Rust writes it

--     match (*self <= *other, *self >= *other) {
--         (false, false) => None,
--         (false, true) => Some(Greater),
--         (true, false) => Some(Less),
--         (true, true) => Some(Equal),
--     }
abbrev pub partial_from : Bool → Bool → Option Ordering
partial_from false false = None
partial_from false true = Some Ordering.gt
partial_from true false = Some Ordering.lt
partial_from true true = Some Ordering.eq

-- `partial_cmp` of f64, in the standard library
unfoldable pub partial_cmp : Float → Float → Option Ordering
partial_cmp x y = partial_from (le x y) (le y x)

-- `unwrap_or(Ordering::Equal)`
abbrev pub or_equal : Option Ordering → Ordering
or_equal None = Ordering.eq
or_equal (Some o) = o

-- ---- numbers whose sign is clear

pub record Apart (x : Float) : Type 0 where
  pub fit : T (fits binary64 x)
  pub sign : (x ≡ inf false) ⊎ SignClear x

-- the bits of +∞
infinite_bits : to_bits binary64 (inf false) ≡ 2047 * 2 ^ 52
unfolding to_bits
infinite_bits = refl

infinite_both : le (inf false) (inf false) ≡ true
unfolding le
infinite_both = refl

infinite_first : (m : ℕ) (e : ℤ) → le (inf false) (fin false m e) ≡ false
unfolding le
infinite_first m e = refl

infinite_second : (m : ℕ) (e : ℤ) → le (fin false m e) (inf false) ≡ true
unfolding le
infinite_second m e = refl

le-apart : (x y : Float) → Apart x → Apart y → le x y ≡ leb (to_bits binary64 x) (to_bits binary64 y)
le-apart x y a b = go a.sign b.sign
  where
    bits : (z : Float) → z ≡ inf false → to_bits binary64 z ≡ 2047 * 2 ^ 52
    bits z p = ap (to_bits binary64) p ∙ infinite_bits

    go : (x ≡ inf false) ⊎ SignClear x → (y ≡ inf false) ⊎ SignClear y → le x y ≡ leb (to_bits binary64 x) (to_bits binary64 y)
    go (inl p) (inl q) = ap₂ le p q ∙ infinite_both ∙ sym (le-leb (to_bits binary64 x) (to_bits binary64 y) (le_of_eq (bits x p ∙ sym (bits y q))))
    go (inl p) (inr q) = ap₂ le p q.2 ∙ infinite_first q.0 q.1 ∙ sym (lt-leb (to_bits binary64 x) (to_bits binary64 y) (subst (λ n. to_bits binary64 y < n) (sym (bits x p)) (to_bits_below y q b.fit)))
    go (inr p) (inl q) = ap₂ le p.2 q ∙ infinite_second p.0 p.1 ∙ sym (le-leb (to_bits binary64 x) (to_bits binary64 y) (le_of_lt (subst (λ n. to_bits binary64 x < n) (sym (bits y q)) (to_bits_below x p a.fit))))
    go (inr p) (inr q) = le_to_bits x y p q a.fit b.fit

pub partial_is : (x y : Float) → Apart x → Apart y → or_equal (partial_cmp x y) ≡ compare (to_bits binary64 x) (to_bits binary64 y)
unfolding partial_cmp
partial_is x y a b = (λ i. or_equal (partial_from (le-apart x y a b i) (le-apart y x b a i))) ∙ bits (to_bits binary64 x) (to_bits binary64 y)
  where
    bits : (m n : ℕ) → or_equal (partial_from (leb m n) (leb n m)) ≡ compare m n
    bits m n = go (three m n)
      where
        go : Three m n → or_equal (partial_from (leb m n) (leb n m)) ≡ compare m n
        go (less h) = rw (le-leb m n (omega arith), lt-leb n m h) (sym (compare_less m n h))
        go (same h) = rw (le-leb m n (omega arith), le-leb n m (omega arith)) (sym (compare_same m n h))
        go (over h) = rw (lt-leb m n h, le-leb n m (omega arith)) (sym (compare_over m n h))

-- ---- separations

distance-apart : (p q : Point) → Apart (distance p q)
unfolding distance
distance-apart p q =
    let dx = sub binary64 p.px q.px in
    let dy = sub binary64 p.py q.py in
    record { fit = hypot_of-fits dx dy; sign = hypot_of-sign dx dy }

segment-apart : (p a b : Point) → Apart (point_segment_distance p a b)
segment-apart p a b = subst Apart (sym (point-segment_is p a b)) (distance-apart p (nearest_point p a b))

zero-apart : Apart (float 0)
unfolding float fits
zero-apart = record { fit = tt; sign = inr (0, pos 0, refl) }

pub separation-apart : (s t : Segment) → Apart (segment_distance s t)
separation-apart s t =
    separation_by Apart s t zero-apart (segment-apart (point s.a) (point t.a) (point t.b)) (segment-apart (point s.b) (point t.a) (point t.b))
    (segment-apart (point t.a) (point s.a) (point s.b)) (segment-apart (point t.b) (point s.a) (point s.b))
