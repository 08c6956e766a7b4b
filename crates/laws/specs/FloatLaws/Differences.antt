-- The differences p - (a + t * dx) by which a pass measures how far a point is from a segment are in the range of the hypotenuse. Here p, a and dx are whole
-- numbers up to 2 ^ 13 and t is zero or from 2 ^ -27 to 1. That t is a multiple of a power of two is not enough: that power is 2 ^ -79 for the least t.
-- What holds of t * dx is that it is a multiple of 2 ^ -53, as every double from a half on is, or else from 2 ^ -27 to a half (`Spaced`); and adding a whole
-- number keeps this, since a whole number other than 0 and a number up to a half make a half at least. So a difference is 0 or at least 2 ^ -53.
-- All is counted in units of the smallest double, 2 ^ -1074. Assumes nothing.
use Rattle.std.specs.Prelude.{◌≡◌, refl, ◌⊎◌, ℕ, zero, suc, ◌+◌, ◌-◌, ◌*◌, ◌^◌, ◌≤◌, ◌<◌, Bool, true, false, not, ◌&&◌, cond, T, ltb, Float}
use Rattle.std.proofs.Common.{sym, ap, ◌∙◌, subst, inl, inr, le_trans, le_of_eq, le_of_lt, lt_of_lt_of_le, mul-one, one-mul, zero-mul, mul-zero, mul_assoc, mul_comm, add-mul, mul-le-mul, mul-le-mul_left, mul-le-mul_right, zero-lt-suc, arith, ltb→lt, nltb→le, lit≤, lit<, pow-add, pow_pos, pow_mono}
use Rattle.std.proofs.Math.Nat.{mul-sub, pow-succ'}
use Rattle.std.specs.Bool.{beq}
use Rattle.std.specs.Float.{binary64}
use Rattle.std.specs.Float.Ieee.{fits, unlike, round, neg, sum, add, mul, sub}
use Rattle.std.specs.Float.Ieee.Fits.{add-fits, mul-fits}
use Rattle.definitions.specs.Hypotenuse.{in_range}
use Rattle.laws.specs.NumberLaws.Comparisons.{le_or_lt}
use Rattle.laws.specs.FloatLaws.Values.{Units, valued_again, neg_valued, add-value, mul-value}
use Rattle.laws.specs.FloatLaws.Rounding.{Rounded, rounded, large-multiple}
use Rattle.laws.specs.FloatLaws.WholeDoubles.{Whole}
use Rattle.laws.specs.FloatLaws.InRange.{units-in_range}

-- t as a pass has it, with either sign if it is zero
pub record Part (t : Float) : Type 0 where
  pub units : Units t
  pub low : (units.number ≡ 0) ⊎ (2 ^ 1047 ≤ units.number)
  pub high : units.number ≤ 2 ^ 1074

-- a multiple of 2 ^ -53, or from 2 ^ -27 to a half
abbrev MultipleOrSmall : ℕ → Type 0
MultipleOrSmall c = ((z : ℕ) × (c ≡ z * 2 ^ 1021)) ⊎ ((2 ^ 1047 ≤ c) × (c ≤ 2 ^ 1073))

-- such a double, of magnitude at most 2 ^ k units
record Spaced (k : ℕ) (x : Float) : Type 0 where
  units : Units x
  upto : units.number ≤ 2 ^ k
  spaced : MultipleOrSmall units.number

-- every double from 2 ^ -27 on is
from_least : {x : Float} (p : Units x) → T (fits binary64 x) → 2 ^ 1047 ≤ p.number → MultipleOrSmall p.number
from_least p f h = elim (le_or_lt (2 ^ 1073) p.number) [ inl u ↦ inl (large-multiple p 1021 f u) | inr u ↦ inr (h, le_of_lt u) ]

-- ---- t * dx

zero_or_least : (c D : ℕ) → (c ≡ 0) ⊎ (2 ^ 1047 ≤ c) → (c * D ≡ 0) ⊎ (2 ^ 1047 ≤ c * D)
zero_or_least c D (inl z) = inl (ap (λ (x : ℕ). x * D) z ∙ zero-mul D)
zero_or_least c zero (inr z) = inl (mul-zero c)
zero_or_least c (suc D) (inr z) = inr (le_trans z (le_trans (le_of_eq (sym (mul-one c))) (mul-le-mul_left c (zero-lt-suc D))))

product-spaced : {t dx : Float} → Part t → Whole (2 ^ 13) dx → Spaced 1087 (mul binary64 t dx)
product-spaced {t} {dx} p d =
    let c = p.units.number in
    let D = d.parts.number in
    let most : c * D ≤ 2 ^ 1087 = le_trans (mul-le-mul p.high d.upto) (le_of_eq (sym (pow-add 2 1074 13))) in
    let r : Rounded (c * D) (2 ^ 1074) 1087 (mul binary64 t dx) =
    subst (Rounded (c * D) (2 ^ 1074) 1087) (sym (mul-value p.units d.parts (pow_pos 1074) (pow_pos 0)))
    (rounded (unlike p.units.sign d.parts.sign) (c * D) (2 ^ 1074) 1087 (pow_pos 1074) (lit< tt) (mul-le-mul_right (2 ^ 1074) most)) in
    record { units = r.units; upto = r.upto; spaced = kept (c * D) r (zero_or_least c D p.low) }
  where
    kept : (v : ℕ) (r : Rounded v (2 ^ 1074) 1087 (mul binary64 t dx)) → (v ≡ 0) ⊎ (2 ^ 1047 ≤ v) → MultipleOrSmall r.units.number
    kept v r (inl z) = inl (r.multiple 1021 0 (ap (λ (x : ℕ). x * 2 ^ 1074) (z ∙ sym (zero-mul (2 ^ 1021)))))
    kept v r (inr l) = from_least r.units (mul-fits binary64 t dx) (r.from 1047 (mul-le-mul_right (2 ^ 1074) l))

-- ---- a whole number and a spaced double

-- v is the sum or the difference of a and b
abbrev Joins : (a b v : ℕ) → Type 0
Joins a b v = (v ≡ a + b) ⊎ ((v + a ≡ b) ⊎ (v + b ≡ a))

-- a sum of a and b units, with their signs, rounds such a v
sum-joins : (s t : Bool) (a b : ℕ) → (u : Bool) × (v : ℕ) × Joins a b v × (sum binary64 s a t b (2 ^ 1074) ≡ round binary64 u v (2 ^ 1074))
unfolding sum
sum-joins s t a b = go (beq s t) (ltb a b) (ltb→lt a b) (nltb→le a b)
  where
    go : (o l : Bool) → (T l → a < b) → (T (not l) → b ≤ a)
        → (u : Bool) × (v : ℕ) × Joins a b v
        × (cond o (round binary64 s (a + b) (2 ^ 1074)) (cond l (round binary64 t (b - a) (2 ^ 1074)) (round binary64 (s && ltb b a) (a - b) (2 ^ 1074)))
        ≡ round binary64 u v (2 ^ 1074))
    go true l y n = (s, a + b, inl refl, refl)
    go false true y n = (t, b - a, inr (inl (rest b a (le_of_lt (y tt)))), refl)
      where
        rest : (b a : ℕ) → a ≤ b → b - a + a ≡ b
        rest b a h = omega arith
    go false false y n = (s && ltb b a, a - b, inr (inr (rest a b (n tt))), refl)
      where
        rest : (a b : ℕ) → b ≤ a → a - b + b ≡ a
        rest a b h = omega arith

joins-upto : (a b v h : ℕ) → a ≤ h → b ≤ h → Joins a b v → v ≤ 2 * h
joins-upto a b v h f g (inl e) = omega arith
joins-upto a b v h f g (inr (inl e)) = omega arith
joins-upto a b v h f g (inr (inr e)) = omega arith

-- multiples of u joined are multiples
joins-multiple : (u a b v : ℕ) → Joins (a * u) (b * u) v → (c : ℕ) × (v ≡ c * u)
joins-multiple u a b v (inl e) = (a + b, e ∙ sym (add-mul a b u))
joins-multiple u a b v (inr j) = elim j [ inl e ↦ less a b e | inr e ↦ less b a e ]
  where
    off : (v x y : ℕ) → v + x ≡ y → v ≡ y - x
    off v x y h = omega arith

    less : (a b : ℕ) → v + a * u ≡ b * u → (c : ℕ) × (v ≡ c * u)
    less a b e = (b - a, off v (a * u) (b * u) e ∙ (λ i. mul_comm b u i - mul_comm a u i) ∙ sym (mul-sub u b a) ∙ mul_comm u (b - a))

-- a whole number of 2 * h, and a c up to h that is not 0: at least h, or c itself where the whole number is 0
joins_least : (h A c v : ℕ) → 0 < c → c ≤ h → Joins (A * (2 * h)) c v → (v ≡ c) ⊎ (h ≤ v)
joins_least h zero c v p l j = inl (alone (0 * (2 * h)) (zero-mul (2 * h)) j)
  where
    alone : (x : ℕ) → x ≡ 0 → Joins x c v → v ≡ c
    alone x z (inl e) = omega arith
    alone x z (inr (inl e)) = omega arith
    alone x z (inr (inr e)) = absurd (omega arith)
joins_least h (suc A) c v p l j = inr (least (suc A * (2 * h)) (le_trans (le_of_eq (sym (one-mul (2 * h)))) (mul-le-mul_right (2 * h) (zero-lt-suc A))) j)
  where
    least : (x : ℕ) → 2 * h ≤ x → Joins x c v → h ≤ v
    least x g (inl e) = omega arith
    least x g (inr (inl e)) = omega arith
    least x g (inr (inr e)) = omega arith

-- what is rounded, v, is spaced, so the result is
join-spaced : {k : ℕ} {r : Float} (A b v : ℕ) → Joins (A * 2 ^ 1074) b v → T (fits binary64 r) → (x : Rounded v (2 ^ 1074) k r) → MultipleOrSmall b
    → MultipleOrSmall x.units.number
join-spaced A b v j f x (inl z) =
    let same : Joins (A * 2 ^ 53 * 2 ^ 1021) (z.0 * 2 ^ 1021) v =
    subst (λ (y : ℕ). Joins y (z.0 * 2 ^ 1021) v) (sym (mul_assoc A (2 ^ 53) (2 ^ 1021))) (subst (λ (y : ℕ). Joins (A * 2 ^ 1074) y v) z.1 j) in
    let c = joins-multiple (2 ^ 1021) (A * 2 ^ 53) z.0 v same in
    inl (x.multiple 1021 c.0 (ap (λ (y : ℕ). y * 2 ^ 1074) c.1))
join-spaced A b v j f x (inr z) = elim (joins_least (2 ^ 1073) A b v (lt_of_lt_of_le (pow_pos 1047) z.0) z.1 j) [
  | inl e ↦ large (le_trans z.0 (le_of_eq (sym e)))
  | inr g ↦ large (le_trans (lit≤ tt) g)
]
  where
    large : 2 ^ 1047 ≤ v → MultipleOrSmall x.units.number
    large l = from_least x.units f (x.from 1047 (mul-le-mul_right (2 ^ 1074) l))

add-spaced : {k : ℕ} {a y : Float} → Whole (2 ^ 13) a → Spaced k y → 1087 ≤ k → suc k < 2098 → Spaced (suc k) (add binary64 a y)
add-spaced {k} {a} {y} p q l far =
    let A = p.parts.number in
    let b = q.units.number in
    let whole : Units a = valued_again p.parts (A * 2 ^ 1074) (2 ^ 1074) (pow_pos 0) (sym (mul-one (A * 2 ^ 1074))) in
    let w = sum-joins p.parts.sign q.units.sign (A * 2 ^ 1074) b in
    let v = w.1 in
    let most : A * 2 ^ 1074 ≤ 2 ^ k = le_trans (mul-le-mul_right (2 ^ 1074) p.upto) (le_trans (le_of_eq (sym (pow-add 2 13 1074))) (pow_mono {i = 1087} l)) in
    let both : v ≤ 2 ^ suc k = le_trans (joins-upto (A * 2 ^ 1074) b v (2 ^ k) most q.upto w.2) (le_of_eq (sym (pow-succ' 2 k))) in
    let r : Rounded v (2 ^ 1074) (suc k) (add binary64 a y) =
    subst (Rounded v (2 ^ 1074) (suc k)) (sym (add-value whole q.units (pow_pos 1074) ∙ w.3))
    (rounded w.0 v (2 ^ 1074) (suc k) (pow_pos 1074) far (mul-le-mul_right (2 ^ 1074) both)) in
    record { units = r.units; upto = r.upto; spaced = join-spaced A b v w.2 (add-fits binary64 a y) r q.spaced }

neg_spaced : {k : ℕ} {y : Float} → Spaced k y → Spaced k (neg y)
neg_spaced q = record { units = neg_valued q.units; upto = q.upto; spaced = q.spaced }

-- ---- p - (a + t * dx)

spaced-in_range : {x : Float} → Spaced 1089 x → in_range x ≡ true
spaced-in_range q = units-in_range q.units (low q.units.number q.spaced) q.upto
  where
    low : (c : ℕ) → MultipleOrSmall c → (c ≡ 0) ⊎ (2 ^ 1010 ≤ c)
    low c (inr h) = inr (le_trans (lit≤ tt) h.0)
    low c (inl (zero, e)) = inl (e ∙ zero-mul (2 ^ 1021))
    low c (inl (suc z, e)) =
        inr (le_trans {m = 2 ^ 1021} (lit≤ tt) (le_trans (le_of_eq (sym (one-mul (2 ^ 1021)))) (le_trans (mul-le-mul_right (2 ^ 1021) (zero-lt-suc z)) (le_of_eq (sym e)))))

pub sub_is : (x y : Float) → sub binary64 x y ≡ add binary64 x (neg y)
unfolding sub
sub_is x y = refl

pub difference-in_range : {p a t dx : Float} → Whole (2 ^ 13) p → Whole (2 ^ 13) a → Part t → Whole (2 ^ 13) dx
    → in_range (sub binary64 p (add binary64 a (mul binary64 t dx))) ≡ true
difference-in_range {p} {a} {t} {dx} hp ha ht hd =
    let y : Spaced 1088 (add binary64 a (mul binary64 t dx)) = add-spaced ha (product-spaced ht hd) (lit≤ tt) (lit< tt) in
    ap in_range (sub_is p (add binary64 a (mul binary64 t dx))) ∙ spaced-in_range (add-spaced hp (neg_spaced y) (lit≤ tt) (lit< tt))
