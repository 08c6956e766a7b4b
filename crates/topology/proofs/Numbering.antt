-- Records written in numbers: one more record, and as many as there is room for. Assumes nothing.
use Prim.Native.Nat.{ℕ, zero, suc, ◌+◌, ◌*◌, ◌/◌, ◌≤◌, ◌<◌, min}
use native.Mathlib.Omega.{arith}
use mathlib.Core.Path.{◌≡◌, refl, sym, ap, ◌∙◌}
use mathlib.Core.List.{List, [], ◌∷◌, ◌++◌, map}
use lib.ListN.{length, take, get_or, length-map}
use lib.Seq.{sets, length-take-le, take-suc}
use lib.Ieee.{Float, binary64, to_bits}
use Rattle.definitions.specs.Lists.{overwrite}
use Rattle.definitions.specs.RegionRecord.{elevation_count}
use Rattle.definitions.specs.RegionRecord as def
use Rattle.laws.specs.ListLaws.Overwritten.{overwrite_more}
use Rattle.context.specs.declared.Region.{Region}
use Rattle.context.specs.Records.{record_of}
use Rattle.topology.specs.Numbers.{numbers_per_record, record_numbers, all_numbers, with_records}
use Rattle.topology.proofs.Answered.{map-take}

-- ---- the numbers of one record

abbrev bits : Float → ℕ
bits = to_bits binary64

module _ (s : def.Region) where
  abbrev listed : (a b c d : ℕ) → List ℕ
  listed a b c d = s.cells ∷ a ∷ b ∷ c ∷ d ∷ s.ramp_cells_lem ∷ s.elevations ∷ elevation_count s 0 ∷ elevation_count s 1 ∷ elevation_count s 2 ∷ elevation_count s 3 ∷ []

  pub as_numbers : {a b c d : ℕ} → a ≡ bits s.min_x_lem → b ≡ bits s.min_y_lem → c ≡ bits s.max_x_lem → d ≡ bits s.max_y_lem → listed a b c d ≡ record_numbers s
  as_numbers {b = b} {c = c} {d = d} x y z w =
      ap (λ n. listed n b c d) x
      ∙ ap (λ n. listed (bits s.min_x_lem) n c d) y
      ∙ ap (λ n. listed (bits s.min_x_lem) (bits s.min_y_lem) n d) z
      ∙ ap (listed (bits s.min_x_lem) (bits s.min_y_lem) (bits s.max_x_lem)) w

-- ---- one more record

length-all : (l : List def.Region) → length (all_numbers l) ≡ numbers_per_record * length l
length-all [] = refl
length-all (s ∷ l) = omega (arith, length-all l)

all_more : (l : List def.Region) (s : def.Region) → all_numbers (l ++ s ∷ []) ≡ all_numbers l ++ record_numbers s
all_more [] s = refl
all_more (x ∷ l) s = ap (λ n. record_numbers x ++ n) (all_more l s)

map_snoc : (l : List Region) (s : Region) → map record_of (l ++ s ∷ []) ≡ map record_of l ++ record_of s ∷ []
map_snoc [] s = refl
map_snoc (x ∷ l) s = ap {B = List def.Region} (λ r. record_of x ∷ r) (map_snoc l s)

-- the first i records are written, and the next stands at i
module _ (rs : List Region) (numbers : List ℕ) (i : ℕ) where
  abbrev first : ℕ → List ℕ
  first k = all_numbers (map record_of (take k rs))

  pub first_long : i ≤ length rs → length (first i) ≡ numbers_per_record * i
  first_long h = length-all (map record_of (take i rs)) ∙ ap (λ k. numbers_per_record * k) (length-map (take i rs) record_of ∙ length-take-le i rs h)

  pub record_more : (d : Region) → i < length rs → numbers_per_record * (i + 1) ≤ length numbers
      → sets (overwrite (first i) numbers) (numbers_per_record * i) (record_numbers (record_of (get_or rs i d))) ≡ overwrite (first (i + 1)) numbers
  record_more d h room =
      ap (λ k. sets (overwrite (first i) numbers) k (record_numbers (record_of (get_or rs i d)))) (sym (first_long (omega arith)))
      ∙ overwrite_more (first i) (record_numbers (record_of (get_or rs i d))) numbers (omega (arith, first_long (omega arith)))
      ∙ ap (λ l. overwrite l numbers) (sym (all_more (map record_of (take i rs)) (record_of (get_or rs i d))) ∙ ap all_numbers (sym next))
    where
      after : i + 1 ≡ suc i
      after = omega arith

      next : map record_of (take (i + 1) rs) ≡ map record_of (take i rs) ++ record_of (get_or rs i d) ∷ []
      next =
          ap (λ k. map record_of (take k rs)) after
          ∙ ap (map record_of) (take-suc rs i d h)
          ∙ map_snoc (take i rs) (get_or rs i d)

-- ---- as many as there is room for

take_least : {A : Type 0} (c k : ℕ) (l : List A) → c ≡ min (length l) k → take k l ≡ take c l
take_least zero zero l e = refl
take_least zero (suc k) [] e = refl
take_least zero (suc k) (x ∷ l) e = absurd (omega (arith, e))
take_least (suc c) zero l e = absurd (omega (arith, e))
take_least (suc c) (suc k) [] e = absurd (omega (arith, e))
take_least {A} (suc c) (suc k) (x ∷ l) e = ap {B = List A} (λ r. x ∷ r) (take_least c k l (omega (arith, e)))

pub all-written : (rs : List Region) (numbers : List ℕ) {c : ℕ} → c ≡ min (length rs) (length numbers / numbers_per_record)
    → overwrite (all_numbers (map record_of (take c rs))) numbers ≡ with_records (map record_of rs) numbers
all-written rs numbers {c} e =
    let room = length numbers / numbers_per_record in
    ap (λ l. overwrite (all_numbers l) numbers) (ap (map record_of) (sym (take_least c room rs e)) ∙ map-take record_of room rs)
