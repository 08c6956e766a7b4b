-- The code's tables against the sums of the definitions: the days before a month, for both kinds of year, and the days before a year of the century, each
-- computed once for all. Assumes nothing.
use Prim.Native.Nat.{ℕ, ◌+◌, ◌-◌, ◌*◌, ◌/◌, ◌≤◌}
use native.Mathlib.Omega.{arith}
use mathlib.Core.Path.{◌≡◌, refl}
use mathlib.Core.Bool.{Bool, true, false, ◌&&◌, cond}
use mathlib.Core.List.{List, [], ◌∷◌}
use lib.Dec.{eqb, ltb, leb}
use mir.Val.{bool_byte}
use lib.ListN.{get_or, get_or-eq_default}
use borrow.Author.Tests.{eqb-true, leb-true, ltb-true, ltb-false}
use Rattle.definitions.specs.Scan.{all_below}
use Rattle.laws.specs.ListLaws.Tests.{both}
use Rattle.laws.specs.ListLaws.Below.{all_below_at}
use Rattle.catalogue.specs.Dates.{is_leap, year_days, plain_months, month_days, sum_below, days_before_year, days_before_month, Date, day_number, is_last_end}

abbrev pub before_month : List ℕ
before_month = 0 ∷ 31 ∷ 59 ∷ 90 ∷ 120 ∷ 151 ∷ 181 ∷ 212 ∷ 243 ∷ 273 ∷ 304 ∷ 334 ∷ []

-- a year's first n months
months_in : Bool → ℕ → ℕ
months_in leap n = sum_below n (λ m. get_or plain_months (m + 1 - 1) 0 + cond (eqb (m + 1) 2 && leap) 1 0)

table_fits_lem : Bool → Bool
table_fits_lem leap = all_below 12 (λ n. eqb (months_in leap n) (get_or before_month n 0 + cond (ltb 1 n && leap) 1 0))

table_fits : (leap : Bool) → table_fits_lem leap ≡ true
unfolding table_fits_lem months_in sum_below all_below
table_fits true = refl
table_fits false = refl

pub months_before : (year month : ℕ) → 1 ≤ month → month ≤ 12 → days_before_month year month ≡ get_or before_month (month - 1) 0 + cond (ltb 1 (month - 1) && is_leap year) 1 0
unfolding days_before_month month_days table_fits_lem months_in
months_before year month h k =
    let n = month - 1 in
    eqb-true (months_in (is_leap year) n) (get_or before_month n 0 + cond (ltb 1 n && is_leap year) 1 0)
    (all_below_at 12 (λ n. eqb (months_in (is_leap year) n) (get_or before_month n 0 + cond (ltb 1 n && is_leap year) 1 0)) (table_fits (is_leap year)) n (omega arith))

years_fit : all_below 101 (λ y. eqb (sum_below y (λ k. year_days (2000 + k))) (365 * y + (y + 3) / 4)) ≡ true
unfolding sum_below all_below
years_fit = refl

pub years_before : (year : ℕ) → year ≤ 2100 → days_before_year year ≡ 365 * (year - 2000) + (year - 2000 + 3) / 4
unfolding days_before_year
years_before year h =
    let y = year - 2000 in
    eqb-true (sum_below y (λ k. year_days (2000 + k))) (365 * y + (y + 3) / 4)
    (all_below_at 101 (λ y. eqb (sum_below y (λ k. year_days (2000 + k))) (365 * y + (y + 3) / 4)) years_fit y (omega arith))

pub below-table : (n : ℕ) → get_or before_month n 0 ≤ 334
unfolding all_below
below-table n = go (ltb n 12) refl
  where
    fits : all_below 12 (λ n. leb (get_or before_month n 0) 334) ≡ true
    fits = refl

    go : (t : Bool) → ltb n 12 ≡ t → get_or before_month n 0 ≤ 334
    go true e = leb-true (get_or before_month n 0) 334 (all_below_at 12 (λ n. leb (get_or before_month n 0) 334) fits n (ltb-true n 12 e))
    go false e = omega (arith, get_or-eq_default before_month 0 {n = n} (ltb-false n 12 e))

-- the number of 1 January 2100
pub last_end-number : (d : Date) → is_last_end d ≡ true → day_number d ≡ 36525
unfolding day_number days_before_year days_before_month sum_below
last_end-number d h =
    let a = both (eqb d.year 2100 && eqb d.month 1) (eqb d.day 1) h in
    let b = both (eqb d.year 2100) (eqb d.month 1) a.0 in
    rw (eqb-true d.year 2100 b.0, eqb-true d.month 1 b.1, eqb-true d.day 1 a.1) refl

-- a test as a number
pub byte_is : (b : Bool) → bool_byte b ≡ cond b 1 0
byte_is true = refl
byte_is false = refl

bit_most : (b : Bool) → cond b 1 0 ≤ 1
bit_most true = omega arith
bit_most false = omega arith

pub months_most : (year month : ℕ) → 1 ≤ month → month ≤ 12 → days_before_month year month ≤ 335
months_most year month h k = omega (arith, months_before year month h k, below-table (month - 1), bit_most (ltb 1 (month - 1) && is_leap year))

pub month_most : (year month : ℕ) → month ≤ 12 → month_days year month ≤ 32
unfolding month_days all_below
month_most year month h =
    omega (
      arith,
      leb-true (get_or plain_months (month - 1) 0) 31 (all_below_at 12 (λ n. leb (get_or plain_months n 0) 31) refl (month - 1) (omega arith)),
      bit_most (eqb month 2 && is_leap year),
    )
