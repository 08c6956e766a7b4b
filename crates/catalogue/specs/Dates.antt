-- The Gregorian dates of pool terms and their numbers. Quotations are of document 02, request 8. Assumes nothing.
use Rattle.std.specs.Prelude.{ℕ, zero, suc, ◌+◌, ◌-◌, ◌%◌, Bool, not, ◌&&◌, ◌||◌, cond, List, [], ◌∷◌, get_or, eqb, leb, Option, None, Some}

-- "year, month and day"; month 1 is January
pub record Date : Type 0 where
  pub year : ℕ
  pub month : ℕ
  pub day : ℕ

-- a year that 4 divides has a 29 February, but one that 100 divides only where 400 divides it too
abbrev pub is_leap : ℕ → Bool
is_leap year = eqb (year % 4) 0 && (not (eqb (year % 100) 0) || eqb (year % 400) 0)

abbrev pub year_days : ℕ → ℕ
year_days year = cond (is_leap year) 366 365

-- the days of January to December, without a leap day
abbrev pub plain_months : List ℕ
plain_months = 31 ∷ 28 ∷ 31 ∷ 30 ∷ 31 ∷ 30 ∷ 31 ∷ 31 ∷ 30 ∷ 31 ∷ 30 ∷ 31 ∷ []

unfoldable pub month_days : ℕ → ℕ → ℕ
month_days year month = get_or plain_months (month - 1) 0 + cond (eqb month 2 && is_leap year) 1 0

-- "Days are Gregorian dates from 1 January 2000 [..] to 31 December 2099"
unfoldable pub is_day : Date → Bool
unfolding month_days
is_day d = leb 2000 d.year && leb d.year 2099 && leb 1 d.month && leb d.month 12 && leb 1 d.day && leb d.day (month_days d.year d.month)

-- the sum of f at the numbers below n
unfoldable pub sum_below : ℕ → (ℕ → ℕ) → ℕ
sum_below zero f = 0
sum_below (suc n) f = sum_below n f + f n

-- the days of the years from 2000 to the one before this
unfoldable pub days_before_year : ℕ → ℕ
unfolding sum_below
days_before_year year = sum_below (year - 2000) (λ y. year_days (2000 + y))

-- the days of a year's months before this one
unfoldable pub days_before_month : ℕ → ℕ → ℕ
unfolding sum_below month_days
days_before_month year month = sum_below (month - 1) (λ m. month_days year (m + 1))

-- "from 1 January 2000, day 0"
unfoldable pub day_number : Date → ℕ
unfolding days_before_year days_before_month
day_number d = days_before_year d.year + days_before_month d.year d.month + (d.day - 1)

-- the number of a day, or none for a bad date
unfoldable pub day_of : Date → Option ℕ
unfolding is_day day_number
day_of d = cond (is_day d) (Some (day_number d)) None

-- "an end also 1 January 2100"
abbrev pub is_last_end : Date → Bool
is_last_end d = eqb d.year 2100 && eqb d.month 1 && eqb d.day 1

unfoldable pub end_of : Date → Option ℕ
unfolding day_of day_number
end_of d = cond (is_last_end d) (Some (day_number d)) (day_of d)
