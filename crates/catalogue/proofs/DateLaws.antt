-- Dates and their numbers are one to one: the number of the next date is one more, from 1 January 2000, day 0, on (`day_next`); dates with one number are one
-- (`day_unique`), and each number up to 36,524 is that of a date (`day-numbered`). Stated by the lengths of months and years, and by no list of cases. Assumes nothing.
use Rattle.std.specs.Prelude.{ℕ, zero, suc, ◌+◌, ◌-◌, ◌<◌, ◌≤◌, ◌≡◌, refl, Bool, true, false, ◌&&◌, cond, eqb, ltb, leb, get_or}
use Rattle.std.proofs.Common.{arith, sym, ap, ap₂, ◌∙◌, le-leb, leb-true, leb-false, ltb-true, ltb-false}
use Rattle.definitions.specs.Scan.{all_below}
use Rattle.laws.specs.ListLaws.Tests.{both}
use Rattle.laws.specs.ListLaws.Below.{all_below_at}
use Rattle.catalogue.specs.Dates.{Date, is_leap, year_days, plain_months, month_days, is_day, sum_below, days_before_year, days_before_month, day_number}

-- the day after, by the lengths of months and years
unfoldable pub next_date : Date → Date
unfolding month_days
next_date d =
    cond (ltb d.day (month_days d.year d.month)) (record { year = d.year; month = d.month; day = d.day + 1 })
    (cond (ltb d.month 12) (record { year = d.year; month = d.month + 1; day = 1 }) (record { year = d.year + 1; month = 1; day = 1 }))

-- twelve months are a year
months_of : (leap : Bool) → sum_below 12 (λ m. get_or plain_months (m + 1 - 1) 0 + cond (eqb (m + 1) 2 && leap) 1 0) ≡ cond leap 366 365
unfolding sum_below
months_of true = refl
months_of false = refl

year-sum : (year : ℕ) → sum_below 12 (λ m. month_days year (m + 1)) ≡ year_days year
unfolding month_days
year-sum year = months_of (is_leap year)

sum_next : (n : ℕ) (f : ℕ → ℕ) → sum_below (suc n) f ≡ sum_below n f + f n
unfolding sum_below
sum_next n f = refl

-- what `is_day` says of month and day
pub record Parts (d : Date) : Type 0 where
  pub from_2000 : 2000 ≤ d.year
  pub to_2099 : d.year ≤ 2099
  pub month_from : 1 ≤ d.month
  pub month_to : d.month ≤ 12
  pub day_from : 1 ≤ d.day
  pub day_to : d.day ≤ month_days d.year d.month

pub parts : (d : Date) → is_day d ≡ true → Parts d
unfolding is_day
parts d h =
    let a = both (leb 2000 d.year && leb d.year 2099 && leb 1 d.month && leb d.month 12 && leb 1 d.day) (leb d.day (month_days d.year d.month)) h in
    let b = both (leb 2000 d.year && leb d.year 2099 && leb 1 d.month && leb d.month 12) (leb 1 d.day) a.0 in
    let c = both (leb 2000 d.year && leb d.year 2099 && leb 1 d.month) (leb d.month 12) b.0 in
    let e = both (leb 2000 d.year && leb d.year 2099) (leb 1 d.month) c.0 in
    let f = both (leb 2000 d.year) (leb d.year 2099) e.0 in
    record {
      from_2000 = leb-true 2000 d.year f.0;
      to_2099 = leb-true d.year 2099 f.1;
      month_from = leb-true 1 d.month e.1;
      month_to = leb-true d.month 12 c.1;
      day_from = leb-true 1 d.day b.1;
      day_to = leb-true d.day (month_days d.year d.month) a.1;
    }

-- the number, from its three parts
number_is : (d : Date) → day_number d ≡ days_before_year d.year + days_before_month d.year d.month + (d.day - 1)
unfolding day_number
number_is d = refl

next_month : (year month : ℕ) → 1 ≤ month → days_before_month year (month + 1) ≡ days_before_month year month + month_days year month
unfolding days_before_month
next_month year zero h = absurd (omega arith)
next_month year (suc m) h =
    let f : ℕ → ℕ = λ m. month_days year (m + 1) in
    let later : suc m + 1 - 1 ≡ suc m = omega arith in
    let before : m ≡ suc m - 1 = omega arith in
    let this : m + 1 ≡ suc m = omega arith in
    ap (λ n. sum_below n f) later ∙ sum_next m f ∙ ap₂ (λ n k. sum_below n f + month_days year k) before this

first_month : (year : ℕ) → days_before_month year 1 ≡ 0
unfolding days_before_month sum_below
first_month year = refl

-- December closes the year
whole-year : (year : ℕ) → days_before_month year 12 + month_days year 12 ≡ year_days year
unfolding days_before_month
whole-year year = sym (sum_next 11 (λ m. month_days year (m + 1))) ∙ year-sum year

next_year : (year : ℕ) → 2000 ≤ year → days_before_year (year + 1) ≡ days_before_year year + year_days year
unfolding days_before_year
next_year year h =
    let n : year + 1 - 2000 ≡ suc (year - 2000) = omega arith in
    let y : 2000 + (year - 2000) ≡ year = omega arith in
    ap (λ k. sum_below k (λ y. year_days (2000 + y))) n ∙ sum_next (year - 2000) (λ y. year_days (2000 + y)) ∙ ap (λ k. sum_below (year - 2000) (λ y. year_days (2000 + y)) + year_days k) y

-- "from 1 January 2000, day 0"
pub day-zero : day_number (record { year = 2000; month = 1; day = 1 }) ≡ 0
unfolding day_number
day-zero = refl

pub day_next : (d : Date) → is_day d ≡ true → day_number (next_date d) ≡ day_number d + 1
unfolding next_date
day_next d h = go (ltb d.day (month_days d.year d.month)) refl (ltb d.month 12) refl
  where
    P : Parts d
    P = parts d h

    go : (t : Bool) → ltb d.day (month_days d.year d.month) ≡ t → (u : Bool) → ltb d.month 12 ≡ u
        → day_number
        (cond t (record { year = d.year; month = d.month; day = d.day + 1 })
        (cond u (record { year = d.year; month = d.month + 1; day = 1 }) (record { year = d.year + 1; month = 1; day = 1 }))) ≡ day_number d + 1
    go true e u f =
        omega (arith, number_is (record { year = d.year; month = d.month; day = d.day + 1 }), number_is d, P.day_from)
    go false e true f =
        omega (
          arith,
          number_is (record { year = d.year; month = d.month + 1; day = 1 }),
          number_is d,
          next_month d.year d.month P.month_from,
          ltb-false d.day (month_days d.year d.month) e,
          P.day_from,
          P.day_to,
        )
    go false e false f =
        let december : d.month ≡ 12 = omega (arith, ltb-false d.month 12 f, P.month_to) in
        let all : days_before_month d.year d.month + month_days d.year d.month ≡ year_days d.year = ap (λ m. days_before_month d.year m + month_days d.year m) december ∙ whole-year d.year in
        omega (
          arith,
          number_is (record { year = d.year + 1; month = 1; day = 1 }),
          number_is d,
          next_year d.year P.from_2000,
          first_month (d.year + 1),
          all,
          ltb-false d.day (month_days d.year d.month) e,
          P.day_from,
          P.day_to,
        )

-- ---- dates with one number are one

sum-grows : (f : ℕ → ℕ) (n m : ℕ) → n ≤ m → sum_below n f ≤ sum_below m f
sum-grows f n zero h = let z : n ≡ 0 = omega arith in rw z (omega arith)
sum-grows f n (suc m) h = go (leb n m) refl (λ k. sum-grows f n m k)
  where
    go : (t : Bool) → leb n m ≡ t → (n ≤ m → sum_below n f ≤ sum_below m f) → sum_below n f ≤ sum_below (suc m) f
    go true e ih = omega (arith, ih (leb-true n m e), sum_next m f)
    go false e ih = let z : n ≡ suc m = omega (arith, leb-false n m e) in rw z (omega arith)

years_grow : (y z : ℕ) → y ≤ z → days_before_year y ≤ days_before_year z
unfolding days_before_year
years_grow y z h = sum-grows (λ k. year_days (2000 + k)) (y - 2000) (z - 2000) (omega arith)

months_grow : (year m n : ℕ) → m ≤ n → days_before_month year m ≤ days_before_month year n
unfolding days_before_month
months_grow year m n h = sum-grows (λ k. month_days year (k + 1)) (m - 1) (n - 1) (omega arith)

-- a hundred years
century : days_before_year 2100 ≡ 36525
unfolding days_before_year sum_below
century = refl

module _ (d : Date) (h : is_day d ≡ true) where
  P : Parts d
  P = parts d h

  -- the number of a day is below that of the next month's first
  before_next_month : days_before_month d.year d.month + (d.day - 1) < days_before_month d.year (d.month + 1)
  before_next_month = omega (arith, next_month d.year d.month P.month_from, P.day_from, P.day_to)

  -- and below that of the next year's first
  before_next_year : day_number d < days_before_year (d.year + 1)
  before_next_year =
      let late : d.month + 1 ≤ 13 = omega (arith, P.month_to) in
      omega (
        arith,
        number_is d,
        before_next_month,
        months_grow d.year (d.month + 1) 13 late,
        next_month d.year 12 (omega arith),
        whole-year d.year,
        next_year d.year P.from_2000,
      )

  from_year : days_before_year d.year ≤ day_number d
  from_year = omega (arith, number_is d)

  -- "to 31 December 2099"
  pub day_last : day_number d ≤ 36524
  day_last = omega (arith, before_next_year, years_grow (d.year + 1) 2100 (omega (arith, P.to_2099)), century)

not-earlier-year : (d e : Date) → is_day d ≡ true → is_day e ≡ true → day_number d ≡ day_number e → d.year < e.year → ⊥
not-earlier-year d e h k n l = omega (arith, before_next_year d h, years_grow (d.year + 1) e.year (omega arith), from_year e k)

not-earlier-month : (d e : Date) → is_day d ≡ true → is_day e ≡ true → d.year ≡ e.year → day_number d ≡ day_number e → d.month < e.month → ⊥
not-earlier-month d e h k y n l =
    let same : days_before_month d.year e.month ≡ days_before_month e.year e.month = ap (λ z. days_before_month z e.month) y in
    let years : days_before_year d.year ≡ days_before_year e.year = ap days_before_year y in
    omega (arith, number_is d, number_is e, before_next_month d h, months_grow d.year (d.month + 1) e.month (omega arith))

same_number : {a b : ℕ} → (a < b → ⊥) → (b < a → ⊥) → a ≡ b
same_number {a} {b} f g = go (ltb a b) refl (ltb b a) refl
  where
    go : (t : Bool) → ltb a b ≡ t → (u : Bool) → ltb b a ≡ u → a ≡ b
    go true e u i = absurd (f (ltb-true a b e))
    go false e true i = absurd (g (ltb-true b a i))
    go false e false i = omega (arith, ltb-false a b e, ltb-false b a i)

pub day_unique : (d e : Date) → is_day d ≡ true → is_day e ≡ true → day_number d ≡ day_number e → d ≡ e
day_unique d e h k n = λ i. record { year = year i; month = month i; day = day i }
  where
    year : d.year ≡ e.year
    year = same_number (not-earlier-year d e h k n) (not-earlier-year e d k h (sym n))

    month : d.month ≡ e.month
    month = same_number (not-earlier-month d e h k year n) (not-earlier-month e d k h (sym year) (sym n))

    day : d.day ≡ e.day
    day =
        let same : days_before_month d.year d.month ≡ days_before_month e.year e.month = ap₂ days_before_month year month in
        let years : days_before_year d.year ≡ days_before_year e.year = ap days_before_year year in
        omega (arith, number_is d, number_is e, (parts d h).day_from, (parts e k).day_from)

-- ---- each number is that of a date

good-date : (d : Date) → Parts d → is_day d ≡ true
unfolding is_day
good-date d P =
    rw (
      le-leb 2000 d.year P.from_2000,
      le-leb d.year 2099 P.to_2099,
      le-leb 1 d.month P.month_from,
      le-leb d.month 12 P.month_to,
      le-leb 1 d.day P.day_from,
      le-leb d.day (month_days d.year d.month) P.day_to,
    )
    refl

some_days : (year month : ℕ) → 1 ≤ month → month ≤ 12 → 1 ≤ month_days year month
unfolding month_days all_below
some_days year month h k = omega (arith, leb-true 1 (get_or plain_months (month - 1) 0) (all_below_at 12 (λ m. leb 1 (get_or plain_months m 0)) all_have (month - 1) (omega arith)))
  where
    all_have : all_below 12 (λ m. leb 1 (get_or plain_months m 0)) ≡ true
    all_have = refl

-- the day after is a day too, but for the last of the century
next_good : (d : Date) → is_day d ≡ true → day_number d < 36524 → is_day (next_date d) ≡ true
unfolding next_date
next_good d h n = go (ltb d.day (month_days d.year d.month)) refl (ltb d.month 12) refl (day_next d h)
  where
    P : Parts d
    P = parts d h

    go : (t : Bool) → ltb d.day (month_days d.year d.month) ≡ t → (u : Bool) → ltb d.month 12 ≡ u → day_number (next_date d) ≡ day_number d + 1
        → is_day
        (cond t (record { year = d.year; month = d.month; day = d.day + 1 })
        (cond u (record { year = d.year; month = d.month + 1; day = 1 }) (record { year = d.year + 1; month = 1; day = 1 }))) ≡ true
    go true e u f s =
        let b : d.day < month_days d.year d.month = ltb-true d.day (month_days d.year d.month) e in
        good-date (record { year = d.year; month = d.month; day = d.day + 1 })
        (record { from_2000 = P.from_2000; to_2099 = P.to_2099; month_from = P.month_from; month_to = P.month_to; day_from = omega arith; day_to = omega arith })
    go false e true f s =
        let b : d.month < 12 = ltb-true d.month 12 f in
        good-date (record { year = d.year; month = d.month + 1; day = 1 })
        (record {
          from_2000 = P.from_2000;
          to_2099 = P.to_2099;
          month_from = omega arith;
          month_to = omega arith;
          day_from = omega arith;
          day_to = some_days d.year (d.month + 1) (omega arith) (omega arith);
        })
    go false e false f s =
        good-date (record { year = d.year + 1; month = 1; day = 1 })
        (record {
          from_2000 = omega (arith, P.from_2000);
          to_2099 = not_after (leb (d.year + 1) 2099) refl;
          month_from = omega arith;
          month_to = omega arith;
          day_from = omega arith;
          day_to = some_days (d.year + 1) 1 (omega arith) (omega arith);
        })
      where
        first_of : next_date d ≡ record { year = d.year + 1; month = 1; day = 1 }
        first_of = rw (e, f) refl

        not_after : (t : Bool) → leb (d.year + 1) 2099 ≡ t → d.year + 1 ≤ 2099
        not_after true g = leb-true (d.year + 1) 2099 g
        not_after false g =
            let last : d.year + 1 ≡ 2100 = omega (arith, leb-false (d.year + 1) 2099 g, P.to_2099) in
            let number : day_number (record { year = d.year + 1; month = 1; day = 1 }) ≡ day_number d + 1 = ap day_number (sym first_of) ∙ s in
            absurd (omega (arith, number, number_is (record { year = d.year + 1; month = 1; day = 1 }), ap days_before_year last, century))

pub record Numbered (n : ℕ) : Type 0 where
  pub date : Date
  pub good : is_day date ≡ true
  pub number : day_number date ≡ n

pub day-numbered : (n : ℕ) → n ≤ 36524 → Numbered n
day-numbered zero h =
    record {
      date = record { year = 2000; month = 1; day = 1 };
      good = good-date (record { year = 2000; month = 1; day = 1 })
          (record { from_2000 = omega arith; to_2099 = omega arith; month_from = omega arith; month_to = omega arith; day_from = omega arith; day_to = some_days 2000 1 (omega arith) (omega arith) });
      number = day-zero;
    }
day-numbered (suc n) h = go (day-numbered n (omega arith))
  where
    go : Numbered n → Numbered (suc n)
    go N =
        record {
          date = next_date N.date;
          good = next_good N.date N.good (omega (arith, N.number));
          number = omega (arith, day_next N.date N.good, N.number);
        }
