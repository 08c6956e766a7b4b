-- Terms of maps in the tournament pool: their days, and the checks 18 and 19. Quotations are of document 02, request 8.
-- Assumes nothing; entries of the list are 64-bit numbers, of any size.
use Rattle.std.specs.Prelude.{ℕ, ◌+◌, ◌*◌, ◌/◌, ◌%◌, Bool, false, ◌&&◌, ◌||◌, List, length, get_or, eqb, ltb, leb, Option, None, Some}
use Rattle.definitions.specs.Scan.{any_below_lem, only_if}
use Rattle.definitions.specs.Refusals.{Refusal, first_below_lem}
use Rattle.catalogue.specs.Dates.{Date, day_of, end_of}

-- "A term has a map number, a first day and an end day"; "terms [..] give year, month and day"
pub record Term : Type 0 where
  pub on_map : ℕ
  pub first : Date
  pub end : Date

abbrev pub numbers_per_term : ℕ
numbers_per_term = 7

-- term i of the list, and how many there are
unfoldable pub term_at : List ℕ → ℕ → Term
term_at l i =
    let at = numbers_per_term * i in
    record {
      on_map = get_or l at 0;
      first = record { year = get_or l (at + 1) 0; month = get_or l (at + 2) 0; day = get_or l (at + 3) 0 };
      end = record { year = get_or l (at + 4) 0; month = get_or l (at + 5) 0; day = get_or l (at + 6) 0 };
    }

abbrev pub term_count : List ℕ → ℕ
term_count l = length l / numbers_per_term

-- no last entry is unfinished
abbrev pub is_finished : List ℕ → Bool
is_finished l = eqb (length l % numbers_per_term) 0

-- ---- the days of a term, from the first day to the "end day that no longer belongs to it"

pub record Days : Type 0 where
  pub from : ℕ
  pub to : ℕ

abbrev pub from_to : Option ℕ → Option ℕ → Option Days
from_to None to = None
from_to (Some from) None = None
from_to (Some from) (Some to) = Some (record { from = from; to = to })

-- none where a date is bad
unfoldable pub days_of : Term → Option Days
unfolding day_of end_of
days_of t = from_to (day_of t.first) (end_of t.end)

-- "an empty term, one that ends no later than it starts"
abbrev pub is_empty : Days → Bool
is_empty d = leb d.to d.from

-- "Terms of one map may touch but not overlap": they have a day in common
abbrev pub overlap : Days → Option Days → Bool
overlap d None = false
overlap d (Some e) = ltb d.from e.to && ltb e.from d.to

-- the day is one of the term's
abbrev pub contains : ℕ → Option Days → Bool
contains day None = false
contains day (Some d) = leb d.from day && ltb day d.to

-- ---- the checks

-- "overlaps an earlier term of its map": earlier along the list
unfoldable pub overlaps_earlier : List ℕ → ℕ → Days → Bool
unfolding any_below_lem term_at days_of
overlaps_earlier l i d = any_below_lem i (λ j. eqb (term_at l j).on_map (term_at l i).on_map && overlap d (days_of (term_at l j)))

-- "18 for a bad date, 19 for an empty term or one that overlaps an earlier term of its map, at the term's position, in that order within a term"
abbrev pub term_fault : List ℕ → ℕ → Option Days → Option Refusal
term_fault l i None = Some (record { number = 18; place = i })
term_fault l i (Some d) = only_if (is_empty d || overlaps_earlier l i d) (record { number = 19; place = i })

unfoldable pub terms_refusal : List ℕ → Option Refusal
unfolding first_below_lem overlaps_earlier term_at days_of
terms_refusal l = first_below_lem (term_count l) (λ i. term_fault l i (days_of (term_at l i)))
