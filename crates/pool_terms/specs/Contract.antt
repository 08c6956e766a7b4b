-- What the answers of this crate say, by cases, and what is asked of two terms. Definitions only; assumes nothing.
use Rattle.std.specs.Prelude.{ℕ, Bool, ◌&&◌, List, get_or, eqb, Option, None, Some}
use Rattle.catalogue.specs.Dates.{Date}
use Rattle.catalogue.specs.Terms as def
use Rattle.pool_terms.specs.declared.calendar.Date as declared
use Rattle.pool_terms.specs.declared.terms.Days.{Days}
use Rattle.pool_terms.specs.declared.terms.Term as code

abbrev pub date : ℕ → ℕ → ℕ → Date
date year month day = record { year = year; month = month; day = day }

abbrev pub date_as : declared.Date → Date
date_as d = date d.year d.month d.day

abbrev pub term_as : code.Term → def.Term
term_as t = record { on_map = t.on_map; first = date_as t.first; end = date_as t.end }

-- a term as its seven numbers stand in a list
abbrev pub term_in : List ℕ → def.Term
term_in l = record { on_map = get_or l 0 0; first = date (get_or l 1 0) (get_or l 2 0) (get_or l 3 0); end = date (get_or l 4 0) (get_or l 5 0) (get_or l 6 0) }

abbrev pub days_as : Days → def.Days
days_as d = record { from = d.from; to = d.to }

abbrev pub days_in : Option Days → Option def.Days
days_in None = None
days_in (Some d) = Some (days_as d)

-- term j is of the map and has a day in common with d
abbrev pub sharing : List ℕ → ℕ → def.Days → ℕ → Bool
sharing terms map d j = eqb (def.term_at terms j).on_map map && def.overlap d (def.days_of (def.term_at terms j))

-- the first day of a term, or 0 for a bad date
abbrev pub first_in : Option def.Days → ℕ
first_in None = 0
first_in (Some d) = d.from

-- the end of a term, or 0 for a bad date
abbrev pub end_in : Option def.Days → ℕ
end_in None = 0
end_in (Some d) = d.to
