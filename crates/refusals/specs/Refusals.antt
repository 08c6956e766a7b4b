-- The causes of refusals by their numbers, and a refusal as the definitions have it: of a result, the refusal with its number and place, if it is one. Definitions only;
-- assumes nothing.
use Rattle.std.specs.Prelude.{ℕ, Option, None, Some, Result, Ok, Err}
use Rattle.definitions.specs.Refusals.{Refusal}
use Rattle.refusals.specs.declared.Cause.{Cause}
use Rattle.refusals.specs.declared.Cause.TheVariants as cause
use Rattle.refusals.specs.declared.Refusal as code

abbrev pub number_of : Cause → ℕ
number_of cause.Sides = 1
number_of cause.Cells = 2
number_of cause.Entries = 3
number_of cause.Pass = 4
number_of cause.SpanOutside = 5
number_of cause.SpanOfNoLength = 6
number_of cause.Boundary = 7
number_of cause.AnchorOutside = 8
number_of cause.Elevation = 9
number_of cause.Room = 10
number_of cause.Regions = 11
number_of cause.Pairs = 12
number_of cause.Range = 13
number_of cause.Sheet = 14
number_of cause.ResultSheet = 15
number_of cause.Lists = 16
number_of cause.Accession = 17
number_of cause.Date = 18
number_of cause.Term = 19
number_of cause.Desk = 20
number_of cause.Ranked = 21
number_of cause.TwoLists = 22
number_of cause.Graph = 23
number_of cause.Goal = 24

abbrev pub refusal_of : code.Refusal → Refusal
refusal_of r = record { number = number_of r.cause; place = r.place }

abbrev pub refusal_in : {A : Type 0} → Result A code.Refusal → Option Refusal
refusal_in (Ok a) = None
refusal_in (Err r) = Some (refusal_of r)
