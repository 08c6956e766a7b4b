-- What the output of a call is asked: the rows that it holds, and whether a boundary has a row among them. Definitions only.
use Rattle.std.specs.Prelude.{ℕ, Bool, List, eqb}
use Rattle.definitions.specs.Scan.{any}
use Rattle.definitions.specs.Rows.{Row}
use Rattle.definitions.specs.Verdict.{Answer}
use Rattle.laws.specs.ListLaws.FlatRows.{rows_in_lem}

-- the rows that an output holds at exit: of five numbers each, from its first number on, as many as the answer counts
abbrev pub rows_held : Answer → List ℕ → List Row
rows_held a output = rows_in_lem a.value output

-- boundary i has a row among them
abbrev pub has_row : ℕ → List Row → Bool
has_row i rows = any (λ r. eqb i r.number) rows
