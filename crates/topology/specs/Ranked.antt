-- The words of the contracts of `rank_junctions`, `mark_ranked` and the call that gives the ranked junction list, over the lent records as they are declared.
-- Definitions only; assumes nothing.
use Rattle.std.specs.Prelude.{ℕ, ◌/◌, ◌≤◌, ◌≡◌, Bool, cond, List, [], map, length, take, drop, eqb}
use Rattle.definitions.specs.Limits.{numbers_per_boundary}
use Rattle.definitions.specs.Grid.{Map}
use Rattle.definitions.specs.Partition.{region_count}
use Rattle.definitions.specs.Context.{Context, context_of}
use Rattle.definitions.specs.Junctions.{Proposal}
use Rattle.context.specs.Records.{record_of}
use Rattle.ranked_list.specs.RankedList.{Listed, ranked_rows, flat_ranked}
use Rattle.ranked_list.specs.RankedAnswers.{RankedAnswer, RankedRan}
use Rattle.ranked_rows.specs.declared.RankedRow.{RankedRow}
use Rattle.ranked_rows.specs.Contract.{listed_form, row_numbers}
use Rattle.topology.specs.Proposals.{Removes}
use Rattle.topology.specs.Marks.{MarkedFor}
use Rattle.topology.specs.Lent.{LentLists, LeftLists, lent_map, lent_call}
use Rattle.topology.specs.Contract.{written}

-- the list, which was `was`, has the n rows in front, and their numbers there
pub record Lists (rows : List (Listed Proposal)) (was listed : List RankedRow) (n : ℕ) : Type 0 where
  pub within : n ≤ length listed
  pub list : map listed_form (take n listed) ≡ rows
  pub numbers : row_numbers (take n listed) ≡ flat_ranked rows
  pub rest : drop n listed ≡ drop n was

-- the marked boundaries are those that pass 3 removes, and the list has the proposals of C
pub record Ranked (C : Context) (count : ℕ) (marked : List Bool) (was listed : List RankedRow) (n : ℕ) : Type 0 where
  pub removes : Removes C count marked
  pub lists : Lists (ranked_rows C) was listed n

-- the marks are those of pass 3, and the list has the proposals of M: none, where there are not as many boundaries as spans
pub record RankedFor (M : Map) (needed count : ℕ) (boundaries m q m' q' : List ℕ) (was removed : List Bool) (old listed : List RankedRow) (n : ℕ) : Type 0 where
  pub marked : MarkedFor 3 M needed count boundaries m q m' q' was removed
  pub equal : length boundaries / numbers_per_boundary ≡ count → Lists (ranked_rows (context_of M)) old listed n
  pub differ : (length boundaries / numbers_per_boundary ≡ count → ⊥) → Lists [] old listed n

-- 21 leaves the records as success does
abbrev pub ranked_written : ℕ → ℕ → ℕ
ranked_written number n = cond (eqb number 21) n (written number n)

-- What was lent, with the list as it `was`; the answer; and what was left, with the list as it is. Records that are not written are as they were, not only as
-- `record_of` shows them.
pub record RankedOver (L : LentLists) (was : List ℕ) (a : RankedAnswer) (E : LeftLists) (list : List ℕ) : Type 0 where
  pub ran : RankedRan (lent_call 3 L) was a E.labels E.masks E.queue E.tallies E.pairs (map record_of E.records) E.output list
  pub beyond : drop (ranked_written a.number (region_count (lent_map L))) E.records ≡ drop (ranked_written a.number (region_count (lent_map L))) L.records
