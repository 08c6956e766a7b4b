-- DEMAND 3 over two calls. What is assumed, whole:
--   each call met the contract of the call that runs a pass (`Ran`: the answer and every list at exit are the definitions', for what was lent to it) and returned 0;
--   both were asked for one pass;
--   of the two maps that were lent and an island, the premises of SPECIFICATION 5 hold (`Alike`, crates/island/specs/Premises.antt).
-- Nothing is assumed of the lists that the calls fill: labels, masks, queue, tallies, pairs, records and output are each call's own, of any length and content.
-- The proof: an output holds the definitions' rows (`rows_held_lem`), of which the theorem is `island_rows_lem` and `island-kept`.
use Rattle.std.specs.Prelude.{ℕ, ◌<◌, ◌≡◌, Bool, true, List, length}
use Rattle.std.proofs.Common.{arith, sym, ap, ◌∙◌}
use Rattle.definitions.specs.Grid.{Map}
use Rattle.definitions.specs.RegionRecord.{Region}
use Rattle.definitions.specs.Rows.{rows_of, is_kept}
use Rattle.definitions.specs.Verdict.{Lent, Answer, map_in}
use Rattle.island.specs.Premises.{Island, Alike, cuts_island, rank_of, island_only}
use Rattle.island.specs.Restrict.{cuts_lt}
use Rattle.island.proofs.Theorem.{island_rows_lem, island-kept}
use Rattle.call_partition.specs.Contract.{Ran}
use Rattle.island_calls.specs.Outputs.{rows_held, has_row}
use Rattle.island_calls.specs.RowsAtExit.{rows_held_lem, row_kept}

-- spans and boundaries are one list, so that what cuts is a boundary of the list
cuts-listed : (M : Map) (isl : ℕ → Bool) → Island M isl → (i : ℕ) → cuts_island M isl i ≡ true → i < length M.boundaries
cuts-listed M isl I i h = omega (arith, cuts_lt M isl i h, I.equally_many)

-- a call: lent, answer, and at exit labels, masks, queue, tallies, pairs, records and output; and another call
module _
    {L : Lent} {a : Answer} {l m q t p : List ℕ} {s : List Region} {o : List ℕ}
    {L' : Lent} {a' : Answer} {l' m' q' t' p' : List ℕ} {s' : List Region} {o' : List ℕ}
    (ran : Ran L a l m q t p s o) (ran' : Ran L' a' l' m' q' t' p' s' o')
    (success : a.number ≡ 0) (success' : a'.number ≡ 0)
    (one_pass : L.pass ≡ L'.pass)
    (isl : ℕ → Bool) (A : Alike (map_in L) (map_in L') isl) where
  -- "With all other rows struck out, both outputs have equally many, alike one by one from the first."
  pub island_outputs : island_only (map_in L) isl (rows_held a o) ≡ island_only (map_in L') isl (rows_held a' o')
  island_outputs =
      ap (island_only (map_in L) isl) (rows_held_lem ran success)
      ∙ island_rows_lem L.pass (map_in L) (map_in L') isl A
      ∙ ap (λ pass. island_only (map_in L') isl (rows_of pass (map_in L'))) one_pass
      ∙ ap (island_only (map_in L') isl) (sym (rows_held_lem ran' success'))

  -- "a boundary that cuts there is kept [..] in the one exactly when its counterpart is kept in the other" (demand 3): boundary i of the one map and j of the
  -- other cut the island and have the same rank among those that do; then i has a row in the one output exactly when j has one in the other
  pub island-kept-boundaries : (i j : ℕ) → cuts_island (map_in L) isl i ≡ true → cuts_island (map_in L') isl j ≡ true → rank_of (map_in L) isl i ≡ rank_of (map_in L') isl j → has_row i (rows_held a o) ≡ has_row j (rows_held a' o')
  island-kept-boundaries i j h k e =
      ap (has_row i) (rows_held_lem ran success)
      ∙ row_kept L.pass (map_in L) i (cuts-listed (map_in L) isl A.island i h)
      ∙ island-kept L.pass (map_in L) (map_in L') isl A i j h k e
      ∙ ap (λ pass. is_kept pass (map_in L') j) one_pass
      ∙ sym (row_kept L'.pass (map_in L') j (cuts-listed (map_in L') isl A.island' j k))
      ∙ ap (has_row j) (sym (rows_held_lem ran' success'))
