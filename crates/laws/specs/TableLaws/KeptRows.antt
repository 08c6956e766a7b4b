-- How many rows a call keeps: no more than there are boundaries, for which an accepted call has room. Assumes nothing.
use Prim.Native.Nat.{ℕ, zero, suc, ◌*◌, ◌/◌, ◌≤◌}
use native.Mathlib.Omega.{arith}
use Rattle.std.specs.Prelude.{◌≡◌, not, length, Option, None, Some}
use Rattle.std.proofs.Common.{◌∙◌, leb-true}
use Rattle.std.proofs.lemmas.List.{length-map}
use Rattle.std.proofs.Math.ListN.{length-append}
use Rattle.definitions.specs.Limits.{numbers_per_boundary, numbers_per_row}
use Rattle.definitions.specs.Scan.{collect, to_list, only_if, run, member}
use Rattle.definitions.specs.Sort.{list_lt}
use Rattle.definitions.specs.Grid.{Map, map_of, canonical, boundary_at, boundary_of}
use Rattle.definitions.specs.Rows.{Row, row_key, rows_from, removed_of, rows_of}
use Rattle.definitions.specs.Refusals.{output_room}
use Rattle.definitions.specs.Verdict.{Lent, map_in, partition_has_room, verdict}
use Rattle.laws.specs.ListLaws.Lists.{length_run}
use Rattle.laws.specs.ListLaws.Tests.{both}
use Rattle.laws.specs.ListLaws.SortedMembers.{length-sort}
use Rattle.laws.specs.TableLaws.AcceptedCalls.{accepted}

module _ {A : Type 0} where
  one_at_most : (x : Option A) → length (to_list x) ≤ 1
  one_at_most None = omega arith
  one_at_most (Some x) = omega arith

  pub collect-few : (n : ℕ) (f : ℕ → Option A) → length (collect n f) ≤ n
  unfolding collect
  collect-few zero f = omega arith
  collect-few (suc n) f = omega (arith, length-append (collect n f) (to_list (f n)), collect-few n f, one_at_most (f n))

pub rows_few : (pass : ℕ) (M : Map) → length (rows_of pass M) ≤ length M.boundaries
unfolding rows_of rows_from
rows_few pass M =
    let row : ℕ → Option Row = λ i. only_if (not (member i (removed_of pass M))) (record { number = i; line = canonical (boundary_of M i).endpoints }) in
    omega (arith, length-sort (λ r s. list_lt (row_key r) (row_key s)) (collect (length M.boundaries) row), collect-few (length M.boundaries) row)

pub boundary_count_lem : (L : Lent) → length (map_in L).boundaries ≡ length L.boundaries / numbers_per_boundary
unfolding map_in map_of
boundary_count_lem L = length-map (run 0 (length L.boundaries / 9)) (λ i. boundary_at L.boundaries (9 * i)) ∙ length_run 0 (length L.boundaries / 9)

-- an accepted call has room for a row of each boundary
pub rows_have_room : (L : Lent) → (verdict L).number ≡ 0 → numbers_per_row * length (rows_of L.pass (map_in L)) ≤ length L.output
rows_have_room L h =
    let room = (both (partition_has_room L) (output_room (length L.boundaries / numbers_per_boundary) (length L.output)) (accepted L h).room).1 in
    omega (arith, leb-true (numbers_per_row * (length L.boundaries / numbers_per_boundary)) (length L.output) room, rows_few L.pass (map_in L), boundary_count_lem L)
