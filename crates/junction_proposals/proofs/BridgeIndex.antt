-- The boundary of a bridge is one of its pocket's ports, and its regions are labelled. Assumes nothing.
use Prim.Native.Nat.{ℕ, ◌-◌, ◌≤◌, ◌<◌}
use native.Mathlib.Omega.{arith}
use mathlib.Core.Path.{◌≡◌, refl}
use mathlib.Core.Bool.{Bool, true, false, not, ◌&&◌}
use Rattle.std.specs.Prelude.{Option}
use mathlib.Core.List.{List}
use lib.ListN.{get_or}
use lib.Dec.{eqb}
use Rattle.definitions.specs.Scan.{only_if, to_list}
use Rattle.definitions.specs.Junctions.{Proposal}
use Rattle.laws.specs.ListLaws.Lists.{All, done, more}
use Rattle.laws.specs.ListLaws.ScansOfAll.{collect-below}
use Rattle.laws.specs.ListLaws.Options.{OnO, absent, on_only, on_cond}
use Rattle.geometry.specs.Widths.{is_twice_as_wide}
use Rattle.junction_proposals.specs.Lent.{LentPairs}
use Rattle.junction_proposals.specs.Unions.{mark_at, is_near}
use Rattle.junction_proposals.specs.Bridges.{PortAt, beyond_at, is_shared_at, near_at, pick_at, is_pocket_port, bridge_of_three, bridge_of_list, is_bridge_at}
use Rattle.junction_proposals.specs.Rows.{RowFits}
use Rattle.junction_proposals.proofs.BridgeTests.{port-within}
use Rattle.junction_proposals.proofs.BridgeWalk.{port_at_lem}
use Rattle.junction_proposals.proofs.FirstFound.{found}
use Rattle.region_pairs.specs.declared.Pair as declared

module _ (boundaries : List ℕ) (full : List (Option declared.Pair)) (marks : List ℕ) (r count regions : ℕ) (pairs : LentPairs full count regions) (low : 1 ≤ r) (high : r ≤ regions) where
  -- what is said of a bridge
  abbrev Fits : Proposal → Type 0
  Fits = RowFits count regions

  near_fits : (i k t : ℕ) → PortAt full count i → OnO Fits (near_at full r boundaries i k t)
  unfolding near_at
  near_fits i k t h =
      let b = port-within r pairs h in
      on_only (is_near boundaries i i && is_near boundaries i k && is_near boundaries i t) (record { index = i; kind = 1; first = r; second = beyond_at full r i })
      (record { index_in = h.below; kind_in_lem = omega arith; first_from = low; first_to = high; second_from = b.0; second_to = b.1 })

  pick-fits : (i k t : ℕ) → PortAt full count i → PortAt full count k → OnO Fits (pick_at full r boundaries i k t)
  unfolding pick_at
  pick-fits i k t h l = on_cond (is_twice_as_wide boundaries i k) (near_fits i k t h) (on_cond (is_twice_as_wide boundaries k i) (near_fits k i t l) absent)

  three-fits : (i j k : ℕ) → PortAt full count i → PortAt full count j → PortAt full count k → OnO Fits (bridge_of_three boundaries full marks r i j k)
  unfolding bridge_of_three
  three-fits i j k a b c =
      on_cond (is_shared_at full r marks i j k) (pick-fits i j k a b)
      (on_cond (is_shared_at full r marks i k j) (pick-fits i k j a c) (on_cond (is_shared_at full r marks j k i) (pick-fits j k i b c) absent))

  list-fits : {l : List ℕ} → All (PortAt full count) l → OnO Fits (bridge_of_list boundaries full marks r l)
  unfolding bridge_of_list
  list-fits done = absent
  list-fits (more a done) = absent
  list-fits (more a (more b done)) = absent
  list-fits (more {x = i} a (more {x = j} b (more {x = k} c done))) = three-fits i j k a b c
  list-fits (more a (more b (more c (more d s)))) = absent

  ports_at : All (PortAt full count) (found (is_pocket_port full r boundaries) count)
  ports_at = collect-below (PortAt full count) (λ j. only_if (is_pocket_port full r boundaries j) j) count (λ j l. go j l (is_pocket_port full r boundaries j) refl)
    where
      go : (j : ℕ) → j < count → (b : Bool) → is_pocket_port full r boundaries j ≡ b → All (PortAt full count) (to_list (only_if b j))
      go j l true e = more (port_at_lem boundaries full r count j l e) done
      go j l false e = done

  pub bridge_fits_lem : (counts : List ℕ) → OnO Fits (is_bridge_at boundaries full marks r counts count)
  unfolding is_bridge_at
  bridge_fits_lem counts = on_cond (not (mark_at marks r) && eqb (get_or counts (r - 1) 0) 3) (list-fits ports_at) absent
