-- Of every proposal of pass 3 its boundary is one of the context's, and of a union the smaller region comes first. So the selection over sets returns the boundaries
-- that the definitions remove. Assumes a sound context.
use Rattle.std.specs.Prelude.{ℕ, suc, ◌<◌, ◌≡◌, Bool, not, ◌&&◌, cond, List, [], map, Option, None, Some}
use Rattle.std.proofs.Math.Path.{refl}
use Rattle.std.proofs.Math.Bool.{true, false}
use Rattle.definitions.specs.Scan.{all, to_list}
use Rattle.definitions.specs.Grid.{Pair}
use Rattle.definitions.specs.Context.{Context, only_pair, full_cut, full_pair, is_incident, no_ramp}
use Rattle.definitions.specs.Junctions.{is_some, union_shape, union_regions, port_exterior, bridge_fits, union_from, union_proposal, ports_of, is_shared, is_twice_as_wide, bridge_at, pick_bridge, bridge_of_ports, bridge_proposal, proposals, ranks_before, ranked, taken, removed}
use Rattle.laws.specs.ListLaws.Lists.{All, done, more, all_append, all_map}
use Rattle.laws.specs.ListLaws.Options.{on_only, on_list}
use Rattle.laws.specs.OrderLaws.StableSort.{all-sort}
use Rattle.laws.specs.RustContext.SoundContext.{Sound}
use Rattle.laws.specs.ListLaws.ScansOfAll.{collect-below}
use Rattle.laws.specs.SetLaws.Sets.{set_extend, below_all}
use Rattle.laws.specs.RustContext.IncidentMap.{incidents-below}
use Rattle.laws.specs.RustJunctions.JunctionProposals.{as_enum, Formed, of_union, of_bridge, index_below}
use Rattle.laws.specs.RustJunctions.Selection3.{select_proposals, selection}

-- the one full pair is one of the pairs
pub full-all : (C : Context) (P : Pair → Type 0) (i : ℕ) → All P (C.pairs i) → All P (to_list (full_pair C i))
unfolding full_pair
full-all C P i a = go (full_cut C i) a
  where
    go : (b : Bool) {l : List Pair} → All P l → All P (to_list (only_pair b l))
    go true done = done
    go true (more h done) = more h done
    go true (more h (more k a)) = done
    go false a = done

module _ (C : Context) where
  union-formed : (i : ℕ) (o : Option Pair) → i < C.count → All (λ p. p.lo < p.hi) (to_list o) → All (Formed C) (to_list (union_from C i o))
  unfolding union_from
  union-formed i None h a = done
  union-formed i (Some p) h (more l done) = on_list (on_only (union_shape C i p && union_regions C i p) (record { index = i; kind = 0; first = p.lo; second = p.hi }) (of_union refl l h))

  at_formed : (r i k t : ℕ) → i < C.count → All (Formed C) (to_list (bridge_at C r i k t))
  unfolding bridge_at
  at_formed r i k t h = on_list (on_only (bridge_fits C r i k t) (record { index = i; kind = 1; first = r; second = port_exterior C r i }) (of_bridge refl h))

  pick-formed : (r i k t : ℕ) → i < C.count → k < C.count → All (Formed C) (to_list (pick_bridge C r i k t))
  unfolding pick_bridge
  pick-formed r i k t h l = go (is_twice_as_wide C i k) (is_twice_as_wide C k i)
    where
      go : (a b : Bool) → All (Formed C) (to_list (cond a (bridge_at C r i k t) (cond b (bridge_at C r k i t) None)))
      go true b = at_formed r i k t h
      go false true = at_formed r k i t l
      go false false = done

  ports-formed : (r : ℕ) {l : List ℕ} → All (λ j. j < C.count) l → All (Formed C) (to_list (bridge_of_ports C r l))
  unfolding bridge_of_ports
  ports-formed r done = done
  ports-formed r (more h done) = done
  ports-formed r (more h (more k done)) = done
  ports-formed r (more {x = x} h (more {x = y} k (more {x = z} m done))) = go (is_shared C r x y z) (is_shared C r x z y) (is_shared C r y z x)
    where
      go : (a b c : Bool) → All (Formed C) (to_list (cond a (pick_bridge C r x y z) (cond b (pick_bridge C r x z y) (cond c (pick_bridge C r y z x) None))))
      go true b c = pick-formed r x y z h k
      go false true c = pick-formed r x z y h m
      go false false true = pick-formed r y z x k m
      go false false false = done
  ports-formed r (more h (more k (more m (more n a)))) = done

  bridge-formed : (r : ℕ) → All (Formed C) (to_list (bridge_proposal C r))
  unfolding bridge_proposal
  bridge-formed r = go (not (C.anchored r) && all (λ j. no_ramp C j && is_some (full_pair C j)) (ports_of C r))
    where
      go : (b : Bool) → All (Formed C) (to_list (cond b (bridge_of_ports C r (ports_of C r)) None))
      go true = ports-formed r {l = ports_of C r} (rw (incidents-below C r) (below_all (λ j. is_incident C j r) C.count))
      go false = done

  module _ (sound : Sound C) where
    pub proposals-formed : All (Formed C) (proposals C)
    unfolding proposals union_proposal
    proposals-formed = all_append (collect-below (Formed C) (union_proposal C) C.count (λ i h. union-formed i (full_pair C i) h (full-all C (λ p. p.lo < p.hi) i (sound.ordered i)))) (collect-below (Formed C) (λ k. bridge_proposal C (suc k)) C.regions (λ k h. bridge-formed (suc k)))

    pub ranked-formed : All (Formed C) (ranked C)
    unfolding ranked
    ranked-formed = all-sort (Formed C) (ranks_before C) proposals-formed

    -- what the Rust's selection returns, from the same ranked list, is the set of the boundaries that the definitions remove
    pub selected_set : select_proposals (map (as_enum C) (ranked C)) ≡ set_extend [] (removed C)
    unfolding removed taken
    selected_set = selection C (all_map (index_below C) ranked-formed)
