-- The bridges of junctions.rs as the Rust makes and ranks them, pocket by pocket, and that they are the definitions'. The argument: a port of a pocket that is a
-- full pair names the pocket, so that the region beyond it is the pair's other one; the groups of three ports are the three arrangements (BridgeGroups); and the tests
-- are the same conjunction in another order. Assumes nothing.
use Rattle.std.specs.Prelude.{ℕ, ◌≡◌, Bool, ◌||◌, length, eqb, ltb, Option, None, Some}
use Rattle.std.proofs.Math.Path.{refl}
use Rattle.std.proofs.Math.Bool.{true, false, not, ◌&&◌, cond}
use mathlib.Core.List.{List, []}
use Rattle.definitions.specs.Scan.{any, all, only_if}
use Rattle.definitions.specs.Grid.{Pair}
use Rattle.definitions.specs.Geometry.{Point, center}
use Rattle.definitions.specs.RegionRecord.{Region, has_ramp, corners}
use Rattle.definitions.specs.Context.{Context, no_ramp}
use Rattle.definitions.specs.Junctions.{Proposal, max_union_radius_pixels, within_distance, is_some, within_radius}
use Rattle.laws.specs.RustContext.ElevationMasks.{flat}
use Rattle.laws.specs.RustJunctions.BridgeGroups.{Bridge, groups_from, bridge_of_groups}

-- ---- as the Rust writes it

module _ (C : Context) (full : ℕ → Option Pair) where
  --     if ctx.anchored.contains(pocket) || ports.len() != 3 { continue; }
  --     if ports.iter().any(|index| boundaries[*index].ramp.is_some() || full_pair(&metadata[*index]).is_none()) { continue; }
  unfoldable pub pocket_bridge : ℕ → List ℕ → Option Bridge
  pocket_bridge pocket ports =
      cond (C.anchored pocket || not (eqb (length ports) 3)) None
      (cond (any (λ j. not (no_ramp C j) || not (is_some (full j))) ports) None (bridge_of_groups C ports (groups_from full pocket [] ports)))

module _ (C : Context) where
  -- `ctx.stats.get(&region)`: a region has a record if it has a cell. Of a record `has_ramp` is written `has_ramp`, which is the Rust's flag (`ramp_flag` of RustContext).
  abbrev pub stats_of : ℕ → Option Region
  stats_of r = only_if (ltb 0 (C.region r).cells) (C.region r)

  --     let Some(stats) = ctx.stats.get(&proposal.pocket) else { continue; };
  --     if !stats.has_ramp && within_radius(stats, center(&boundaries[proposal.index])) && flat(stats) { .. }
  abbrev pub bridge_is_local : ℕ → Option Region → Bool
  bridge_is_local index None = false
  bridge_is_local index (Some s) = not (has_ramp s) && within_radius s (center (C.boundary index).endpoints) && flat s

  --     ranked.push(Proposal::Bridge(proposal));
  abbrev pub rank_bridge : ℕ → Option Bridge → Option Proposal
  rank_bridge pocket None = None
  rank_bridge pocket (Some b) = only_if (bridge_is_local b.index (stats_of pocket)) (record { index = b.index; kind = 1; first = pocket; second = b.exterior })

-- ---- and that it is the same

pub radius_empty : (s : Region) (m : Point) → ltb 0 s.cells ≡ false → within_radius s m ≡ false
unfolding within_radius
radius_empty s m h = λ t. h t && all (λ c. within_distance c m max_union_radius_pixels) (corners s)

pub never : (b : Bool) → ◌≡◌ {A = Option Proposal} None (cond b None None)
never true = refl
never false = refl
