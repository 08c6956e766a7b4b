-- The bridge of a pocket, read off the lists: `bridge_proposal` of Junctions.antt but for what it asks of the pocket's record. Definitions only; assumes nothing.
use Rattle.std.specs.Prelude.{ℕ, ◌-◌, ◌≤◌, ◌<◌, ◌≡◌, Bool, true, false, not, ◌&&◌, get_or, length, Option, None, Some, MatchOption}
use Rattle.std.specs.Bool.{then_some}
use Rattle.std.proofs.Math.Bool.{cond}
use mathlib.Core.List.{List, [], ◌∷◌}
use Rattle.std.proofs.Math.Dec.{eqb}
use Rattle.definitions.specs.Scan.{collect, only_if}
use Rattle.definitions.specs.Grid.{Pair}
use Rattle.definitions.specs.Junctions.{Proposal, beyond}
use Rattle.region_pairs.specs.declared.Pair as declared
use Rattle.geometry.specs.Placed.{Placed}
use Rattle.geometry.specs.Widths.{HasWidth, is_twice_as_wide}
use Rattle.junction_proposals.specs.Ports.{pair_of, names}
use Rattle.junction_proposals.specs.Unions.{no_ramp_at, is_near, mark_at}
use Rattle.junction_proposals.specs.declared.bridges.Port.{Port}

-- a bridge of pocket r
abbrev pub bridge_form : ℕ → Option Port → Option Proposal
bridge_form r None = None
bridge_form r (Some b) = Some (record { index = b.index; kind = 1; first = r; second = b.exterior })

-- boundary j is a full pair
pub record PortAt (full : List (Option declared.Pair)) (count j : ℕ) : Type 0 where
  pub below : j < count
  pub pair : Pair
  pub is : pair_of full j ≡ Some pair

module _ (full : List (Option declared.Pair)) (r : ℕ) where
  -- the region beyond port j
  abbrev pub beyond_at : ℕ → ℕ
  beyond_at j = beyond r (pair_of full j)

  -- i and k lead to one region, t to another, which is anchored
  unfoldable pub is_shared_at : List ℕ → ℕ → ℕ → ℕ → Bool
  is_shared_at marks i k t = eqb (beyond_at i) (beyond_at k) && not (eqb (beyond_at t) (beyond_at i)) && mark_at marks (beyond_at t)

  -- i may go: all three ports are near
  unfoldable pub near_at : List ℕ → ℕ → ℕ → ℕ → Option Proposal
  unfolding is_near
  near_at boundaries i k t =
      only_if (is_near boundaries i i && is_near boundaries i k && is_near boundaries i t) (record { index = i; kind = 1; first = r; second = beyond_at i })

  -- of the two that lead to one region, i before k, the one that is twice as wide as the other
  unfoldable pub pick_at : List ℕ → ℕ → ℕ → ℕ → Option Proposal
  unfolding is_twice_as_wide near_at
  pick_at boundaries i k t = cond (is_twice_as_wide boundaries i k) (near_at boundaries i k t) (cond (is_twice_as_wide boundaries k i) (near_at boundaries k i t) None)

  -- a full pair without ramp that names the pocket
  unfoldable pub is_pocket_port : List ℕ → ℕ → Bool
  unfolding names
  is_pocket_port boundaries j = names full r j && no_ramp_at boundaries j

module _ (boundaries : List ℕ) (full : List (Option declared.Pair)) (marks : List ℕ) (r : ℕ) where
  unfoldable pub bridge_of_three : ℕ → ℕ → ℕ → Option Proposal
  unfolding is_shared_at pick_at
  bridge_of_three i j k =
      cond (is_shared_at full r marks i j k) (pick_at full r boundaries i j k)
      (cond (is_shared_at full r marks i k j) (pick_at full r boundaries i k j) (cond (is_shared_at full r marks j k i) (pick_at full r boundaries j k i) None))

  unfoldable pub bridge_of_list : List ℕ → Option Proposal
  unfolding bridge_of_three
  bridge_of_list [] = None
  bridge_of_list (i ∷ []) = None
  bridge_of_list (i ∷ j ∷ []) = None
  bridge_of_list (i ∷ j ∷ k ∷ []) = bridge_of_three i j k
  bridge_of_list (i ∷ j ∷ k ∷ x ∷ l) = None

  -- the pocket is not anchored and has three incidents
  unfoldable pub is_bridge_at : List ℕ → ℕ → Option Proposal
  unfolding collect is_pocket_port bridge_of_list
  is_bridge_at counts count =
      cond (not (mark_at marks r) && eqb (get_or counts (r - 1) 0) 3) (bridge_of_list (collect count (λ j. only_if (is_pocket_port full r boundaries j) j))) None

-- no number from `from` on, below n, passes f
abbrev pub NoneFrom : (ℕ → Bool) → ℕ → ℕ → Type 0
NoneFrom f from n = (j : ℕ) → from ≤ j → j < n → f j ≡ false

-- r is the first that does
abbrev pub FirstAt : (ℕ → Bool) → ℕ → ℕ → ℕ → Type 0
FirstAt f from n r = (from ≤ r) × (r < n) × (f r ≡ true) × NoneFrom f from r

-- the first that does, if one does
abbrev pub FirstIn : (ℕ → Bool) → ℕ → ℕ → Option ℕ → Type 0
FirstIn f from n found = MatchOption found (NoneFrom f from n) (FirstAt f from n)

-- ---- the same of ports with the region beyond each

-- port p, whose boundary was found from `from` on as the first port of pocket r, below n
pub record FirstPort (full : List (Option declared.Pair)) (r : ℕ) (boundaries : List ℕ) (from n : ℕ) (p : Port) : Type 0 where
  pub first : FirstAt (is_pocket_port full r boundaries) from n p.index
  pub beyond : p.exterior ≡ beyond_at full r p.index

-- the boundary of port p stands in the list, with its endpoints on a map and a width
pub record Measured (boundaries : List ℕ) (p : Port) : Type 0 where
  pub placed : Placed boundaries p.index
  pub width : HasWidth boundaries p.index

-- and there is a mark for the region beyond it
pub record PortIn (boundaries marks : List ℕ) (p : Port) : Type 0 where
  pub measured : Measured boundaries p
  pub low : 1 ≤ p.exterior
  pub high : p.exterior ≤ length marks

abbrev pub shared_by : List ℕ → Port → Port → Port → Bool
shared_by marks i k t = eqb i.exterior k.exterior && not (eqb t.exterior i.exterior) && mark_at marks t.exterior

abbrev pub near_port : List ℕ → Port → Port → Port → Option Port
near_port boundaries i k t = then_some (is_near boundaries i.index i.index && is_near boundaries i.index k.index && is_near boundaries i.index t.index) i

abbrev pub picked_port : List ℕ → Port → Port → Port → Option Port
picked_port boundaries i k t =
    cond (is_twice_as_wide boundaries i.index k.index) (near_port boundaries i k t) (cond (is_twice_as_wide boundaries k.index i.index) (near_port boundaries k i t) None)

abbrev pub port_of_three : List ℕ → List ℕ → Port → Port → Port → Option Port
port_of_three boundaries marks i j k =
    cond (shared_by marks i j k) (picked_port boundaries i j k)
    (cond (shared_by marks i k j) (picked_port boundaries i k j) (cond (shared_by marks j k i) (picked_port boundaries j k i) None))
