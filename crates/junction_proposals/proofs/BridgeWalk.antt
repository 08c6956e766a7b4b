-- What `bridge_of` returns, by the tests that led there, is the bridge of the pocket. Assumes nothing.
use Prim.Native.Nat.{ℕ, ◌-◌, ◌<◌}
use native.Mathlib.Omega.{arith}
use mathlib.Core.Path.{◌≡◌, refl, sym, ap, ap₂, ◌∙◌}
use mathlib.Core.Bool.{Bool, true, false, not, ◌&&◌, cond, false≢true, and-false}
use Rattle.std.specs.Prelude.{Option, None, Some}
use mathlib.Core.List.{List, [], ◌∷◌}
use lib.ListN.{length, get_or}
use lib.Dec.{eqb}
use borrow.Author.Tests.{eq-eqb, ne_eqb}
use Rattle.definitions.specs.Grid.{Pair, contains}
use Rattle.definitions.specs.Context.{holds}
use Rattle.definitions.specs.Junctions.{Proposal}
use Rattle.laws.specs.ListLaws.Tests.{both}
use Rattle.junction_proposals.specs.Ports.{pair_of, names}
use Rattle.junction_proposals.specs.Unions.{mark_at, no_ramp_at}
use Rattle.junction_proposals.specs.Bridges.{PortAt, is_pocket_port, bridge_of_three, bridge_of_list, is_bridge_at}
use Rattle.junction_proposals.proofs.FirstFound.{found}
use Rattle.region_pairs.specs.declared.Pair as declared

None≢Some : {p : Proposal} → None ≡ Some p → ⊥
None≢Some e = let z : ◌≡◌ {A = ℕ} 0 1 = cc in omega arith

-- a full pair of which something holds is there
pub some_pair : (o : Option Pair) (f : Pair → Bool) → holds o f ≡ true → (q : Pair) × (o ≡ Some q)
some_pair None f h = absurd (false≢true h)
some_pair (Some q) f h = (q, refl)

-- a port is a full pair
pub port_at_lem : (boundaries : List ℕ) (full : List (Option declared.Pair)) (r count j : ℕ) → j < count → is_pocket_port full r boundaries j ≡ true → PortAt full count j
unfolding is_pocket_port names
port_at_lem boundaries full r count j l h =
    let q = some_pair (pair_of full j) (contains r) (both (names full r j) (no_ramp_at boundaries j) h).0 in
    record { below = l; pair = q.0; is = q.1 }

module _ (boundaries : List ℕ) (full : List (Option declared.Pair)) (marks counts : List ℕ) (r count : ℕ) where
  abbrev ports : List ℕ
  ports = found (is_pocket_port full r boundaries) count

  abbrev whole : Option Proposal
  whole = is_bridge_at boundaries full marks r counts count

  other-list : (l : List ℕ) → (length l ≡ 3 → ⊥) → bridge_of_list boundaries full marks r l ≡ None
  unfolding bridge_of_list
  other-list [] h = refl
  other-list (i ∷ []) h = refl
  other-list (i ∷ j ∷ []) h = refl
  other-list (i ∷ j ∷ k ∷ []) h = absurd (h refl)
  other-list (i ∷ j ∷ k ∷ x ∷ l) h = refl

  pub other-count : (get_or counts (r - 1) 0 ≡ 3 → ⊥) → None ≡ whole
  unfolding is_bridge_at
  other-count h = sym (ap (λ b. cond b (bridge_of_list boundaries full marks r ports) None) (ap (λ b. not (mark_at marks r) && b) (ne_eqb (get_or counts (r - 1) 0) 3 h) ∙ and-false (not (mark_at marks r))))

  pub is_anchored : mark_at marks r ≡ true → None ≡ whole
  unfolding is_bridge_at
  is_anchored h = sym (ap (λ b. cond (not b && eqb (get_or counts (r - 1) 0) 3) (bridge_of_list boundaries full marks r ports) None) h)

  module _ (three : get_or counts (r - 1) 0 ≡ 3) (free : mark_at marks r ≡ false) where
    pub by_list : bridge_of_list boundaries full marks r ports ≡ whole
    unfolding is_bridge_at
    by_list = sym (ap₂ (λ a b. cond (not a && b) (bridge_of_list boundaries full marks r ports) None) free (eq-eqb (get_or counts (r - 1) 0) 3 three))

    pub other_length : (length ports ≡ 3 → ⊥) → None ≡ whole
    other_length h = sym (other-list ports h) ∙ by_list

    pub of_three : (i j k : ℕ) {o : Option Proposal} → ports ≡ i ∷ j ∷ k ∷ [] → o ≡ bridge_of_three boundaries full marks r i j k → o ≡ whole
    unfolding bridge_of_list
    of_three i j k e h = h ∙ sym (ap (bridge_of_list boundaries full marks r) e) ∙ by_list

  -- a bridge has three ports
  pub bridge-ports : {p : Proposal} → whole ≡ Some p → length ports ≡ 3
  unfolding is_bridge_at bridge_of_list
  bridge-ports {p} h = go (not (mark_at marks r) && eqb (get_or counts (r - 1) 0) 3) h
    where
      listed : (l : List ℕ) → bridge_of_list boundaries full marks r l ≡ Some p → length l ≡ 3
      listed [] e = absurd (None≢Some e)
      listed (i ∷ []) e = absurd (None≢Some e)
      listed (i ∷ j ∷ []) e = absurd (None≢Some e)
      listed (i ∷ j ∷ k ∷ []) e = refl
      listed (i ∷ j ∷ k ∷ x ∷ l) e = absurd (None≢Some e)

      go : (b : Bool) → cond b (bridge_of_list boundaries full marks r ports) None ≡ Some p → length ports ≡ 3
      go true e = listed ports e
      go false e = absurd (None≢Some e)
