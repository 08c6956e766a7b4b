-- What the functions of bridges.rt return, test by test, as the definitions of specs/Bridges.antt write it. Assumes nothing.
use Prim.Native.Nat.{ℕ, ◌≤◌, ◌<◌}
use native.Mathlib.Omega.{arith}
use mathlib.Core.Path.{◌≡◌, refl, sym, ap, ◌∙◌, subst}
use mathlib.Core.Bool.{Bool, true, false, not, ◌&&◌, cond}
use Rattle.std.specs.Prelude.{Option, Some, IfSome}
use mathlib.Core.List.{List}
use lib.Dec.{eqb}
use Rattle.definitions.specs.Scan.{only_if}
use Rattle.definitions.specs.Grid.{Pair}
use Rattle.definitions.specs.Context.{other_region}
use Rattle.definitions.specs.Junctions.{Proposal, beyond}
use Rattle.std.specs.Bool.{then_some}
use Rattle.junction_proposals.specs.Unions.{is_near, mark_at}
use Rattle.junction_proposals.specs.declared.bridges.Port.{Port}
use Rattle.junction_proposals.specs.Lent.{LentPairs}
use Rattle.junction_proposals.specs.Bridges.{PortAt, bridge_form, beyond_at, is_shared_at, near_at, pick_at, bridge_of_three, shared_by, near_port, picked_port, port_of_three}
use Rattle.region_pairs.specs.declared.Pair as declared

-- both regions of a pair are labelled
pub beyond-within : (r n : ℕ) (p : Pair) {x : ℕ} → x ≡ other_region r p → 1 ≤ p.lo → p.lo < p.hi → p.hi ≤ n → (1 ≤ x) × (x ≤ n)
beyond-within r n p e a b h = rw e (go (eqb p.lo r))
  where
    go : (t : Bool) → (1 ≤ cond t p.hi p.lo) × (cond t p.hi p.lo ≤ n)
    go true = (omega arith, h)
    go false = (a, omega arith)

-- and that of a port's too
pub port_named : {full : List (Option declared.Pair)} {count regions j : ℕ} → LentPairs full count regions → (h : PortAt full count j) → (1 ≤ h.pair.lo) × ((h.pair.lo < h.pair.hi) × (h.pair.hi ≤ regions))
port_named {full} {count} {regions} {j} pairs h = subst (λ (o : Option Pair). IfSome o (λ p. (1 ≤ p.lo) × ((p.lo < p.hi) × (p.hi ≤ regions)))) h.is (pairs.named j h.below)

pub port-within : {full : List (Option declared.Pair)} {count regions j : ℕ} (r : ℕ) → LentPairs full count regions → PortAt full count j → (1 ≤ beyond_at full r j) × (beyond_at full r j ≤ regions)
port-within {regions = regions} r pairs h =
    let n = port_named pairs h in
    beyond-within r regions h.pair (ap (beyond r) h.is) n.0 n.1.0 n.1.1

-- a choice by a test that is known
pub chosen : {A : Type 0} {a b : Bool} {x z : A} (y : A) → a ≡ b → a ≡ true → z ≡ x → z ≡ cond b x y
chosen {x} y e h q = q ∙ sym (ap (λ t. cond t x y) (sym e ∙ h))

pub passed : {A : Type 0} {a b : Bool} {y z : A} (x : A) → a ≡ b → a ≡ false → z ≡ y → z ≡ cond b x y
passed {y} x e h q = q ∙ sym (ap (λ t. cond t x y) (sym e ∙ h))

-- a bridge is its port, with the region beyond it
module _ (boundaries : List ℕ) (full : List (Option declared.Pair)) (r : ℕ) where
  abbrev Beyond : Port → Type 0
  Beyond p = p.exterior ≡ beyond_at full r p.index

  near_as : (i k t : Port) → Beyond i → bridge_form r (near_port boundaries i k t) ≡ near_at full r boundaries i.index k.index t.index
  unfolding near_at
  near_as i k t e = go (is_near boundaries i.index i.index && is_near boundaries i.index k.index && is_near boundaries i.index t.index)
    where
      go : (b : Bool) → bridge_form r (then_some b i) ≡ only_if b (record { index = i.index; kind = 1; first = r; second = beyond_at full r i.index })
      go true = ap (λ x. Some (record { index = i.index; kind = 1; first = r; second = x })) e
      go false = refl

  -- of a choice between two
  either_as : {a b : Bool} (x y : Option Port) {v w : Option Proposal} → a ≡ b → bridge_form r x ≡ v → bridge_form r y ≡ w → bridge_form r (cond a x y) ≡ cond b v w
  either_as {b} x y {v} {w} h p q = ap (λ t. bridge_form r (cond t x y)) h ∙ go b
    where
      go : (b : Bool) → bridge_form r (cond b x y) ≡ cond b v w
      go true = p
      go false = q

  picked_as : (i k t : Port) → Beyond i → Beyond k → bridge_form r (picked_port boundaries i k t) ≡ pick_at full r boundaries i.index k.index t.index
  unfolding pick_at
  picked_as i k t e f = either_as _ _ refl (near_as i k t e) (either_as _ _ refl (near_as k i t f) refl)

  module _ (marks : List ℕ) where
    shared_as : (i k t : Port) → Beyond i → Beyond k → Beyond t → shared_by marks i k t ≡ is_shared_at full r marks i.index k.index t.index
    unfolding is_shared_at
    shared_as i k t e f g = λ x. eqb (e x) (f x) && not (eqb (g x) (e x)) && mark_at marks (g x)

    pub three_as : (i j k : Port) → Beyond i → Beyond j → Beyond k
        → bridge_form r (port_of_three boundaries marks i j k) ≡ bridge_of_three boundaries full marks r i.index j.index k.index
    unfolding bridge_of_three
    three_as i j k e f g =
        either_as _ _ (shared_as i j k e f g) (picked_as i j k e f)
        (either_as _ _ (shared_as i k j e g f) (picked_as i k j e g) (either_as _ _ (shared_as j k i f g e) (picked_as j k i f g) refl))
