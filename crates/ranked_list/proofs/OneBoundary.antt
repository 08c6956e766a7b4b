-- Two ranked proposals of one boundary conflict, so that no two taken ones remove one boundary (document 02, request 11). Assumes nothing.
use Rattle.std.specs.Prelude.{ℕ, suc, ◌<◌, ◌≡◌, Bool, ◌&&◌, ◌||◌, cond, length, Option, None, Some}
use Rattle.std.proofs.Common.{arith, sym, ap₂, ◌∙◌, eq-eqb}
use Rattle.std.proofs.Math.Path.{refl, ap, subst}
use Rattle.std.proofs.Math.Bool.{true, false, not, or-true}
use Rattle.std.proofs.lemmas.Bool.{false≢true}
use mathlib.Core.List.{List, []}
use Rattle.std.proofs.Math.Dec.{eqb}
use Rattle.definitions.specs.Scan.{any_below_lem, all, only_if, to_list}
use Rattle.definitions.specs.Grid.{Pair}
use Rattle.definitions.specs.Context.{Context, full_pair, is_incident, no_ramp}
use Rattle.definitions.specs.Junctions.{Proposal, is_some, names_region, region_conflict, union_shape, union_regions, union_from, union_proposal, ports_of, port_exterior, is_shared, is_twice_as_wide, bridge_fits, bridge_at, pick_bridge, bridge_of_ports, bridge_proposal, proposals, is_reserved_port, conflict, ranks_before, ranked}
use Rattle.laws.specs.ListLaws.Lists.{All, done, more, all_append}
use Rattle.laws.specs.ListLaws.Members.{all-place}
use Rattle.laws.specs.ListLaws.Options.{on_only, on_list}
use Rattle.laws.specs.ListLaws.ScansOfAll.{collect-below}
use Rattle.laws.specs.OrderLaws.StableSort.{all-sort}
use Rattle.ranked_list.specs.RankedList.{Listed, judged}
use Rattle.ranked_list.proofs.RankedLaws.{rows, row, row_at_lem, taken-apart}

abbrev pub low_of : Option Pair → ℕ
low_of None = 0
low_of (Some p) = p.lo

module _ (C : Context) where
  -- a union is of its boundary's full pair; a bridge's boundary is an incident of its pocket
  pub data Owned (p : Proposal) : Type 0 where
    of_union : p.kind ≡ 0 → p.first ≡ low_of (full_pair C p.index) → Owned p
    of_bridge : p.kind ≡ 1 → is_incident C p.index p.first ≡ true → Owned p

  union-owned : (i : ℕ) (o : Option Pair) → full_pair C i ≡ o → All Owned (to_list (union_from C i o))
  unfolding union_from
  union-owned i None e = done
  union-owned i (Some p) e = on_list (on_only (union_shape C i p && union_regions C i p) (record { index = i; kind = 0; first = p.lo; second = p.hi }) (of_union refl (sym (ap low_of e))))

  at_owned : (r i k t : ℕ) → is_incident C i r ≡ true → All Owned (to_list (bridge_at C r i k t))
  unfolding bridge_at
  at_owned r i k t h = on_list (on_only (bridge_fits C r i k t) (record { index = i; kind = 1; first = r; second = port_exterior C r i }) (of_bridge refl h))

  pick-owned : (r i k t : ℕ) → is_incident C i r ≡ true → is_incident C k r ≡ true → All Owned (to_list (pick_bridge C r i k t))
  unfolding pick_bridge
  pick-owned r i k t h l = go (is_twice_as_wide C i k) (is_twice_as_wide C k i)
    where
      go : (a b : Bool) → All Owned (to_list (cond a (bridge_at C r i k t) (cond b (bridge_at C r k i t) None)))
      go true b = at_owned r i k t h
      go false true = at_owned r k i t l
      go false false = done

  ports-owned : (r : ℕ) {l : List ℕ} → All (λ j. is_incident C j r ≡ true) l → All Owned (to_list (bridge_of_ports C r l))
  unfolding bridge_of_ports
  ports-owned r done = done
  ports-owned r (more h done) = done
  ports-owned r (more h (more k done)) = done
  ports-owned r (more {x = x} h (more {x = y} k (more {x = z} m done))) = go (is_shared C r x y z) (is_shared C r x z y) (is_shared C r y z x)
    where
      go : (a b c : Bool) → All Owned (to_list (cond a (pick_bridge C r x y z) (cond b (pick_bridge C r x z y) (cond c (pick_bridge C r y z x) None))))
      go true b c = pick-owned r x y z h k
      go false true c = pick-owned r x z y h m
      go false false true = pick-owned r y z x k m
      go false false false = done
  ports-owned r (more h (more k (more m (more n a)))) = done

  ports_incident : (r : ℕ) → All (λ j. is_incident C j r ≡ true) (ports_of C r)
  unfolding ports_of
  ports_incident r = collect-below (λ j. is_incident C j r ≡ true) (λ j. only_if (is_incident C j r) j) C.count (λ j h. go j (is_incident C j r) refl)
    where
      go : (j : ℕ) (b : Bool) → is_incident C j r ≡ b → All (λ j. is_incident C j r ≡ true) (to_list (only_if b j))
      go j true e = more e done
      go j false e = done

  bridge-owned : (r : ℕ) → All Owned (to_list (bridge_proposal C r))
  unfolding bridge_proposal
  bridge-owned r = go (not (C.anchored r) && all (λ j. no_ramp C j && is_some (full_pair C j)) (ports_of C r))
    where
      go : (b : Bool) → All Owned (to_list (cond b (bridge_of_ports C r (ports_of C r)) None))
      go true = ports-owned r (ports_incident r)
      go false = done

  pub ranked-owned : All Owned (ranked C)
  unfolding ranked proposals union_proposal
  ranked-owned =
      all-sort Owned (ranks_before C)
      (all_append (collect-below Owned (union_proposal C) C.count (λ i h. union-owned i (full_pair C i) refl)) (collect-below Owned (λ k. bridge_proposal C (suc k)) C.regions (λ k h. bridge-owned (suc k))))

  -- ---- two of one boundary

  own-port : (p : Proposal) (j : ℕ) → j ≡ p.index → p.kind ≡ 1 → is_incident C p.index p.first ≡ true → is_reserved_port C p j ≡ true
  unfolding is_reserved_port
  own-port p j e k h = λ i. ((ap (λ j. is_incident C j p.first) e ∙ h) i || eqb (k i) 0 && is_incident C j p.second) && not (eqb (k i) 0 && eqb j p.index)

  pub one_boundary : (q p : Proposal) → Owned q → Owned p → q.index ≡ p.index → conflict C q p ≡ true
  unfolding conflict
  one_boundary q p a (of_bridge k h) e = λ i. own-port p q.index e k h i || is_reserved_port C q p.index || any_below_lem C.count (λ j. is_reserved_port C p j && is_reserved_port C q j) || region_conflict q.kind p.kind q p
  one_boundary q p (of_bridge k h) (of_union l f) e = second (is_reserved_port C p q.index) (is_reserved_port C q p.index) _ _ (own-port q p.index (sym e) k h)
    where
      second : (a b c d : Bool) → b ≡ true → (a || b || c || d) ≡ true
      second true b c d h = refl
      second false true c d h = refl
      second false false c d h = absurd (false≢true h)
  one_boundary q p (of_union k g) (of_union l f) e = last (is_reserved_port C p q.index || is_reserved_port C q p.index || any_below_lem C.count (λ j. is_reserved_port C p j && is_reserved_port C q j)) _ regions
    where
      last : (a b : Bool) → b ≡ true → (a || b) ≡ true
      last a b h = ap (λ c. a || c) h ∙ or-true a

      same : q.first ≡ p.first
      same = g ∙ ap (λ i. low_of (full_pair C i)) e ∙ sym f

      named : (names_region q p.first || names_region q p.second) ≡ true
      named = λ i. (eq-eqb q.first p.first same i || eqb q.second p.first) || names_region q p.second

      regions : region_conflict q.kind p.kind q p ≡ true
      regions = ap₂ (λ m n. region_conflict m n q p) k l ∙ named

  -- "no two remove one boundary"
  module _ (d : Listed Proposal) where
    at_rank : (k : ℕ) → k < length (ranked C) → Owned (row (conflict C) (ranked C) d k).item
    unfolding rows judged
    at_rank k h = subst Owned (sym (ap (λ r. r.item) (row_at_lem (conflict C) [] (ranked C) k d d.item h))) (all-place d.item ranked-owned k h)

    pub no_two : (i j : ℕ) → i < j → j < length (ranked C) → (row (conflict C) (ranked C) d i).taken ≡ true → (row (conflict C) (ranked C) d j).taken ≡ true → (row (conflict C) (ranked C) d i).item.index ≡ (row (conflict C) (ranked C) d j).item.index → ⊥
    no_two i j h k a b e =
        false≢true
        (sym (taken-apart (conflict C) (ranked C) d i j h k a b) ∙ one_boundary (row (conflict C) (ranked C) d i).item (row (conflict C) (ranked C) d j).item (at_rank i (omega arith)) (at_rank j k) e)
