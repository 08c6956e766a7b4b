-- `select_proposals` of junctions.rs as the Rust writes it, with its five sets, and that the boundaries it removes are those of the definitions' selection.
-- The argument: a proposal that is taken adds to what the sets refuse just what it conflicts with, the four kinds of two proposals one by one. Assumes nothing.
use Prim.Native.Nat.{ℕ, zero, suc, ◌<◌}
use Rattle.std.specs.Prelude.{◌≡◌, Bool, false, ◌&&◌, cond}
use Rattle.std.proofs.Math.Path.{refl, ap, ap₂}
use Rattle.std.proofs.Common.{sym, ◌∙◌, lt-ltb}
use Rattle.std.proofs.Math.Bool.{◌||◌, or-false}
use mathlib.Core.List.{List, [], ◌∷◌, map}
use Rattle.std.proofs.Math.Dec.{eqb}
use Rattle.definitions.specs.Scan.{any, member, any_below_lem}
use Rattle.definitions.specs.Sort.{select}
use Rattle.definitions.specs.Context.{Context}
use Rattle.definitions.specs.Junctions.{Proposal, is_reserved_port, names_region, region_conflict, conflict}
use Rattle.laws.specs.ListLaws.Disjunction.{disjunction, or_middle}
use Rattle.laws.specs.ListLaws.ListsAsSets.{any_or}
use Rattle.laws.specs.ListLaws.Lists.{All}
use Rattle.laws.specs.OrderLaws.ListOrder.{eqb_sym}
use Rattle.laws.specs.ListLaws.Below.{below_ext}
use Rattle.laws.specs.SetLaws.Sets.{set_insert, set_extend, member-insert, member_extend, member_below, any_below}
use Rattle.laws.specs.SetLaws.SelectionBySets.{loop, grow_all, taken_by, loop-taken, select_by_state}
use Rattle.laws.specs.RustJunctions.JunctionProposals.{ProposalEnum, UnionStruct, BridgeStruct, union, bridge, ports_of_enum, reserved_ports, enum_of, as_enum}

-- ---- as the Rust writes it

pub record Reserved : Type 0 where
  pub removed : List ℕ
  pub ports : List ℕ
  pub unions : List ℕ
  pub bridge_pockets : List ℕ
  pub bridge_exteriors : List ℕ

abbrev pub nothing_reserved : Reserved
nothing_reserved = record { removed = []; ports = []; unions = []; bridge_pockets = []; bridge_exteriors = [] }

--     reserved_unions.contains(&region) || reserved_bridge_pockets.contains(&region) || reserved_bridge_exteriors.contains(&region)
unfoldable pub region_taken : Reserved → ℕ → Bool
region_taken s region = member region s.unions || member region s.bridge_pockets || member region s.bridge_exteriors

--     Proposal::Union(value) =>
--         if reserved_ports.contains(&value.index)
--             || value.pair.into_iter().any(|region| ..) { continue; }              -- `region_taken`
unfoldable pub union_refused : Reserved → UnionStruct → Bool
union_refused s value = member value.index s.ports || any (region_taken s) (value.pair.lo ∷ value.pair.hi ∷ [])

--     Proposal::Bridge(value) =>
--         if reserved_ports.contains(&value.index)
--             || reserved_unions.contains(&value.pocket)
--             || reserved_unions.contains(&value.exterior)
--             || reserved_bridge_pockets.contains(&value.pocket)
--             || reserved_bridge_pockets.contains(&value.exterior)
--             || reserved_bridge_exteriors.contains(&value.pocket) { continue; }
unfoldable pub bridge_refused : Reserved → BridgeStruct → Bool
bridge_refused s value =
    member value.index s.ports || member value.pocket s.unions || member value.exterior s.unions || member value.pocket s.bridge_pockets
    || member value.exterior s.bridge_pockets
    || member value.pocket s.bridge_exteriors

--     if proposal.ports().iter().any(|port| removed.contains(port) || reserved_ports.contains(port)) { continue; }
unfoldable pub port_taken : List ℕ → List ℕ → List ℕ → Bool
port_taken removed reserved_ports ports = any (λ port. member port removed || member port reserved_ports) ports

--     match &proposal { .. }
unfoldable pub match_refused : Reserved → ProposalEnum → Bool
match_refused s (union value) = union_refused s value
match_refused s (bridge value) = bridge_refused s value

unfoldable pub refuses : Reserved → ProposalEnum → Bool
refuses s proposal = port_taken s.removed s.ports (ports_of_enum proposal) || match_refused s proposal

--     removed.insert(value.index);
--     reserved_unions.extend(value.pair);
-- or
--     removed.insert(value.index);
--     reserved_bridge_pockets.insert(value.pocket);
--     reserved_bridge_exteriors.insert(value.exterior);
-- and then
--     reserved_ports.extend(proposal.ports().iter().copied());
unfoldable pub grow : Reserved → ProposalEnum → Reserved
grow s (union value) =
    record {
      removed = set_insert s.removed value.index;
      ports = set_extend s.ports value.ports;
      unions = set_extend s.unions (value.pair.lo ∷ value.pair.hi ∷ []);
      bridge_pockets = s.bridge_pockets;
      bridge_exteriors = s.bridge_exteriors;
    }
grow s (bridge value) =
    record {
      removed = set_insert s.removed value.index;
      ports = set_extend s.ports value.ports;
      unions = s.unions;
      bridge_pockets = set_insert s.bridge_pockets value.pocket;
      bridge_exteriors = set_insert s.bridge_exteriors value.exterior;
    }

-- the loop over the ranked proposals, and what it returns
unfoldable pub select_proposals : List ProposalEnum → List ℕ
select_proposals ranked = (loop refuses grow nothing_reserved ranked).removed

-- ---- and that it is the same

any_cong : {A : Type 0} (f g : A → Bool) → ((x : A) → f x ≡ g x) → (l : List A) → any f l ≡ any g l
unfolding any
any_cong f g h [] = refl
any_cong f g h (x ∷ l) = ap₂ ◌||◌ (h x) (any_cong f g h l)

module _ (C : Context) where
  member_reserved : (p : Proposal) (j : ℕ) → j < C.count → member j (reserved_ports C p) ≡ is_reserved_port C p j
  member_reserved p j h = member_below (is_reserved_port C p) j C.count ∙ ap (λ b. b && is_reserved_port C p j) (lt-ltb j C.count h)

  own-port : (q p : Proposal) → q.index < C.count → any (eqb q.index) (reserved_ports C p) ≡ is_reserved_port C p q.index
  unfolding member
  own-port q p h = member_reserved p q.index h

  -- with q taken, p's ports meet besides what they met before the boundary of q and the ports of q
  port_taken_lem : (q p : Proposal) → q.index < C.count → (removed ports : List ℕ) → port_taken (set_insert removed q.index) (set_extend ports (reserved_ports C q)) (reserved_ports C p) ≡ (port_taken removed ports (reserved_ports C p) || (is_reserved_port C p q.index || any_below_lem C.count (λ j. is_reserved_port C p j && is_reserved_port C q j)))
  unfolding port_taken
  port_taken_lem q p h removed ports =
      any_cong (λ j. member j (set_insert removed q.index) || member j (set_extend ports (reserved_ports C q))) (λ j. member j removed || member j ports || (eqb q.index j || member j (reserved_ports C q))) each (reserved_ports C p)
      ∙ any_or (λ j. member j removed || member j ports) (λ j. eqb q.index j || member j (reserved_ports C q)) (reserved_ports C p)
      ∙ ap (λ b. any (λ j. member j removed || member j ports) (reserved_ports C p) || b) (any_or (eqb q.index) (λ j. member j (reserved_ports C q)) (reserved_ports C p) ∙ ap₂ ◌||◌ (own-port q p h) theirs)
    where
      each : (j : ℕ) → (member j (set_insert removed q.index) || member j (set_extend ports (reserved_ports C q))) ≡ (member j removed || member j ports || (eqb q.index j || member j (reserved_ports C q)))
      each j = rw (member-insert j removed q.index, member_extend j ports (reserved_ports C q), eqb_sym j q.index) (simp disjunction)

      theirs : any (λ j. member j (reserved_ports C q)) (reserved_ports C p) ≡ any_below_lem C.count (λ j. is_reserved_port C p j && is_reserved_port C q j)
      theirs = any_below (is_reserved_port C p) (λ j. member j (reserved_ports C q)) C.count ∙ below_ext C.count (λ j. is_reserved_port C p j && member j (reserved_ports C q)) (λ j. is_reserved_port C p j && is_reserved_port C q j) (λ j l. ap (λ b. is_reserved_port C p j && b) (member_reserved q j l))

  -- the own boundary of p
  own-taken : (q p : Proposal) → p.index < C.count → (ports : List ℕ) → member p.index (set_extend ports (reserved_ports C q)) ≡ (member p.index ports || is_reserved_port C q p.index)
  own-taken q p h ports = member_extend p.index ports (reserved_ports C q) ∙ ap (λ b. member p.index ports || b) (member_reserved q p.index h)

  -- a set with q's two regions put in
  pair-taken : (q : Proposal) (r : ℕ) (l : List ℕ) → member r (set_extend l (q.first ∷ q.second ∷ [])) ≡ (member r l || names_region q r)
  unfolding member any
  pair-taken q r l = member_extend r l (q.first ∷ q.second ∷ []) ∙ ap (λ b. member r l || b) (ap₂ ◌||◌ (eqb_sym r q.first) (or-false (eqb r q.second) ∙ eqb_sym r q.second))

  one_taken : (x r : ℕ) (l : List ℕ) → member r (set_insert l x) ≡ (member r l || eqb x r)
  one_taken x r l = member-insert r l x ∙ ap (λ b. b || member r l) (eqb_sym r x) ∙ simp disjunction

  -- what q adds to the regions that are taken, of either kind
  region_taken_lem : (s : Reserved) (q : Proposal) (m r : ℕ) → region_taken (grow s (enum_of C m q)) r ≡ (region_taken s r || names_region q r)
  unfolding region_taken grow
  region_taken_lem s q zero r = ap (λ b. b || member r s.bridge_pockets || member r s.bridge_exteriors) (pair-taken q r s.unions) ∙ order (member r s.unions) (names_region q r) (member r s.bridge_pockets) (member r s.bridge_exteriors)
    where
      order : (u x k e : Bool) → (u || x || k || e) ≡ (u || k || e || x)
      order u x k e = simp disjunction
  region_taken_lem s q (suc m) r =
      ap₂ (λ b c. member r s.unions || b || c) (one_taken q.first r s.bridge_pockets) (one_taken q.second r s.bridge_exteriors)
      ∙ order (member r s.unions) (member r s.bridge_pockets) (eqb q.first r) (member r s.bridge_exteriors) (eqb q.second r)
    where
      order : (u k x e y : Bool) → (u || (k || x) || (e || y)) ≡ (u || k || e || (x || y))
      order u k x e y = simp disjunction

  regions-taken : (s : Reserved) (q : Proposal) (m a b : ℕ) → any (region_taken (grow s (enum_of C m q))) (a ∷ b ∷ []) ≡ (any (region_taken s) (a ∷ b ∷ []) || (names_region q a || names_region q b))
  unfolding any
  regions-taken s q m a b = any_cong (region_taken (grow s (enum_of C m q))) (λ r. region_taken s r || names_region q r) (region_taken_lem s q m) (a ∷ b ∷ []) ∙ any_or (region_taken s) (names_region q) (a ∷ b ∷ []) ∙ ap (λ c. any (region_taken s) (a ∷ b ∷ []) || (names_region q a || c)) (or-false (names_region q b))

  -- what q adds to the refusals that turn on the kinds of q and p
  match_taken : (s : Reserved) (q p : Proposal) → p.index < C.count → (m k : ℕ) → match_refused (grow s (enum_of C m q)) (enum_of C k p) ≡ (match_refused s (enum_of C k p) || (is_reserved_port C q p.index || region_conflict m k q p))
  unfolding match_refused union_refused bridge_refused grow
  match_taken s q p h zero zero = ap₂ ◌||◌ (own-taken q p h s.ports) (regions-taken s q zero p.first p.second) ∙ or_middle (member p.index s.ports) (is_reserved_port C q p.index) (any (region_taken s) (p.first ∷ p.second ∷ [])) (names_region q p.first || names_region q p.second)
  match_taken s q p h (suc m) zero = ap₂ ◌||◌ (own-taken q p h s.ports) (regions-taken s q (suc m) p.first p.second) ∙ or_middle (member p.index s.ports) (is_reserved_port C q p.index) (any (region_taken s) (p.first ∷ p.second ∷ [])) (names_region q p.first || names_region q p.second)
  match_taken s q p h zero (suc k) =
      rw (own-taken q p h s.ports, pair-taken q p.first s.unions, pair-taken q p.second s.unions)
      (order (member p.index s.ports) (is_reserved_port C q p.index) (member p.first s.unions) (names_region q p.first) (member p.second s.unions) (names_region q p.second) (member p.first s.bridge_pockets)
      (member p.second s.bridge_pockets) (member p.first s.bridge_exteriors))
    where
      order : (i b u x v y k l e : Bool) → (i || b || (u || x) || (v || y) || k || l || e) ≡ (i || u || v || k || l || e || (b || (x || y)))
      order i b u x v y k l e = simp disjunction
  match_taken s q p h (suc m) (suc k) =
      rw (own-taken q p h s.ports, one_taken q.first p.first s.bridge_pockets, one_taken q.first p.second s.bridge_pockets, one_taken q.second p.first s.bridge_exteriors)
      (order (member p.index s.ports) (is_reserved_port C q p.index) (member p.first s.unions) (member p.second s.unions) (member p.first s.bridge_pockets) (eqb q.first p.first) (member p.second s.bridge_pockets)
      (eqb q.first p.second) (member p.first s.bridge_exteriors) (eqb q.second p.first))
    where
      order : (i b u v k x l y e z : Bool) → (i || b || u || v || (k || x) || (l || y) || (e || z)) ≡ (i || u || v || k || l || e || (b || (x || y || z)))
      order i b u v k x l y e z = simp disjunction

  ports_of_lem : (k : ℕ) (p : Proposal) → ports_of_enum (enum_of C k p) ≡ reserved_ports C p
  ports_of_lem zero p = refl
  ports_of_lem (suc k) p = refl

  removed_of_lem : (s : Reserved) (k : ℕ) (p : Proposal) → (grow s (enum_of C k p)).removed ≡ set_insert s.removed p.index
  unfolding grow
  removed_of_lem s zero p = refl
  removed_of_lem s (suc k) p = refl

  reserved_of : (s : Reserved) (k : ℕ) (p : Proposal) → (grow s (enum_of C k p)).ports ≡ set_extend s.ports (reserved_ports C p)
  unfolding grow
  reserved_of s zero p = refl
  reserved_of s (suc k) p = refl

  ports-taken : (s : Reserved) (q p : Proposal) → q.index < C.count → port_taken (grow s (as_enum C q)).removed (grow s (as_enum C q)).ports (ports_of_enum (as_enum C p)) ≡ (port_taken s.removed s.ports (ports_of_enum (as_enum C p)) || (is_reserved_port C p q.index || any_below_lem C.count (λ j. is_reserved_port C p j && is_reserved_port C q j)))
  ports-taken s q p h =
      (λ i. port_taken (removed_of_lem s q.kind q i) (reserved_of s q.kind q i) (ports_of_lem p.kind p i)) ∙ port_taken_lem q p h s.removed s.ports
      ∙ ap (λ l. port_taken s.removed s.ports l || (is_reserved_port C p q.index || any_below_lem C.count (λ j. is_reserved_port C p j && is_reserved_port C q j))) (sym (ports_of_lem p.kind p))

  -- what q adds to all refusals
  taken-adds : (s : Reserved) (q p : Proposal) → q.index < C.count → p.index < C.count → refuses (grow s (as_enum C q)) (as_enum C p) ≡ (refuses s (as_enum C p) || conflict C q p)
  unfolding refuses conflict
  taken-adds s q p h l =
      ap₂ ◌||◌ (ports-taken s q p h) (match_taken s q p l q.kind p.kind)
      ∙ order (port_taken s.removed s.ports (ports_of_enum (as_enum C p))) (is_reserved_port C p q.index) (any_below_lem C.count (λ j. is_reserved_port C p j && is_reserved_port C q j)) (match_refused s (as_enum C p)) (is_reserved_port C q p.index) (region_conflict q.kind p.kind q p)
    where
      order : (t a n r b c : Bool) → (t || (a || n) || (r || (b || c))) ≡ (t || r || (a || b || n || c))
      order t a n r b c = simp disjunction

  -- the loop over the enum is the loop over the proposals
  loop_enum : (s : Reserved) (l : List Proposal) → loop refuses grow s (map (as_enum C) l) ≡ loop (λ t p. refuses t (as_enum C p)) (λ t p. grow t (as_enum C p)) s l
  unfolding loop
  loop_enum s [] = refl
  loop_enum s (p ∷ l) = loop_enum (cond (refuses s (as_enum C p)) s (grow s (as_enum C p))) l

  -- the boundaries of what is taken, as a set
  removed-all : (s : Reserved) (l : List Proposal) → (grow_all (λ t p. refuses t (as_enum C p)) (λ t p. grow t (as_enum C p)) s l).removed ≡ set_extend s.removed (map (λ p. p.index) l)
  unfolding grow_all set_extend
  removed-all s [] = refl
  removed-all s (p ∷ l) = removed-all (grow s (as_enum C p)) l ∙ ap (λ r. set_extend r (map (λ p. p.index) l)) (removed_of_lem s p.kind p)

  none_taken : (ports : List ℕ) → port_taken [] [] ports ≡ false
  unfolding port_taken member any
  none_taken [] = refl
  none_taken (x ∷ ports) = none_taken ports

  match_free : (k : ℕ) (p : Proposal) → match_refused nothing_reserved (enum_of C k p) ≡ false
  unfolding match_refused union_refused bridge_refused region_taken member any
  match_free zero p = refl
  match_free (suc k) p = refl

  starts-free : (p : Proposal) → refuses nothing_reserved (as_enum C p) ≡ false
  unfolding refuses
  starts-free p = ap₂ ◌||◌ (none_taken (ports_of_enum (as_enum C p))) (match_free p.kind p)

  -- the proposals that the loop takes, and the boundaries that it removes
  module _ {l : List Proposal} (below : All (λ p. p.index < C.count) l) where
    pub selection-taken : taken_by (λ t p. refuses t (as_enum C p)) (λ t p. grow t (as_enum C p)) nothing_reserved l ≡ select (conflict C) [] l
    selection-taken =
        select_by_state (λ t p. refuses t (as_enum C p)) (λ t p. grow t (as_enum C p)) (conflict C) (λ p. p.index < C.count) (λ s. Unit {0}) (λ s q v h f. tt)
        (λ s q p v h k f. taken-adds s q p h k) nothing_reserved tt (λ p h. starts-free p) below

    pub selection : select_proposals (map (as_enum C) l) ≡ set_extend [] (map (λ p. p.index) (select (conflict C) [] l))
    unfolding select_proposals
    selection =
        ap (λ s. s.removed) (loop_enum nothing_reserved l ∙ loop-taken (λ t p. refuses t (as_enum C p)) (λ t p. grow t (as_enum C p)) nothing_reserved l)
        ∙ removed-all nothing_reserved (taken_by (λ t p. refuses t (as_enum C p)) (λ t p. grow t (as_enum C p)) nothing_reserved l)
        ∙ ap (λ m. set_extend [] (map (λ p. p.index) m)) selection-taken
