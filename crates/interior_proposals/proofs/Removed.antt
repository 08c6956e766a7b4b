-- The boundaries that pass 2 removes are the edges of all proposals: as no two proposals meet, the order and the choice among them leave nothing out
-- (`removed_is`); so a boundary is removed exactly when the component that owns it is proposed (`removed-owned`). Assumes Sound.
use Prim.Native.Nat.{ℕ, zero, suc, ◌≤◌, ◌<◌}
use native.Mathlib.Omega.{arith}
use mathlib.Core.Path.{◌≡◌, refl, sym, ap, ap₂, subst, ◌∙◌}
use mathlib.Core.Bool.{Bool, true, false, not, ◌&&◌, ◌||◌, cond, or-false, and-false}
use Rattle.std.specs.Prelude.{Option, None, Some}
use mathlib.Core.List.{List, [], ◌∷◌, ◌++◌, append-nil, append_assoc}
use lib.Dec.{eqb, ltb}
use borrow.Author.Tests.{eq-eqb, ltb-true, eqb-true, lt-ltb, not-true}
use Rattle.definitions.specs.Scan.{any, all, member, collect, to_list, only_if, any_below_lem, concat_map}
use Rattle.definitions.specs.Sort.{insert, sort_onto, sort, select}
use Rattle.definitions.specs.RegionRecord.{has_ramp}
use Rattle.definitions.specs.Context.{Context, no_ramp, full_cut}
use Rattle.definitions.specs.RampMouths.{meet}
use Rattle.definitions.specs.RampInteriors.{InteriorProposal, components, component_regions, edges_of, component_ports, ports_fit, region_fits, interior_from, interior_proposal, proposals, ranks_before, conflict, taken, removed}
use Rattle.laws.specs.ListLaws.Lists.{All, done, more, all_map, all_append, any_append}
use Rattle.laws.specs.ListLaws.Tests.{both}
use Rattle.laws.specs.ListLaws.Below.{below_ext, below_none, below_at}
use Rattle.laws.specs.ListLaws.Members.{any-fails, any_found, any-member}
use Rattle.laws.specs.ListLaws.SortedMembers.{any-sort}
use Rattle.laws.specs.SetLaws.Sets.{Ascending, numbers_below, member_below, below_all, below_ascending}
use Rattle.laws.specs.SetLaws.Sets as sets
use Rattle.laws.specs.RustContext.SoundContext.{Sound}
use Rattle.laws.specs.ListLaws.NumberLists.{member-append}
use Rattle.context.specs.declared.found_regions.FoundRegions.{FoundRegions}
use Rattle.interior_proposals.specs.Owners.{one_owner, owned_by, edge, Owned}
use Rattle.interior_proposals.specs.Candidates.{candidate, port, both_ports}
use Rattle.interior_proposals.specs.Proposals.{expanded_of, fitting_ports, proposed_ports, records_fit}
use Rattle.interior_proposals.specs.declared.ports.Ports.{Ports}
use Rattle.interior_proposals.proofs.CandidateLaws.{candidate_unspoilt, edge-owned}
use Rattle.interior_proposals.proofs.NoConflict.{Fit, regions-apart, edges-apart}
use Rattle.interior_proposals.proofs.Bools.{first_two}

-- ---- lists of which no two elements conflict

module _ {A : Type 0} (R : A → A → Type 0) (turn : (x y : A) → R x y → R y x) where
  pub data Apart : List A → Type 0 where
    none_apart : Apart []
    one_apart : {x : A} {l : List A} → All (R x) l → Apart l → Apart (x ∷ l)

  pub apart_last : {l : List A} (x : A) → Apart l → All (λ y. R y x) l → Apart (l ++ (x ∷ []))
  apart_last x none_apart done = one_apart done none_apart
  apart_last x (one_apart h a) (more k b) = one_apart (all_append h (more k done)) (apart_last x a b)

  module _ (lt : A → A → Bool) where
    all_insert : {P : A → Type 0} (x : A) {l : List A} → P x → All P l → All P (insert lt x l)
    unfolding insert
    all_insert x h done = more h done
    all_insert {P} x h (more {x = y} {l = l} k a) = go (lt x y) (all_insert x h a)
      where
        go : (b : Bool) → All P (insert lt x l) → All P (cond b (x ∷ y ∷ l) (y ∷ insert lt x l))
        go true r = more h (more k a)
        go false r = more k r

    apart-insert : (x : A) {l : List A} → All (R x) l → Apart l → Apart (insert lt x l)
    unfolding insert
    apart-insert x done none_apart = one_apart done none_apart
    apart-insert x (more {x = y} {l = l} h b) (one_apart k a) = go (lt x y) (apart-insert x b a)
      where
        go : (t : Bool) → Apart (insert lt x l) → Apart (cond t (x ∷ y ∷ l) (y ∷ insert lt x l))
        go true r = one_apart (more h b) (one_apart k a)
        go false r = one_apart (all_insert x (turn x y h) k) r

    apart-onto : {acc l : List A} → Apart acc → Apart l → All (λ x. All (R x) acc) l → Apart (sort_onto lt acc l)
    unfolding sort_onto
    apart-onto a none_apart done = a
    apart-onto {acc = acc} a (one_apart {x = x} k b) (more h c) = apart-onto {acc = insert lt x acc} (apart-insert x h a) b (all_both-insert k c)
      where
        all_both-insert : {m acc : List A} → All (R x) m → All (λ y. All (R y) acc) m → All (λ y. All (R y) (insert lt x acc)) m
        all_both-insert done done = done
        all_both-insert (more {x = y} u v) (more w z) = more (all_insert x (turn x y u) w) (all_both-insert v z)

    pub apart-sort : {l : List A} → Apart l → Apart (sort lt l)
    unfolding sort
    apart-sort {l} a = apart-onto none_apart a (every l)
      where
        every : (m : List A) → All (λ x. All (R x) []) m
        every [] = done
        every (x ∷ m) = more done (every m)

  -- the choice takes all
  module _ (clash : A → A → Bool) (free : (x y : A) → R x y → clash x y ≡ false) where
    select_from : (acc : List A) {l : List A} → Apart l → All (λ y. All (λ x. R x y) acc) l → select clash acc l ≡ acc ++ l
    unfolding select
    select_from acc none_apart done = sym (append-nil acc)
    select_from acc (one_apart {x = x} {l = l} h a) (more k b) =
        ap (λ t. select clash (cond t acc (acc ++ (x ∷ []))) l) (any-fails (λ q. clash q x) (all_map (λ q r. free q x r) k))
        ∙ select_from (acc ++ (x ∷ [])) a (grow h b) ∙ append_assoc acc (x ∷ []) l
      where
        grow : {m : List A} → All (R x) m → All (λ y. All (λ z. R z y) acc) m → All (λ y. All (λ z. R z y) (acc ++ (x ∷ []))) m
        grow done done = done
        grow (more u v) (more w z) = more (all_append w (more u done)) (grow v z)

    pub select-all : {l : List A} → Apart l → select clash [] l ≡ l
    select-all {l} a = select_from [] a (every l)
      where
        every : (m : List A) → All (λ y. All (λ x. R x y) []) m
        every [] = done
        every (x ∷ m) = more done (every m)

-- ---- proposals

module _ (C : Context) (S : Sound C) where
  -- what a proposal is made of
  pub record Made (name : ℕ) (p : InteriorProposal) : Type 0 where
    pub first : ℕ
    pub second : ℕ
    pub fit : Fit C S name first second
    pub valid : (expanded_of C name first second).valid ≡ true
    pub regions : p.regions ≡ (expanded_of C name first second).regions
    pub edges : p.edges ≡ edges_of C (components C) name

  two_ports_lem : (a b n : ℕ) (f : ℕ → Bool) → numbers_below n f ≡ a ∷ b ∷ [] → ((a < n) × (b < n)) × (a < b)
  two_ports_lem a b n f e = (below (subst (All (λ x. x < n)) e (below_all f n)), rising (subst Ascending e (below_ascending f n)))
    where
      below : All (λ x. x < n) (a ∷ b ∷ []) → (a < n) × (b < n)
      below (more h (more k done)) = (h, k)

      rising : Ascending (a ∷ b ∷ []) → a < b
      rising (sets.some (more h k) r) = h

  pub ports_two : (r : ℕ) {a b : ℕ} → component_ports C (components C) r ≡ a ∷ b ∷ [] → ((a < C.count) × (b < C.count)) × (a < b)
  unfolding component_ports numbers_below
  ports_two r {a} {b} e = two_ports_lem a b C.count (port C r) e

  pub fit_of : (r : ℕ) {a b : ℕ} → 1 ≤ r → candidate C r ≡ true → component_ports C (components C) r ≡ a ∷ b ∷ [] → ports_fit C a b ≡ true → Fit C S r a b
  unfolding ports_fit
  fit_of r {a} {b} from c e q =
      let w = ports_two r e in
      let g = first_two (not (no_ramp C a)) (not (no_ramp C b)) (full_cut C a) (full_cut C b) (eqb (C.boundary a).ramp_id (C.boundary b).ramp_id) (not (eqb (C.boundary a).kind (C.boundary b).kind)) q in
      record { from = from; cand = c; first = w.0.0; second = w.0.1; differ = λ z. omega (arith, w.1); first_ramp = not-true (no_ramp C a) g.0; second_ramp = not-true (no_ramp C b) g.1 }

  no_some : {p : InteriorProposal} → None ≡ Some p → ⊥
  no_some e =
      let z : ◌≡◌ {A = ℕ} 0 1 = cc in
      omega arith

  made : (n : ℕ) (p : InteriorProposal) → interior_proposal C (components C) (suc n) ≡ Some p → Made (suc n) p
  unfolding interior_proposal interior_from
  made n p h = go (candidate C (suc n)) refl h
    where
      r : ℕ
      r = suc n

      from_list : candidate C r ≡ true → (l : List ℕ) → component_ports C (components C) r ≡ l → interior_from C (component_regions C (components C) r) (edges_of C (components C) r) l ≡ Some p → Made r p
      from_list c [] e k = absurd (no_some k)
      from_list c (a ∷ []) e k = absurd (no_some k)
      from_list c (a ∷ b ∷ d ∷ l) e k = absurd (no_some k)
      from_list c (a ∷ b ∷ []) e k = pick (ports_fit C a b) refl (expanded_of C r a b).valid refl (any (λ q. has_ramp (C.region q)) (expanded_of C r a b).regions) (all (region_fits C a b) (expanded_of C r a b).regions) k
        where
          found : InteriorProposal
          found = record { regions = (expanded_of C r a b).regions; edges = edges_of C (components C) r; first_port = a; second_port = b }

          pick : (f : Bool) → ports_fit C a b ≡ f → (v : Bool) → (expanded_of C r a b).valid ≡ v → (x y : Bool) → only_if (f && v && x && y) found ≡ Some p → Made r p
          pick false q v u x y m = absurd (no_some m)
          pick true q false u x y m = absurd (no_some m)
          pick true q true u false y m = absurd (no_some m)
          pick true q true u true false m = absurd (no_some m)
          pick true q true u true true m =
              let same : found ≡ p = cc in
              record {
                first = a;
                second = b;
                fit = fit_of r (omega arith) c e q;
                valid = u;
                regions = sym (ap (λ z. z.regions) same);
                edges = sym (ap (λ z. z.edges) same);
              }

      go : (b : Bool) → candidate C r ≡ b → cond b (interior_from C (component_regions C (components C) r) (edges_of C (components C) r) (component_ports C (components C) r)) None ≡ Some p → Made r p
      go false c k = absurd (no_some k)
      go true c k = from_list c (component_ports C (components C) r) refl k

  -- neither keeps the other from being taken
  abbrev Free : InteriorProposal → InteriorProposal → Type 0
  Free p q = (conflict C p q ≡ false) × (conflict C q p ≡ false)

  no_meet : (l m : List ℕ) → ((x : ℕ) → member x l ≡ true → member x m ≡ true → ⊥) → meet l m ≡ false
  unfolding meet
  no_meet l m h = go (any (λ x. member x m) l) refl
    where
      go : (b : Bool) → any (λ x. member x m) l ≡ b → b ≡ false
      go true e =
          let w = any_found (λ x. member x m) l e in
          absurd (h w.0 (any-member (eqb w.0) w.1 (eq-eqb w.0 w.0 refl)) w.2)
      go false e = refl

  edge_of : (r i : ℕ) → member i (edges_of C (components C) r) ≡ (ltb i C.count && edge C r i)
  unfolding edges_of numbers_below
  edge_of r i = member_below (edge C r) i C.count

  made-free : {m n : ℕ} (p q : InteriorProposal) (P : Made m p) (Q : Made n q) → (m ≡ n → ⊥) → conflict C p q ≡ false
  unfolding conflict
  made-free {m} {n} p q P Q d =
      ap₂ ◌||◌
      (no_meet q.edges p.edges (λ x h k.
      let u = both (ltb x C.count) (edge C (n) x) (sym (edge_of (n) x) ∙ subst (λ l. member x l ≡ true) Q.edges h) in
      let v = both (ltb x C.count) (edge C (m) x) (sym (edge_of (m) x) ∙ subst (λ l. member x l ≡ true) P.edges k) in
      edges-apart C S P.fit Q.fit d P.valid x (ltb-true x C.count u.0) v.1 u.1))
      (no_meet q.regions p.regions (λ x h k.
      regions-apart C S P.fit Q.fit d P.valid x (subst (λ l. member x l ≡ true) P.regions k) (subst (λ l. member x l ≡ true) Q.regions h)))

  abbrev found_at : ℕ → Option InteriorProposal
  found_at k = interior_proposal C (components C) (suc k)

  -- proposals named up to n
  abbrev MadeUpto : ℕ → InteriorProposal → Type 0
  MadeUpto n p = (r : ℕ) × ((r ≤ n) × Made r p)

  turned : (p q : InteriorProposal) → Free p q → Free q p
  turned p q h = (h.1, h.0)

  upto : (n : ℕ) → All (MadeUpto n) (collect n found_at) × Apart Free turned (collect n found_at)
  unfolding collect
  upto zero = (done, none_apart)
  upto (suc n) = go (found_at n) refl (upto n)
    where
      older : (p : InteriorProposal) → MadeUpto n p → MadeUpto (suc n) p
      older p m = (m.0, (omega (arith, m.1.0), m.1.1))

      free : (p q : InteriorProposal) → MadeUpto n p → interior_proposal C (components C) (suc n) ≡ Some q → Free p q
      free p q m e = (made-free p q m.1.1 (made n q e) (λ d. omega (arith, m.1.0, d)), made-free q p (made n q e) m.1.1 (λ d. omega (arith, m.1.0, d)))

      go : (o : Option InteriorProposal) → found_at n ≡ o → All (MadeUpto n) (collect n found_at) × Apart Free turned (collect n found_at) → All (MadeUpto (suc n)) (collect n found_at ++ to_list o) × Apart Free turned (collect n found_at ++ to_list o)
      go None e w = subst (λ l. All (MadeUpto (suc n)) l × Apart Free turned l) (sym (append-nil (collect n found_at))) (all_map older w.0, w.1)
      go (Some q) e w = (all_append (all_map older w.0) (more (suc n, (omega arith, made n q e)) done), apart_last Free turned q w.1 (all_map (λ p m. free p q m e) w.0))

  -- every proposal is taken
  pub taken_is : taken C ≡ sort (ranks_before C) (proposals C)
  unfolding taken proposals
  taken_is = select-all Free turned (conflict C) (λ p q h. h.0) (apart-sort Free turned (ranks_before C) (upto C.regions).1)

  joined-member : {A : Type 0} (g : A → List ℕ) (i : ℕ) (l : List A) → member i (concat_map g l) ≡ any (λ p. member i (g p)) l
  unfolding concat_map any member
  joined-member g i [] = refl
  joined-member g i (p ∷ l) = member-append i (g p) (concat_map g l) ∙ ap (λ b. member i (g p) || b) (joined-member g i l)

  collected : {A : Type 0} (f : A → Bool) (F : ℕ → Option A) (n : ℕ) → any f (collect n F) ≡ any_below_lem n (λ k. any f (to_list (F k)))
  unfolding collect any_below_lem any
  collected f F zero = refl
  collected f F (suc n) = any_append f (collect n F) (to_list (F n)) ∙ ap (λ b. b || any f (to_list (F n))) (collected f F n)

  pub removed_is : (i : ℕ) → member i (removed C) ≡ any_below_lem C.regions (λ k. any (λ p. member i p.edges) (to_list (found_at k)))
  unfolding removed proposals
  removed_is i =
      ap (λ l. member i (concat_map (λ p. p.edges) l)) taken_is ∙ joined-member (λ p. p.edges) i (sort (ranks_before C) (proposals C))
      ∙ any-sort (ranks_before C) (λ p. member i p.edges) (proposals C) ∙ collected (λ p. member i p.edges) found_at C.regions

  -- ---- by owners

  -- r names a proposal
  abbrev pub is_proposal : ℕ → Bool
  is_proposal r = any (λ p. true) (to_list (interior_proposal C (components C) r))

  module _ (i : ℕ) (l : i < C.count) {v : FoundRegions} (o : Owned C i v) where
    owned-edge : (k : ℕ) → k < C.regions → any (λ p. member i p.edges) (to_list (found_at k)) ≡ (is_proposal (suc k) && owned_by (suc k) v)
    unfolding any
    owned-edge k m = go (found_at k) refl
      where
        go : (x : Option InteriorProposal) → found_at k ≡ x → any (λ p. member i p.edges) (to_list x) ≡ (any (λ p. true) (to_list x) && owned_by (suc k) v)
        go None e = refl
        go (Some p) e =
            let w = made k p e in
            or-false (member i p.edges) ∙ ap (member i) w.edges ∙ edge_of (suc k) i ∙ ap (λ b. b && edge C (suc k) i) (lt-ltb i C.count l)
            ∙ sym (edge-owned C (suc k) i (omega arith) (omega arith) o (candidate_unspoilt C (suc k) w.fit.cand i l))

    owned_scan : member i (removed C) ≡ any_below_lem C.regions (λ k. is_proposal (suc k) && owned_by (suc k) v)
    owned_scan = removed_is i ∙ below_ext C.regions (λ k. any (λ p. member i p.edges) (to_list (found_at k))) (λ k. is_proposal (suc k) && owned_by (suc k) v) owned-edge

    -- a boundary that no component owns stays
    pub removed_none : ((r : ℕ) → owned_by r v ≡ false) → member i (removed C) ≡ false
    removed_none h = owned_scan ∙ below_none C.regions (λ k. is_proposal (suc k) && owned_by (suc k) v) (λ k m. ap (λ b. is_proposal (suc k) && b) (h (suc k)) ∙ and-false (is_proposal (suc k)))

    -- a boundary goes exactly when its owner is proposed
    pub removed-owned : (n : ℕ) → n < C.regions → v ≡ one_owner (suc n) → member i (removed C) ≡ is_proposal (suc n)
    removed-owned n m q = owned_scan ∙ go (is_proposal (suc n)) refl
      where
        go : (b : Bool) → is_proposal (suc n) ≡ b → any_below_lem C.regions (λ k. is_proposal (suc k) && owned_by (suc k) v) ≡ b
        go true e = below_at C.regions (λ k. is_proposal (suc k) && owned_by (suc k) v) n m (ap₂ ◌&&◌ e (ap (owned_by (suc n)) q ∙ eq-eqb (suc n) (suc n) refl))
        go false e = below_none C.regions (λ k. is_proposal (suc k) && owned_by (suc k) v) (λ k u. at k (eqb (suc n) (suc k)) refl)
          where
            at : (k : ℕ) (t : Bool) → eqb (suc n) (suc k) ≡ t → (is_proposal (suc k) && owned_by (suc k) v) ≡ false
            at k true d = ap (λ x. is_proposal x && owned_by (suc k) v) (sym (eqb-true (suc n) (suc k) d)) ∙ ap (λ b. b && owned_by (suc k) v) e
            at k false d = ap (λ b. is_proposal (suc k) && b) (ap (owned_by (suc k)) q ∙ d) ∙ and-false (is_proposal (suc k))

  -- ---- a proposal is what was found, with records that fit

  pub proposal_is : (r : ℕ) → is_proposal r ≡ records_fit C r (proposed_ports C r)
  unfolding interior_proposal interior_from proposed_ports fitting_ports records_fit any
  proposal_is r = go (candidate C r)
    where
      found : ℕ → ℕ → InteriorProposal
      found a b = record { regions = (expanded_of C r a b).regions; edges = edges_of C (components C) r; first_port = a; second_port = b }

      only : (p : InteriorProposal) (f v x y : Bool) (d : Option Ports) → records_fit C r d ≡ (x && y) → any (λ q. true) (to_list (only_if (f && v && x && y) p)) ≡ records_fit C r (cond (f && v) d None)
      only p true true true true d e = sym e
      only p true true true false d e = sym e
      only p true true false y d e = sym e
      only p true false x y d e = refl
      only p false v x y d e = refl

      listed : (l : List ℕ) → any (λ p. true) (to_list (interior_from C (component_regions C (components C) r) (edges_of C (components C) r) l)) ≡ records_fit C r (fitting_ports C r l)
      listed [] = refl
      listed (a ∷ []) = refl
      listed (a ∷ b ∷ []) = only (found a b) (ports_fit C a b) (expanded_of C r a b).valid (any (λ q. has_ramp (C.region q)) (expanded_of C r a b).regions) (all (region_fits C a b) (expanded_of C r a b).regions) (both_ports a b) refl
      listed (a ∷ b ∷ c ∷ l) = refl

      go : (t : Bool) → any (λ p. true) (to_list (cond t (interior_from C (component_regions C (components C) r) (edges_of C (components C) r) (component_ports C (components C) r)) None)) ≡ records_fit C r (cond t (fitting_ports C r (component_ports C (components C) r)) None)
      go true = listed (component_ports C (components C) r)
      go false = refl
