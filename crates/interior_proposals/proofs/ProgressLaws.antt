-- All components, one after the other: what one of them does to the names leaves what the others are told by, as no two meet. Assumes nothing.
use Prim.Native.Nat.{ℕ, zero, suc, ◌+◌, ◌≤◌, ◌<◌}
use native.Mathlib.Omega.{arith}
use mathlib.Core.Path.{◌≡◌, refl, sym, ap, ap₂, subst, ◌∙◌}
use mathlib.Core.Bool.{Bool, true, false, not, ◌&&◌, ◌||◌, cond, true≢false}
use mathlib.Core.Logic.{⊎_elim}
use mathlib.Core.List.{List, [], ◌∷◌}
use lib.ListN.{length, set, take}
use lib.Dec.{eqb}
use borrow.Author.Tests.{eq-eqb, ne_eqb, not-true}
use Rattle.std.specs.Prelude.{Option, None}
use Rattle.std.specs.Bool.{then_some}
use Rattle.std.specs.List.{list_any}
use Rattle.std.proofs.lemmas.List.Folds.{list_any_more}
use Rattle.definitions.specs.Scan.{any_below_lem, member}
use Rattle.definitions.specs.Context.{Context}
use Rattle.definitions.specs.RampInteriors.{components, component_ports, ports_fit}
use Rattle.laws.specs.ListLaws.Tests.{both}
use Rattle.laws.specs.ListLaws.Below.{below_at}
use Rattle.laws.specs.ListLaws.ScanSteps.{any_next, any-fails_at}
use Rattle.laws.specs.RustContext.SoundContext.{Sound}
use Rattle.laws.specs.RustInteriors.ComponentRegions.{inside}
use Rattle.laws.specs.ListLaws.Beyond.{beyond-then}
use Rattle.laws.specs.NumberLaws.Comparisons.{last_or}
use Rattle.context.specs.declared.found_regions.FoundRegions.{FoundRegions}
use Rattle.context.specs.declared.found_regions.FoundRegions.TheVariants as owner-is
use Rattle.interior_proposals.specs.Owners.{nobody, one_owner, is_one, owned_by, name_of, owner_at, name_at, all_in_lem, edge, Owners}
use Rattle.interior_proposals.specs.Candidates.{Told, candidate, both_ports}
use Rattle.interior_proposals.specs.Leaves.{Inside}
use Rattle.interior_proposals.specs.Proposals.{expanded_of, fitting_ports, proposed_ports, Facing, Leafed, Proposed, owned_before, is_first, FirstOf, found_ports, Progress, Owning, FoundAll}
use Rattle.interior_proposals.specs.declared.ports.Ports.{Ports}
use Rattle.interior_proposals.proofs.PortLaws.{same_ports}
use Rattle.interior_proposals.proofs.Stored.{filled_more}
use Rattle.interior_proposals.proofs.NoConflict.{Fit, regions-apart, loose_edge}
use Rattle.interior_proposals.proofs.Removed.{fit_of}
use Rattle.interior_proposals.proofs.Commons.{one_named}

-- ---- a boundary that comes first

module _ (owners : List FoundRegions) (i : ℕ) where
  -- no boundary before it has the component that it has
  pub first_unmet : is_first owners i ≡ true → owned_before owners i (name_at owners i) ≡ false
  unfolding is_first
  first_unmet h = not-true (owned_before owners i (name_at owners i)) (both (is_one (owner_at owners i)) (not (owned_before owners i (name_at owners i))) h).1

  pub first_one : is_first owners i ≡ true → owner_at owners i ≡ one_owner (name_at owners i)
  unfolding is_first
  first_one h = one_named (owner_at owners i) (both (is_one (owner_at owners i)) (not (owned_before owners i (name_at owners i))) h).0

  -- by whether one of the owners before is the component r
  module _ (r : ℕ) {f : FoundRegions → Bool} (told : (o : FoundRegions) → f o ≡ owned_by r o) where
    any_taken : (n : ℕ) → n ≤ length owners → list_any f (take n owners) ≡ any_below_lem n (λ j. owned_by r (owner_at owners j))
    unfolding any_below_lem
    any_taken zero l = refl
    any_taken (suc n) l =
        let e : n + 1 ≡ suc n = omega arith in
        subst (λ m. list_any f (take m owners) ≡ any_below_lem m (λ j. owned_by r (owner_at owners j))) e
        (list_any_more f owners n nobody (omega arith) ∙ ap₂ ◌||◌ (any_taken n (omega arith)) (told _) ∙ sym (any_next (λ j. owned_by r (owner_at owners j)) n))

    pub owned_among : i ≤ length owners → list_any f (take i owners) ≡ owned_before owners i r
    unfolding owned_before
    owned_among = any_taken i

  -- by the owner
  pub none_first : ((r : ℕ) → owner_at owners i ≡ one_owner r → ⊥) → is_first owners i ≡ false
  unfolding is_first
  none_first h = ap (λ t. t && not (owned_before owners i (name_at owners i))) (none (owner_at owners i) h)
    where
      none : (o : FoundRegions) → ((r : ℕ) → o ≡ one_owner r → ⊥) → is_one o ≡ false
      none owner-is.None h = refl
      none (owner-is.One r) h = absurd (h r refl)
      none owner-is.Several h = refl

  module _ {r : ℕ} (e : owner_at owners i ≡ one_owner r) where
    pub first_is : is_first owners i ≡ not (owned_before owners i r)
    unfolding is_first
    first_is = ap (λ o. is_one o && not (owned_before owners i (name_of o))) e

    -- where a chain says whether a boundary before has it
    pub first_by : (t : Bool) → t ≡ owned_before owners i r → FirstOf owners i (then_some (not t) r)
    first_by true d = first_is ∙ ap not (sym d)
    first_by false d = (e, first_is ∙ ap not (sym d))

module _ {C : Context} (owners : List FoundRegions) (O : Owners C owners) (i : ℕ) (l : i < C.count) (h : is_first owners i ≡ true) where
  abbrev owner : ℕ
  owner = name_at owners i

  pub first_region : (1 ≤ owner) × (owner ≤ C.regions)
  first_region = (O i l).range owner (first_one owners i h)

  pub first_edge : any_below_lem C.count (edge C owner) ≡ true
  first_edge = below_at C.count (edge C owner) i l (both (edge C owner i) (all_in_lem C owner i) (sym ((O i l).whole owner first_region.0 first_region.1) ∙ ap (owned_by owner) (first_one owners i h) ∙ eq-eqb owner owner refl)).0

-- ---- two ports that were found

other_two : {a b : ℕ} → None ≡ both_ports a b → ⊥
other_two e =
    let z : ◌≡◌ {A = ℕ} 0 1 = cc in
    omega arith

two_found : (C : Context) (r : ℕ) {a b : ℕ} (l : List ℕ) → fitting_ports C r l ≡ both_ports a b → (l ≡ a ∷ b ∷ []) × ((ports_fit C a b ≡ true) × ((expanded_of C r a b).valid ≡ true))
unfolding fitting_ports
two_found C r [] e = absurd (other_two e)
two_found C r (x ∷ []) e = absurd (other_two e)
two_found C r (x ∷ y ∷ z ∷ l) e = absurd (other_two e)
two_found C r {a} {b} (x ∷ y ∷ []) e = go (ports_fit C x y) refl (expanded_of C r x y).valid refl e
  where
    go : (f : Bool) → ports_fit C x y ≡ f → (v : Bool) → (expanded_of C r x y).valid ≡ v → cond (f && v) (both_ports x y) None ≡ both_ports a b → (◌≡◌ {A = List ℕ} (x ∷ y ∷ []) (a ∷ b ∷ [])) × ((ports_fit C a b ≡ true) × ((expanded_of C r a b).valid ≡ true))
    go false q v u k = absurd (other_two k)
    go true q false u k = absurd (other_two k)
    go true q true u k =
        let s = same_ports k in
        let d = s.0 in
        let c = s.1 in
        (ap₂ (λ m n. m ∷ n ∷ []) d c, (sym (ap₂ (ports_fit C) d c) ∙ q, sym (ap₂ (λ m n. (expanded_of C r m n).valid) d c) ∙ u))

pub proposed_two : (C : Context) (r : ℕ) {a b : ℕ} → proposed_ports C r ≡ both_ports a b → (candidate C r ≡ true) × ((component_ports C (components C) r ≡ a ∷ b ∷ []) × ((ports_fit C a b ≡ true) × ((expanded_of C r a b).valid ≡ true)))
unfolding proposed_ports
proposed_two C r {a} {b} e = go (candidate C r) refl e
  where
    go : (t : Bool) → candidate C r ≡ t → cond t (fitting_ports C r (component_ports C (components C) r)) None ≡ both_ports a b → (candidate C r ≡ true) × ((component_ports C (components C) r ≡ a ∷ b ∷ []) × ((ports_fit C a b ≡ true) × ((expanded_of C r a b).valid ≡ true)))
    go true c k = (c, two_found C r (component_ports C (components C) r) k)
    go false c k = absurd (other_two k)

pub found_first : (C : Context) (owners : List FoundRegions) (i : ℕ) {a b : ℕ} → found_ports C owners i ≡ both_ports a b → (is_first owners i ≡ true) × (proposed_ports C (name_at owners i) ≡ both_ports a b)
unfolding found_ports
found_first C owners i {a} {b} e = go (is_first owners i) refl e
  where
    go : (t : Bool) → is_first owners i ≡ t → cond t (proposed_ports C (name_at owners i)) None ≡ both_ports a b → (is_first owners i ≡ true) × (proposed_ports C (name_at owners i) ≡ both_ports a b)
    go true c k = (c, k)
    go false c k = absurd (other_two k)

-- ---- one boundary more

module _ {C : Context} {owners : List FoundRegions} {was names wasMarks marks : List ℕ} (S : Sound C) (O : Owners C owners) (i : ℕ) (l : i < C.count) (P : Progress C owners was names wasMarks marks i) where
  split_or : (a b : Bool) → (a || b) ≡ false → (a ≡ false) × (b ≡ false)
  split_or true b e = absurd (true≢false e)
  split_or false b e = (refl, e)

  met : (q : ℕ) → owned_before owners (i + 1) q ≡ false → (owned_before owners i q ≡ false) × (owned_by q (owner_at owners i) ≡ false)
  unfolding owned_before
  met q e = split_or (owned_before owners i q) (owned_by q (owner_at owners i)) (sym (any_next (λ j. owned_by q (owner_at owners j)) i) ∙ e)

  pub progress-other : is_first owners i ≡ false → Progress C owners was names wasMarks marks (i + 1)
  progress-other h =
      record {
        long = P.long;
        unmet = λ q a b e n. P.unmet q a b e (met q n).0;
        settled = λ j m. ⊎_elim (λ e a b k. absurd (true≢false (sym (found_first C owners j k).0 ∙ ap (is_first owners) e ∙ h))) (λ e. P.settled j e) (last_or j i (omega arith));
        beyond = P.beyond;
        cleared = P.cleared;
      }

  module _ (h : is_first owners i ≡ true) {now nowMarks : List ℕ} {x : Option Ports} (Q : Proposed C (name_at owners i) names now marks nowMarks x) where
    abbrev r : ℕ
    r = name_at owners i

    apart : (q : ℕ) → owned_by q (owner_at owners i) ≡ false → r ≡ q → ⊥
    apart q e d = true≢false (sym (ap (owned_by q) (first_one owners i h) ∙ eq-eqb r q d) ∙ e)

    leaf-fit : {y : ℕ} → (L : Leafed C r y) → Fit C S r L.first L.second
    leaf-fit L = fit_of C S r (first_region owners O i l h).0 L.candidates L.two L.fit

    -- what is another component's is not changed
    told : (q : ℕ) → 1 ≤ q → any_below_lem C.count (edge C q) ≡ true → (r ≡ q → ⊥) → Told C q names → Told C q now
    told q a e n T =
        record {
          long = subst (λ m. C.regions ≤ m) (sym Q.spread.beyond.long) T.long;
          at = λ y b c. ⊎_elim (λ d. ap (λ m. eqb m q) d ∙ T.at y b c)
              (λ d. ap (λ m. eqb m q) d.0 ∙ ne_eqb r q n ∙ sym (out y d.1 (inside C q y) refl)) (Q.spread.each y b c);
        }
      where
        out : (y : ℕ) → Leafed C r y → (t : Bool) → inside C q y ≡ t → t ≡ false
        out y L true k = absurd (loose_edge C S q a e y L.one L.below L.single L.ramp k)
        out y L false k = refl

    held : (q a b : ℕ) → Fit C S q a b → (expanded_of C q a b).valid ≡ true → (q ≡ r → ⊥) → Inside C q (expanded_of C q a b).regions names → Inside C q (expanded_of C q a b).regions now
    held q a b F v n I =
        record {
          long = subst (λ m. C.regions ≤ m) (sym Q.spread.beyond.long) I.long;
          at = λ y c d. ⊎_elim (λ e. ap (λ m. eqb m q) e ∙ I.at y c d)
              (λ e. ap (λ m. eqb m q) e.0 ∙ ne_eqb r q (λ z. n (sym z)) ∙ sym (out y e.1 (member y (expanded_of C q a b).regions) refl)) (Q.spread.each y c d);
        }
      where
        out : (y : ℕ) → Leafed C r y → (t : Bool) → member y (expanded_of C q a b).regions ≡ t → t ≡ false
        out y L true k = absurd (regions-apart C S F (leaf-fit L) n v y k L.found)
        out y L false k = refl

    earlier : (j : ℕ) → j < i → owned_by r (owner_at owners j) ≡ false
    unfolding owned_before
    earlier = any-fails_at (λ o. owned_by r (owner_at owners o)) i (first_unmet owners i h)

    pub progress_first : Progress C owners was now wasMarks nowMarks (i + 1)
    progress_first =
        record {
          long = subst (λ m. C.regions ≤ m) (sym Q.spread.beyond.long) P.long;
          unmet = λ q a b e n. told q a e (apart q (met q n).1) (P.unmet q a b e (met q n).0);
          settled = λ j m. ⊎_elim
              (λ e a b k. subst (λ o. Inside C (name_at owners o) (expanded_of C (name_at owners o) a b).regions now) (sym e) (Q.holds a b (Q.result ∙ (found_first C owners i (ap (found_ports C owners) (sym e) ∙ k)).1)))
              (λ e a b k.
              let w = found_first C owners j k in
              let t = proposed_two C (name_at owners j) w.1 in
              let u : j < C.count = omega arith in
              held (name_at owners j) a b (fit_of C S (name_at owners j) (first_region owners O j u w.0).0 t.0 t.1.0 t.1.1.0) t.1.1.1
              (λ d. true≢false (sym (ap (owned_by r) (first_one owners j w.0) ∙ eq-eqb (name_at owners j) r d) ∙ earlier j e)) (P.settled j e a b k))
              (last_or j i (omega arith));
          beyond = beyond-then P.beyond Q.spread.beyond;
          cleared = record { marked = Q.cleared.marked; beyond = beyond-then P.cleared.beyond Q.cleared.beyond };
        }

-- ---- for the calls

module _ {C : Context} {boundaries tallies pairs starts names marks was wasMarks : List ℕ} {owners : List FoundRegions} {count : ℕ} (W : Owning C boundaries tallies pairs starts owners count) (i : ℕ) (l : i < C.count) (P : Progress C owners was names wasMarks marks i) where
  pub facing : {r : ℕ} → (owner_at owners i ≡ one_owner r) × (is_first owners i ≡ true) → Facing C boundaries tallies pairs starts names marks owners count r
  facing {r} (e, f) = subst (Facing C boundaries tallies pairs starts names marks owners count) {x = name_at owners i} {y = r} (ap name_of e) faced
    where
      g : (1 ≤ name_at owners i) × (name_at owners i ≤ C.regions)
      g = first_region owners W.owned i l f

      faced : Facing C boundaries tallies pairs starts names marks owners count (name_at owners i)
      faced = record {
        given = W.given;
        mapped =
            record {
              paired = W.given.paired;
              told = P.unmet (name_at owners i) g.0 g.1 (first_edge owners W.owned i l f) (first_unmet owners i f);
              marked = P.cleared.marked;
              sound = W.given.sound;
              from = g.0;
              upto = g.1;
            };
        counted = W.counted;
        owned = W.owned;
      }

  pub found-proposed : {r : ℕ} → (owner_at owners i ≡ one_owner r) × (is_first owners i ≡ true) → {now nowMarks : List ℕ} {x : Option Ports} → Proposed C r names now marks nowMarks x → Progress C owners was now wasMarks nowMarks (i + 1) × (x ≡ found_ports C owners i)
  unfolding found_ports
  found-proposed {r} (e, f) {now} {nowMarks} {x} R = (progress_first W.given.sound W.owned i l P f Q, Q.result ∙ sym (ap (λ b. cond b (proposed_ports C (name_at owners i)) None) f))
    where
      Q : Proposed C (name_at owners i) names now marks nowMarks x
      Q = subst (λ n. Proposed C n names now marks nowMarks x) {x = r} {y = name_at owners i} (sym (ap name_of e)) R

  pub found_nothing : is_first owners i ≡ false → Progress C owners was names wasMarks marks (i + 1) × (None ≡ found_ports C owners i)
  unfolding found_ports
  found_nothing f = (progress-other W.given.sound W.owned i l P f, sym (ap (λ b. cond b (proposed_ports C (name_at owners i)) None) f))

-- one boundary's ports are stored
pub found_more : (C : Context) (owners : List FoundRegions) (found : List (Option Ports)) (i : ℕ) {x : Option Ports} → FoundAll C owners found i → i < length found → x ≡ found_ports C owners i → FoundAll C owners (set found i x) (i + 1)
found_more C owners found i F l e = filled_more (λ o p. p ≡ found_ports C owners o) None found F l e
