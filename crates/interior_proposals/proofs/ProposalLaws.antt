-- What is found of a component, from its tests and the walks over its two ports. Assumes nothing.
use Prim.Native.Nat.{ℕ, ◌+◌, ◌≤◌, ◌<◌}
use native.Mathlib.Omega.{arith}
use mathlib.Core.Path.{◌≡◌, refl, sym, ap, ap₂, subst, ◌∙◌}
use mathlib.Core.Bool.{Bool, true, false, not, ◌&&◌, ◌||◌, cond, true≢false}
use mathlib.Core.Logic.{inl, inr, ⊎_elim}
use mathlib.Core.List.{List, [], ◌∷◌}
use lib.ListN.{get_or}
use lib.Dec.{eqb, leb}
use borrow.Author.Tests.{eq-eqb, eqb-true, leb-true, not-true}
use Rattle.std.specs.Prelude.{None}
use Rattle.std.specs.Bool.{then_some}
use Rattle.definitions.specs.Scan.{any, any_below_lem, count_below}
use Rattle.definitions.specs.Context.{Context, no_ramp, full_cut}
use Rattle.definitions.specs.MouthShapes.{regions_of}
use Rattle.definitions.specs.RampInteriors.{components, component_regions, component_ports, ports_fit, expand_port}
use Rattle.laws.specs.ListLaws.Lists.{All, done, more}
use Rattle.laws.specs.ListLaws.ScanSteps.{all_intro}
use Rattle.laws.specs.SetLaws.Sets.{numbers_below, below_all}
use Rattle.laws.specs.RustInteriors.ComponentRegions.{all_inside, region_members}
use Rattle.laws.specs.ListLaws.Beyond.{beyond_same, beyond-then}
use Rattle.laws.specs.RegionLaws.OneMore.{any-counted}
use Rattle.context.specs.Shown.{ShownPairs}
use Rattle.context.specs.declared.found_regions.FoundRegions.{FoundRegions}
use Rattle.interior_proposals.specs.Owners.{entry_at, all_in_lem, edge}
use Rattle.interior_proposals.specs.Candidates.{spoils_at, candidate, port, both_ports, two_ports}
use Rattle.interior_proposals.specs.Fits.{Listed}
use Rattle.interior_proposals.specs.Leaves.{Inside, PortReachable, Single, from, Ported, Walked, BothWalked}
use Rattle.interior_proposals.specs.Proposals.{expanded_of, fitting_ports, proposed_ports, Facing, Leafed, Spread, Proposed}
use Rattle.interior_proposals.proofs.PortLaws.{same_ports}
use Rattle.interior_proposals.proofs.Walks.{shown-walkable}
use Rattle.interior_proposals.proofs.CandidateLaws.{within, candidate_some, candidate_unspoilt}
use Rattle.interior_proposals.proofs.Bools.{first_two}

-- ---- two walks

-- the rows of a boundary
pub shown_ported : {C : Context} {rows starts : List ℕ} → ShownPairs C rows starts → (i : ℕ) → i < C.count → Ported C rows (get_or starts i 0) (get_or starts (i + 1) 0) i
shown_ported {C} P i l = record { walk = shown-walkable P (omega arith) i l; at = P.at i l }

pub both-walked : {C : Context} {a b r : ℕ} {rs names mid now marks midMarks nowMarks : List ℕ} {f g : Bool} → Walked C a r rs true names mid marks midMarks f → Walked C b r (expand_port C (from rs true) a).regions (expand_port C (from rs true) a).valid mid now midMarks nowMarks g → BothWalked C a b r rs names now marks nowMarks (f && g)
both-walked {C} {a} {b} {r} {rs} {names} {mid} {now} {f = f} {g = g} A B =
    record {
      fits = ap (λ t. t && g) A.held.fits ∙ B.held.fits;
      inside = B.held.inside;
      beyond = beyond-then A.held.grown.beyond B.held.grown.beyond;
      each = λ x k l. ⊎_elim
          (λ e. ⊎_elim (λ d. inl (e ∙ d)) (λ d. inr (e ∙ d.0, inl d.1)) (A.held.grown.each x k l))
          (λ e. inr (e.0, inr e.1)) (B.held.grown.each x k l);
      cleared = record { marked = B.cleared.marked; beyond = beyond-then A.cleared.beyond B.cleared.beyond };
    }

-- ---- the component itself

-- where a test is not-false, one number passes it
some_counted : (f : ℕ → Bool) (n : ℕ) → leb 1 (count_below n f) ≡ true → any_below_lem n f ≡ true
some_counted f n h = go (any_below_lem n f) refl
  where
    go : (b : Bool) → any_below_lem n f ≡ b → b ≡ true
    go true e = refl
    go false e = absurd (omega (arith, leb-true 1 (count_below n f) h, eqb-true (count_below n f) 0 (any-counted f n ∙ ap not e)))

module _ (C : Context) (r : ℕ) (h : candidate C r ≡ true) where
  pub candidate-edge : any_below_lem C.count (edge C r) ≡ true
  candidate-edge = some_counted (edge C r) C.count (candidate_some C r h)

  pub candidate-inside : all_inside C r ≡ true
  unfolding spoils_at
  candidate-inside = all_intro (λ i. not (edge C r i) || all_in_lem C r i) C.count at
    where
      go : (e a b : Bool) → (e && (not a || b)) ≡ false → (not e || a) ≡ true
      go true true b q = refl
      go true false b q = absurd (true≢false q)
      go false a b q = refl

      at : (i : ℕ) → i < C.count → (not (edge C r i) || all_in_lem C r i) ≡ true
      at i l = go (edge C r i) (all_in_lem C r i) (any C.anchored (regions_of (C.pairs i))) (candidate_unspoilt C r h i l)

-- ---- two ports

other : {a b : ℕ} → both_ports a b ≡ None → ⊥
other e =
    let z : ◌≡◌ {A = ℕ} 0 1 = cc in
    omega arith

two_is : {a b : ℕ} (l : List ℕ) → both_ports a b ≡ two_ports l → l ≡ a ∷ b ∷ []
two_is [] e = absurd (other e)
two_is (x ∷ []) e = absurd (other e)
two_is (x ∷ y ∷ []) e =
    let s = same_ports e in
    ap₂ (λ m n. m ∷ n ∷ []) (sym s.0) (sym s.1)
two_is (x ∷ y ∷ z ∷ l) e = absurd (other e)

other_is : (C : Context) (r : ℕ) (l : List ℕ) → None ≡ two_ports l → fitting_ports C r l ≡ None
unfolding fitting_ports
other_is C r [] e = refl
other_is C r (x ∷ []) e = refl
other_is C r (x ∷ y ∷ []) e = absurd (other (sym e))
other_is C r (x ∷ y ∷ z ∷ l) e = refl

-- ---- what was found

module _ {C : Context} {boundaries tallies pairs starts names marks : List ℕ} {owners : List FoundRegions} {count r : ℕ} (F : Facing C boundaries tallies pairs starts names marks owners count r) where
  idle : None ≡ proposed_ports C r → Proposed C r names names marks marks None
  idle e =
      record {
        result = e;
        holds = λ a b q. absurd (other (sym q));
        spread = record { beyond = beyond_same C.regions names; each = λ x k l. inl refl };
        cleared = record { marked = F.mapped.marked; beyond = beyond_same C.regions marks };
      }

  pub no_candidate : false ≡ candidate C r → Proposed C r names names marks marks None
  unfolding proposed_ports
  no_candidate e = idle (ap (λ b. cond b (fitting_ports C r (component_ports C (components C) r)) None) e)

  module _ (h : candidate C r ≡ true) where
    proposed_is : proposed_ports C r ≡ fitting_ports C r (component_ports C (components C) r)
    unfolding proposed_ports
    proposed_is = ap (λ b. cond b (fitting_ports C r (component_ports C (components C) r)) None) h

    pub no_ports : None ≡ two_ports (component_ports C (components C) r) → Proposed C r names names marks marks None
    no_ports e = idle (sym (proposed_is ∙ other_is C r (component_ports C (components C) r) e))

    pub component-inside : Inside C r (component_regions C (components C) r) names
    component-inside =
        record {
          long = F.mapped.told.long;
          at = λ x a b. F.mapped.told.at x a b ∙ sym (region_members C (within F.mapped.sound) r F.mapped.from (candidate-edge C r h) (candidate-inside C r h) x);
        }

    module _ {a b : ℕ} (e : both_ports a b ≡ two_ports (component_ports C (components C) r)) where
      listed : component_ports C (components C) r ≡ a ∷ b ∷ []
      listed = two_is (component_ports C (components C) r) e

      pub ports-below : (a < C.count) × (b < C.count)
      unfolding component_ports numbers_below
      ports-below = go (subst (All (λ x. x < C.count)) listed (below_all (port C r) C.count))
        where
          go : All (λ x. x < C.count) (a ∷ b ∷ []) → (a < C.count) × (b < C.count)
          go (more k (more l done)) = (k, l)

      fitting_is : proposed_ports C r ≡ cond (ports_fit C a b && (expanded_of C r a b).valid) (both_ports a b) None
      unfolding fitting_ports
      fitting_is = proposed_is ∙ ap (fitting_ports C r) listed

      pub unfit : false ≡ ports_fit C a b → Proposed C r names names marks marks None
      unfit q = idle (sym (fitting_is ∙ ap (λ z. cond (z && (expanded_of C r a b).valid) (both_ports a b) None) (sym q)))

      module _ (q : true ≡ ports_fit C a b) {now nowMarks : List ℕ} {t : Bool} (B : BothWalked C a b r (component_regions C (components C) r) names now marks nowMarks t) where
        fit : ports_fit C a b ≡ true
        fit = sym q

        valid_is : proposed_ports C r ≡ cond t (both_ports a b) None
        valid_is = fitting_is ∙ ap₂ (λ y z. cond (y && z) (both_ports a b) None) fit (sym B.fits)

        -- neither port is without a ramp
        ramps : (not (no_ramp C a) ≡ true) × (not (no_ramp C b) ≡ true)
        unfolding ports_fit
        ramps = first_two (not (no_ramp C a)) (not (no_ramp C b)) (full_cut C a) (full_cut C b) (eqb (C.boundary a).ramp_id (C.boundary b).ramp_id) (not (eqb (C.boundary a).kind (C.boundary b).kind)) fit

        leafed : (x : ℕ) → 1 ≤ x → x ≤ C.regions → entry_at now x ≡ r → (i : ℕ) → i < C.count → Single C i x → no_ramp C i ≡ false → Leafed C r x
        leafed x l m n i u S w =
            record {
              first = a;
              second = b;
              candidates = h;
              two = listed;
              fit = fit;
              one = i;
              below = u;
              single = S;
              ramp = w;
              found = sym (B.inside.at x l m) ∙ eq-eqb (entry_at now x) r n;
            }

        spread : Spread C r names now
        spread =
            record {
              beyond = B.beyond;
              each = λ x l m. ⊎_elim (λ n. inl n) (λ n. inr (n.0, ⊎_elim (λ S. leafed x l m n.0 a ports-below.0 S (not-true (no_ramp C a) ramps.0)) (λ S. leafed x l m n.0 b ports-below.1 S (not-true (no_ramp C b) ramps.1)) n.1)) (B.each x l m);
            }

        ports-valid : t ≡ true → Proposed C r names now marks nowMarks (both_ports a b)
        ports-valid w =
            record {
              result = sym (valid_is ∙ ap (λ z. cond z (both_ports a b) None) w);
              holds = λ c d n.
                  let s = same_ports n in
                  subst (λ y. Inside C r (expanded_of C r y d).regions now) s.0 (subst (λ y. Inside C r (expanded_of C r a y).regions now) s.1 B.inside);
              spread = spread;
              cleared = B.cleared;
            }

        ports-invalid : t ≡ false → Proposed C r names now marks nowMarks None
        ports-invalid w =
            record {
              result = sym (valid_is ∙ ap (λ z. cond z (both_ports a b) None) w);
              holds = λ c d n. absurd (other (sym n));
              spread = spread;
              cleared = B.cleared;
            }

        pub ports-proposed : (v : Bool) → t ≡ v → Proposed C r names now marks nowMarks (then_some v (record { first = a; second = b }))
        ports-proposed true w = ports-valid w
        ports-proposed false w = ports-invalid w

-- ---- what the calls ask for

module _ {C : Context} {boundaries tallies pairs starts names marks : List ℕ} {owners : List FoundRegions} {count r : ℕ} (F : Facing C boundaries tallies pairs starts names marks owners count r) (i : ℕ) (l : i < C.count) where
  pub facing-listed : Listed boundaries tallies i
  facing-listed = record { whole = omega (arith, F.given.bounds.long); tallied = omega (arith, F.given.tallied.long) }

  pub facing-reachable : PortReachable pairs starts names marks i
  facing-reachable =
      record {
        few = omega (arith, F.given.bounds.few);
        reachable = (C.regions, (shown-walkable F.given.paired (omega arith) i l, (F.mapped.told.long, F.mapped.marked.long)));
      }
