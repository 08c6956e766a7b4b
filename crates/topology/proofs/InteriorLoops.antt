-- The loops of `interior_fits` and `judge_interiors`: what is known when so many places or boundaries are passed, one more, and the end. Assumes nothing.
use Prim.Native.Nat.{ℕ, ◌+◌, ◌≤◌, ◌<◌}
use native.Mathlib.Omega.{arith}
use mathlib.Core.Path.{◌≡◌, refl, sym, ap, ap₂, ◌∙◌}
use mathlib.Core.Bool.{Bool, true, false, not, ◌&&◌, ◌||◌, and-true, or-false}
use mathlib.Core.List.{List}
use lib.ListN.{get_or}
use lib.Dec.{leb}
use borrow.Author.Tests.{le-leb}
use Rattle.std.proofs.lemmas.Bool.{lt-leb}
use Rattle.std.specs.Prelude.{Option}
use Rattle.definitions.specs.Scan.{any_below_lem, all_below}
use Rattle.definitions.specs.RegionRecord.{has_ramp}
use Rattle.definitions.specs.Context.{Context}
use Rattle.definitions.specs.RampInteriors.{region_fits}
use Rattle.laws.specs.ListLaws.Below.{below_none}
use Rattle.laws.specs.ListLaws.ScanSteps.{any_next, all_next, all_intro}
use Rattle.context.specs.declared.Region.{Region}
use Rattle.context.specs.declared.found_regions.FoundRegions.{FoundRegions}
use Rattle.interior_proposals.specs.Owners.{owned_by, name_of, owner_at, name_at}
use Rattle.interior_proposals.specs.declared.ports.Ports.{Ports}
use Rattle.interior_regions.specs.declared.Interior.{Interior}
use Rattle.interior_regions.specs.Places.{region_at, is_named, fits_at, ramp_at, interior_fits_lem}
use Rattle.interior_regions.specs.Marks.{accepted, marked_before, Stretched}
use Rattle.interior_regions.proofs.JudgeLaws.{marked-removed}
use Rattle.topology.specs.Interiors.{Asks, Judges, Collapsed}
use Rattle.topology.specs.Proposals.{Unmarked}

-- ---- the places of an interior

module _ (C : Context) (pairs names : List ℕ) (x : Interior) where
  abbrev asked : ℕ → Bool
  asked k = leb x.begin k && is_named pairs names x.name k

  abbrev fit : ℕ → Bool
  fit k = fits_at C pairs names x.name x.begin x.ports.first x.ports.second k

  abbrev ramp : ℕ → Bool
  ramp k = ramp_at C pairs names x.name x.begin x.ports.first x.ports.second k

  -- the places before k are looked at
  pub record Looking (fits ramps : Bool) (k : ℕ) : Type 0 where
    pub from : x.begin ≤ k
    pub fitting : fits ≡ all_below k fit
    pub ramped : ramps ≡ any_below_lem k ramp

  passes : (k : ℕ) → asked k ≡ false → fit k ≡ true
  passes k e = ap (λ t. not t || region_fits C x.ports.first x.ports.second (region_at pairs k)) e

  misses : (k : ℕ) → asked k ≡ false → ramp k ≡ false
  misses k e = ap (λ t. t && has_ramp (C.region (region_at pairs k))) e

  -- no place before the first is asked
  pub looking_start : Looking true false x.begin
  looking_start =
      record {
        from = omega arith;
        fitting = sym (all_intro fit x.begin (λ k l. passes k (unasked k l)));
        ramped = sym (below_none x.begin ramp (λ k l. misses k (unasked k l)));
      }
    where
      unasked : (k : ℕ) → k < x.begin → asked k ≡ false
      unasked k l = ap (λ t. t && is_named pairs names x.name k) (lt-leb x.begin k l)

  module _ {fits ramps : Bool} {k : ℕ} (L : Looking fits ramps k) {t : Bool} (e : t ≡ is_named pairs names x.name k) where
    asked_is : asked k ≡ t
    asked_is = ap₂ ◌&&◌ (le-leb x.begin k L.from) (sym e)

    pub looking_past : t ≡ false → Looking fits ramps (k + 1)
    looking_past h =
        record {
          from = omega (arith, L.from);
          fitting = L.fitting ∙ sym (and-true (all_below k fit)) ∙ sym (ap (λ b. all_below k fit && b) (passes k (asked_is ∙ h))) ∙ sym (all_next fit k);
          ramped = L.ramped ∙ sym (or-false (any_below_lem k ramp)) ∙ sym (ap (λ b. any_below_lem k ramp || b) (misses k (asked_is ∙ h))) ∙ sym (any_next ramp k);
        }

    pub looking_more : t ≡ true → {f g : Bool} → f ≡ region_fits C x.ports.first x.ports.second (region_at pairs k) → g ≡ has_ramp (C.region (region_at pairs k)) → Looking (fits && f) (ramps || g) (k + 1)
    looking_more h d c =
        record {
          from = omega (arith, L.from);
          fitting = ap₂ ◌&&◌ L.fitting (d ∙ sym (ap (λ b. not b || region_fits C x.ports.first x.ports.second (region_at pairs k)) (asked_is ∙ h))) ∙ sym (all_next fit k);
          ramped = ap₂ ◌||◌ L.ramped (c ∙ sym (ap (λ b. b && has_ramp (C.region (region_at pairs k))) (asked_is ∙ h))) ∙ sym (any_next ramp k);
        }

  pub looking_ends : {fits ramps : Bool} {k : ℕ} → Looking fits ramps k → k ≡ x.end → (fits && ramps) ≡ interior_fits_lem C pairs names x.name x.begin x.ports.first x.ports.second x.end
  unfolding interior_fits_lem
  looking_ends {fits} {ramps} {k} L same = swap fits ramps ∙ ap₂ ◌&&◌ L.ramped L.fitting ∙ ap (λ n. any_below_lem n ramp && all_below n fit) same
    where
      swap : (a b : Bool) → (a && b) ≡ (b && a)
      swap true true = refl
      swap true false = refl
      swap false true = refl
      swap false false = refl

-- ---- boundaries

pub judges_asks : {C : Context} {records : List Region} {boundaries pairs starts names : List ℕ} {owners : List FoundRegions} {found : List (Option Ports)} {count i : ℕ} {x : Interior} → Judges C records boundaries pairs starts names owners found count → Stretched C pairs names owners i x
    → Asks C records boundaries pairs names x
judges_asks h T =
    record {
      held = h.held;
      bounds = h.interiors.owning.given.bounds;
      pixels = h.interiors.pixels;
      long = h.interiors.long;
      rising = T.rising;
      readable = T.readable;
      first = T.first;
      second = T.second;
    }

-- the edges of what is accepted at the boundaries before i are marked
pub record Judging (C : Context) (owners : List FoundRegions) (marked : List Bool) (count i : ℕ) : Type 0 where
  pub at : (j : ℕ) → j < count → get_or marked j false ≡ marked_before C owners i j

pub judging_start : (C : Context) (owners : List FoundRegions) {marked : List Bool} {count : ℕ} → Unmarked marked count → Judging C owners marked count 0
unfolding any_below_lem
judging_start C owners u = record { at = u.clear }

pub judging_more : {C : Context} {pairs names : List ℕ} {owners : List FoundRegions} {was marked : List Bool} {count i : ℕ} {x : Interior} {fits : Bool} → Stretched C pairs names owners i x
    → fits ≡ interior_fits_lem C pairs names x.name x.begin x.ports.first x.ports.second x.end
    → Judging C owners was count i → ((j : ℕ) → j < count → get_or marked j false ≡ (get_or was j false || (fits && owned_by x.name (owner_at owners j)))) → Judging C owners marked count (i + 1)
judging_more {C} {owners = owners} {i = i} T e h m =
    record {
      at = λ j l.
          m j l ∙ ap₂ ◌||◌ (h.at j l) (ap₂ (λ t n. t && owned_by n (owner_at owners j)) (e ∙ T.judged) (sym (ap name_of T.name)))
          ∙ sym (any_next (λ k. accepted C owners k && owned_by (name_at owners k) (owner_at owners j)) i);
    }

-- nothing is accepted at boundary i
pub judging_past : {C : Context} {owners : List FoundRegions} {marked : List Bool} {count i : ℕ} → accepted C owners i ≡ false → Judging C owners marked count i → Judging C owners marked count (i + 1)
judging_past {C} {owners} {i = i} e h =
    record {
      at = λ j l.
          h.at j l ∙ sym (or-false (marked_before C owners i j)) ∙ sym (ap (λ t. marked_before C owners i j || (t && owned_by (name_at owners i) (owner_at owners j))) e)
          ∙ sym (any_next (λ k. accepted C owners k && owned_by (name_at owners k) (owner_at owners j)) i);
    }

pub judging_ends : {C : Context} {records : List Region} {boundaries pairs starts names : List ℕ} {owners : List FoundRegions} {found : List (Option Ports)} {marked : List Bool} {count i : ℕ} → Judges C records boundaries pairs starts names owners found count → i ≡ count
    → Judging C owners marked count i → Collapsed C count marked
judging_ends {C} {owners = owners} {count = count} {i = i} g e h =
    record {
      at = λ j l.
          h.at j l ∙ ap (λ n. marked_before C owners n j) (e ∙ sym counted)
          ∙ marked-removed g.interiors.owning.given.sound owners g.interiors.owning.owned j (omega (arith, counted));
    }
  where
    counted : C.count ≡ count
    counted = g.interiors.owning.counted
