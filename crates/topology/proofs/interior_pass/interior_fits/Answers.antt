-- The record at a place is that of the context's region there, so whether it fits, and whether it has a ramp, is what the definition asks of the region
-- (`InteriorLoops`).
use Rattle.std.proofs.Common.{◌≡◌, ℕ, ◌+◌, ◌-◌, ◌≤◌, ◌<◌, Bool, true, false, ◌&&◌, ◌||◌, List, length, get_or, ap, arith}
use Rattle.definitions.specs.RegionRecord.{has_ramp}
use Rattle.definitions.specs.Context.{Context}
use Rattle.definitions.specs.RampInteriors.{region_fits}
use Rattle.laws.specs.FloatLaws.PassRange.{PassInRange, context-in_range}
use Rattle.context.specs.declared.Region.{Region}
use Rattle.context.specs.Records.{record_of}
use Rattle.context.specs.Shown.{ShownBoundaries}
use Rattle.interior_proposals.specs.declared.fits.Reach.{Reach}
use Rattle.interior_proposals.specs.Fits.{Aimed}
use Rattle.interior_regions.specs.declared.Interior.{Interior}
use Rattle.interior_regions.specs.Places.{region_at, Readable, is_named, interior_fits_lem}
use Rattle.rest.specs.Picking.{get_d_inside}
use Rattle.topology.specs.Held.{place_in, record_is}
use Rattle.topology.specs.Interiors.{Asks}
use Rattle.topology.proofs.InteriorLoops.{Looking, looking_start, looking_past, looking_more, looking_ends}
use Rattle.topology.proofs.interior_pass.interior_fits.Goals as goal

-- what is asked, over plain variables
module _ {records : List Region} {boundaries pairs names : List ℕ} {x : Interior} (pre : (C : Context) × Asks C records boundaries pairs names x) where
  start : (x.begin ≤ x.end) × ((C : Context) → Asks C records boundaries pairs names x → Looking C pairs names x true false x.begin)
  start = (pre.1.rising, λ C A. looking_start C _ _ _)

  module _ {fits ramp : Bool} {k : ℕ} (inv : (k ≤ x.end) × ((C : Context) → Asks C records boundaries pairs names x → Looking C pairs names x fits ramp k)) where
    done : x.end ≤ k → (C : Context) → Asks C records boundaries pairs names x
        → (fits && ramp) ≡ interior_fits_lem C pairs names x.name x.begin x.ports.first x.ports.second x.end
    done f C A = looking_ends C _ _ _ (inv.1 C A) (omega (arith, f, inv.0))

    module _ (below : k < x.end) where
      here : {C : Context} → Asks C records boundaries pairs names x → Readable pairs C.regions k
      here {C} A = A.readable k (inv.1 C A).from below

      module _ {t : Bool} (e : t ≡ is_named pairs names x.name k) where
        past : t ≡ false → (k + 1 ≤ x.end) × ((C : Context) → Asks C records boundaries pairs names x → Looking C pairs names x fits ramp (k + 1))
        past h = (omega (arith, below), λ C A. looking_past C _ _ _ (inv.1 C A) e h)

        module _ (h : t ≡ true) {p : ℕ} (at : p ≡ region_at pairs k - 1) where
          place : p < length records
          place = let w = here pre.1 in place_in pre.1.held at w.from w.upto

          again : {reach : Reach}
              → ((C : Context) → ShownBoundaries C boundaries → x.ports.first < C.count → x.ports.second < C.count → Aimed C x.ports.first x.ports.second reach)
              → {s : Region} → ((d : Region) → s ≡ get_or records p d)
              → {f : Bool} → ((C : Context) (a b q : ℕ) → Aimed C a b reach → record_of s ≡ C.region q → PassInRange C → f ≡ region_fits C a b q)
              → (k + 1 ≤ x.end) × ((C : Context) → Asks C records boundaries pairs names x → Looking C pairs names x (fits && f) (ramp || has_ramp (record_of s)) (k + 1))
          again aimed read judged = (
            omega (arith, below),
            λ C A.
                let w = here A in
                let r = record_is A.held at w.from w.upto read in
                looking_more C _ _ _ (inv.1 C A) e h (judged C _ _ _ (aimed C A.bounds A.first A.second) r (context-in_range A.pixels)) (ap has_ramp r),
          )

pub loop-k-init : goal.loop-k-init
loop-k-init c = start c.requires

pub loop-k-preserved : goal.loop-k-preserved
loop-k-preserved c =
    again c.requires c.loop-k.invariant c.loop-k-test.true c.is_inside.ensures c.if-not-is_inside.false c.record_place.ensures c.reach_of-reach.ensures
    (λ d. get_d_inside _ _ d _ (place c.requires c.loop-k.invariant c.loop-k-test.true c.is_inside.ensures c.if-not-is_inside.false c.record_place.ensures))
    c.region_fits-fits.ensures

pub loop-k-preserved-then-not-is_inside : goal.loop-k-preserved-then-not-is_inside
loop-k-preserved-then-not-is_inside c = past c.requires c.loop-k.invariant c.loop-k-test.true c.is_inside.ensures c.if-not-is_inside.true

pub returns : goal.returns
returns c = done c.requires c.loop-k.invariant c.loop-k-test.false
